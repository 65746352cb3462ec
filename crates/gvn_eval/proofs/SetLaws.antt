-- Jobs that only set nodes.
use Rattle.std.proofs.Common.{◌≡◌, ℕ, ◌+◌, ◌≤◌, ◌∷◌, ◌++◌, [], List, Bool, true, false, Option, Some, None, map, length, nat_lt, if◌then◌else◌, refl, sym, ap, ◌∙◌, arith, append-nil, append_assoc}
use Rattle.std.proofs.lemmas.Bool.Decides.{nat_tests}
use Rattle.std.specs.Prelude.{IfOk, IfSome}
use Rattle.std.specs.declared.result.Result.{Result}
use Rattle.std.specs.declared.result.Result.TheVariants.{Ok, Err}
use Rattle.std.specs.FinMap.{contains_key, insert, len, len-insert}
use Rattle.global_defs.specs.declared.limits.TheConstants.{MOST_NODES}
use Rattle.global_defs.proofs.Order.{key_total}
use Rattle.global_defs.specs.Key.{Key}
use Rattle.global_defs.specs.Entry as update
use Rattle.global_defs.specs.Entry.{Update, Globals}
use Rattle.global_defs.specs.Jobs.{Set, Kill, ZKill, Incr, Get, Defined, Order, CheckIs, CheckAtLeast, Job, Full}
use Rattle.global_defs.specs.Evaluation.{Progress, Goes, Stops, Done, going, eval}
use Rattle.gvn_eval.specs.Sets.{setting}

one_more : (b : Bool) (a n : ℕ) → n ≡ (if b then a else a + 1) → n ≤ a + 1
one_more true a n e = omega (arith, e)
one_more false a n e = omega (arith, e)

-- setting a node adds one at most
more : (g : Globals) (key : Key) (value : List ℕ) → len (insert g key value) ≤ len g + 1
more g key value = one_more (contains_key g key) (len g) (len (insert g key value)) (len-insert key_total g key value)

goes : (b : Bool) (p : Progress) → b ≡ false → Goes p ≡ (if b then Stops Full else Goes p)
goes true p e = absurd (cc)
goes false p e = refl

-- where there is room the statements' updates are what is done
pub sets_done : (job : Job) (us : List Update) (p : Progress) → map setting job ≡ map Some us → len p.globals + length job ≤ MOST_NODES → Done (p.updates ++ us) p.answers ≡ going (Goes p) job
sets_done [] [] p each few = ap (λ vs. Done vs p.answers) (append-nil p.updates)
sets_done [] (u ∷ us) p each few = absurd (cc)
sets_done (s ∷ job) [] p each few = absurd (cc)
sets_done (Set key value ∷ job) (u ∷ us) p each few =
    let is_u : Some (update.Set key value) ≡ Some u = cc in
    let u_is : update.Set key value ≡ u = cc in
    let rest : map setting job ≡ map Some us = cc in
    let g : Globals = insert p.globals key value in
    let here : Progress = record p { globals = g; updates = p.updates ++ update.Set key value ∷ [] } in
    let grown = more p.globals key value in
    let fits : nat_lt MOST_NODES (len g) ≡ false = grind (arith, nat_tests, grown, few) in
    ap (λ v. Done (p.updates ++ v ∷ us) p.answers) (sym u_is)
    ∙ ap (λ vs. Done vs p.answers) (sym (append_assoc p.updates (update.Set key value ∷ []) us))
    ∙ sets_done job us here rest (omega (arith, grown, few))
    ∙ ap (λ o. going o job) (goes (nat_lt MOST_NODES (len g)) here fits)
sets_done (Kill key ∷ job) (u ∷ us) p each few = absurd (cc)
sets_done (ZKill key ∷ job) (u ∷ us) p each few = absurd (cc)
sets_done (Incr key n ∷ job) (u ∷ us) p each few = absurd (cc)
sets_done (Get key ∷ job) (u ∷ us) p each few = absurd (cc)
sets_done (Defined key ∷ job) (u ∷ us) p each few = absurd (cc)
sets_done (Order key last ∷ job) (u ∷ us) p each few = absurd (cc)
sets_done (CheckIs key value ∷ job) (u ∷ us) p each few = absurd (cc)
sets_done (CheckAtLeast key n ∷ job) (u ∷ us) p each few = absurd (cc)

-- what they say of the whole job
pub all_set : (job : Job) (g : Globals) (us : List Update) (answers : List (List ℕ)) → len g + length job ≤ MOST_NODES → map setting job ≡ map Some us → answers ≡ [] → Done us answers ≡ eval job g
all_set job g us answers few each none = ap (λ (texts : List (List ℕ)). Done us texts) none ∙ sets_done job us (record { globals = g; updates = []; answers = [] }) each few

-- the same of updates that were perhaps made
pub told : {E : Type 0} (job : Job) (g : Globals) (found : Result (Option (List Update)) E) → len g + length job ≤ MOST_NODES → IfOk found (λ o. IfSome o (λ us. map setting job ≡ map Some us)) → IfOk found (λ o. IfSome o (λ us. Done us [] ≡ eval job g))
told job g (Ok (Some us)) few each = all_set job g us [] few each refl
told job g (Ok None) few each = each
told job g (Err e) few each = each
