-- A job that is evaluated to its end leaves room for its updates.
use Rattle.std.proofs.Common.{◌≡◌, ℕ, ◌<◌, ◌≤◌, ◌⊎◌, inl, inr, Bool, true, false, List, [], ◌∷◌, ◌++◌, length, take, refl, ap, sym, ◌∙◌, subst, arith, nat_lt, if◌then◌else◌, length-append, None, Some, ◌+ℤ◌}
use Rattle.std.specs.Prelude.{Option, fold, ℤ, int_le}
use Rattle.std.specs.FinMap as globals
use Rattle.std.proofs.Math.Seq.{take-length}
use Rattle.std.proofs.lemmas.Bool.{ltb-false, cases_lt}
use Rattle.std.proofs.lemmas.List.{take-append-le, take_all}
use Rattle.std.proofs.lemmas.List.Sums.{fold-append}
use Rattle.global_defs.specs.declared.limits.TheConstants.{MOST_NODES}
use Rattle.global_defs.specs.Numeral.{integer_text, is_counted}
use Rattle.global_defs.specs.Key.{Key}
use Rattle.global_defs.specs.Entry.{Update, Globals, apply}
use Rattle.global_defs.specs.Entry as update
use Rattle.global_defs.specs.Jobs.{Statement, Set, Kill, ZKill, Incr, Get, Defined, Order, CheckIs, CheckAtLeast, Job, Full, NotNum}
use Rattle.global_defs.specs.Evaluation.{Progress, Outcome, Goes, Stops, answering, updating, incrementing, incremented, passing, comparing, counted, stepping, going, eval}
use Rattle.repl_section.specs.Deciding.{FitsIn}

-- after each of these updates there are few enough nodes
abbrev Within : Globals → List Update → Type 0
Within g us = (k : ℕ) → 1 ≤ k → k ≤ length us → globals.len (fold apply g (take k us)) ≤ MOST_NODES

-- a job that has come so far on these globals
record HasCome (g : Globals) (p : Progress) : Type 0 where
  pub globals : p.globals ≡ fold apply g p.updates
  pub within : Within g p.updates

abbrev Comes : Globals → Outcome → Type 0
Comes g (Goes p) = HasCome g p
Comes g (Stops cause) = Unit {0}

within_more : (g : Globals) (us : List Update) (u : Update) → Within g us → globals.len (fold apply g (us ++ u ∷ [])) ≤ MOST_NODES → Within g (us ++ u ∷ [])
within_more g us u h last k least most = by_place (cases_lt (length us) k)
  where
    by_place : (length us < k) ⊎ (k ≤ length us) → globals.len (fold apply g (take k (us ++ u ∷ []))) ≤ MOST_NODES
    by_place (inr le) = subst (λ (x : List Update). globals.len (fold apply g x) ≤ MOST_NODES) (sym (take-append-le k us (u ∷ []) le)) (h k least le)
    by_place (inl lt) = subst (λ (x : List Update). globals.len (fold apply g x) ≤ MOST_NODES) (sym (take_all k (us ++ u ∷ []) (omega (arith, lt, length-append us (u ∷ []))))) last

fitted : (g : Globals) (p : Progress) (u : Update) (b : Bool) → nat_lt MOST_NODES (globals.len (apply p.globals u)) ≡ b → HasCome g p
    → Comes g (if b then Stops Full else Goes (record p { globals = apply p.globals u; updates = p.updates ++ u ∷ [] }))
fitted g p u true e h = _
fitted g p u false e h =
    let more : apply p.globals u ≡ fold apply g (p.updates ++ u ∷ []) = ap (λ (x : Globals). apply x u) h.globals ∙ sym (fold-append apply g p.updates (u ∷ [])) in
    record {
      globals = more;
      within = within_more g p.updates u h.within (subst (λ (x : Globals). globals.len x ≤ MOST_NODES) more (ltb-false MOST_NODES (globals.len (apply p.globals u)) e));
    }

updated : (g : Globals) (p : Progress) (u : Update) → HasCome g p → Comes g (updating p u)
updated g p u h = fitted g p u (nat_lt MOST_NODES (globals.len (apply p.globals u))) refl h

answered : (g : Globals) (p : Progress) (text : List ℕ) → HasCome g p → HasCome g (answering p text)
answered g p text h = record { globals = h.globals; within = h.within }

passed : (g : Globals) (p : Progress) (b : Bool) → HasCome g p → Comes g (passing p b)
passed g p true h = h
passed g p false h = _

summed : (g : Globals) (p : Progress) (key : Key) (sum : ℤ) (b : Bool) → HasCome g p
    → Comes g (if b then updating (answering p (integer_text sum)) (update.Set key (integer_text sum)) else Stops NotNum)
summed g p key sum true h = updated g (answering p (integer_text sum)) (update.Set key (integer_text sum)) (answered g p (integer_text sum) h)
summed g p key sum false h = _

by_operand : (g : Globals) (p : Progress) (key : Key) (n sum : ℤ) (b : Bool) → HasCome g p → Comes g (if b then incrementing p key sum else Stops NotNum)
by_operand g p key n sum true h = summed g p key sum (is_counted sum) h
by_operand g p key n sum false h = _

counted_on : (g : Globals) (p : Progress) (key : Key) (n : ℤ) (old : Option ℤ) → HasCome g p → Comes g (incremented p key n old)
counted_on g p key n None h = _
counted_on g p key n (Some old) h = by_operand g p key n (old +ℤ n) (is_counted n) h

compared : (g : Globals) (p : Progress) (n : ℤ) (value : Option ℤ) → HasCome g p → Comes g (comparing p n value)
compared g p n None h = _
compared g p n (Some value) h = passed g p (int_le n value) h

stepped : (g : Globals) (p : Progress) (s : Statement) → HasCome g p → Comes g (stepping p s)
stepped g p (Set key value) h = updated g p (update.Set key value) h
stepped g p (Kill key) h = updated g p (update.Kill key) h
stepped g p (ZKill key) h = updated g p (update.ZKill key) h
stepped g p (Incr key n) h = counted_on g p key n (counted (globals.get p.globals key)) h
stepped g p (Get key) h = answered g p _ h
stepped g p (Defined key) h = answered g p _ h
stepped g p (Order top last) h = answered g p _ h
stepped g p (CheckIs key value) h = passed g p _ h
stepped g p (CheckAtLeast key n) h = compared g p n (counted (globals.get p.globals key)) h

gone : (g : Globals) (job : Job) (o : Outcome) → Comes g o → FitsIn g (going o job)
gone g job (Stops cause) h = _
gone g [] (Goes p) h = λ some k least. by_place some k least (cases_lt (length p.updates) k)
  where
    by_place : 1 ≤ length p.updates → (k : ℕ) → 1 ≤ k → (length p.updates < k) ⊎ (k ≤ length p.updates) → globals.len (fold apply g (take k p.updates)) ≤ MOST_NODES
    by_place some k least (inr le) = h.within k least le
    by_place some k least (inl lt) =
        subst (λ (x : List Update). globals.len (fold apply g x) ≤ MOST_NODES) (take-length p.updates ∙ sym (take_all k p.updates (omega (arith, lt)))) (h.within (length p.updates) some (omega arith))
gone g (s ∷ job) (Goes p) h = gone g job (stepping p s) (stepped g p s h)

-- what a job that is done changes has room
pub eval_fits : (job : Job) (g : Globals) → FitsIn g (eval job g)
eval_fits job g = gone g job (Goes (record { globals = g; updates = []; answers = [] })) (record { globals = refl; within = λ k least most. absurd (omega (arith, least, most)) })
