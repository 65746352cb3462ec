-- Reading subscripts one by one reads them all.
use Rattle.std.proofs.Common.{◌≡◌, ℕ, suc, ◌+◌, ◌-◌, ◌<◌, ◌≤◌, true, List, [], ◌∷◌, ◌++◌, length, refl, ap, sym, ◌∙◌, arith, append_assoc, get_or, take, drop}
use Rattle.std.specs.declared.result.Result.{Result}
use Rattle.std.specs.declared.result.Result.TheVariants.{Ok, Err}
use Rattle.std.proofs.lemmas.Bool.{le-ltb, eq-eqb}
use Rattle.global_defs.specs.declared.limits.TheConstants.{LONGEST_NAME, MOST_SUBS}
use Rattle.global_defs.specs.Key.{Key}
use Rattle.global_defs.specs.Valid.{is_name}
use Rattle.gvn_key.specs.Faults.{MakesKey, key_fault}
use Rattle.gvn_key.specs.KeyText.{Next, More, Last, Wrong, next_from, sub_at, fault_past, going, fronted, subs_at, subs_in, answered, named, Tells, ReadsKey}
use Rattle.gvn_key.proofs.Numbers.{rest_is}
use Rattle.gvn_key.specs.declared.key.KeyError.{KeyError}
use Rattle.gvn_key.specs.declared.key.KeyError.TheVariants.{BadName, NameTooLong, BadSub, NullSub, TooManySubs, KeyTooLong, NoMemory}

pub subs_more : (k : ℕ) (text : List ℕ) → subs_at (suc k) text ≡ going (next_from (sub_at text)) (subs_at k)
unfolding subs_at
subs_more k text = refl

pub subs_past : (text : List ℕ) → subs_at 0 text ≡ Err (fault_past (sub_at text))
unfolding subs_at
subs_past text = refl

pub fronted_nil : (r : Result (List (List ℕ)) KeyError) → fronted [] r ≡ r
fronted_nil (Ok subs) = refl
fronted_nil (Err e) = refl

fronted_twice : (a b : List (List ℕ)) (r : Result (List (List ℕ)) KeyError) → fronted (a ++ b) r ≡ fronted a (fronted b r)
fronted_twice a b (Ok subs) = ap (λ s. Ok s) (append_assoc a b subs)
fronted_twice a b (Err e) = refl

-- the step at the next subscript, where i came before
step_is : (i : ℕ) (text : List ℕ) (n : Next) → i < 31 → next_from (sub_at text) ≡ n → subs_at (31 - i) text ≡ going n (subs_at (31 - (i + 1)))
step_is i text n few e =
    let k : 31 - i ≡ suc (31 - (i + 1)) = omega arith in
    ap (λ j. subs_at j text) k ∙ subs_more (31 - (i + 1)) text ∙ ap (λ m. going m (subs_at (31 - (i + 1)))) e

pub one_more : (front : List (List ℕ)) (i : ℕ) (text value left : List ℕ) → i < 31 → next_from (sub_at text) ≡ More value left
    → fronted (front ++ value ∷ []) (subs_at (31 - (i + 1)) left) ≡ fronted front (subs_at (31 - i) text)
one_more front i text value left few e = fronted_twice front (value ∷ []) (subs_at (31 - (i + 1)) left) ∙ ap (fronted front) (sym (step_is i text (More value left) few e))

pub last_one : (front : List (List ℕ)) (i : ℕ) (text value : List ℕ) → i < 31 → next_from (sub_at text) ≡ Last value
    → fronted front (subs_at (31 - i) text) ≡ Ok (front ++ value ∷ [])
last_one front i text value few e = ap (fronted front) (step_is i text (Last value) few e)

pub wrong_one : (front : List (List ℕ)) (i : ℕ) (text : List ℕ) (fault : KeyError) → i < 31 → next_from (sub_at text) ≡ Wrong fault
    → fronted front (subs_at (31 - i) text) ≡ Err fault
wrong_one front i text fault few e = ap (fronted front) (step_is i text (Wrong fault) few e)

pub past_one : (front : List (List ℕ)) (i : ℕ) (text : List ℕ) (fault : KeyError) → 31 ≤ i → fault ≡ fault_past (sub_at text)
    → fronted front (subs_at (31 - i) text) ≡ Err fault
past_one front i text fault all e =
    let k : 31 - i ≡ 0 = omega arith in
    ap (fronted front) (ap (λ j. subs_at j text) k ∙ subs_past text ∙ ap (λ x. Err x) (sym e))

-- a fault is told as it is
pub told_fault : {X : Type 0} (reading : Result X KeyError) (e : KeyError) → reading ≡ Err e → Tells e reading
told_fault reading BadName h = h
told_fault reading NameTooLong h = h
told_fault reading BadSub h = h
told_fault reading NullSub h = h
told_fault reading TooManySubs h = h
told_fault reading KeyTooLong h = h
told_fault reading NoMemory h = tt

made_reads : (name : List ℕ) (subs : List (List ℕ)) (r : Result Key KeyError) → MakesKey name subs r → ReadsKey (answered name subs (key_fault name subs)) r
made_reads name subs (Ok key) h = ap (answered name subs) h.0 ∙ ap (λ k. Ok k) (sym h.1)
made_reads name subs (Err BadName) h = ap (answered name subs) h
made_reads name subs (Err NameTooLong) h = ap (answered name subs) h
made_reads name subs (Err BadSub) h = ap (answered name subs) h
made_reads name subs (Err NullSub) h = ap (answered name subs) h
made_reads name subs (Err TooManySubs) h = ap (answered name subs) h
made_reads name subs (Err KeyTooLong) h = ap (answered name subs) h
made_reads name subs (Err NoMemory) h = tt

pub named_reads : (name tail : List ℕ) (subs : List (List ℕ)) (r : Result Key KeyError) → is_name name ≡ true → length name ≤ LONGEST_NAME → subs_in tail ≡ Ok subs
    → MakesKey name subs r → ReadsKey (named name tail) r
named_reads name tail subs r good short e h = rw (good, le-ltb 31 (length name) short, e) (made_reads name subs r h)

-- an opening bracket, and the subscripts behind it
pub behind_bracket : (tail : List ℕ) → 1 ≤ length tail → get_or tail 0 0 ≡ 40 → subs_at MOST_SUBS (take (length tail - 1) (drop 1 tail)) ≡ subs_in tail
behind_bracket [] some e = absurd (omega arith)
behind_bracket (b ∷ bs) some e = ap (subs_at MOST_SUBS) (sym (rest_is (b ∷ bs))) ∙ sym (rw (eq-eqb b 40 e) refl)
