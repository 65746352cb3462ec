-- A name and subscripts with no fault make a key.
use Rattle.std.proofs.Common.{◌≡◌, ℕ, ◌+◌, ◌≤◌, Bool, true, false, cond, not, List, [], ◌∷◌, length, map, None, Some, Option, arith, nat_lt, nat_le, nat_eq, refl, ap, ◌∙◌}
use Rattle.std.specs.List.{list_all}
use Rattle.std.proofs.lemmas.Bool.{ltb-false, eqb-false, le-leb, le-ltb, not-false}
use Rattle.global_defs.specs.declared.limits.TheConstants.{LONGEST_NAME}
use Rattle.global_defs.specs.Key.{Key, sub_of}
use Rattle.global_defs.specs.Valid.{is_key, is_sub, is_name}
use Rattle.global_defs.specs.Encoded.{encoded}
use Rattle.global_defs.proofs.Numerals.{sub_made}
use Rattle.gvn_key.specs.Decoding.{IsCode, key_read}
use Rattle.gvn_key.specs.Faults.{key_of, subs_fault, parts_fault, length_fault, or_else, key_fault}
use Rattle.gvn_key.proofs.Kept.{read_known}
use Rattle.gvn_key.specs.declared.key.KeyError.{KeyError}
use Rattle.gvn_key.specs.declared.key.KeyError.TheVariants.{BadName, NameTooLong, NullSub, TooManySubs}

-- no fault at a test: the test failed, and there is none further on
no_fault_at : (b : Bool) (f : KeyError) (rest : Option KeyError) → cond b (Some f) rest ≡ None → (b ≡ false) × (rest ≡ None)
no_fault_at true f rest e = cc
no_fault_at false f rest e = (refl, e)

subs_pass : (n : ℕ) (ss : List (List ℕ)) → subs_fault n ss ≡ None → list_all is_sub (map sub_of ss) ≡ true
subs_pass n [] e = refl
subs_pass n (s ∷ ss) e =
    let a = no_fault_at (nat_eq (length s) 0) NullSub _ e in
    let b = no_fault_at (nat_lt 30 n) TooManySubs _ a.1 in
    rw (sub_made s (omega (arith, eqb-false (length s) 0 a.0))) (subs_pass (n + 1) ss b.1)

subs_few : (n : ℕ) (ss : List (List ℕ)) → n ≤ 31 → subs_fault n ss ≡ None → n + length (map sub_of ss) ≤ 31
subs_few n [] h e = omega arith
subs_few n (s ∷ ss) h e =
    let a = no_fault_at (nat_eq (length s) 0) NullSub _ e in
    let b = no_fault_at (nat_lt 30 n) TooManySubs _ a.1 in
    let k : n ≤ 30 = ltb-false 30 n b.0 in
    omega (arith, subs_few (n + 1) ss (omega arith) b.1)

pub no_fault : (name : List ℕ) (subs : List (List ℕ)) → parts_fault name subs ≡ None → length (encoded (key_of name subs)) ≤ 255 → is_key (key_of name subs) ≡ true
no_fault name subs e short =
    let a = no_fault_at (not (is_name name)) BadName _ e in
    let b = no_fault_at (nat_lt LONGEST_NAME (length name)) NameTooLong _ a.1 in
    let p : is_name name ≡ true = not-false (is_name name) a.0 in
    let q : nat_le (length name) 31 ≡ true = le-leb (length name) 31 (ltb-false 31 (length name) b.0) in
    let r : list_all is_sub (map sub_of subs) ≡ true = subs_pass 0 subs b.1 in
    let t : nat_le (length (map sub_of subs)) 31 ≡ true = le-leb (length (map sub_of subs)) 31 (omega (arith, subs_few 0 subs (omega arith) b.1)) in
    let u : nat_le (length (encoded (key_of name subs))) 255 ≡ true = le-leb (length (encoded (key_of name subs))) 255 short in
    rw (p, q, r, t) u

-- and the encoded form of one
pub made : (name : List ℕ) (subs : List (List ℕ)) (code : List ℕ) → code ≡ encoded (key_of name subs) → parts_fault name subs ≡ None → length code ≤ 255 → IsCode code
made name subs code is none short = (key_of name subs, no_fault name subs none (omega (arith, ap length is)), is)

-- so the key of that form is what is made
pub makes : (name : List ℕ) (subs : List (List ℕ)) (code : List ℕ) (key : Key) → code ≡ encoded (key_of name subs) → parts_fault name subs ≡ None → length code ≤ 255 → key ≡ key_read code
    → (key_fault name subs ≡ None) × (key ≡ key_of name subs)
makes name subs code key is none short e =
    let fits : length (encoded (key_of name subs)) ≤ 255 = omega (arith, ap length is) in
    let whole : length_fault (key_of name subs) ≡ None = rw (le-ltb 255 (length (encoded (key_of name subs))) fits) refl in
    ((λ i. or_else (none i) (length_fault (key_of name subs))) ∙ whole, e ∙ read_known code (key_of name subs) (no_fault name subs none fits) is)
