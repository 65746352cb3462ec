-- A key and its value, and an update as its kind and then its fields.
use Rattle.std.proofs.Common.{◌≡◌, ◌≢◌, List, ℕ, ◌∷◌, ◌++◌, ◌≤◌, ◌<◌, true, rules, length, Option, Some, None, ap, sym, ◌∙◌}
use Rattle.std.specs.Prelude.{IsTrue}
use Rattle.std.specs.Option.{option_map}
use Rattle.global_defs.specs.declared.limits.TheConstants.{LONGEST_VALUE}
use Rattle.global_defs.specs.Key.{Key}
use Rattle.global_defs.specs.Valid.{is_key}
use Rattle.global_defs.proofs.KeyOrder.{key_injective}
use Rattle.global_defs.specs.Encoded.{encoded}
use Rattle.global_defs.specs.Entry.{Update, Set, Kill, ZKill}
use Rattle.global_defs.specs.Fields.{short, long, spelled_update, IsUpdate}
use Rattle.repl_fields.specs.Reading.{ReadsField}
use Rattle.repl_fields.proofs.Pairs.{none_second, some_both}

abbrev pub IsValid : Key → Type 0
IsValid k = IsTrue (is_key k)

abbrev pub spelled_key : Key → List ℕ
spelled_key k = short (encoded k)

abbrev pub IsValue : List ℕ → Type 0
IsValue v = length v ≤ LONGEST_VALUE

abbrev pub IsPair : Key × List ℕ → Type 0
IsPair u = IsTrue (is_key u.0) × (length u.1 ≤ LONGEST_VALUE)

abbrev pub spelled_pair : Key × List ℕ → List ℕ
spelled_pair u = short (encoded u.0) ++ long u.1

pub no_value : (bytes : List ℕ) (k : Key) (r : List ℕ) → ReadsField IsValid spelled_key bytes (Some (k, r)) → ReadsField IsValue long r None → ReadsField IsPair spelled_pair bytes None
no_value bytes k r first second = none_second IsValid spelled_key IsValue long bytes k r first second

pub key_and_value : (bytes : List ℕ) (k : Key) (r v s : List ℕ) → ReadsField IsValid spelled_key bytes (Some (k, r)) → ReadsField IsValue long r (Some (v, s)) → ReadsField IsPair spelled_pair bytes (Some ((k, v), s))
key_and_value bytes k r v s first second = some_both IsValid spelled_key IsValue long bytes k r v s first second

-- the key that an encoded key behind its length is, and no other
pub key_read : (bytes code rest : List ℕ) (k : Key) → ReadsField (λ s. length s < 256) short bytes (Some (code, rest)) → is_key k ≡ true → encoded k ≡ code
    → ReadsField IsValid spelled_key bytes (Some (k, rest))
key_read bytes code rest k read valid is = (
  valid,
  read.1 ∙ ap (λ c. short c ++ rest) (sym is),
  λ x r form e.
      let same : (encoded x ≡ code) × (r ≡ rest) = read.2 (encoded x) r (short_enough x form) e in
      (key_injective x k form valid (same.0 ∙ sym is), same.1),
)
  where
    short_enough : (x : Key) → is_key x ≡ true → length (encoded x) < 256
    short_enough x form = search rules

-- no key where the bytes behind the length are none
pub no_key_read : (bytes code rest : List ℕ) → ReadsField (λ s. length s < 256) short bytes (Some (code, rest)) → ((k : Key) → is_key k ≡ true → encoded k ≡ code → ⊥)
    → ReadsField IsValid spelled_key bytes None
no_key_read bytes code rest read none x r form e = none x form (read.2 (encoded x) r (short_enough x form) e).0
  where
    short_enough : (x : Key) → is_key x ≡ true → length (encoded x) < 256
    short_enough x form = search rules

pub tail : {x y : ℕ} {xs ys : List ℕ} → x ∷ xs ≡ y ∷ ys → xs ≡ ys
tail e = cc

pub set_read : (r : List ℕ) (p : Option ((Key × List ℕ) × List ℕ)) → ReadsField IsPair spelled_pair r p
    → ReadsField IsUpdate spelled_update (1 ∷ r) (option_map (λ q. (Set q.0.0 q.0.1, q.1)) p)
set_read r None none = no_other
  where
    no_other : (x : Update) (rest : List ℕ) → IsUpdate x → 1 ∷ r ≡ spelled_update x ++ rest → ⊥
    no_other (Set k v) rest form e = none (k, v) rest form (tail e)
    no_other (Kill k) rest form e = cc
    no_other (ZKill k) rest form e = cc
set_read r (Some q) read = (read.0, ap (λ t. 1 ∷ t) read.1, same)
  where
    same : (x : Update) (rest : List ℕ) → IsUpdate x → 1 ∷ r ≡ spelled_update x ++ rest → (x ≡ Set q.0.0 q.0.1) × (rest ≡ q.1)
    same (Set k v) rest form e =
        let both : ((k, v) ≡ q.0) × (rest ≡ q.1) = read.2 (k, v) rest form (tail e) in
        (ap (λ u. Set u.0 u.1) both.0, both.1)
    same (Kill k) rest form e = cc
    same (ZKill k) rest form e = cc

pub kill_read : (r : List ℕ) (p : Option (Key × List ℕ)) → ReadsField IsValid spelled_key r p
    → ReadsField IsUpdate spelled_update (2 ∷ r) (option_map (λ q. (Kill q.0, q.1)) p)
kill_read r None none = no_other
  where
    no_other : (x : Update) (rest : List ℕ) → IsUpdate x → 2 ∷ r ≡ spelled_update x ++ rest → ⊥
    no_other (Kill k) rest form e = none k rest form (tail e)
    no_other (Set k v) rest form e = cc
    no_other (ZKill k) rest form e = cc
kill_read r (Some q) read = (read.0, ap (λ t. 2 ∷ t) read.1, same)
  where
    same : (x : Update) (rest : List ℕ) → IsUpdate x → 2 ∷ r ≡ spelled_update x ++ rest → (x ≡ Kill q.0) × (rest ≡ q.1)
    same (Kill k) rest form e =
        let both : (k ≡ q.0) × (rest ≡ q.1) = read.2 k rest form (tail e) in
        (ap (λ u. Kill u) both.0, both.1)
    same (Set k v) rest form e = cc
    same (ZKill k) rest form e = cc

pub zkill_read : (r : List ℕ) (p : Option (Key × List ℕ)) → ReadsField IsValid spelled_key r p
    → ReadsField IsUpdate spelled_update (3 ∷ r) (option_map (λ q. (ZKill q.0, q.1)) p)
zkill_read r None none = no_other
  where
    no_other : (x : Update) (rest : List ℕ) → IsUpdate x → 3 ∷ r ≡ spelled_update x ++ rest → ⊥
    no_other (ZKill k) rest form e = none k rest form (tail e)
    no_other (Set k v) rest form e = cc
    no_other (Kill k) rest form e = cc
zkill_read r (Some q) read = (read.0, ap (λ t. 3 ∷ t) read.1, same)
  where
    same : (x : Update) (rest : List ℕ) → IsUpdate x → 3 ∷ r ≡ spelled_update x ++ rest → (x ≡ ZKill q.0) × (rest ≡ q.1)
    same (ZKill k) rest form e =
        let both : (k ≡ q.0) × (rest ≡ q.1) = read.2 k rest form (tail e) in
        (ap (λ u. ZKill u) both.0, both.1)
    same (Set k v) rest form e = cc
    same (Kill k) rest form e = cc

pub no_kind : (kind : ℕ) (r : List ℕ) → kind ≢ 1 → kind ≢ 2 → kind ≢ 3 → ReadsField IsUpdate spelled_update (kind ∷ r) None
no_kind kind r one two three (Set k v) rest form e = one cc
no_kind kind r one two three (Kill k) rest form e = two cc
no_kind kind r one two three (ZKill k) rest form e = three cc
