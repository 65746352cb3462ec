-- What holds of a valid key.
use Rattle.std.proofs.Common.{◌≡◌, ℕ, suc, zero, ◌≤◌, true, ◌&&◌, ◌||◌, nat_le, List, [], ◌∷◌, length, refl, arith, ◌==◌}
use Rattle.std.specs.List.{list_all}
use Rattle.std.specs.Char.{is_ascii_alphabetic, is_ascii_alphanumeric}
use Rattle.std.proofs.lemmas.Bool.{and_parts, leb-true, lt-ltb}
use Rattle.global_defs.specs.declared.limits.TheConstants.{LONGEST_KEY, LONGEST_NAME, MOST_SUBS}
use Rattle.global_defs.specs.Key.{Key}
use Rattle.global_defs.specs.Encoded.{encoded}
use Rattle.global_defs.specs.Valid.{is_name, is_sub, is_key}
use Rattle.global_defs.proofs.Codes.{is_some_byte}

pub record IsValid (key : Key) : Type 0 where
  pub name : is_name key.name ≡ true
  pub short : length key.name ≤ 31
  pub subs : list_all is_sub key.subs ≡ true
  pub few : length key.subs ≤ 31
  pub fits : length (encoded key) ≤ 255

pub valid_parts : (key : Key) → is_key key ≡ true → IsValid key
valid_parts key h =
    let a = and_parts (is_name key.name && nat_le (length key.name) LONGEST_NAME && list_all is_sub key.subs && nat_le (length key.subs) MOST_SUBS) (nat_le (length (encoded key)) LONGEST_KEY) h in
    let b = and_parts (is_name key.name && nat_le (length key.name) LONGEST_NAME && list_all is_sub key.subs) (nat_le (length key.subs) MOST_SUBS) a.0 in
    let d = and_parts (is_name key.name && nat_le (length key.name) LONGEST_NAME) (list_all is_sub key.subs) b.0 in
    let e = and_parts (is_name key.name) (nat_le (length key.name) LONGEST_NAME) d.0 in
    record {
      name = e.0;
      short = leb-true (length key.name) 31 e.1;
      subs = d.1;
      few = leb-true (length key.subs) 31 b.1;
      fits = leb-true (length (encoded key)) 255 a.1;
    }

-- no byte of a name is 0

alphanumeric_some : (c : ℕ) → is_ascii_alphanumeric c ≡ true → is_some_byte c ≡ true
alphanumeric_some zero h = cc
alphanumeric_some (suc c) h = lt-ltb 0 (suc c) (omega arith)

all_some : (cs : List ℕ) → list_all is_ascii_alphanumeric cs ≡ true → list_all is_some_byte cs ≡ true
all_some [] h = refl
all_some (c ∷ cs) h =
    let t = and_parts (is_ascii_alphanumeric c) (list_all is_ascii_alphanumeric cs) h in
    rw (alphanumeric_some c t.0) (all_some cs t.1)

first_some : (b : ℕ) → (b == 37 || is_ascii_alphabetic b) ≡ true → is_some_byte b ≡ true
first_some zero h = cc
first_some (suc b) h = lt-ltb 0 (suc b) (omega arith)

pub name_some : (name : List ℕ) → is_name name ≡ true → list_all is_some_byte name ≡ true
name_some [] h = cc
name_some (b ∷ bs) h =
    let t = and_parts (b == 37 || is_ascii_alphabetic b) (list_all is_ascii_alphanumeric bs) h in
    rw (first_some b t.0) (all_some bs t.1)
