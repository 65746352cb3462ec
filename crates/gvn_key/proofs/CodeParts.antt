-- The parts of a key that bytes begin with.
use Rattle.std.proofs.Common.{◌≡◌, ℕ, zero, suc, pos, ◌+◌, ◌-◌, ◌<◌, ◌≤◌, true, false, not, ◌||◌, nat_lt, List, [], ◌∷◌, ◌++◌, length, take, drop, get_or, position, Some, refl, ap, sym, ◌∙◌, arith, append_assoc, ◌==◌}
use Rattle.std.specs.List.{list_all, flat_map}
use Rattle.std.specs.Char.{is_ascii_digit, is_ascii_alphabetic, is_ascii_alphanumeric}
use Rattle.std.proofs.lemmas.Bool.{and_parts, ne_eqb, lt-ltb, ltb-false, not-true}
use Rattle.std.proofs.Math.ListN.{length-append, length-take}
use Rattle.std.proofs.Math.Seq.{take-length}
use Rattle.global_defs.specs.Key.{Number, Text}
use Rattle.global_defs.specs.Encoded.{escaped, encoded_sub}
use Rattle.global_defs.specs.Valid.{is_sub}
use Rattle.global_defs.proofs.Places.{none_pass}
use Rattle.gvn_key.specs.Plain.{BeginWithName, BeginWithSub, begins_numeral, is_whole_number}
use Rattle.gvn_key.proofs.Splits.{split, all_pass}
use Rattle.gvn_key.proofs.CodeNumbers.{no_number, whole}

-- what stands behind the first byte, as a slice
abbrev pub rest_of : List ℕ → List ℕ
rest_of bytes = take (length bytes - 1) (drop 1 bytes)

pub rest_is : (b : ℕ) (rest : List ℕ) → rest_of (b ∷ rest) ≡ rest
rest_is b rest = ap (λ n. take n rest) (omega arith) ∙ take-length rest

name_begins : (b : ℕ) (rest : List ℕ) (i : ℕ) → position (λ c. not (is_ascii_alphanumeric c)) rest ≡ Some i → (b == 37 || is_ascii_alphabetic b) ≡ true → i ≤ 30 → get_or rest i 0 ≡ 0 → BeginWithName (i + 1) (b ∷ rest)
name_begins b rest i e first few end =
    let s = split (λ c. not (is_ascii_alphanumeric c)) rest i e in
    let all : list_all is_ascii_alphanumeric (take i rest) ≡ true = all_pass is_ascii_alphanumeric (take i rest) s.front in
    record {
      name = b ∷ take i rest;
      behind = drop (i + 1) rest;
      code = ap (λ (x : List ℕ). b ∷ x) (s.code ∙ ap (λ y. take i rest ++ y ∷ drop (i + 1) rest) end);
      long = omega (arith, length-take i rest, s.inside);
      short = omega (arith, few);
      valid = rw (first, all) refl;
    }

pub name_found : (bytes : List ℕ) (i : ℕ) → 1 ≤ length bytes → position (λ c. not (is_ascii_alphanumeric c)) (rest_of bytes) ≡ Some i → (get_or bytes 0 0 == 37 || is_ascii_alphabetic (get_or bytes 0 0)) ≡ true → i ≤ 30 → get_or (rest_of bytes) i 0 ≡ 0
    → BeginWithName (i + 1) bytes
name_found [] i some e first few end = absurd (omega arith)
name_found (b ∷ rest) i some e first few end =
    name_begins b rest i (ap (position (λ c. not (is_ascii_alphanumeric c))) (sym (rest_is b rest)) ∙ e) first few (ap (λ (x : List ℕ). get_or x i 0) (sym (rest_is b rest)) ∙ end)

nothing_escaped : (s : List ℕ) → none_pass (λ b. nat_lt b 2) s ≡ true → flat_map escaped s ≡ s
nothing_escaped [] h = refl
nothing_escaped (zero ∷ s) h = cc
nothing_escaped (suc b ∷ s) h =
    let t = and_parts (not (nat_lt (suc b) 2)) (none_pass (λ b. nat_lt b 2) s) h in
    let some : 2 ≤ suc b = ltb-false (suc b) 2 (not-true (nat_lt (suc b) 2) t.0) in
    rw (ne_eqb b 0 (λ e. omega (arith, some))) (ap (λ (x : List ℕ). suc b ∷ x) (nothing_escaped s t.1))

is_text : (s : List ℕ) → 0 < length s → begins_numeral (get_or s 0 0) ≡ false → is_sub (Text s) ≡ true
is_text [] some h = absurd (omega arith)
is_text (b ∷ s) some h = rw (no_number b s h, lt-ltb 0 (length (b ∷ s)) some) refl

-- a plain string's code
pub text_code : (s : List ℕ) → none_pass (λ b. nat_lt b 2) s ≡ true → 0 < length s → begins_numeral (get_or s 0 0) ≡ false → (encoded_sub (Text s) ≡ 4 ∷ s ++ 0 ∷ []) × (is_sub (Text s) ≡ true)
text_code s none some first = (ap (λ (x : List ℕ). 4 ∷ x ++ 0 ∷ []) (nothing_escaped s none), is_text s some first)

pub first_of : (xs : List ℕ) (i : ℕ) → 0 < i → get_or (take i xs) 0 0 ≡ get_or xs 0 0
first_of xs zero some = absurd (omega arith)
first_of [] (suc i) some = refl
first_of (x ∷ xs) (suc i) some = refl

pub text_begins : (bytes : List ℕ) (i : ℕ) → position (λ b. nat_lt b 2) bytes ≡ Some i → get_or bytes i 0 ≡ 0 → 0 < i → begins_numeral (get_or bytes 0 0) ≡ false → BeginWithSub (i + 1 + 1) (4 ∷ bytes)
text_begins bytes i e end some first =
    let s = split (λ b. nat_lt b 2) bytes i e in
    let text : List ℕ = take i bytes in
    let long : length text ≡ i = omega (arith, length-take i bytes, s.inside) in
    let t = text_code text s.front (omega (arith, long, some)) (ap begins_numeral (first_of bytes i some) ∙ first) in
    let code = t.0 in
    record {
      sub = Text text;
      behind = drop (i + 1) bytes;
      code = ap (λ (x : List ℕ). 4 ∷ x) (s.code ∙ ap (λ y. text ++ y ∷ drop (i + 1) bytes) end ∙ sym (append_assoc text (0 ∷ []) (drop (i + 1) bytes))) ∙ sym (ap (λ (x : List ℕ). x ++ drop (i + 1) bytes) code);
      long = omega (arith, ap length code, length-append text (0 ∷ []), long);
      valid = t.1;
    }

whole_begins : (exponent : ℕ) (rest : List ℕ) (i : ℕ) → position (λ b. not (is_ascii_digit b)) rest ≡ Some i → get_or rest i 0 ≡ 0 → is_whole_number exponent (take i rest) ≡ true → BeginWithSub (i + 2 + 1) (3 ∷ exponent ∷ rest)
whole_begins exponent rest i e end is =
    let s = split (λ b. not (is_ascii_digit b)) rest i e in
    let digits : List ℕ = take i rest in
    let long : length digits ≡ i = omega (arith, length-take i rest, s.inside) in
    let w = whole exponent digits (all_pass is_ascii_digit digits s.front) is in
    record {
      sub = Number (pos w.n);
      behind = drop (i + 1) rest;
      code = ap (λ (x : List ℕ). 3 ∷ exponent ∷ x) (s.code ∙ ap (λ y. digits ++ y ∷ drop (i + 1) rest) end ∙ sym (append_assoc digits (0 ∷ []) (drop (i + 1) rest))) ∙ sym (ap (λ (x : List ℕ). x ++ drop (i + 1) rest) w.code);
      long = omega (arith, ap length w.code, length-append digits (0 ∷ []), long);
      valid = w.valid;
    }

pub whole_found : (bytes : List ℕ) (i : ℕ) → 1 ≤ length bytes → position (λ b. not (is_ascii_digit b)) (rest_of bytes) ≡ Some i → get_or (rest_of bytes) i 0 ≡ 0 → is_whole_number (get_or bytes 0 0) (take i (rest_of bytes)) ≡ true → BeginWithSub (i + 2 + 1) (3 ∷ bytes)
whole_found [] i some e end is = absurd (omega arith)
whole_found (b ∷ rest) i some e end is =
    whole_begins b rest i (ap (position (λ c. not (is_ascii_digit c))) (sym (rest_is b rest)) ∙ e) (ap (λ (x : List ℕ). get_or x i 0) (sym (rest_is b rest)) ∙ end)
    (ap (λ (x : List ℕ). is_whole_number b (take i x)) (sym (rest_is b rest)) ∙ is)

pub nought_begins : (rest : List ℕ) → BeginWithSub 1 (2 ∷ rest)
nought_begins rest = record { sub = Number (pos 0); behind = rest; code = refl; long = refl; valid = refl }
