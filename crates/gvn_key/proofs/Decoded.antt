-- Reading an encoded subscript gives its own bytes.
use Rattle.std.proofs.Common.{◌≡◌, ℕ, pos, negsuc, suc, zero, ◌+◌, ◌-◌, ◌^◌, ◌<◌, ◌≤◌, Bool, true, false, not, List, [], ◌∷◌, ◌++◌, length, map, refl, ap, ◌∙◌, arith, Some, inl, inr, ◌==◌}
use Rattle.std.specs.List.{list_all, flat_map}
use Rattle.std.specs.Char.{is_ascii_digit}
use Rattle.std.specs.Str.Parse.{AllDigits, digits_value}
use Rattle.std.specs.Fmt.{decimal}
use Rattle.std.proofs.lemmas.Bool.{and_parts, ne_eqb, eqb-true, eqb-false, le-leb, not-true, cases_Bool}
use Rattle.std.proofs.lemmas.Str.Parse.{digit_from_value}
use Rattle.global_defs.specs.Key.{Sub, Number, Text}
use Rattle.global_defs.specs.Encoded.{significant, escaped, encoded_sub}
use Rattle.global_defs.specs.NodeText.{magnitude_text, sub_bytes}
use Rattle.global_defs.specs.Valid.{is_sub}
use Rattle.global_defs.proofs.Digits.{digit_bounds}
use Rattle.global_defs.proofs.Places.{none_pass, position_behind}
use Rattle.global_defs.proofs.NumberText.{number_small, decimal_is, decimal_short, padded_back, significant_digits}
use Rattle.gvn_key.specs.Decoding.{sub_end, unescaped, padded, signed_text, number_read, sub_read}

-- a subscript's bytes but the last, and the last
abbrev pub front : Sub → List ℕ
front (Number (pos zero)) = []
front (Number (pos (suc n))) = 3 ∷ (46 + length (decimal (suc n))) ∷ significant (decimal (suc n))
front (Number (negsuc n)) = 1 ∷ (209 - length (decimal (suc n))) ∷ map (λ d. 105 - d) (significant (decimal (suc n)))
front (Text s) = 4 ∷ flat_map escaped s

abbrev pub last_byte : Sub → ℕ
last_byte (Number (pos zero)) = 2
last_byte (Number (pos (suc n))) = 0
last_byte (Number (negsuc n)) = 255
last_byte (Text s) = 0

pub encoded_parts : (s : Sub) → encoded_sub s ≡ front s ++ (last_byte s ∷ [])
encoded_parts (Number (pos zero)) = refl
encoded_parts (Number (pos (suc n))) = refl
encoded_parts (Number (negsuc n)) = refl
encoded_parts (Text s) = refl

-- the digits that are written of a number

pub ascii_digits : (ds : List ℕ) → AllDigits 10 ds → list_all is_ascii_digit ds ≡ true
ascii_digits [] h = refl
ascii_digits (c ∷ cs) h =
    let b = digit_from_value c h.0 in
    rw (le-leb 48 c (omega (arith, b)), le-leb c 57 (omega (arith, b))) (ascii_digits cs h.1)

record IsWritten (n : ℕ) (ds : List ℕ) : Type 0 where
  pub digits : list_all is_ascii_digit (significant ds) ≡ true
  pub fits : length (significant ds) ≤ length ds
  pub short : length ds ≤ 36
  pub same : padded (length ds) (significant ds) ≡ ds
  pub value : digits_value 10 ds ≡ n

written : (n : ℕ) → n < 10 ^ 36 → IsWritten n (decimal n)
written n small =
    let ds : List ℕ = decimal n in
    let d = decimal_is n (omega arith) in
    let p = padded_back ds in
    record {
      digits = ascii_digits (significant ds) (significant_digits ds d.digits);
      fits = p.fits;
      short = decimal_short n small;
      same = p.same;
      value = d.value;
    }

number_back : (negative : Bool) (n : ℕ) (ds : List ℕ) → IsWritten n ds → number_read negative (length ds) (significant ds) ≡ Some (signed_text negative (magnitude_text n))
number_back negative n ds w =
    rw (le-leb (length ds) 36 w.short, le-leb (length (significant ds)) (length ds) w.fits, w.digits)
    (ap (λ x. Some (signed_text negative (magnitude_text (digits_value 10 x)))) w.same ∙ ap (λ x. Some (signed_text negative (magnitude_text x))) w.value)

turned_twice : (ds : List ℕ) → list_all is_ascii_digit ds ≡ true → map (λ d. 105 - d) (map (λ d. 105 - d) ds) ≡ ds
turned_twice [] h = refl
turned_twice (c ∷ cs) h =
    let t = and_parts (is_ascii_digit c) (list_all is_ascii_digit cs) h in
    let twice : 105 - (105 - c) ≡ c = omega (arith, digit_bounds c t.0) in
    λ i. twice i ∷ turned_twice cs t.1 i

pub unescaped_back : (s : List ℕ) → unescaped false (flat_map escaped s) ≡ s
unescaped_back [] = refl
unescaped_back (zero ∷ s) = ap (λ x. 0 ∷ x) (unescaped_back s)
unescaped_back (suc b ∷ s) = elim (cases_Bool (b == 0)) [
  | inl e ↦ let one : 1 ≡ suc b = omega (arith, eqb-true b 0 e) in rw e (λ i. one i ∷ unescaped_back s i)
  | inr e ↦ rw (e, ne_eqb (suc b) 1 (λ x. omega (arith, eqb-false b 0 e))) (ap (λ x. suc b ∷ x) (unescaped_back s))
]

pub nothing_escaped : (bytes : List ℕ) → list_all (λ b. not (b == 1)) bytes ≡ true → unescaped false bytes ≡ bytes
nothing_escaped [] h = refl
nothing_escaped (b ∷ bytes) h =
    let t = and_parts (not (b == 1)) (list_all (λ b. not (b == 1)) bytes) h in
    rw (not-true (b == 1) t.0) (ap (λ (x : List ℕ). b ∷ x) (nothing_escaped bytes t.1))

pub sub_back : (s : Sub) → is_sub s ≡ true → sub_read (front s) ≡ Some (sub_bytes s)
sub_back (Number (pos zero)) h = refl
sub_back (Number (pos (suc n))) h =
    let w = written (suc n) (number_small (pos (suc n)) h) in
    let ds : List ℕ = decimal (suc n) in
    let count : (46 + length ds) - 46 ≡ length ds = omega arith in
    ap (λ k. number_read false k (significant ds)) count ∙ number_back false (suc n) ds w
sub_back (Number (negsuc n)) h =
    let w = written (suc n) (number_small (negsuc n) h) in
    let ds : List ℕ = decimal (suc n) in
    let count : 209 - (209 - length ds) ≡ length ds = omega (arith, w.short) in
    (λ i. number_read true (count i) (turned_twice (significant ds) w.digits i)) ∙ number_back true (suc n) ds w
sub_back (Text s) h = ap Some (unescaped_back s)

-- where a subscript ends

not_zero : (c : ℕ) → 0 < c → not (c == 0) ≡ true
not_zero c h = rw (ne_eqb c 0 (λ e. omega arith)) refl

digits_go_on : (ds : List ℕ) → list_all is_ascii_digit ds ≡ true → none_pass (λ b. b == 0) ds ≡ true
digits_go_on [] h = refl
digits_go_on (c ∷ cs) h =
    let t = and_parts (is_ascii_digit c) (list_all is_ascii_digit cs) h in
    rw (not_zero c (omega (arith, digit_bounds c t.0))) (digits_go_on cs t.1)

turned_goes_on : (ds : List ℕ) → none_pass (λ b. b == 255) (map (λ d. 105 - d) ds) ≡ true
turned_goes_on [] = refl
turned_goes_on (c ∷ cs) = rw (ne_eqb (105 - c) 255 (λ e. omega arith)) (turned_goes_on cs)

escaped_goes_on : (s : List ℕ) → none_pass (λ b. b == 0) (flat_map escaped s) ≡ true
escaped_goes_on [] = refl
escaped_goes_on (zero ∷ s) = escaped_goes_on s
escaped_goes_on (suc b ∷ s) = elim (cases_Bool (b == 0)) [
  | inl e ↦ rw e (escaped_goes_on s)
  | inr e ↦ rw (e, not_zero (suc b) (omega arith)) (escaped_goes_on s)
]

pub end_found : (s : Sub) → is_sub s ≡ true → (rest : List ℕ) → sub_end (front s ++ (last_byte s ∷ rest)) ≡ Some (length (front s))
end_found (Number (pos zero)) h rest = position_behind (λ b. b == 2) [] 2 rest refl refl
end_found (Number (pos (suc n))) h rest =
    let w = written (suc n) (number_small (pos (suc n)) h) in
    let ds : List ℕ = decimal (suc n) in
    position_behind (λ b. b == 0) (3 ∷ (46 + length ds) ∷ significant ds) 0 rest (rw (not_zero (46 + length ds) (omega arith)) (digits_go_on (significant ds) w.digits)) refl
end_found (Number (negsuc n)) h rest =
    let ds : List ℕ = decimal (suc n) in
    position_behind (λ b. b == 255) (1 ∷ (209 - length ds) ∷ map (λ d. 105 - d) (significant ds)) 255 rest
    (rw (ne_eqb (209 - length ds) 255 (λ e. omega arith)) (turned_goes_on (significant ds))) refl
end_found (Text s) h rest = position_behind (λ b. b == 0) (4 ∷ flat_map escaped s) 0 rest (escaped_goes_on s) refl
