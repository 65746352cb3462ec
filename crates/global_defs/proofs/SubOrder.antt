-- Encoded subscripts compare as subscripts do, whatever follows them.
use Rattle.std.proofs.Common.{◌≡◌, ℕ, pos, negsuc, suc, zero, ◌+◌, ◌-◌, ◌<◌, ◌≤◌, true, List, [], ◌∷◌, ◌++◌, length, map, refl, ap, sym, ◌∙◌, arith, append_assoc}
use Rattle.std.specs.declared.cmp.Ordering.TheVariants.{Less, Equal, Greater}
use Rattle.std.specs.Ordering.{nat_cmp, int_cmp, ordering_then}
use Rattle.std.specs.Cmp.{int_cmp_is}
use Rattle.std.specs.Cmp.Lexicographic.{slice_cmp}
use Rattle.std.specs.List.{list_all, flat_map}
use Rattle.std.specs.Str.Parse.{AllDigits}
use Rattle.std.specs.Fmt.{decimal}
use Rattle.std.proofs.lemmas.Bool.{lt-ltb}
use Rattle.std.proofs.lemmas.Int.{ints}
use Rattle.std.proofs.lemmas.Str.Parse.{digit_from_value}
use Rattle.global_defs.specs.Key.{Sub, Number, Text, sub_cmp}
use Rattle.global_defs.specs.Encoded.{significant, positive_sub, negative_sub, escaped, encoded_sub}
use Rattle.global_defs.specs.Valid.{is_sub}
use Rattle.global_defs.proofs.NumberText.{number_small, decimal_is, decimal_short, significant_digits}
use Rattle.global_defs.proofs.NumberOrder.{numbers_ordered, significant_ordered}
use Rattle.global_defs.proofs.Codes.{IsOrderedCode, is_some_byte, bytes_ended, escaped_ended}
use Rattle.global_defs.proofs.Ranks.{below, same, above, ranks, less, equal, greater, agree, then_then}

-- a digit is above 0 and at most 57
some_digits : (ds : List ℕ) → AllDigits 10 ds → list_all is_some_byte ds ≡ true
some_digits [] h = refl
some_digits (d ∷ ds) h = rw (lt-ltb 0 d (omega (arith, digit_from_value d h.0))) (some_digits ds h.1)

-- positive numbers

positive_first : (n m : ℕ) (ds es : List ℕ) → nat_cmp n m ≡ ordering_then (nat_cmp (length ds) (length es)) (slice_cmp nat_cmp ds es) → AllDigits 10 ds → AllDigits 10 es
    → (a b : List ℕ) → slice_cmp nat_cmp (positive_sub ds ++ a) (positive_sub es ++ b) ≡ ordering_then (nat_cmp n m) (slice_cmp nat_cmp a b)
positive_first n m ds es o h g a b = elim (ranks (length ds) (length es)) [
  | below l e ↦ rw (o, e, less (46 + length ds) (46 + length es) (omega arith)) refl
  | same l e ↦ rw (o, e, equal (46 + length ds) (46 + length es) (omega arith))
      ((λ i. slice_cmp nat_cmp (append_assoc (significant ds) (0 ∷ []) a i) (append_assoc (significant es) (0 ∷ []) b i))
      ∙ bytes_ended (significant ds) (significant es) a b (some_digits (significant ds) (significant_digits ds h)) (some_digits (significant es) (significant_digits es g))
      ∙ ap (λ r. ordering_then r (slice_cmp nat_cmp a b)) (significant_ordered ds es h g l))
  | above l e ↦ rw (o, e, greater (46 + length ds) (46 + length es) (omega arith)) refl
]

-- negative numbers, with their digits turned round

turned_ended : (s t a b : List ℕ) → AllDigits 10 s → AllDigits 10 t
    → slice_cmp nat_cmp (map (λ d. 105 - d) s ++ (255 ∷ a)) (map (λ d. 105 - d) t ++ (255 ∷ b)) ≡ ordering_then (slice_cmp nat_cmp t s) (slice_cmp nat_cmp a b)
turned_ended [] [] a b h g = refl
turned_ended [] (y ∷ t) a b h g = rw (greater 255 (105 - y) (omega arith)) refl
turned_ended (x ∷ s) [] a b h g = rw (less (105 - x) 255 (omega arith)) refl
turned_ended (x ∷ s) (y ∷ t) a b h g =
    let p = digit_from_value x h.0 in
    let q = digit_from_value y g.0 in
    (λ i. ordering_then (agree y x (105 - x) (105 - y) (λ l. omega (arith, p, q)) (λ l. omega (arith, p, q)) (λ l. omega (arith, p, q)) i) (turned_ended s t a b h.1 g.1 i))
    ∙ sym (then_then (nat_cmp y x) (slice_cmp nat_cmp t s) (slice_cmp nat_cmp a b))

negative_first : (n m : ℕ) (ds es : List ℕ) → nat_cmp m n ≡ ordering_then (nat_cmp (length es) (length ds)) (slice_cmp nat_cmp es ds) → AllDigits 10 ds → AllDigits 10 es → length ds ≤ 36 → length es ≤ 36
    → (a b : List ℕ) → slice_cmp nat_cmp (negative_sub ds ++ a) (negative_sub es ++ b) ≡ ordering_then (nat_cmp m n) (slice_cmp nat_cmp a b)
negative_first n m ds es o h g short few a b = elim (ranks (length es) (length ds)) [
  | below l e ↦ rw (o, e, less (209 - length ds) (209 - length es) (omega arith)) refl
  | same l e ↦ rw (o, e, equal (209 - length ds) (209 - length es) (omega arith))
      ((λ i. slice_cmp nat_cmp (append_assoc (map (λ d. 105 - d) (significant ds)) (255 ∷ []) a i) (append_assoc (map (λ d. 105 - d) (significant es)) (255 ∷ []) b i))
      ∙ turned_ended (significant ds) (significant es) a b (significant_digits ds h) (significant_digits es g)
      ∙ ap (λ r. ordering_then r (slice_cmp nat_cmp a b)) (significant_ordered es ds g h l))
  | above l e ↦ rw (o, e, greater (209 - length ds) (209 - length es) (omega arith)) refl
]

-- numbers

int_pos : (n m : ℕ) → int_cmp (pos n) (pos m) ≡ nat_cmp n m
int_pos n m = elim (ranks n m) [
  | below h e ↦ sym (int_cmp_is (pos n) (pos m) Less (omega (arith, ints))) ∙ sym e
  | same h e ↦ sym (int_cmp_is (pos n) (pos m) Equal (ap pos h)) ∙ sym e
  | above h e ↦ sym (int_cmp_is (pos n) (pos m) Greater (omega (arith, ints))) ∙ sym e
]

int_negative : (n m : ℕ) → int_cmp (negsuc n) (negsuc m) ≡ nat_cmp (suc m) (suc n)
int_negative n m = elim (ranks (suc m) (suc n)) [
  | below h e ↦ sym (int_cmp_is (negsuc n) (negsuc m) Less (omega (arith, ints))) ∙ sym e
  | same h e ↦ let k : n ≡ m = omega arith in sym (int_cmp_is (negsuc n) (negsuc m) Equal (ap negsuc k)) ∙ sym e
  | above h e ↦ sym (int_cmp_is (negsuc n) (negsuc m) Greater (omega (arith, ints))) ∙ sym e
]

int_less : (n m : ℕ) → int_cmp (negsuc n) (pos m) ≡ Less
int_less n m = sym (int_cmp_is (negsuc n) (pos m) Less (omega (arith, ints)))

int_greater : (n m : ℕ) → int_cmp (pos n) (negsuc m) ≡ Greater
int_greater n m = sym (int_cmp_is (pos n) (negsuc m) Greater (omega (arith, ints)))

sub_first : (x y : Sub) → is_sub x ≡ true → is_sub y ≡ true → (a b : List ℕ)
    → slice_cmp nat_cmp (encoded_sub x ++ a) (encoded_sub y ++ b) ≡ ordering_then (sub_cmp x y) (slice_cmp nat_cmp a b)
sub_first (Number (pos zero)) (Number (pos zero)) h g a b = refl
sub_first (Number (pos zero)) (Number (pos (suc m))) h g a b = rw (int_pos 0 (suc m), less 0 (suc m) (omega arith)) refl
sub_first (Number (pos zero)) (Number (negsuc m)) h g a b = rw (int_greater 0 m) refl
sub_first (Number (pos zero)) (Text t) h g a b = refl
sub_first (Number (pos (suc n))) (Number (pos zero)) h g a b = rw (int_pos (suc n) 0, greater (suc n) 0 (omega arith)) refl
sub_first (Number (pos (suc n))) (Number (pos (suc m))) h g a b =
    let small = number_small (pos (suc n)) h in
    let tiny = number_small (pos (suc m)) g in
    rw (int_pos (suc n) (suc m))
    (positive_first (suc n) (suc m) (decimal (suc n)) (decimal (suc m)) (numbers_ordered (suc n) (suc m) (omega arith) (omega arith) (omega arith) (omega arith))
    (decimal_is (suc n) (omega arith)).digits (decimal_is (suc m) (omega arith)).digits a b)
sub_first (Number (pos (suc n))) (Number (negsuc m)) h g a b = rw (int_greater (suc n) m) refl
sub_first (Number (pos (suc n))) (Text t) h g a b = refl
sub_first (Number (negsuc n)) (Number (pos zero)) h g a b = rw (int_less n 0) refl
sub_first (Number (negsuc n)) (Number (pos (suc m))) h g a b = rw (int_less n (suc m)) refl
sub_first (Number (negsuc n)) (Number (negsuc m)) h g a b =
    let small = number_small (negsuc n) h in
    let tiny = number_small (negsuc m) g in
    rw (int_negative n m)
    (negative_first (suc n) (suc m) (decimal (suc n)) (decimal (suc m)) (numbers_ordered (suc m) (suc n) (omega arith) (omega arith) (omega arith) (omega arith))
    (decimal_is (suc n) (omega arith)).digits (decimal_is (suc m) (omega arith)).digits (decimal_short (suc n) small) (decimal_short (suc m) tiny) a b)
sub_first (Number (negsuc n)) (Text t) h g a b = refl
sub_first (Text s) (Number (pos zero)) h g a b = refl
sub_first (Text s) (Number (pos (suc m))) h g a b = refl
sub_first (Text s) (Number (negsuc m)) h g a b = refl
sub_first (Text s) (Text t) h g a b =
    (λ i. slice_cmp nat_cmp (append_assoc (flat_map escaped s) (0 ∷ []) a i) (append_assoc (flat_map escaped t) (0 ∷ []) b i)) ∙ escaped_ended s t a b

sub_some : (x : Sub) → 0 < length (encoded_sub x)
sub_some (Number (pos zero)) = omega arith
sub_some (Number (pos (suc n))) = omega arith
sub_some (Number (negsuc n)) = omega arith
sub_some (Text s) = omega arith

pub sub_code : IsOrderedCode sub_cmp is_sub encoded_sub
sub_code = record { some = λ x h. sub_some x; first = sub_first }
