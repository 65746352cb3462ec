-- No two keys have the same bytes.
use Rattle.std.proofs.Common.{◌≡◌, ◌≢◌, inl, inr, ℕ, zero, suc, pos, negsuc, ◌+◌, ◌-◌, ◌/◌, ◌%◌, ◌^◌, ◌≤◌, ◌<◌, ◌==◌, ◌||◌, Bool, true, false, List, [], ◌∷◌, ◌++◌, length, map, flat_map, nat_le, nat_lt, if◌then◌else◌, IsTrue, refl, sym, ◌∙◌, ap, subst, arith, append_assoc}
use Rattle.std.proofs.lemmas.Bool.{cases_Bool, and_parts}
use Rattle.std.proofs.lemmas.Bool.Decides.{nat_tests}
use Rattle.std.proofs.lemmas.Fmt.{decimal_is_IsNumeral_wide, length-decimal-le_wide}
use Rattle.std.proofs.lemmas.List.Recursion.{is_count_by}
use Rattle.std.specs.Fmt.{decimal, digits, digits_onto, digit_glyph}
use Rattle.std.specs.List.{AllByRecursion, list_all}
use Rattle.std.specs.Prelude.{count_by}
use Rattle.std.specs.Str.Parse.{digits_value}
use Rattle.std.specs.Char.{is_ascii_digit, is_ascii_alphabetic, is_ascii_alphanumeric}
use Rattle.global_defs.specs.Key.{Key, Sub, Number, Text}
use Rattle.global_defs.specs.Numeral.{is_numeral, is_number}
use Rattle.global_defs.specs.NodeText.{whole_digits, fraction_digits, magnitude_text, number_text}
use Rattle.global_defs.specs.Valid.{is_name, is_sub, is_key}
use Rattle.global_defs.specs.Encoded.{kept, significant, positive_sub, negative_sub, escaped, encoded_sub, encoded}

pub cons_one : {A : Type 0} (a b : A) (x y : List A) → a ∷ x ≡ b ∷ y → (a ≡ b) × (x ≡ y)
cons_one a b x y h = (cc, cc)

pub apart : (a b : ℕ) (x y : List ℕ) → a ≢ b → a ∷ x ≡ b ∷ y → ⊥
apart a b x y other h = other (cons_one a b x y h).0

-- texts without an end byte, up to that byte
up_to_end : (z : ℕ) (a b x y : List ℕ) → AllByRecursion (λ c. c ≢ z) a → AllByRecursion (λ c. c ≢ z) b → a ++ z ∷ x ≡ b ++ z ∷ y → (a ≡ b) × (x ≡ y)
up_to_end z [] [] x y p q h = (refl, (cons_one z z x y h).1)
up_to_end z [] (b ∷ bs) x y p q h = absurd (q.0 (sym (cons_one z b x (bs ++ z ∷ y) h).0))
up_to_end z (a ∷ us) [] x y p q h = absurd (p.0 (cons_one a z (us ++ z ∷ x) y h).0)
up_to_end z (a ∷ us) (b ∷ bs) x y p q h =
    let both = cons_one a b (us ++ z ∷ x) (bs ++ z ∷ y) h in
    let rest = up_to_end z us bs x y p.1 q.1 both.1 in
    (let first : a ≡ b = both.0 in let more : us ≡ bs = rest.0 in cc, rest.1)

-- names have no byte 0
later_bytes : (bs : List ℕ) → list_all is_ascii_alphanumeric bs ≡ true → AllByRecursion (λ c. c ≢ 0) bs
later_bytes [] all = tt
later_bytes (b ∷ bs) all =
    let both = and_parts (is_ascii_alphanumeric b) (list_all is_ascii_alphanumeric bs) all in
    ((λ is. let here : is_ascii_alphanumeric 0 ≡ true = subst (λ (c : ℕ). is_ascii_alphanumeric c ≡ true) is both.0 in cc), later_bytes bs both.1)

name_bytes : (bs : List ℕ) → is_name bs ≡ true → AllByRecursion (λ c. c ≢ 0) bs
name_bytes [] is = tt
name_bytes (b ∷ bs) is =
    let both = and_parts (b == 37 || is_ascii_alphabetic b) (list_all is_ascii_alphanumeric bs) is in
    ((λ zero_is. let here : (0 == 37 || is_ascii_alphabetic 0) ≡ true = subst (λ (c : ℕ). (c == 37 || is_ascii_alphabetic c) ≡ true) zero_is both.0 in cc), later_bytes bs both.1)

-- strings
escaped_plain : (b : ℕ) → escaped (suc (suc b)) ≡ suc (suc b) ∷ []
escaped_plain b = let no : (suc b == 0) ≡ false = grind (arith, nat_tests) in ap (λ (c : Bool). if c then 1 ∷ 2 ∷ [] else suc (suc b) ∷ []) no

plain_text : (b : ℕ) (t y : List ℕ) → flat_map escaped (suc (suc b) ∷ t) ++ 0 ∷ y ≡ suc (suc b) ∷ (flat_map escaped t ++ 0 ∷ y)
plain_text b t y = ap (λ (l : List ℕ). (l ++ flat_map escaped t) ++ 0 ∷ y) (escaped_plain b)

text_one : (s t x y : List ℕ) → flat_map escaped s ++ 0 ∷ x ≡ flat_map escaped t ++ 0 ∷ y → (s ≡ t) × (x ≡ y)
text_one [] [] x y h = (refl, (cons_one 0 0 x y h).1)
text_one [] (zero ∷ t) x y h = absurd (apart _ _ _ _ (λ e. omega arith) h)
text_one [] (suc zero ∷ t) x y h = absurd (apart _ _ _ _ (λ e. omega arith) h)
text_one [] (suc (suc b) ∷ t) x y h = absurd (apart 0 (suc (suc b)) x (flat_map escaped t ++ 0 ∷ y) (λ e. omega arith) (h ∙ plain_text b t y))
text_one (zero ∷ s) [] x y h = absurd (apart _ _ _ _ (λ e. omega arith) h)
text_one (suc zero ∷ s) [] x y h = absurd (apart _ _ _ _ (λ e. omega arith) h)
text_one (suc (suc a) ∷ s) [] x y h = absurd (apart (suc (suc a)) 0 (flat_map escaped s ++ 0 ∷ x) y (λ e. omega arith) (sym (plain_text a s x) ∙ h))
text_one (zero ∷ s) (zero ∷ t) x y h =
    let tail = (cons_one 1 1 _ _ (cons_one 1 1 _ _ h).1).1 in
    let rest = text_one s t x y tail in
    (ap (λ (l : List ℕ). 0 ∷ l) rest.0, rest.1)
text_one (suc zero ∷ s) (suc zero ∷ t) x y h =
    let tail = (cons_one 2 2 _ _ (cons_one 1 1 _ _ h).1).1 in
    let rest = text_one s t x y tail in
    (ap (λ (l : List ℕ). 1 ∷ l) rest.0, rest.1)
text_one (suc (suc a) ∷ s) (suc (suc b) ∷ t) x y h =
    let both = cons_one (suc (suc a)) (suc (suc b)) (flat_map escaped s ++ 0 ∷ x) (flat_map escaped t ++ 0 ∷ y) (sym (plain_text a s x) ∙ h ∙ plain_text b t y) in
    let rest = text_one s t x y both.1 in
    (let first : suc (suc a) ≡ suc (suc b) = both.0 in let more : s ≡ t = rest.0 in cc, rest.1)
text_one (zero ∷ s) (suc zero ∷ t) x y h = absurd (apart _ _ _ _ (λ e. omega arith) (cons_one 1 1 _ _ h).1)
text_one (suc zero ∷ s) (zero ∷ t) x y h = absurd (apart _ _ _ _ (λ e. omega arith) (cons_one 1 1 _ _ h).1)
text_one (zero ∷ s) (suc (suc b) ∷ t) x y h = absurd (apart 1 (suc (suc b)) (1 ∷ flat_map escaped s ++ 0 ∷ x) (flat_map escaped t ++ 0 ∷ y) (λ e. omega arith) (h ∙ plain_text b t y))
text_one (suc zero ∷ s) (suc (suc b) ∷ t) x y h = absurd (apart 1 (suc (suc b)) (2 ∷ flat_map escaped s ++ 0 ∷ x) (flat_map escaped t ++ 0 ∷ y) (λ e. omega arith) (h ∙ plain_text b t y))
text_one (suc (suc a) ∷ s) (zero ∷ t) x y h = absurd (apart (suc (suc a)) 1 (flat_map escaped s ++ 0 ∷ x) (1 ∷ flat_map escaped t ++ 0 ∷ y) (λ e. omega arith) (sym (plain_text a s x) ∙ h))
text_one (suc (suc a) ∷ s) (suc zero ∷ t) x y h = absurd (apart (suc (suc a)) 1 (flat_map escaped s ++ 0 ∷ x) (2 ∷ flat_map escaped t ++ 0 ∷ y) (λ e. omega arith) (sym (plain_text a s x) ∙ h))

-- digits
abbrev IsDigit : ℕ → Type 0
IsDigit d = (48 ≤ d) × (d ≤ 57)

glyph_is : (n : ℕ) → n < 10 → digit_glyph false n ≡ 48 + n
glyph_is n low = let yes : nat_lt n 10 ≡ true = grind (arith, nat_tests) in ap (λ (b : Bool). if b then 48 + n else (if false then 55 + n else 87 + n)) yes

is_digit : (n : ℕ) → IsDigit (digit_glyph false (n % 10))
is_digit n = subst IsDigit (sym (glyph_is (n % 10) (omega arith))) (omega arith, omega arith)

all_onto : (k n : ℕ) (acc : List ℕ) → AllByRecursion IsDigit acc → AllByRecursion IsDigit (digits_onto k 10 false n acc)
all_onto zero n acc all = all
all_onto (suc k) n acc all = elim (cases_Bool (n / 10 == 0)) [
  | inl h ↦ rw h (is_digit n, all)
  | inr h ↦ rw h (all_onto k (n / 10) (digit_glyph false (n % 10) ∷ acc) (is_digit n, all))
]

all_digits : (n : ℕ) → AllByRecursion IsDigit (decimal n)
unfolding digits
all_digits n = all_onto 64 n [] tt

-- how many digits there are
abbrev count_of : List ℕ → ℕ
count_of [] = 0
count_of (b ∷ bs) = if is_ascii_digit b then 1 + count_of bs else count_of bs

count_is : (bs : List ℕ) → count_of bs ≡ count_by is_ascii_digit bs
count_is bs = is_count_by count_of is_ascii_digit refl (λ b bs. refl) bs

count_more : (n : ℕ) (acc : List ℕ) → count_of (digit_glyph false (n % 10) ∷ acc) ≡ 1 + count_of acc
count_more n acc =
    let digit = is_digit n in
    let yes : is_ascii_digit (digit_glyph false (n % 10)) ≡ true = grind (arith, nat_tests, digit.0, digit.1) in
    ap (λ (b : Bool). if b then 1 + count_of acc else count_of acc) yes

count_append : (a b : List ℕ) → count_of (a ++ b) ≡ count_of a + count_of b
count_append [] b = omega arith
count_append (x ∷ a) b = elim (cases_Bool (is_ascii_digit x)) [
  | inl h ↦ rw h (let rest = count_append a b in omega (arith, rest))
  | inr h ↦ rw h (count_append a b)
]

no_fewer : (k n : ℕ) (acc : List ℕ) → count_of acc ≤ count_of (digits_onto k 10 false n acc)
no_fewer zero n acc = omega arith
no_fewer (suc k) n acc =
    let one = count_more n acc in
    elim (cases_Bool (n / 10 == 0)) [
      | inl h ↦ rw h (omega (arith, one))
      | inr h ↦ rw h (let more = no_fewer k (n / 10) (digit_glyph false (n % 10) ∷ acc) in omega (arith, one, more))
    ]

few_digits : (k n j : ℕ) (acc : List ℕ) → j < k → count_of (digits_onto k 10 false n acc) ≤ j + count_of acc → n < 10 ^ j
few_digits zero n j acc low few = absurd (omega arith)
few_digits (suc k) n zero acc low few =
    let one = count_more n acc in
    absurd (elim (cases_Bool (n / 10 == 0)) [
      | inl h ↦ (let here = rw h at few in omega (arith, one, here))
      | inr h ↦ (let here = rw h at few in let more = no_fewer k (n / 10) (digit_glyph false (n % 10) ∷ acc) in omega (arith, one, here, more))
    ])
few_digits (suc k) n (suc j) acc low few =
    let one = count_more n acc in
    elim (cases_Bool (n / 10 == 0)) [
      | inl h ↦ (let small : n / 10 ≡ 0 = grind (arith, nat_tests, h) in let some : 1 ≤ 10 ^ j = one_power j in omega (arith, small, some))
      | inr h ↦ (let here = rw h at few in
          let less : n / 10 < 10 ^ j = few_digits k (n / 10) j (digit_glyph false (n % 10) ∷ acc) (omega arith) (omega (arith, one, here)) in
          omega (arith, less))
    ]
  where
    one_power : (j : ℕ) → 1 ≤ 10 ^ j
    one_power zero = omega arith
    one_power (suc j) = let more = one_power j in omega (arith, more)

few_decimal : (n : ℕ) → count_of (decimal n) ≤ 18 → n < 10 ^ 18
unfolding digits
few_decimal n few = few_digits 64 n 18 [] (omega arith) few

-- a number that is a subscript is below 10 ^ 36, as 10 ^ 18 times it
few_whole : (w : ℕ) → count_of (whole_digits w) ≤ 18 → w < 10 ^ 18
few_whole w few = elim (cases_Bool (w == 0)) [
  | inl h ↦ (let none : w ≡ 0 = grind (arith, nat_tests, h) in omega (arith, none))
  | inr h ↦ (let here = rw h at few in few_decimal w here)
]

few_magnitude : (n : ℕ) → count_of (magnitude_text n) ≤ 18 → n < 10 ^ 36
few_magnitude n few =
    let both = count_append (whole_digits (n / 10 ^ 18)) (fraction_digits (n % 10 ^ 18)) in
    let whole = few_whole (n / 10 ^ 18) (omega (arith, both, few)) in
    omega (arith, whole)

number_count : (bs : List ℕ) → is_number bs ≡ true → count_of bs ≤ 18
number_count bs is =
    let few = (and_parts (is_numeral bs) (nat_le (count_by is_ascii_digit bs) 18) is).1 in
    let same = count_is bs in
    grind (arith, nat_tests, few, same)

few_positive : (n : ℕ) → is_number (number_text (pos (suc n))) ≡ true → suc n < 10 ^ 36
few_positive n is = few_magnitude (suc n) (number_count (magnitude_text (suc n)) is)

few_negative : (n : ℕ) → is_number (number_text (negsuc n)) ≡ true → suc n < 10 ^ 36
few_negative n is = few_magnitude (suc n) (number_count (45 ∷ magnitude_text (suc n)) is)

-- digits by those that stay
empty_apart : {a : ℕ} {l : List ℕ} → [] ≡ a ∷ l → ⊥
empty_apart h = cc

kept_short : (d e b : ℕ) (m : List ℕ) → kept d [] ≡ e ∷ b ∷ m → ⊥
kept_short d e b m h = elim (cases_Bool (d == 48)) [
  | inl p ↦ (let none : [] ≡ e ∷ b ∷ m = rw p at h in empty_apart none)
  | inr p ↦ (let one : d ∷ [] ≡ e ∷ b ∷ m = rw p at h in empty_apart (cons_one d e [] (b ∷ m) one).1)
]

kept_one : (d e : ℕ) (l m : List ℕ) → kept d l ≡ kept e m → (d ≡ e) × (l ≡ m)
kept_one d e [] [] h = elim (cases_Bool (d == 48)) [
  | inl p ↦ elim (cases_Bool (e == 48)) [
    | inl q ↦ (grind (arith, nat_tests, p, q), refl)
    | inr q ↦ (let none : [] ≡ e ∷ [] = rw (p, q) at h in absurd (empty_apart none))
  ]
  | inr p ↦ elim (cases_Bool (e == 48)) [
    | inl q ↦ (let none : d ∷ [] ≡ [] = rw (p, q) at h in absurd (empty_apart (sym none)))
    | inr q ↦ (let both : d ∷ [] ≡ e ∷ [] = rw (p, q) at h in ((cons_one d e [] [] both).0, refl))
  ]
]
kept_one d e [] (b ∷ m) h = absurd (kept_short d e b m h)
kept_one d e (a ∷ l) [] h = absurd (kept_short e d a l (sym h))
kept_one d e (a ∷ l) (b ∷ m) h =
    let both = cons_one d e (a ∷ l) (b ∷ m) h in
    both

significant_one : (a b : List ℕ) → length a ≡ length b → significant a ≡ significant b → a ≡ b
significant_one [] [] same h = refl
significant_one [] (e ∷ b) same h = absurd (omega arith)
significant_one (d ∷ a) [] same h = absurd (omega arith)
significant_one (d ∷ a) (e ∷ b) same h =
    let both = kept_one d e (significant a) (significant b) h in
    let first : d ≡ e = both.0 in
    let rest : a ≡ b = significant_one a b (omega arith) both.1 in
    cc

kept_all : (d : ℕ) (l : List ℕ) → IsDigit d → AllByRecursion IsDigit l → AllByRecursion IsDigit (kept d l)
kept_all d [] digit all = elim (cases_Bool (d == 48)) [ inl h ↦ rw h tt | inr h ↦ rw h (digit, tt) ]
kept_all d (e ∷ l) digit all = (digit, all)

significant_all : (ds : List ℕ) → AllByRecursion IsDigit ds → AllByRecursion IsDigit (significant ds)
significant_all [] all = tt
significant_all (d ∷ ds) all = kept_all d (significant ds) all.0 (significant_all ds all.1)

not_zero : (ds : List ℕ) → AllByRecursion IsDigit ds → AllByRecursion (λ c. c ≢ 0) ds
not_zero [] all = tt
not_zero (d ∷ ds) all = ((λ is. omega (arith, all.0.0)), not_zero ds all.1)

-- a negative number's digits
turned_end : (ds : List ℕ) → AllByRecursion IsDigit ds → AllByRecursion (λ c. c ≢ 255) (map (λ d. 105 - d) ds)
turned_end [] all = tt
turned_end (d ∷ ds) all = ((λ is. omega (arith, all.0.0, all.0.1)), turned_end ds all.1)

turned_one : (a b : List ℕ) → AllByRecursion IsDigit a → AllByRecursion IsDigit b → map (λ d. 105 - d) a ≡ map (λ d. 105 - d) b → a ≡ b
turned_one [] [] p q h = refl
turned_one [] (e ∷ b) p q h = let none : [] ≡ (105 - e) ∷ map (λ d. 105 - d) b = h in cc
turned_one (d ∷ a) [] p q h = let none : (105 - d) ∷ map (λ d. 105 - d) a ≡ [] = h in cc
turned_one (d ∷ a) (e ∷ b) p q h =
    let both = cons_one (105 - d) (105 - e) (map (λ d. 105 - d) a) (map (λ d. 105 - d) b) h in
    let first : d ≡ e = (let same = both.0 in omega (arith, same, p.0.0, p.0.1, q.0.0, q.0.1)) in
    let rest : a ≡ b = turned_one a b p.1 q.1 both.1 in
    cc

decimal_one : (n m : ℕ) → n < 10 ^ 36 → m < 10 ^ 36 → decimal n ≡ decimal m → n ≡ m
decimal_one n m p q h =
    sym (decimal_is_IsNumeral_wide n (omega (arith, p))).1 ∙ ap (digits_value 10) h ∙ (decimal_is_IsNumeral_wide m (omega (arith, q))).1

positive_one : (n m : ℕ) (x y : List ℕ) → suc n < 10 ^ 36 → suc m < 10 ^ 36 → positive_sub (decimal (suc n)) ++ x ≡ positive_sub (decimal (suc m)) ++ y → (n ≡ m) × (x ≡ y)
positive_one n m x y p q h =
    let a : List ℕ = decimal (suc n) in
    let b : List ℕ = decimal (suc m) in
    let one = cons_one 3 3 ((46 + length a) ∷ (significant a ++ 0 ∷ []) ++ x) ((46 + length b) ∷ (significant b ++ 0 ∷ []) ++ y) h in
    let size = cons_one (46 + length a) (46 + length b) ((significant a ++ 0 ∷ []) ++ x) ((significant b ++ 0 ∷ []) ++ y) one.1 in
    let rest = up_to_end 0 (significant a) (significant b) x y (not_zero (significant a) (significant_all a (all_digits (suc n)))) (not_zero (significant b) (significant_all b (all_digits (suc m))))
    (sym (append_assoc (significant a) (0 ∷ []) x) ∙ size.1 ∙ append_assoc (significant b) (0 ∷ []) y) in
    let long : length a ≡ length b = (let same = size.0 in omega (arith, same)) in
    let same : suc n ≡ suc m = decimal_one (suc n) (suc m) p q (significant_one a b long rest.0) in
    (omega (arith, same), rest.1)

negative_one : (n m : ℕ) (x y : List ℕ) → suc n < 10 ^ 36 → suc m < 10 ^ 36 → negative_sub (decimal (suc n)) ++ x ≡ negative_sub (decimal (suc m)) ++ y → (n ≡ m) × (x ≡ y)
negative_one n m x y p q h =
    let a : List ℕ = decimal (suc n) in
    let b : List ℕ = decimal (suc m) in
    let u : List ℕ = map (λ d. 105 - d) (significant a) in
    let v : List ℕ = map (λ d. 105 - d) (significant b) in
    let digits_a = significant_all a (all_digits (suc n)) in
    let digits_b = significant_all b (all_digits (suc m)) in
    let one = cons_one 1 1 ((209 - length a) ∷ (u ++ 255 ∷ []) ++ x) ((209 - length b) ∷ (v ++ 255 ∷ []) ++ y) h in
    let size = cons_one (209 - length a) (209 - length b) ((u ++ 255 ∷ []) ++ x) ((v ++ 255 ∷ []) ++ y) one.1 in
    let rest = up_to_end 255 u v x y (turned_end (significant a) digits_a) (turned_end (significant b) digits_b)
    (sym (append_assoc u (255 ∷ []) x) ∙ size.1 ∙ append_assoc v (255 ∷ []) y) in
    let short_a = length-decimal-le_wide 36 (suc n) (omega arith) p (omega (arith, p)) in
    let short_b = length-decimal-le_wide 36 (suc m) (omega arith) q (omega (arith, q)) in
    let long : length a ≡ length b = (let same = size.0 in omega (arith, same, short_a, short_b)) in
    let same : suc n ≡ suc m = decimal_one (suc n) (suc m) p q (significant_one a b long (turned_one (significant a) (significant b) digits_a digits_b rest.0)) in
    (omega (arith, same), rest.1)

-- subscripts
sub_one : (s t : Sub) (x y : List ℕ) → is_sub s ≡ true → is_sub t ≡ true → encoded_sub s ++ x ≡ encoded_sub t ++ y → (s ≡ t) × (x ≡ y)
sub_one (Number (pos zero)) (Number (pos zero)) x y p q h = (refl, (cons_one 2 2 x y h).1)
sub_one (Number (pos (suc n))) (Number (pos (suc m))) x y p q h =
    let both = positive_one n m x y (few_positive n p) (few_positive m q) h in
    (ap (λ (k : ℕ). Number (pos (suc k))) both.0, both.1)
sub_one (Number (negsuc n)) (Number (negsuc m)) x y p q h =
    let both = negative_one n m x y (few_negative n p) (few_negative m q) h in
    (ap (λ (k : ℕ). Number (negsuc k)) both.0, both.1)
sub_one (Text s) (Text t) x y p q h =
    let tail = cons_one 4 4 ((flat_map escaped s ++ 0 ∷ []) ++ x) ((flat_map escaped t ++ 0 ∷ []) ++ y) h in
    let both = text_one s t x y (sym (append_assoc (flat_map escaped s) (0 ∷ []) x) ∙ tail.1 ∙ append_assoc (flat_map escaped t) (0 ∷ []) y) in
    (ap (λ (l : List ℕ). Text l) both.0, both.1)
sub_one (Number (pos zero)) (Number (pos (suc m))) x y p q h = absurd (apart _ _ _ _ (λ e. omega arith) h)
sub_one (Number (pos zero)) (Number (negsuc m)) x y p q h = absurd (apart _ _ _ _ (λ e. omega arith) h)
sub_one (Number (pos zero)) (Text t) x y p q h = absurd (apart _ _ _ _ (λ e. omega arith) h)
sub_one (Number (pos (suc n))) (Number (pos zero)) x y p q h = absurd (apart _ _ _ _ (λ e. omega arith) h)
sub_one (Number (pos (suc n))) (Number (negsuc m)) x y p q h = absurd (apart _ _ _ _ (λ e. omega arith) h)
sub_one (Number (pos (suc n))) (Text t) x y p q h = absurd (apart _ _ _ _ (λ e. omega arith) h)
sub_one (Number (negsuc n)) (Number (pos zero)) x y p q h = absurd (apart _ _ _ _ (λ e. omega arith) h)
sub_one (Number (negsuc n)) (Number (pos (suc m))) x y p q h = absurd (apart _ _ _ _ (λ e. omega arith) h)
sub_one (Number (negsuc n)) (Text t) x y p q h = absurd (apart _ _ _ _ (λ e. omega arith) h)
sub_one (Text s) (Number (pos zero)) x y p q h = absurd (apart _ _ _ _ (λ e. omega arith) h)
sub_one (Text s) (Number (pos (suc m))) x y p q h = absurd (apart _ _ _ _ (λ e. omega arith) h)
sub_one (Text s) (Number (negsuc m)) x y p q h = absurd (apart _ _ _ _ (λ e. omega arith) h)

no_sub : (t : Sub) (y : List ℕ) → [] ≡ encoded_sub t ++ y → ⊥
no_sub (Number (pos zero)) y h = let none : [] ≡ 2 ∷ y = h in cc
no_sub (Number (pos (suc n))) y h = let none : [] ≡ 3 ∷ (46 + length (decimal (suc n))) ∷ (significant (decimal (suc n)) ++ 0 ∷ []) ++ y = h in cc
no_sub (Number (negsuc n)) y h = let none : [] ≡ 1 ∷ (209 - length (decimal (suc n))) ∷ (map (λ d. 105 - d) (significant (decimal (suc n))) ++ 255 ∷ []) ++ y = h in cc
no_sub (Text s) y h = let none : [] ≡ 4 ∷ (flat_map escaped s ++ 0 ∷ []) ++ y = h in cc

subs_one : (ss ts : List Sub) → list_all is_sub ss ≡ true → list_all is_sub ts ≡ true → flat_map encoded_sub ss ≡ flat_map encoded_sub ts → ss ≡ ts
subs_one [] [] p q h = refl
subs_one [] (t ∷ ts) p q h = absurd (no_sub t (flat_map encoded_sub ts) h)
subs_one (s ∷ ss) [] p q h = absurd (no_sub s (flat_map encoded_sub ss) (sym h))
subs_one (s ∷ ss) (t ∷ ts) p q h =
    let left = and_parts (is_sub s) (list_all is_sub ss) p in
    let right = and_parts (is_sub t) (list_all is_sub ts) q in
    let both = sub_one s t (flat_map encoded_sub ss) (flat_map encoded_sub ts) left.0 right.0 h in
    let first : s ≡ t = both.0 in
    let rest : ss ≡ ts = subs_one ss ts left.1 right.1 both.1 in
    cc

-- what a key that there is has
key_parts : (key : Key) → is_key key ≡ true → (is_name key.name ≡ true) × (list_all is_sub key.subs ≡ true)
key_parts key is = (grind (arith, nat_tests, and_parts, is), grind (arith, nat_tests, and_parts, is))

pub keys_apart : (a b : Key) → IsTrue (is_key a) → IsTrue (is_key b) → encoded a ≡ encoded b → a ≡ b
keys_apart a b p q h =
    let mine = key_parts a p in
    let theirs = key_parts b q in
    let both = up_to_end 0 a.name b.name (flat_map encoded_sub a.subs) (flat_map encoded_sub b.subs) (name_bytes a.name mine.0) (name_bytes b.name theirs.0) h in
    let subs : a.subs ≡ b.subs = subs_one a.subs b.subs mine.1 theirs.1 both.1 in
    λ i. record { name = both.0 i; subs = subs i }
