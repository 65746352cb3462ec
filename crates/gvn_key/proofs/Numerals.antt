-- Canonical numerals byte by byte: the states tell exactly which bytes are numbers, and so which are strings.
use Rattle.std.proofs.Common.{◌≡◌, ◌≢◌, ℕ, suc, ◌+◌, ◌-◌, ◌<◌, ◌≤◌, ◌==◌, ◌&&◌, ◌||◌, Bool, true, false, cond, not, nat_lt, nat_le, nat_eq, List, [], ◌∷◌, ◌++◌, length, get_or, count_by, inl, inr, refl, ap, sym, subst, ◌∙◌, arith, ◌⊎◌}
use Rattle.std.specs.List.{list_all}
use Rattle.std.specs.Char.{is_ascii_digit}
use Rattle.std.specs.Str.Parse.{AllDigits}
use Rattle.std.proofs.lemmas.List.{append-nil}
use Rattle.std.proofs.lemmas.List.Sums.{sum_by-append}
use Rattle.std.proofs.Math.Seq.{take-append_seam, drop-append-add}
use Rattle.std.proofs.lemmas.Bool.{and_parts, ne_eqb, eqb-true, eqb-false, leb-true, ltb-true, lt-ltb, le-leb, cases_Bool, cases_eq}
use Rattle.std.proofs.lemmas.Str.Parse.{digit_from_value}
use Rattle.global_defs.specs.Numeral.{is_point, is_whole, is_fraction, is_positive, is_positive_at, is_numeral, is_number}
use Rattle.global_defs.specs.Key.{Text}
use Rattle.global_defs.specs.Valid.{is_sub}
use Rattle.global_defs.specs.Encoded.{kept, significant}
use Rattle.global_defs.specs.NodeText.{pointed}
use Rattle.global_defs.proofs.Digits.{digit_bounds}
use Rattle.global_defs.proofs.Places.{none_pass, position_behind, position_nowhere}
use Rattle.global_defs.proofs.Numerals.{numeral_signed, positive_parts, IsParts, IsSigned, nought, minus, plus, count_digits}
use Rattle.gvn_key.specs.Steps.{last_of, may_end, is_string, first_read, numeral_read}
use Rattle.gvn_key.specs.Rests.{read_on}
use Rattle.gvn_key.specs.declared.digits.Last.{Last}
use Rattle.gvn_key.specs.declared.digits.Last.TheVariants.{Absent, Zero, Other}
use Rattle.gvn_key.specs.declared.numeral_front.Numeral.{Numeral}
use Rattle.gvn_key.specs.declared.numeral_front.Numeral.TheVariants.{Empty, Nought, Minus, Whole, Fraction, Unlike}

pub false_true : {X : Type 0} → false ≡ true → X
false_true h = cc

-- two tests that imply each other
pub same_test : (a b : Bool) → (a ≡ true → b ≡ true) → (b ≡ true → a ≡ true) → a ≡ b
same_test true b f g = sym (f refl)
same_test false true f g = g refl
same_test false false f g = refl

pub is_digit : (d : ℕ) → 48 ≤ d → d ≤ 57 → is_ascii_digit d ≡ true
is_digit d low high = rw (le-leb 48 d low, le-leb d 57 high) refl

pub ascii_digits : (ds : List ℕ) → AllDigits 10 ds → list_all is_ascii_digit ds ≡ true
ascii_digits [] h = refl
ascii_digits (c ∷ cs) h =
    let b = digit_from_value c h.0 in
    rw (is_digit c (omega (arith, b)) (omega (arith, b))) (ascii_digits cs h.1)

-- the kind of the last digit
abbrev pub final : Last → List ℕ → Last
final last [] = last
final last (d ∷ ds) = final (last_of d) ds

pub other_last : (d : ℕ) → d ≢ 48 → last_of d ≡ Other
other_last d h = rw (ne_eqb d 48 h) refl

pub zero_last : (d : ℕ) → may_end (last_of d) ≡ true → d ≢ 48
zero_last d h e = let z : last_of d ≡ Zero = rw e refl in false_true (ap may_end (sym z) ∙ h)

-- digits before and behind a point
pub record AreParts (w f : List ℕ) : Type 0 where
  pub whole : list_all is_ascii_digit w ≡ true
  pub lead : get_or w 0 0 ≢ 48
  pub fraction : list_all is_ascii_digit f ≡ true
  pub ends : 0 < length f → may_end (final Absent f) ≡ true
  pub few : length w + length f ≤ 18
  pub some : 0 < length w + length f

-- a text of such digits is a numeral

no_point : (ds : List ℕ) → list_all is_ascii_digit ds ≡ true → none_pass is_point ds ≡ true
no_point [] h = refl
no_point (c ∷ cs) h =
    let t = and_parts (is_ascii_digit c) (list_all is_ascii_digit cs) h in
    rw (ne_eqb c 46 (λ e. omega (arith, digit_bounds c t.0))) (no_point cs t.1)

some_length : (ds : List ℕ) → 0 < length ds → not (length ds == 0) ≡ true
some_length ds h = rw (ne_eqb (length ds) 0 (λ e. omega arith)) refl

whole_is : (w : List ℕ) → list_all is_ascii_digit w ≡ true → get_or w 0 0 ≢ 48 → 0 < length w → is_whole w ≡ true
whole_is w all lead some = rw (all, some_length w some, ne_eqb (get_or w 0 0) 48 lead) refl

last_place : (last : Last) (d : ℕ) (ds : List ℕ) → may_end (final last (d ∷ ds)) ≡ true → get_or (d ∷ ds) (length ds) 0 ≢ 48
last_place last d [] h = zero_last d h
last_place last d (e ∷ ds) h = last_place (last_of d) e ds h

fraction_is : (f : List ℕ) → list_all is_ascii_digit f ≡ true → 0 < length f → may_end (final Absent f) ≡ true → is_fraction f ≡ true
fraction_is [] all some ends = absurd (omega arith)
fraction_is (d ∷ ds) all some ends =
    let at : length (d ∷ ds) - 1 ≡ length ds = omega arith in
    let ne : get_or (d ∷ ds) (length (d ∷ ds) - 1) 0 ≢ 48 = rw at (last_place Absent d ds ends) in
    rw (all, some_length (d ∷ ds) some, ne_eqb (get_or (d ∷ ds) (length (d ∷ ds) - 1) 0) 48 ne) refl

pub either_true : (x : Bool) → (x || true) ≡ true
either_true true = refl
either_true false = refl

no_whole : (w : List ℕ) → (0 < length w → is_whole w ≡ true) → (nat_eq (length w) 0 || is_whole w) ≡ true
no_whole [] h = refl
no_whole (d ∷ ds) h = rw (h (omega arith)) (either_true (nat_eq (length (d ∷ ds)) 0))

parts_positive : (w f : List ℕ) → AreParts w f → is_positive (w ++ pointed f) ≡ true
parts_positive w [] p =
    rw (append-nil w, position_nowhere is_point w (no_point w p.whole)) (whole_is w p.whole p.lead (omega (arith, p.some)))
parts_positive w (d ∷ ds) p =
    let f : List ℕ = d ∷ ds in
    ap (is_positive_at (w ++ (46 ∷ f))) (position_behind is_point w 46 f (no_point w p.whole) refl)
    ∙ (λ i. (nat_eq (length w) 0 || is_whole (take-append_seam w (46 ∷ f) i)) && is_fraction (drop-append-add w (46 ∷ f) 1 i))
    ∙ rw (no_whole w (λ some. whole_is w p.whole p.lead some)) (fraction_is f p.fraction (omega arith) (p.ends (omega arith)))

count_pointed : (f : List ℕ) → list_all is_ascii_digit f ≡ true → count_by is_ascii_digit (pointed f) ≡ length f
count_pointed [] h = refl
count_pointed (d ∷ ds) h = count_digits (d ∷ ds) h

parts_count : (w f : List ℕ) → AreParts w f → count_by is_ascii_digit (w ++ pointed f) ≡ length w + length f
parts_count w f p = sum_by-append (λ x. cond (is_ascii_digit x) 1 0) w (pointed f) ∙ (λ i. count_digits w p.whole i + count_pointed f p.fraction i)

plus_numeral : (bs : List ℕ) → is_positive bs ≡ true → get_or bs 0 0 ≢ 45 → 0 < length bs → is_numeral bs ≡ true
plus_numeral [] h ne some = absurd (omega arith)
plus_numeral (b ∷ bs) h ne some = rw (ne_eqb b 45 ne, h) (either_true (b == 48 && length bs == 0))

no_minus : (w f : List ℕ) → list_all is_ascii_digit w ≡ true → get_or (w ++ pointed f) 0 0 ≢ 45
no_minus [] [] h e = omega arith
no_minus [] (d ∷ ds) h e = omega arith
no_minus (c ∷ cs) f h e = omega (arith, digit_bounds c (and_parts (is_ascii_digit c) (list_all is_ascii_digit cs) h).0)

some_text : (w f : List ℕ) → 0 < length w + length f → 0 < length (w ++ pointed f)
some_text [] [] h = absurd (omega arith)
some_text [] (d ∷ ds) h = omega arith
some_text (c ∷ cs) f h = omega arith

pub plus_number : (w f : List ℕ) → AreParts w f → is_number (w ++ pointed f) ≡ true
plus_number w f p =
    let few : count_by is_ascii_digit (w ++ pointed f) ≤ 18 = omega (arith, parts_count w f p, p.few) in
    rw (plus_numeral (w ++ pointed f) (parts_positive w f p) (no_minus w f p.whole) (some_text w f p.some), le-leb (count_by is_ascii_digit (w ++ pointed f)) 18 few) refl

pub minus_number : (w f : List ℕ) → AreParts w f → is_number (45 ∷ (w ++ pointed f)) ≡ true
minus_number w f p =
    let few : count_by is_ascii_digit (w ++ pointed f) ≤ 18 = omega (arith, parts_count w f p, p.few) in
    let same : count_by is_ascii_digit (45 ∷ (w ++ pointed f)) ≡ count_by is_ascii_digit (w ++ pointed f) = refl in
    rw (parts_positive w f p, le-leb (count_by is_ascii_digit (w ++ pointed f)) 18 few) refl

-- and a numeral has such digits

kept_final : (d : ℕ) (ds more : List ℕ) → kept d more ≡ d ∷ ds → (more ≡ ds) × (0 < length ds ⊎ (d ≢ 48))
kept_final d ds [] e = elim (cases_Bool (d == 48)) [
  | inl z ↦ let n : [] ≡ d ∷ ds = rw z at e in cc
  | inr z ↦ let n : d ∷ [] ≡ d ∷ ds = rw z at e in ((cc), inr (eqb-false d 48 z))
]
kept_final d ds (x ∷ more) e = ((cc), inl (omega (arith, ap length e)))

pub significant_ends : (last : Last) (d : ℕ) (ds : List ℕ) → significant (d ∷ ds) ≡ d ∷ ds → may_end (final last (d ∷ ds)) ≡ true
significant_ends last d [] e = elim (kept_final d [] [] e).1 [
  | inl some ↦ absurd (omega arith)
  | inr ne ↦ ap may_end (other_last d ne)
]
significant_ends last d (c ∷ ds) e = significant_ends (last_of d) c ds (kept_final d (c ∷ ds) (significant (c ∷ ds)) e).0

all_ends : (f : List ℕ) → significant f ≡ f → 0 < length f → may_end (final Absent f) ≡ true
all_ends [] e some = absurd (omega arith)
all_ends (d ∷ ds) e some = significant_ends Absent d ds e

pub are_parts : (bs w f : List ℕ) → IsParts bs w f → AreParts w f
are_parts bs w f p = record {
  whole = ascii_digits w p.whole;
  lead = p.lead;
  fraction = ascii_digits f p.fraction;
  ends = all_ends f p.last;
  few = p.few;
  some = p.some;
}

-- the states behind the digits of a numeral

abbrev pub is_numeral_end : Numeral → Bool
is_numeral_end Empty = false
is_numeral_end Nought = true
is_numeral_end Minus = false
is_numeral_end (Whole n) = true
is_numeral_end (Fraction n last) = may_end last
is_numeral_end Unlike = false

unlike_stays : (s : List ℕ) → read_on Unlike s ≡ Unlike
unlike_stays [] = refl
unlike_stays (b ∷ bs) = unlike_stays bs

read_on-append : (n : Numeral) (a b : List ℕ) → read_on n (a ++ b) ≡ read_on (read_on n a) b
read_on-append n [] b = refl
read_on-append n (c ∷ a) b = read_on-append (numeral_read n c) a b

reads_fraction : (n : ℕ) (last : Last) (f : List ℕ) → list_all is_ascii_digit f ≡ true → n + length f ≤ 18 → read_on (Fraction n last) f ≡ Fraction (n + length f) (final last f)
reads_fraction n last [] all few = let e : n ≡ n + 0 = omega arith in ap (λ k. Fraction k last) e
reads_fraction n last (d ∷ ds) all few =
    let t = and_parts (is_ascii_digit d) (list_all is_ascii_digit ds) all in
    let e : n + 1 + length ds ≡ n + suc (length ds) = omega arith in
    rw (t.0, lt-ltb n 18 (omega arith)) (reads_fraction (n + 1) (last_of d) ds t.1 (omega arith) ∙ ap (λ k. Fraction k (final (last_of d) ds)) e)

reads_whole : (n : ℕ) (w : List ℕ) → list_all is_ascii_digit w ≡ true → n + length w ≤ 18 → read_on (Whole n) w ≡ Whole (n + length w)
reads_whole n [] all few = let e : n ≡ n + 0 = omega arith in ap Whole e
reads_whole n (d ∷ ds) all few =
    let t = and_parts (is_ascii_digit d) (list_all is_ascii_digit ds) all in
    let e : n + 1 + length ds ≡ n + suc (length ds) = omega arith in
    rw (ne_eqb d 46 (λ z. omega (arith, digit_bounds d t.0)), t.0, lt-ltb n 18 (omega arith)) (reads_whole (n + 1) ds t.1 (omega arith) ∙ ap Whole e)

reads_point : (n : ℕ) (f : List ℕ) → list_all is_ascii_digit f ≡ true → n + length f ≤ 18 → (0 < length f → may_end (final Absent f) ≡ true)
    → is_numeral_end (read_on (Whole n) (pointed f)) ≡ true
reads_point n [] all few ends = refl
reads_point n (d ∷ ds) all few ends = ap is_numeral_end (reads_fraction n Absent (d ∷ ds) all few) ∙ ends (omega arith)

first_digit : (d : ℕ) → d ≢ 48 → is_ascii_digit d ≡ true → first_read d ≡ Whole 1
first_digit d ne h =
    let b = digit_bounds d h in
    rw (ne_eqb d 46 (λ z. omega arith), le-leb 49 d (omega arith), le-leb d 57 b.1) refl

minus_reads : (w f : List ℕ) → AreParts w f → is_numeral_end (read_on Minus (w ++ pointed f)) ≡ true
minus_reads [] [] p = absurd (omega (arith, p.some))
minus_reads [] (d ∷ ds) p = ap is_numeral_end (reads_fraction 0 Absent (d ∷ ds) p.fraction (omega (arith, p.few))) ∙ p.ends (omega arith)
minus_reads (d ∷ ds) f p =
    let t = and_parts (is_ascii_digit d) (list_all is_ascii_digit ds) p.whole in
    ap (λ n. is_numeral_end (read_on n (ds ++ pointed f))) (first_digit d p.lead t.0)
    ∙ ap is_numeral_end (read_on-append (Whole 1) ds (pointed f) ∙ ap (λ n. read_on n (pointed f)) (reads_whole 1 ds t.1 (omega (arith, p.few))))
    ∙ reads_point (1 + length ds) f p.fraction (omega (arith, p.few)) p.ends

-- behind a byte that is neither 0 nor a minus sign the two first states are one
first_same : (b : ℕ) (bs : List ℕ) → b ≢ 48 → b ≢ 45 → read_on Empty (b ∷ bs) ≡ read_on Minus (b ∷ bs)
first_same b bs z m = rw (ne_eqb b 48 z, ne_eqb b 45 m) refl

lead_not_zero : (w f : List ℕ) → AreParts w f → get_or (w ++ pointed f) 0 0 ≢ 48
lead_not_zero [] [] p e = omega (arith, p.some)
lead_not_zero [] (d ∷ ds) p e = omega arith
lead_not_zero (c ∷ cs) f p e = p.lead e

plus_reads : (s : List ℕ) → 0 < length s → get_or s 0 0 ≢ 48 → get_or s 0 0 ≢ 45 → is_numeral_end (read_on Minus s) ≡ true → is_numeral_end (read_on Empty s) ≡ true
plus_reads [] some z m h = absurd (omega arith)
plus_reads (b ∷ bs) some z m h = ap is_numeral_end (first_same b bs z m) ∙ h

parts_read : (w f : List ℕ) → AreParts w f → is_numeral_end (read_on Empty (w ++ pointed f)) ≡ true
parts_read w f p = plus_reads (w ++ pointed f) (some_text w f p.some) (lead_not_zero w f p) (no_minus w f p.whole) (minus_reads w f p)

signed_reads : {s : List ℕ} → IsSigned s → is_numeral_end (read_on Empty s) ≡ true
signed_reads nought = refl
signed_reads (minus bs h few) =
    let p = positive_parts bs h few in
    ap (λ x. is_numeral_end (read_on Minus x)) p.2.text ∙ minus_reads p.0 p.1 (are_parts bs p.0 p.1 p.2)
signed_reads (plus b bs ne h few) =
    let p = positive_parts (b ∷ bs) h few in
    ap (λ x. is_numeral_end (read_on Empty x)) p.2.text ∙ parts_read p.0 p.1 (are_parts (b ∷ bs) p.0 p.1 p.2)

-- what was read to the end of a numeral

unlike_never : {X : Type 0} (s : List ℕ) → is_numeral_end (read_on Unlike s) ≡ true → X
unlike_never s h = false_true (sym (ap is_numeral_end (unlike_stays s)) ∙ h)

record IsFractionRead (n : ℕ) (last : Last) (f : List ℕ) : Type 0 where
  pub all : list_all is_ascii_digit f ≡ true
  pub few : n ≤ 18 → n + length f ≤ 18
  pub ends : may_end (final last f) ≡ true

fraction_more : (n d : ℕ) (last : Last) (ds : List ℕ) → is_ascii_digit d ≡ true → n < 18 → IsFractionRead (n + 1) (last_of d) ds → IsFractionRead n last (d ∷ ds)
fraction_more n d last ds digit room r = record { all = rw digit r.all; few = λ k. omega (arith, r.few (omega arith)); ends = r.ends }

fraction_back : (n : ℕ) (last : Last) (f : List ℕ) → is_numeral_end (read_on (Fraction n last) f) ≡ true → IsFractionRead n last f
fraction_back n last [] h = record { all = refl; few = λ k. omega arith; ends = h }
fraction_back n last (d ∷ ds) h = elim (cases_Bool (is_ascii_digit d && nat_lt n 18)) [
  | inl e ↦
      let t = and_parts (is_ascii_digit d) (nat_lt n 18) e in
      fraction_more n d last ds t.0 (ltb-true n 18 t.1) (fraction_back (n + 1) (last_of d) ds (rw e at h))
  | inr e ↦ unlike_never ds (rw e at h)
]

record IsWholeRead (n : ℕ) (s : List ℕ) : Type 0 where
  pub w : List ℕ
  pub f : List ℕ
  pub text : s ≡ w ++ pointed f
  pub whole : list_all is_ascii_digit w ≡ true
  pub fraction : list_all is_ascii_digit f ≡ true
  pub few : n ≤ 18 → n + length w + length f ≤ 18
  pub ends : 0 < length f → may_end (final Absent f) ≡ true

point_back : (n : ℕ) (s : List ℕ) → IsFractionRead n Absent s → IsWholeRead n (46 ∷ s)
point_back n [] r = false_true r.ends
point_back n (d ∷ ds) r = record {
  w = [];
  f = d ∷ ds;
  text = refl;
  whole = refl;
  fraction = r.all;
  few = λ k. omega (arith, r.few k);
  ends = λ some. r.ends;
}

whole_more : (n d : ℕ) (s : List ℕ) → is_ascii_digit d ≡ true → n < 18 → IsWholeRead (n + 1) s → IsWholeRead n (d ∷ s)
whole_more n d s digit room r = record {
  w = d ∷ r.w;
  f = r.f;
  text = ap (λ x. d ∷ x) r.text;
  whole = rw digit r.whole;
  fraction = r.fraction;
  few = λ k. omega (arith, r.few (omega arith));
  ends = r.ends;
}

whole_back : (n : ℕ) (s : List ℕ) → is_numeral_end (read_on (Whole n) s) ≡ true → IsWholeRead n s
whole_back n [] h = record { w = []; f = []; text = refl; whole = refl; fraction = refl; few = λ k. omega arith; ends = λ some. absurd (omega arith) }
whole_back n (b ∷ s) h = elim (cases_Bool (b == 46)) [
  | inl p ↦ subst (λ c. IsWholeRead n (c ∷ s)) (sym (eqb-true b 46 p)) (point_back n s (fraction_back n Absent s (rw p at h)))
  | inr p ↦ elim (cases_Bool (is_ascii_digit b && nat_lt n 18)) [
    | inl e ↦
        let t = and_parts (is_ascii_digit b) (nat_lt n 18) e in
        whole_more n b s t.0 (ltb-true n 18 t.1) (whole_back (n + 1) s (rw (p, e) at h))
    | inr e ↦ unlike_never s (rw (p, e) at h)
  ]
]

-- a number without its sign
pub record IsSignless (s : List ℕ) : Type 0 where
  pub w : List ℕ
  pub f : List ℕ
  pub text : s ≡ w ++ pointed f
  pub parts : AreParts w f

minus_point : (s : List ℕ) → IsFractionRead 0 Absent s → IsSignless (46 ∷ s)
minus_point [] r = false_true r.ends
minus_point (d ∷ ds) r = record {
  w = [];
  f = d ∷ ds;
  text = refl;
  parts = record { whole = refl; lead = λ e. omega arith; fraction = r.all; ends = λ some. r.ends; few = omega (arith, r.few (omega arith)); some = omega arith };
}

minus_first : (d : ℕ) (s : List ℕ) → 49 ≤ d → d ≤ 57 → IsWholeRead 1 s → IsSignless (d ∷ s)
minus_first d s low high r = record {
  w = d ∷ r.w;
  f = r.f;
  text = ap (λ x. d ∷ x) r.text;
  parts = record {
    whole = rw (is_digit d (omega arith) high) r.whole;
    lead = λ z. omega arith;
    fraction = r.fraction;
    ends = r.ends;
    few = omega (arith, r.few (omega arith));
    some = omega arith;
  };
}

minus_back : (s : List ℕ) → is_numeral_end (read_on Minus s) ≡ true → IsSignless s
minus_back [] h = false_true h
minus_back (b ∷ s) h = elim (cases_Bool (b == 46)) [
  | inl p ↦ subst (λ c. IsSignless (c ∷ s)) (sym (eqb-true b 46 p)) (minus_point s (fraction_back 0 Absent s (rw p at h)))
  | inr p ↦ elim (cases_Bool (nat_le 49 b && nat_le b 57)) [
    | inl e ↦
        let t = and_parts (nat_le 49 b) (nat_le b 57) e in
        minus_first b s (leb-true 49 b t.0) (leb-true b 57 t.1) (whole_back 1 s (rw (p, e) at h))
    | inr e ↦ unlike_never s (rw (p, e) at h)
  ]
]

nought_back : (s : List ℕ) → is_numeral_end (read_on Nought s) ≡ true → is_number (48 ∷ s) ≡ true
nought_back [] h = refl
nought_back (b ∷ bs) h = unlike_never bs h

plus_back : (s : List ℕ) → IsSignless s → is_number s ≡ true
plus_back s r = ap is_number r.text ∙ plus_number r.w r.f r.parts

negative_back : (s : List ℕ) → IsSignless s → is_number (45 ∷ s) ≡ true
negative_back s r = ap (λ x. is_number (45 ∷ x)) r.text ∙ minus_number r.w r.f r.parts

number_back : (s : List ℕ) → is_numeral_end (read_on Empty s) ≡ true → is_number s ≡ true
number_back [] h = false_true h
number_back (b ∷ bs) h = elim (cases_eq b 48) [
  | inl z ↦ subst (λ c. is_numeral_end (read_on Empty (c ∷ bs)) ≡ true → is_number (c ∷ bs) ≡ true) (sym z) (nought_back bs) h
  | inr z ↦ elim (cases_eq b 45) [
    | inl m ↦ subst (λ c. is_numeral_end (read_on Empty (c ∷ bs)) ≡ true → is_number (c ∷ bs) ≡ true) (sym m) (λ k. negative_back bs (minus_back bs k)) h
    | inr m ↦ plus_back (b ∷ bs) (minus_back (b ∷ bs) (ap is_numeral_end (sym (first_same b bs z m)) ∙ h))
  ]
]

number_read : (s : List ℕ) → is_number s ≡ is_numeral_end (read_on Empty s)
number_read s = same_test (is_number s) (is_numeral_end (read_on Empty s)) (λ h. signed_reads (numeral_signed s h)) (number_back s)

-- strings

abbrev has_begun : Numeral → Bool
has_begun Empty = false
has_begun Nought = true
has_begun Minus = true
has_begun (Whole n) = true
has_begun (Fraction n last) = true
has_begun Unlike = true

one_begun : (c : Bool) (m n : Numeral) → has_begun m ≡ true → has_begun n ≡ true → has_begun (cond c m n) ≡ true
one_begun true m n p q = p
one_begun false m n p q = q

first_begun : (b : ℕ) → has_begun (first_read b) ≡ true
first_begun b = one_begun (b == 46) (Fraction 0 Absent) _ refl (one_begun (nat_le 49 b && nat_le b 57) (Whole 1) Unlike refl refl)

read_begun : (n : Numeral) (b : ℕ) → has_begun (numeral_read n b) ≡ true
read_begun Empty b = one_begun (b == 48) Nought _ refl (one_begun (b == 45) Minus (first_read b) refl (first_begun b))
read_begun Nought b = refl
read_begun Minus b = first_begun b
read_begun (Whole n) b = one_begun (b == 46) (Fraction n Absent) _ refl (one_begun (is_ascii_digit b && nat_lt n 18) (Whole (n + 1)) Unlike refl refl)
read_begun (Fraction n last) b = one_begun (is_ascii_digit b && nat_lt n 18) (Fraction (n + 1) (last_of b)) Unlike refl refl
read_begun Unlike b = refl

all_begun : (n : Numeral) (s : List ℕ) → has_begun n ≡ true → has_begun (read_on n s) ≡ true
all_begun n [] h = h
all_begun n (b ∷ bs) h = all_begun (numeral_read n b) bs (read_begun n b)

string_is : (n : Numeral) → has_begun n ≡ true → is_string n ≡ not (is_numeral_end n)
string_is Empty h = false_true h
string_is Nought h = refl
string_is Minus h = refl
string_is (Whole n) h = refl
string_is (Fraction n last) h = refl
string_is Unlike h = refl

-- the states tell which bytes are a string subscript
pub string_read : (s : List ℕ) → is_sub (Text s) ≡ is_string (read_on Empty s)
string_read [] = refl
string_read (b ∷ bs) =
    rw (lt-ltb 0 (length (b ∷ bs)) (omega arith))
    (ap not (number_read (b ∷ bs)) ∙ sym (string_is (read_on Empty (b ∷ bs)) (all_begun (numeral_read Empty b) bs (read_begun Empty b))))
