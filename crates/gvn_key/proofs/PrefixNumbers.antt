-- Which digits and exponents the encoded numbers have.
use Rattle.std.proofs.Common.{◌≡◌, ◌≢◌, ℕ, ℤ, pos, negsuc, zero, suc, ◌-ℤ◌, ◌^◌, ◌+◌, ◌-◌, ◌<◌, ◌≤◌, ◌==◌, ◌&&◌, true, false, not, List, [], ◌∷◌, ◌++◌, length, take, drop, replicate, get_or, inl, inr, refl, ap, sym, subst, ◌∙◌, arith, append_assoc}
use Rattle.std.specs.List.{list_all}
use Rattle.std.specs.Char.{is_ascii_digit}
use Rattle.std.specs.Str.Parse.{AllDigits, digits_value}
use Rattle.std.specs.Fmt.{decimal}
use Rattle.std.proofs.lemmas.List.{length-replicate, take-append-drop}
use Rattle.std.proofs.Math.ListN.{length-append, length-take}
use Rattle.std.proofs.Common.{length-drop}
use Rattle.std.proofs.lemmas.Bool.{and_parts, ne_eqb, eqb-false, not-true, cases_Bool, cases_eq, cases_lt}
use Rattle.global_defs.specs.Numeral.{is_number, all_digits, magnitude, value_of}
use Rattle.global_defs.specs.Encoded.{kept, significant}
use Rattle.global_defs.specs.NodeText.{pointed, number_text, magnitude_text}
use Rattle.global_defs.proofs.Digits.{are_digits, decimal_value, value_positive, significant_padded}
use Rattle.global_defs.proofs.Numerals.{IsParts, IsSigned, nought, minus, plus, numeral_signed, positive_parts, text_back, below_zero, zeros_digits, joined_digits}
use Rattle.global_defs.proofs.NumberText.{unsigned, number_small, decimal_is, decimal_short, padded_back, significant_digits}
use Rattle.global_defs.proofs.NumberValue.{value_text}
use Rattle.gvn_key.specs.Steps.{last_of, may_end, is_absent}
use Rattle.gvn_key.specs.Rests.{end_well}
use Rattle.gvn_key.specs.declared.digits.Last.{Last}
use Rattle.gvn_key.specs.declared.digits.Last.TheVariants.{Absent, Other}
use Rattle.gvn_key.proofs.Numerals.{AreParts, ascii_digits, false_true, zero_last, final, plus_number, minus_number}

-- the digits of an encoded number, and how many those of 10 ^ 18 times it are
pub record AreCoded (count : ℕ) (digits : List ℕ) : Type 0 where
  pub all : list_all is_ascii_digit digits ≡ true
  pub well : end_well Absent digits ≡ true
  pub few : length digits ≤ 18
  pub fits : length digits ≤ count
  pub most : count ≤ 36

pub some_digits : (ds : List ℕ) → end_well Absent ds ≡ true → 0 < length ds
some_digits [] h = false_true h
some_digits (d ∷ ds) h = omega arith

-- digits without the zeros at the end

kept_longer : (d : ℕ) (more : List ℕ) → (length more ≤ length (kept d more)) × (length (kept d more) ≤ 1 + length more)
kept_longer d [] = elim (cases_Bool (d == 48)) [ inl e ↦ rw e (omega arith, omega arith) | inr e ↦ rw e (omega arith, omega arith) ]
kept_longer d (e ∷ more) = (omega arith, omega arith)

zeros_before : (j : ℕ) (ds : List ℕ) → (length (significant ds) ≤ length (significant (replicate j 48 ++ ds))) × (length (significant (replicate j 48 ++ ds)) ≤ j + length (significant ds))
zeros_before zero ds = (omega arith, omega arith)
zeros_before (suc j) ds =
    let k = kept_longer 48 (significant (replicate j 48 ++ ds)) in
    let r = zeros_before j ds in
    (omega (arith, k.0, r.0), omega (arith, k.1, r.1))

kept_some : (d : ℕ) (more : List ℕ) → 0 < length more → kept d more ≡ d ∷ more
kept_some d [] h = absurd (omega arith)
kept_some d (e ∷ more) h = refl

kept_other : (d : ℕ) (more : List ℕ) → d ≢ 48 → kept d more ≡ d ∷ more
kept_other d [] h = rw (ne_eqb d 48 h) refl
kept_other d (e ∷ more) h = refl

joined_significant : (w p : List ℕ) → 0 < length (significant p) → significant (w ++ p) ≡ w ++ significant p
joined_significant [] p some = refl
joined_significant (d ∷ w) p some =
    let e = joined_significant w p some in
    ap (kept d) e ∙ kept_some d (w ++ significant p) (omega (arith, length-append w (significant p)))

not_absent : (d : ℕ) → is_absent (last_of d) ≡ false
not_absent d = elim (cases_Bool (d == 48)) [ inl e ↦ rw e refl | inr e ↦ rw e refl ]

-- behind a digit it doesn't matter which one it was
well_behind : (d e : ℕ) (ds : List ℕ) → end_well (last_of d) (e ∷ ds) ≡ end_well (last_of e) ds
well_behind d e ds = rw (not_absent d) refl

kept_well : (d : ℕ) (more : List ℕ) → end_well Other more ≡ true → end_well Other (kept d more) ≡ true
kept_well d [] h = elim (cases_Bool (d == 48)) [ inl e ↦ rw e refl | inr e ↦ rw e (rw e refl) ]
kept_well d (e ∷ more) h = well_behind d e more ∙ h

significant_well : (ds : List ℕ) → end_well Other (significant ds) ≡ true
significant_well [] = refl
significant_well (d ∷ ds) = kept_well d (significant ds) (significant_well ds)

well_significant : (last : Last) (ds : List ℕ) → end_well last ds ≡ true → significant ds ≡ ds
well_significant last [] h = refl
well_significant last (d ∷ []) h =
    kept_other d [] (zero_last d (and_parts (not (is_absent last && d == 48)) (may_end (last_of d)) h).1)
well_significant last (d ∷ e ∷ ds) h =
    ap (kept d) (well_significant (last_of d) (e ∷ ds) (and_parts (not (is_absent last && d == 48)) (end_well (last_of d) (e ∷ ds)) h).1)

-- the digits of an encoded number

record IsStripped (ds : List ℕ) : Type 0 where
  pub zeros : ℕ
  pub lead : ℕ
  pub more : List ℕ
  pub split : ds ≡ replicate zeros 48 ++ (lead ∷ more)
  pub decimal_is : decimal (digits_value 10 ds) ≡ lead ∷ more
  pub some : lead ≢ 48

stripped_more : (ds : List ℕ) → IsStripped ds → IsStripped (48 ∷ ds)
stripped_more ds r = record { zeros = suc r.zeros; lead = r.lead; more = r.more; split = ap (λ x. 48 ∷ x) r.split; decimal_is = r.decimal_is; some = r.some }

stripped_is : (ds : List ℕ) → AllDigits 10 ds → length ds ≤ 40 → 0 < digits_value 10 ds → IsStripped ds
stripped_is [] all few some = absurd (omega arith)
stripped_is (d ∷ ds) all few some = elim (cases_eq d 48) [
  | inl z ↦
      let more : 0 < digits_value 10 ds = subst (λ c. 0 < digits_value 10 (c ∷ ds)) z some in
      subst (λ c. IsStripped (c ∷ ds)) (sym z) (stripped_more ds (stripped_is ds all.1 (omega arith) more))
  | inr z ↦ record { zeros = 0; lead = d; more = ds; split = refl; decimal_is = decimal_value d ds z all (omega arith); some = z }
]

-- a number and its sign by the digits of a numeral
record HasParts (x : ℤ) : Type 0 where
  pub bs : List ℕ
  pub w : List ℕ
  pub f : List ℕ
  pub parts : IsParts bs w f
  pub value : unsigned x ≡ digits_value 10 (all_digits w f)

value_parts : (x : ℤ) (bs : List ℕ) → ((w : List ℕ) × (f : List ℕ) × IsParts bs w f) → unsigned x ≡ magnitude bs → HasParts x
value_parts x bs p v = record { bs = bs; w = p.0; f = p.1; parts = p.2; value = v ∙ ap (digits_value 10) p.2.digits }

minus_value : (x : ℤ) (m : ℕ) → pos 0 -ℤ pos m ≡ x → unsigned x ≡ m
minus_value x zero h = subst (λ y. unsigned y ≡ 0) h refl
minus_value x (suc n) h = subst (λ y. unsigned y ≡ suc n) (sym (below_zero n) ∙ h) refl

signed_parts : {s : List ℕ} → IsSigned s → (x : ℤ) → value_of s ≡ x → 0 < unsigned x → HasParts x
signed_parts nought x e some = let z : unsigned x ≡ 0 = ap unsigned (sym e) in absurd (omega arith)
signed_parts (minus bs h few) x e some = value_parts x bs (positive_parts bs h few) (minus_value x (magnitude bs) e)
signed_parts (plus b bs ne h few) x e some =
    let v : pos (magnitude (b ∷ bs)) ≡ value_of (b ∷ bs) = rw (ne_eqb b 45 ne) refl in
    value_parts x (b ∷ bs) (positive_parts (b ∷ bs) h few) (sym (ap unsigned (v ∙ e)))

significant_short : (ds : List ℕ) → length (significant ds) ≤ length ds
significant_short ds = (padded_back ds).fits

-- significant digits of a numeral are at most 18
few_significant : (w f : List ℕ) (n : ℕ) → length w + length f ≤ 18 → length (significant (w ++ (f ++ replicate n 48))) ≤ 18
few_significant w f n few =
    let e : significant (w ++ (f ++ replicate n 48)) ≡ significant (w ++ f) = ap significant (sym (append_assoc w f (replicate n 48))) ∙ significant_padded (w ++ f) n in
    omega (arith, ap length e, significant_short (w ++ f), length-append w f)

coded_from : (n : ℕ) (w f : List ℕ) → length w + length f ≤ 18 → n < 10 ^ 36 → n ≡ digits_value 10 (all_digits w f)
    → IsStripped (all_digits w f) → AreCoded (length (decimal n)) (significant (decimal n))
coded_from n w f few small v r =
    let d : decimal n ≡ r.lead ∷ r.more = ap decimal v ∙ r.decimal_is in
    let s : significant (decimal n) ≡ r.lead ∷ significant r.more = ap significant d ∙ kept_other r.lead (significant r.more) r.some in
    let longer = zeros_before r.zeros (r.lead ∷ r.more) in
    let all : AllDigits 10 (significant (decimal n)) = significant_digits (decimal n) (decimal_is n (omega arith)).digits in
    record {
      all = ascii_digits (significant (decimal n)) all;
      well = ap (end_well Absent) s ∙ rw (ne_eqb r.lead 48 r.some) (significant_well r.more);
      few = omega (arith, ap (λ x. length (significant x)) d, longer.0, ap (λ x. length (significant x)) r.split, few_significant w f (18 - length f) few);
      fits = significant_short (decimal n);
      most = decimal_short n small;
    }

parts_coded : (x : ℤ) → 0 < unsigned x → unsigned x < 10 ^ 36 → HasParts x → AreCoded (length (decimal (unsigned x))) (significant (decimal (unsigned x)))
parts_coded x some small p =
    let q = p.parts in
    let n : ℕ = 18 - length p.f in
    let all : AllDigits 10 (all_digits p.w p.f) = joined_digits p.w (p.f ++ replicate n 48) q.whole (joined_digits p.f (replicate n 48) q.fraction (zeros_digits n)) in
    let long : length (all_digits p.w p.f) ≤ 40 = omega (arith, length-append p.w (p.f ++ replicate n 48), length-append p.f (replicate n 48), length-replicate {A = ℕ} n 48, q.few) in
    coded_from (unsigned x) p.w p.f q.few small p.value (stripped_is (all_digits p.w p.f) all long (omega (arith, p.value)))

pub number_coded : (x : ℤ) → 0 < unsigned x → is_number (number_text x) ≡ true → AreCoded (length (decimal (unsigned x))) (significant (decimal (unsigned x)))
number_coded x some h =
    let small = number_small x h in
    parts_coded x some small (signed_parts (numeral_signed (number_text x) h) x (value_text x small) some)

-- and such digits are those of a number

pub record IsCodedNumber (count : ℕ) (digits : List ℕ) (n : ℕ) : Type 0 where
  pub long : length (decimal (suc n)) ≡ count
  pub digits_are : significant (decimal (suc n)) ≡ digits
  pub plus : is_number (number_text (pos (suc n))) ≡ true
  pub minus : is_number (number_text (negsuc n)) ≡ true

-- a number of which 10 ^ 18 times it has such a first digit and others
record IsText (n : ℕ) : Type 0 where
  pub w : List ℕ
  pub f : List ℕ
  pub text : magnitude_text n ≡ w ++ pointed f
  pub parts : AreParts w f

well_final : (last before : Last) (d : ℕ) (ds : List ℕ) → end_well last (d ∷ ds) ≡ true → may_end (final before (d ∷ ds)) ≡ true
well_final last before d [] h = (and_parts (not (is_absent last && d == 48)) (may_end (last_of d)) h).1
well_final last before d (e ∷ ds) h =
    well_final (last_of d) (last_of d) e ds (and_parts (not (is_absent last && d == 48)) (end_well (last_of d) (e ∷ ds)) h).1

some_final : (ds : List ℕ) → end_well Other ds ≡ true → 0 < length ds → may_end (final Absent ds) ≡ true
some_final [] h some = absurd (omega arith)
some_final (d ∷ ds) h some = well_final Other Absent d ds h

text_of : (w p : List ℕ) → AllDigits 10 w → AllDigits 10 p → get_or w 0 0 ≢ 48 → length p ≡ 18
    → length w + length (significant p) ≤ 18 → 0 < length w + length (significant p) → IsText (digits_value 10 (w ++ p))
text_of w p digits more lead long few some = record {
  w = w;
  f = significant p;
  text = text_back w p digits more lead (omega arith) long;
  parts = record {
    whole = ascii_digits w digits;
    lead = lead;
    fraction = ascii_digits (significant p) (significant_digits p more);
    ends = some_final (significant p) (significant_well p);
    few = few;
    some = some;
  };
}

zeros_value : (j : ℕ) (ds : List ℕ) → digits_value 10 (replicate j 48 ++ ds) ≡ digits_value 10 ds
zeros_value zero ds = refl
zeros_value (suc j) ds = zeros_value j ds

both_digits : (xs ys : List ℕ) → AllDigits 10 (xs ++ ys) → AllDigits 10 xs × AllDigits 10 ys
both_digits [] ys h = (tt, h)
both_digits (x ∷ xs) ys h = let t = both_digits xs ys h.1 in ((h.0, t.0), t.1)

take_lead : (m d : ℕ) (ds : List ℕ) → 0 < m → get_or (take m (d ∷ ds)) 0 0 ≡ d
take_lead zero d ds h = absurd (omega arith)
take_lead (suc m) d ds h = refl

-- the digits with zeros behind them, of a number with a whole part or without
record ArePadded (count : ℕ) (ds digits : List ℕ) : Type 0 where
  pub all : AllDigits 10 ds
  pub long : length ds ≡ count
  pub digits_are : significant ds ≡ digits
  pub few : length digits ≤ 18
  pub fits : length digits ≤ count
  pub most : count ≤ 36
  pub some : 0 < length digits

small_text : (count : ℕ) (ds digits : List ℕ) → ArePadded count ds digits → count ≤ 18 → IsText (digits_value 10 ds)
small_text count ds digits p small =
    let j : ℕ = 18 - count in
    let e : List ℕ = replicate j 48 ++ ds in
    let b = zeros_before j ds in
    let k = ap length p.digits_are in
    subst IsText (zeros_value j ds)
    (text_of [] e tt (joined_digits (replicate j 48) ds (zeros_digits j) p.all) (λ z. omega arith)
    (omega (arith, length-append (replicate j 48) ds, length-replicate {A = ℕ} j 48, p.long))
    (omega (arith, b.1, k, p.fits)) (omega (arith, b.0, k, p.some)))

split_few : (w p digits : List ℕ) → length w ≤ 18 → significant (w ++ p) ≡ digits → length digits ≤ 18 → length w + length (significant p) ≤ 18
split_few w p digits short same few = elim (cases_lt 0 (length (significant p))) [
  | inl some ↦ omega (arith, ap length (sym (joined_significant w p some) ∙ same), length-append w (significant p))
  | inr none ↦ omega arith
]

large_text : (count d : ℕ) (ds digits : List ℕ) → d ≢ 48 → ArePadded count (d ∷ ds) digits → 18 < count → IsText (digits_value 10 (d ∷ ds))
large_text count d ds digits lead p large =
    let m : ℕ = count - 18 in
    let whole : List ℕ = d ∷ ds in
    let join = take-append-drop m whole in
    let both = both_digits (take m whole) (drop m whole) (subst (AllDigits 10) (sym join) p.all) in
    let short : length (take m whole) ≡ m = omega (arith, length-take m whole, p.long) in
    let first : get_or (take m whole) 0 0 ≢ 48 = rw (take_lead m d ds (omega arith)) lead in
    subst (λ x. IsText (digits_value 10 x)) join
    (text_of (take m whole) (drop m whole) both.0 both.1 first (omega (arith, length-drop m whole, p.long))
    (split_few (take m whole) (drop m whole) digits (omega (arith, p.most)) (ap significant join ∙ p.digits_are) p.few) (omega arith))

number_from : (count : ℕ) (ds digits : List ℕ) → ArePadded count ds digits → (n : ℕ) → 0 < n → decimal n ≡ ds → IsText n → (m : ℕ) × IsCodedNumber count digits m
number_from count ds digits p zero some d t = absurd (omega arith)
number_from count ds digits p (suc m) some d t = (
  m,
  record {
    long = ap length d ∙ p.long;
    digits_are = ap significant d ∙ p.digits_are;
    plus = ap is_number t.text ∙ plus_number t.w t.f t.parts;
    minus = ap (λ s. is_number (45 ∷ s)) t.text ∙ minus_number t.w t.f t.parts;
  },
)

lead_from : (count d : ℕ) (ds digits : List ℕ) → d ≢ 48 → ArePadded count (d ∷ ds) digits → (m : ℕ) × IsCodedNumber count digits m
lead_from count d ds digits lead p =
    number_from count (d ∷ ds) digits p (digits_value 10 (d ∷ ds)) (value_positive d ds lead p.all) (decimal_value d ds lead p.all (omega (arith, p.long, p.most)))
    (elim (cases_lt 18 count) [ inl large ↦ large_text count d ds digits lead p large | inr small ↦ small_text count (d ∷ ds) digits p small ])

pub coded_number : (count : ℕ) (digits : List ℕ) → AreCoded count digits → (m : ℕ) × IsCodedNumber count digits m
coded_number count [] c = false_true c.well
coded_number count (d ∷ ds) c =
    let n : ℕ = count - length (d ∷ ds) in
    let lead : d ≢ 48 = eqb-false d 48 (not-true (d == 48) (and_parts (not (d == 48)) (end_well (last_of d) ds) c.well).0) in
    lead_from count d (ds ++ replicate n 48) (d ∷ ds) lead (record {
      all = joined_digits (d ∷ ds) (replicate n 48) (are_digits (d ∷ ds) c.all) (zeros_digits n);
      long = omega (arith, length-append ds (replicate n 48), length-replicate {A = ℕ} n 48, c.fits);
      digits_are = significant_padded (d ∷ ds) n ∙ well_significant Absent (d ∷ ds) c.well;
      few = c.few;
      fits = c.fits;
      most = c.most;
      some = omega arith;
    })
