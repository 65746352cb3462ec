-- A byte more of a number.
use Rattle.std.proofs.Common.{◌≡◌, ◌≢◌, ℕ, ◌-◌, ◌≤◌, ◌==◌, ◌&&◌, Bool, true, false, not, nat_lt, nat_le, List, [], ◌∷◌, ◌++◌, length, map, inl, inr, refl, ap, sym, subst, ◌∙◌, arith, eq-eqb}
use Rattle.std.specs.List.{list_all}
use Rattle.std.specs.Char.{is_ascii_digit}
use Rattle.std.proofs.lemmas.Bool.{and_parts, eqb-true, ltb-true, leb-true, lt-ltb, le-leb, cases_Bool}
use Rattle.global_defs.proofs.Digits.{digit_bounds}
use Rattle.gvn_key.specs.Steps.{turned, end_byte, unstarted, may_end, is_absent, last_of, count_of, takes_digit, with_digit, at_exponent, in_digits}
use Rattle.gvn_key.specs.Rests.{AreSubs, EndsDigits, EndsNumber, end_well, exponent_byte}
use Rattle.gvn_key.specs.declared.digits.Number.{Number}
use Rattle.gvn_key.specs.declared.place.Place.TheVariants.{Exponent, Digits}
use Rattle.gvn_key.proofs.NameSteps.{Follows, both_true, not_both}

eq_self : (b : ℕ) → (b == b) ≡ true
eq_self b = eq-eqb b b refl

-- the exponent

count_back : (negative : Bool) (count : ℕ) → 1 ≤ count → count ≤ 36 → count_of negative (exponent_byte negative count) ≡ count
count_back true count some few = omega arith
count_back false count some few = omega arith

byte_back : (negative : Bool) (b : ℕ) → 1 ≤ count_of negative b → b ≡ exponent_byte negative (count_of negative b)
byte_back true b some = omega arith
byte_back false b some = omega arith

digits_same : (most : ℕ) (negative : Bool) (m n : ℕ) (w : List ℕ) → m ≡ n → EndsDigits most (unstarted negative m) w → EndsDigits most (unstarted negative n) w
digits_same most negative m n w e r = subst (λ k. EndsDigits most (unstarted negative k) w) e r

data IsExponent (most : ℕ) (negative : Bool) (b : ℕ) (w : List ℕ) : Type 0 where
  exponent : 1 ≤ count_of negative b → count_of negative b ≤ 36 → EndsDigits most (unstarted negative (count_of negative b)) w → IsExponent most negative b w

exponent_first : (most : ℕ) (negative : Bool) (b : ℕ) (w : List ℕ) → EndsNumber most negative (b ∷ w) → IsExponent most negative b w
exponent_first most negative b w r =
    let is = r.is in
    let same : b ≡ exponent_byte negative r.count = cc in
    let rest : r.rest ≡ w = cc in
    let count : count_of negative b ≡ r.count = ap (count_of negative) same ∙ count_back negative r.count r.some r.few in
    exponent (omega (arith, r.some)) (omega (arith, r.few)) (digits_same most negative r.count (count_of negative b) w (sym count) (subst (EndsDigits most (unstarted negative r.count)) rest r.digits))

exponent_taken : (most : ℕ) (negative : Bool) (b : ℕ) (w : List ℕ) → 1 ≤ count_of negative b → count_of negative b ≤ 36
    → EndsDigits most (unstarted negative (count_of negative b)) w → EndsNumber most negative (b ∷ w)
exponent_taken most negative b w some few r = record {
  count = count_of negative b;
  rest = w;
  is = ap (λ x. x ∷ w) (byte_back negative b some);
  some = some;
  few = few;
  digits = r;
}

exponent_digits : (most : ℕ) (negative : Bool) (b : ℕ) (w : List ℕ) → IsExponent most negative b w → EndsDigits most (unstarted negative (count_of negative b)) w
exponent_digits most negative b w (exponent some few r) = r

exponent_none : (most : ℕ) (negative : Bool) (b : ℕ) (w : List ℕ) → (nat_le 1 (count_of negative b) && nat_le (count_of negative b) 36) ≡ false → IsExponent most negative b w → ⊥
exponent_none most negative b w p (exponent some few r) =
    not_both (nat_le 1 (count_of negative b) && nat_le (count_of negative b) 36) (both_true (nat_le 1 (count_of negative b)) (nat_le (count_of negative b) 36) (le-leb 1 (count_of negative b) some) (le-leb (count_of negative b) 36 few)) p

pub exponent_follows : (subs : ℕ) (negative : Bool) (b : ℕ) → Follows (Exponent subs negative) b (at_exponent subs negative b)
exponent_follows subs negative b = elim (cases_Bool (nat_le 1 (count_of negative b) && nat_le (count_of negative b) 36)) [
  | inl p ↦
      let t = and_parts (nat_le 1 (count_of negative b)) (nat_le (count_of negative b) 36) p in
      rw p (λ w. (
        (λ r. exponent_taken subs negative b w (leb-true 1 (count_of negative b) t.0) (leb-true (count_of negative b) 36 t.1) r),
        (λ r. exponent_digits subs negative b w (exponent_first subs negative b w r)),
      ))
  | inr p ↦ rw p (λ w r. exponent_none subs negative b w p (exponent_first subs negative b w r))
]

-- the digits

turned_back : (negative : Bool) (d : ℕ) → is_ascii_digit d ≡ true → turned negative (turned negative d) ≡ d
turned_back true d h = omega (arith, digit_bounds d h)
turned_back false d h = refl

byte_turned : (negative : Bool) (b : ℕ) → is_ascii_digit (turned negative b) ≡ true → b ≡ turned negative (turned negative b)
byte_turned true b h = omega (arith, digit_bounds (105 - b) h)
byte_turned false b h = refl

not_end : (negative : Bool) (d : ℕ) → is_ascii_digit d ≡ true → turned negative d ≢ end_byte negative
not_end true d h e = omega (arith, digit_bounds d h)
not_end false d h e = omega (arith, digit_bounds d h)

data IsDigitStep (most : ℕ) (n : Number) (b : ℕ) (w : List ℕ) : Type 0 where
  ends : b ≡ end_byte n.negative → may_end n.last ≡ true → AreSubs most w → IsDigitStep most n b w
  goes_on : takes_digit n (turned n.negative b) ≡ true → b ≢ end_byte n.negative → EndsDigits most (with_digit n (turned n.negative b)) w → IsDigitStep most n b w

next_digit : (most : ℕ) (n : Number) (b d : ℕ) (w : List ℕ) → d ≡ turned n.negative b → takes_digit n d ≡ true → b ≢ end_byte n.negative → EndsDigits most (with_digit n d) w → IsDigitStep most n b w
next_digit most n b d w e p z r = goes_on (subst (λ x. takes_digit n x ≡ true) e p) z (subst (λ x. EndsDigits most (with_digit n x) w) e r)

digit_step : (most : ℕ) (n : Number) (b : ℕ) (w ds behind : List ℕ) → b ∷ w ≡ map (turned n.negative) ds ++ (end_byte n.negative ∷ behind)
    → list_all is_ascii_digit ds ≡ true → length ds ≤ n.room → end_well n.last ds ≡ true → AreSubs most behind → IsDigitStep most n b w
digit_step most n b w [] behind e all few well subs =
    let t : behind ≡ w = cc in
    ends (cc) well (subst (AreSubs most) t subs)
digit_step most n b w (d ∷ ds) behind e all few well subs =
    let a = and_parts (is_ascii_digit d) (list_all is_ascii_digit ds) all in
    let c = and_parts (not (is_absent n.last && d == 48)) (end_well (last_of d) ds) well in
    let same : turned n.negative d ≡ b = cc in
    let rest : w ≡ map (turned n.negative) ds ++ (end_byte n.negative ∷ behind) = cc in
    let digit : d ≡ turned n.negative b = sym (turned_back n.negative d a.0) ∙ ap (turned n.negative) same in
    let takes : takes_digit n d ≡ true = both_true (is_ascii_digit d && nat_lt 0 n.room) (not (is_absent n.last && d == 48)) (both_true (is_ascii_digit d) (nat_lt 0 n.room) a.0 (lt-ltb 0 n.room (omega arith))) c.0 in
    next_digit most n b d w digit takes (λ z. not_end n.negative d a.0 (same ∙ z))
    (record { digits = ds; behind = behind; is = rest; all = a.1; few = omega arith; well = c.1; subs = subs })

digits_first : (most : ℕ) (n : Number) (b : ℕ) (w : List ℕ) → EndsDigits most n (b ∷ w) → IsDigitStep most n b w
digits_first most n b w r = digit_step most n b w r.digits r.behind r.is r.all r.few r.well r.subs

digits_ended : (most : ℕ) (n : Number) (b : ℕ) (w : List ℕ) → b ≡ end_byte n.negative → may_end n.last ≡ true → AreSubs most w → EndsDigits most n (b ∷ w)
digits_ended most n b w e p s = record { digits = []; behind = w; is = ap (λ x. x ∷ w) e; all = refl; few = omega arith; well = p; subs = s }

digit_more : (most : ℕ) (n : Number) (b : ℕ) (w : List ℕ) → takes_digit n (turned n.negative b) ≡ true → EndsDigits most (with_digit n (turned n.negative b)) w → EndsDigits most n (b ∷ w)
digit_more most n b w p r =
    let d : ℕ = turned n.negative b in
    let t = and_parts (is_ascii_digit d && nat_lt 0 n.room) (not (is_absent n.last && d == 48)) p in
    let s = and_parts (is_ascii_digit d) (nat_lt 0 n.room) t.0 in
    let room = ltb-true 0 n.room s.1 in
    record {
      digits = d ∷ r.digits;
      behind = r.behind;
      is = λ i. byte_turned n.negative b s.0 i ∷ r.is i;
      all = both_true (is_ascii_digit d) (list_all is_ascii_digit r.digits) s.0 r.all;
      few = omega (arith, r.few);
      well = both_true (not (is_absent n.last && d == 48)) (end_well (last_of d) r.digits) t.1 r.well;
      subs = r.subs;
    }

at_end : (most : ℕ) (n : Number) (b : ℕ) (w : List ℕ) → b ≡ end_byte n.negative → IsDigitStep most n b w → AreSubs most w
at_end most n b w z (ends e p s) = s
at_end most n b w z (goes_on p ne r) = absurd (ne z)

at_digit : (most : ℕ) (n : Number) (b : ℕ) (w : List ℕ) → (b == end_byte n.negative && may_end n.last) ≡ false → IsDigitStep most n b w → EndsDigits most (with_digit n (turned n.negative b)) w
at_digit most n b w q (ends e p s) = not_both (b == end_byte n.negative && may_end n.last) (both_true (b == end_byte n.negative) (may_end n.last) (subst (λ x. (b == x) ≡ true) e (eq_self b)) p) q
at_digit most n b w q (goes_on p ne r) = r

at_none : (most : ℕ) (n : Number) (b : ℕ) (w : List ℕ) → (b == end_byte n.negative && may_end n.last) ≡ false → takes_digit n (turned n.negative b) ≡ false → IsDigitStep most n b w → ⊥
at_none most n b w q k (ends e p s) = not_both (b == end_byte n.negative && may_end n.last) (both_true (b == end_byte n.negative) (may_end n.last) (subst (λ x. (b == x) ≡ true) e (eq_self b)) p) q
at_none most n b w q k (goes_on p ne r) = not_both (takes_digit n (turned n.negative b)) p k

pub digits_follow : (subs : ℕ) (n : Number) (b : ℕ) → Follows (Digits subs n) b (in_digits subs n b)
digits_follow subs n b = elim (cases_Bool (b == end_byte n.negative && may_end n.last)) [
  | inl p ↦
      let t = and_parts (b == end_byte n.negative) (may_end n.last) p in
      let z = eqb-true b (end_byte n.negative) t.0 in
      rw p (λ w. ((λ s. digits_ended subs n b w z t.1 s), (λ r. at_end subs n b w z (digits_first subs n b w r))))
  | inr p ↦ elim (cases_Bool (takes_digit n (turned n.negative b))) [
    | inl q ↦ rw (p, q) (λ w. ((λ r. digit_more subs n b w q r), (λ r. at_digit subs n b w p (digits_first subs n b w r))))
    | inr q ↦ rw (p, q) (λ w r. at_none subs n b w p q (digits_first subs n b w r))
  ]
]
