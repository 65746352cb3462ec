-- In how many bytes a key can end from each place.
use Rattle.std.proofs.Common.{◌≡◌, ◌≢◌, ℕ, zero, suc, ◌+◌, ◌-◌, ◌<◌, ◌≤◌, ◌==◌, ◌&&◌, ◌||◌, Bool, true, not, nat_lt, nat_le, List, [], ◌∷◌, ◌++◌, length, map, replicate, inl, inr, refl, ap, sym, subst, ◌∙◌, arith}
use Rattle.std.specs.List.{list_all, flat_map}
use Rattle.std.specs.Char.{is_ascii_digit}
use Rattle.std.proofs.lemmas.List.{length-replicate, length-map}
use Rattle.std.proofs.Math.ListN.{length-append}
use Rattle.std.proofs.lemmas.Bool.{and_parts, or_cases, ne_eqb, eqb-true, eqb-false, not-true, ltb-true, leb-true, lt-ltb, le-leb, cases_eq}
use Rattle.global_defs.specs.Valid.{is_name}
use Rattle.global_defs.specs.Encoded.{escaped}
use Rattle.gvn_key.specs.Steps.{turned, end_byte, unstarted, is_string, fills, least, spare_fits, digits_fit, fits}
use Rattle.gvn_key.specs.Rests.{AreSubs, EndsName, EndsDigits, EndsNumber, EndsText, end_well, exponent_byte, read_on, Completes}
use Rattle.gvn_key.specs.declared.digits.Last.{Last}
use Rattle.gvn_key.specs.declared.digits.Last.TheVariants.{Absent, Zero, Other}
use Rattle.gvn_key.specs.declared.digits.Number.{Number}
use Rattle.gvn_key.specs.declared.numeral_front.Numeral.{Numeral}
use Rattle.gvn_key.specs.declared.place.Place.{Place}
use Rattle.gvn_key.specs.declared.place.Place.TheVariants.{Name, Boundary, Exponent, Digits, Text, Escape}
use Rattle.gvn_key.proofs.Numerals.{false_true, either_true}
use Rattle.gvn_key.proofs.NameSteps.{both_true}
use Rattle.gvn_key.proofs.TextSteps.{low, high, escaped_is}
use Rattle.gvn_key.proofs.Filling.{GoesOn, AreBytes, filled, subs_fill, no_subs, letters, letters_long, letters_escaped, letters_string, unlike_string, zero_read}

-- names

pub any_subs : (r : ℕ) → AreBytes 31 r
any_subs r = filled 31 r refl

name_goes : (n r : ℕ) → fits (Name n) r ≡ true → GoesOn (Name n) r
name_goes zero r h =
    let some = leb-true 2 r h in
    let b = any_subs (r - 2) in
    record {
      rest = 65 ∷ (0 ∷ b.bytes);
      completes = record { name = 65 ∷ []; behind = b.bytes; is = refl; valid = refl; short = omega arith; subs = b.subs };
      long = omega (arith, b.long);
    }
name_goes (suc n) r h =
    let f : nat_le 1 r ≡ true = rw (ne_eqb (suc n) 0 (λ e. omega arith)) at h in
    let some = leb-true 1 r f in
    let b = any_subs (r - 1) in
    record {
      rest = 0 ∷ b.bytes;
      completes = record { name = []; behind = b.bytes; is = refl; valid = refl; short = omega arith; subs = b.subs };
      long = omega (arith, b.long);
    }

some_name : (name : List ℕ) → is_name name ≡ true → 0 < length name
some_name [] h = false_true h
some_name (b ∷ bs) h = omega arith

name_fits : (n : ℕ) (w : List ℕ) → EndsName n w → fits (Name n) (length w) ≡ true
name_fits zero w r = le-leb 2 (length w) (omega (arith, ap length r.is, length-append r.name (0 ∷ r.behind), some_name r.name r.valid))
name_fits (suc n) w r =
    rw (ne_eqb (suc n) 0 (λ e. omega arith)) (le-leb 1 (length w) (omega (arith, ap length r.is, length-append r.name (0 ∷ r.behind))))

-- digits

ones : ℕ → List ℕ
ones n = replicate n 49

ones_digits : (n : ℕ) → list_all is_ascii_digit (ones n) ≡ true
unfolding ones
ones_digits zero = refl
ones_digits (suc n) = ones_digits n

ones_well : (n : ℕ) → end_well Other (ones n) ≡ true
unfolding ones
ones_well zero = refl
ones_well (suc n) = ones_well n

-- as many digits as are owed, and any more
owed_well : (last : Last) (n : ℕ) → end_well last (ones (least last + n)) ≡ true
unfolding ones
owed_well Absent n = let e : 1 + n ≡ suc n = omega arith in rw e (ones_well n)
owed_well Zero n = let e : 1 + n ≡ suc n = omega arith in rw e (ones_well n)
owed_well Other n = let e : 0 + n ≡ n = omega arith in rw e (ones_well n)

-- the digits, the end and the subscripts behind them
digits_of : (most : ℕ) (n : Number) (k : ℕ) (b : List ℕ) → AreSubs most b → least n.last + k ≤ n.room → EndsDigits most n (map (turned n.negative) (ones (least n.last + k)) ++ (end_byte n.negative ∷ b))
unfolding ones
digits_of most n k b s room = record {
  digits = ones (least n.last + k);
  behind = b;
  is = refl;
  all = ones_digits (least n.last + k);
  few = omega (arith, length-replicate {A = ℕ} (least n.last + k) 49);
  well = owed_well n.last k;
  subs = s;
}

digits_with : (most : ℕ) (n : Number) (k r : ℕ) → least n.last + k ≤ n.room → AreBytes most r → GoesOn (Digits most n) (least n.last + k + 1 + r)
unfolding ones
digits_with most n k r room b =
    let ds : List ℕ = ones (least n.last + k) in
    record {
      rest = map (turned n.negative) ds ++ (end_byte n.negative ∷ b.bytes);
      completes = digits_of most n k b.bytes b.subs room;
      long = omega (arith, length-append (map (turned n.negative) ds) (end_byte n.negative ∷ b.bytes), length-map ds (turned n.negative), length-replicate {A = ℕ} (least n.last + k) 49, b.long);
    }

-- how many of the bytes to spare are digits
record IsSpared (most room r : ℕ) : Type 0 where
  pub digits : ℕ
  pub within : digits ≤ room
  pub few : digits ≤ r
  pub fill : fills most (r - digits) ≡ true

spared : (most room r : ℕ) → spare_fits most room r ≡ true → IsSpared most room r
spared zero room r h = record { digits = r; within = leb-true r room h; few = omega arith; fill = let e : r - r ≡ 0 = omega arith in rw e refl }
spared (suc zero) room r h = elim (cases_eq r 2) [
  | inl e ↦
      let some = ltb-true 0 room (elim (or_cases (not (r == 2)) (nat_lt 0 room) h) [ inl n ↦ absurd (eqb-false r 2 (not-true (r == 2) n) e) | inr s ↦ s ]) in
      record { digits = 1; within = some; few = omega arith; fill = let k : r - 1 ≡ 1 = omega arith in rw k refl }
  | inr ne ↦ record { digits = 0; within = omega arith; few = omega arith; fill = let k : r - 0 ≡ r = omega arith in rw (k, ne_eqb r 2 ne) refl }
]
spared (suc (suc most)) room r h = record { digits = 0; within = omega arith; few = omega arith; fill = refl }

goes_long : (p : Place) (m n : ℕ) → m ≡ n → GoesOn p m → GoesOn p n
goes_long p m n e g = subst (GoesOn p) e g

digits_go : (most : ℕ) (n : Number) (r : ℕ) → digits_fit most n r ≡ true → GoesOn (Digits most n) r
digits_go most n r h =
    let a = and_parts (nat_le (least n.last) n.room && nat_lt (least n.last) r) (spare_fits most (n.room - least n.last) (r - least n.last - 1)) h in
    let b = and_parts (nat_le (least n.last) n.room) (nat_lt (least n.last) r) a.0 in
    let room = leb-true (least n.last) n.room b.0 in
    let some = ltb-true (least n.last) r b.1 in
    let s = spared most (n.room - least n.last) (r - least n.last - 1) a.1 in
    goes_long (Digits most n) (least n.last + s.digits + 1 + (r - least n.last - 1 - s.digits)) r (omega (arith, s.few))
    (digits_with most n s.digits (r - least n.last - 1 - s.digits) (omega (arith, s.within)) (filled most (r - least n.last - 1 - s.digits) s.fill))

owed : (last : Last) (ds : List ℕ) → end_well last ds ≡ true → least last ≤ length ds
owed Absent [] h = false_true h
owed Zero [] h = false_true h
owed Other [] h = omega arith
owed Absent (d ∷ ds) h = omega arith
owed Zero (d ∷ ds) h = omega arith
owed Other (d ∷ ds) h = omega arith

-- of the bytes to spare so many are digits, and the others fill
spare : (most room k r : ℕ) → k ≤ room → fills most r ≡ true → spare_fits most room (k + r) ≡ true
spare zero room k r h f = le-leb (k + r) room (omega (arith, eqb-true r 0 f))
spare (suc zero) room k r h f = elim (cases_eq (k + r) 2) [
  | inl e ↦ elim (cases_eq k 0) [
    | inl z ↦ absurd (eqb-false r 2 (not-true (r == 2) f) (omega arith))
    | inr s ↦ rw (lt-ltb 0 room (omega arith)) (either_true (not (k + r == 2)))
  ]
  | inr ne ↦ rw (ne_eqb (k + r) 2 ne) refl
]
spare (suc (suc most)) room k r h f = refl

digits_fitting : (most : ℕ) (n : Number) (k r m : ℕ) → least n.last ≤ k → k ≤ n.room → fills most m ≡ true → r ≡ k + suc m → digits_fit most n r ≡ true
digits_fitting most n k r m some few f e =
    let split : r - least n.last - 1 ≡ (k - least n.last) + m = omega arith in
    both_true (nat_le (least n.last) n.room && nat_lt (least n.last) r) (spare_fits most (n.room - least n.last) (r - least n.last - 1))
    (both_true (nat_le (least n.last) n.room) (nat_lt (least n.last) r) (le-leb (least n.last) n.room (omega arith)) (lt-ltb (least n.last) r (omega arith)))
    (ap (spare_fits most (n.room - least n.last)) split ∙ spare most (n.room - least n.last) (k - least n.last) m (omega arith) f)

digits_do_fit : (most : ℕ) (n : Number) (w : List ℕ) → EndsDigits most n w → digits_fit most n (length w) ≡ true
digits_do_fit most n w r =
    digits_fitting most n (length r.digits) (length w) (length r.behind) (owed n.last r.digits r.well) r.few (subs_fill most r.behind r.subs)
    (omega (arith, ap length r.is, length-append (map (turned n.negative) r.digits) (end_byte n.negative ∷ r.behind), length-map r.digits (turned n.negative)))

-- exponents

exponent_spares : (most q : ℕ) → (nat_lt 0 most || nat_le (3 + q) 20) ≡ true → spare_fits most 17 q ≡ true
exponent_spares zero q h = le-leb q 17 (omega (arith, leb-true (3 + q) 20 h))
exponent_spares (suc zero) q h = either_true (not (q == 2))
exponent_spares (suc (suc most)) q h = refl

number_goes : (most : ℕ) (negative : Bool) (r : ℕ) → GoesOn (Digits most (unstarted negative 36)) r → GoesOn (Exponent most negative) (suc r)
number_goes most negative r g = record {
  rest = exponent_byte negative 36 ∷ g.rest;
  completes = record { count = 36; rest = g.rest; is = refl; some = omega arith; few = omega arith; digits = g.completes };
  long = omega (arith, g.long);
}

exponent_goes : (most : ℕ) (negative : Bool) (r : ℕ) → fits (Exponent most negative) r ≡ true → GoesOn (Exponent most negative) r
exponent_goes most negative r h =
    let t = and_parts (nat_le 3 r) (nat_lt 0 most || nat_le r 20) h in
    let some = leb-true 3 r t.0 in
    let q : ℕ = r - 3 in
    let e : 3 + q ≡ r = omega arith in
    let s = exponent_spares most q (rw e t.1) in
    let d : digits_fit most (unstarted negative 36) (r - 1) ≡ true =
    let z : r - 1 - 1 - 1 ≡ q = omega arith in rw (lt-ltb 1 (r - 1) (omega arith), z) s in
    goes_long (Exponent most negative) (suc (r - 1)) r (omega arith) (number_goes most negative (r - 1) (digits_go most (unstarted negative 36) (r - 1) d))

none_behind : (most : ℕ) (w : List ℕ) → AreSubs most w → most ≡ 0 → length w ≡ 0
none_behind most w s e = eqb-true (length w) 0 (subst (λ m. fills m (length w) ≡ true) e (subs_fill most w s))

exponent_bound : (most r : ℕ) → 3 ≤ r → (most ≡ 0 → r ≤ 20) → (nat_le 3 r && (nat_lt 0 most || nat_le r 20)) ≡ true
exponent_bound zero r some few = rw (le-leb 3 r some, le-leb r 20 (few refl)) refl
exponent_bound (suc most) r some few = rw (le-leb 3 r some, lt-ltb 0 (suc most) (omega arith)) refl

exponent_fits : (most : ℕ) (negative : Bool) (w : List ℕ) → EndsNumber most negative w → fits (Exponent most negative) (length w) ≡ true
exponent_fits most negative w r =
    let d = r.digits in
    let k = owed Absent d.digits d.well in
    let long : length w ≡ suc (length d.digits + suc (length d.behind)) =
    omega (arith, ap length r.is, ap length d.is, length-append (map (turned negative) d.digits) (end_byte negative ∷ d.behind), length-map d.digits (turned negative)) in
    exponent_bound most (length w) (omega arith) (λ z. omega (arith, none_behind most d.behind d.subs z, d.few))

-- strings

text_with : (most : ℕ) (n : Numeral) (k : ℕ) → EndsText most n (65 ∷ (letters k ++ (0 ∷ [])))
text_with most n k = record { more = 65 ∷ letters k; behind = []; is = ap (λ x. 65 ∷ (x ++ (0 ∷ []))) (sym (letters_escaped k)); string = letters_string n k; subs = no_subs most }

long_text : (most : ℕ) (n : Numeral) (r : ℕ) → 2 ≤ r → GoesOn (Text most n) r
long_text most n r h = record { rest = 65 ∷ (letters (r - 2) ++ (0 ∷ [])); completes = text_with most n (r - 2); long = omega (arith, length-append (letters (r - 2)) (0 ∷ []), letters_long (r - 2)) }

text_goes : (most : ℕ) (n : Numeral) (r : ℕ) → fits (Text most n) r ≡ true → GoesOn (Text most n) r
text_goes most n r h = elim (or_cases (nat_le 2 r) (r == 1 && is_string n) h) [
  | inl l ↦ long_text most n r (leb-true 2 r l)
  | inr s ↦
      let t = and_parts (r == 1) (is_string n) s in
      record { rest = 0 ∷ []; completes = record { more = []; behind = []; is = refl; string = t.1; subs = no_subs most }; long = sym (eqb-true r 1 t.0) }
]

escape_goes : (most : ℕ) (n : Numeral) (r : ℕ) → fits (Escape most n) r ≡ true → GoesOn (Escape most n) r
escape_goes most n r h =
    let some = leb-true 2 r h in
    record {
      rest = 1 ∷ (letters (r - 2) ++ (0 ∷ []));
      completes = record {
        more = 0 ∷ letters (r - 2);
        behind = [];
        is = ap (λ x. 1 ∷ (1 ∷ (x ++ (0 ∷ [])))) (sym (letters_escaped (r - 2)));
        string = ap (λ m. is_string (read_on m (letters (r - 2)))) (zero_read n) ∙ unlike_string (r - 2);
        subs = no_subs most;
      };
      long = omega (arith, length-append (letters (r - 2)) (0 ∷ []), letters_long (r - 2));
    }

escaped_length : (c : ℕ) → 1 ≤ length (escaped c)
escaped_length c = elim (escaped_is c) [ low h e ↦ rw e (omega arith) | high h e ↦ rw e (omega arith) ]

long_fits : (most : ℕ) (n : Numeral) (r : ℕ) → 2 ≤ r → fits (Text most n) r ≡ true
long_fits most n r h = rw (le-leb 2 r h) refl

text_fitting : (most : ℕ) (n : Numeral) (w more behind : List ℕ) → w ≡ flat_map escaped more ++ (0 ∷ behind) → is_string (read_on n more) ≡ true → fits (Text most n) (length w) ≡ true
text_fitting most n w [] [] e s = subst (λ x. fits (Text most n) (length x) ≡ true) (sym e) s
text_fitting most n w [] (b ∷ bs) e s = long_fits most n (length w) (omega (arith, ap length e))
text_fitting most n w (c ∷ more) behind e s =
    long_fits most n (length w) (omega (arith, ap length e, length-append (escaped c ++ flat_map escaped more) (0 ∷ behind), length-append (escaped c) (flat_map escaped more), escaped_length c))

text_fits : (most : ℕ) (n : Numeral) (w : List ℕ) → EndsText most n w → fits (Text most n) (length w) ≡ true
text_fits most n w r = text_fitting most n w r.more r.behind r.is r.string

escape_low : (c : ℕ) (w rest : List ℕ) → 1 ∷ w ≡ 1 ∷ (suc c ∷ rest) → 1 ≤ length rest → 2 ≤ length w
escape_low c w rest e h = omega (arith, ap length e)

escape_other : (c : ℕ) (w rest : List ℕ) → c ≢ 1 → 1 ∷ w ≡ c ∷ rest → 2 ≤ length w
escape_other c w rest h e = let z : c ≡ 1 = cc in absurd (h z)

escape_fitting : (w more behind : List ℕ) → 1 ∷ w ≡ flat_map escaped more ++ (0 ∷ behind) → 2 ≤ length w
escape_fitting w [] behind e = escape_other 0 w behind (λ z. omega arith) e
escape_fitting w (c ∷ more) behind e = elim (escaped_is c) [
  | low h k ↦ escape_low c w (flat_map escaped more ++ (0 ∷ behind)) (e ∙ ap (λ x. (x ++ flat_map escaped more) ++ (0 ∷ behind)) k) (omega (arith, length-append (flat_map escaped more) (0 ∷ behind)))
  | high h k ↦ escape_other c w (flat_map escaped more ++ (0 ∷ behind)) (λ z. omega arith) (e ∙ ap (λ x. (x ++ flat_map escaped more) ++ (0 ∷ behind)) k)
]

escape_fits : (most : ℕ) (n : Numeral) (w : List ℕ) → EndsText most n (1 ∷ w) → fits (Escape most n) (length w) ≡ true
escape_fits most n w r = le-leb 2 (length w) (escape_fitting w r.more r.behind r.is)

-- each place

pub goes_on : (p : Place) (r : ℕ) → fits p r ≡ true → GoesOn p r
goes_on (Name n) r h = name_goes n r h
goes_on (Boundary subs) r h = let b = filled subs r h in record { rest = b.bytes; completes = b.subs; long = b.long }
goes_on (Exponent subs negative) r h = exponent_goes subs negative r h
goes_on (Digits subs number) r h = digits_go subs number r h
goes_on (Text subs numeral) r h = text_goes subs numeral r h
goes_on (Escape subs numeral) r h = escape_goes subs numeral r h

pub completed_fits : (p : Place) (w : List ℕ) → Completes p w → fits p (length w) ≡ true
completed_fits (Name n) w c = name_fits n w c
completed_fits (Boundary subs) w c = subs_fill subs w c
completed_fits (Exponent subs negative) w c = exponent_fits subs negative w c
completed_fits (Digits subs number) w c = digits_do_fit subs number w c
completed_fits (Text subs numeral) w c = text_fits subs numeral w c
completed_fits (Escape subs numeral) w c = escape_fits subs numeral w c
