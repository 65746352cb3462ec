-- The first byte of a subscript.
use Rattle.std.proofs.Common.{◌≡◌, ◌≢◌, ℕ, pos, negsuc, zero, suc, ◌+◌, ◌-◌, ◌≤◌, Bool, true, false, List, [], ◌∷◌, ◌++◌, length, map, inl, inr, refl, ap, sym, subst, ◌∙◌, arith, append_assoc}
use Rattle.std.specs.List.{list_all, flat_map}
use Rattle.std.specs.Fmt.{decimal}
use Rattle.std.proofs.lemmas.Bool.{and_parts, ne_eqb, cases_eq}
use Rattle.global_defs.specs.Key.{Sub, Number, Text}
use Rattle.global_defs.specs.Valid.{is_sub}
use Rattle.global_defs.specs.Encoded.{encoded_sub, escaped, significant}
use Rattle.gvn_key.specs.Steps.{turned, end_byte, unstarted, begun, at_boundary}
use Rattle.gvn_key.specs.Rests.{AreSubs, EndsDigits, EndsNumber, EndsText, exponent_byte}
use Rattle.gvn_key.specs.declared.numeral_front.Numeral.TheVariants.{Empty}
use Rattle.gvn_key.specs.declared.place.Place.TheVariants as places
use Rattle.gvn_key.proofs.Numerals.{string_read}
use Rattle.gvn_key.proofs.PrefixNumbers.{AreCoded, some_digits, number_coded, coded_number}
use Rattle.gvn_key.proofs.NameSteps.{Follows, both_true}

-- what a subscript begins with
data IsSubStep (most : ℕ) (b : ℕ) (w : List ℕ) : Type 0 where
  negative_sub : b ≡ 1 → EndsNumber most true w → IsSubStep most b w
  nought_sub : b ≡ 2 → AreSubs most w → IsSubStep most b w
  positive_sub : b ≡ 3 → EndsNumber most false w → IsSubStep most b w
  text_sub : b ≡ 4 → EndsText most Empty w → IsSubStep most b w

unturned : (ds : List ℕ) → map (turned false) ds ≡ ds
unturned [] = refl
unturned (d ∷ ds) = ap (λ x. d ∷ x) (unturned ds)

coded_ends : (most : ℕ) (negative : Bool) (count : ℕ) (ds w rest : List ℕ) → AreCoded count ds → w ≡ exponent_byte negative count ∷ (map (turned negative) ds ++ (end_byte negative ∷ rest))
    → AreSubs most rest → EndsNumber most negative w
coded_ends most negative count ds w rest c e subs =
    let some = some_digits ds c.well in
    record {
      count = count;
      rest = map (turned negative) ds ++ (end_byte negative ∷ rest);
      is = e;
      some = omega (arith, c.fits);
      few = c.most;
      digits = record { digits = ds; behind = rest; is = refl; all = c.all; few = omega (arith, c.few, c.fits); well = c.well; subs = subs };
    }

sub_step : (most b : ℕ) (w : List ℕ) (s : Sub) (rest : List ℕ) → b ∷ w ≡ encoded_sub s ++ rest → is_sub s ≡ true → AreSubs most rest → IsSubStep most b w
sub_step most b w (Number (pos zero)) rest e valid subs =
    let t : rest ≡ w = cc in
    nought_sub (cc) (subst (AreSubs most) t subs)
sub_step most b w (Number (pos (suc n))) rest e valid subs =
    let ds : List ℕ = significant (decimal (suc n)) in
    let c = number_coded (pos (suc n)) (omega arith) valid in
    let join : (ds ++ (0 ∷ [])) ++ rest ≡ map (turned false) ds ++ (0 ∷ rest) = append_assoc ds (0 ∷ []) rest ∙ ap (λ x. x ++ (0 ∷ rest)) (sym (unturned ds)) in
    let tail : w ≡ (46 + length (decimal (suc n))) ∷ ((ds ++ (0 ∷ [])) ++ rest) = cc in
    positive_sub (cc) (coded_ends most false (length (decimal (suc n))) ds w rest c (tail ∙ ap (λ x. (46 + length (decimal (suc n))) ∷ x) join) subs)
sub_step most b w (Number (negsuc n)) rest e valid subs =
    let ds : List ℕ = significant (decimal (suc n)) in
    let c = number_coded (negsuc n) (omega arith) valid in
    let join : (map (turned true) ds ++ (255 ∷ [])) ++ rest ≡ map (turned true) ds ++ (255 ∷ rest) = append_assoc (map (turned true) ds) (255 ∷ []) rest in
    let tail : w ≡ (209 - length (decimal (suc n))) ∷ ((map (turned true) ds ++ (255 ∷ [])) ++ rest) = cc in
    negative_sub (cc) (coded_ends most true (length (decimal (suc n))) ds w rest c (tail ∙ ap (λ x. (209 - length (decimal (suc n))) ∷ x) join) subs)
sub_step most b w (Text s) rest e valid subs =
    let tail : w ≡ (flat_map escaped s ++ (0 ∷ [])) ++ rest = cc in
    text_sub (cc) (record { more = s; behind = rest; is = tail ∙ append_assoc (flat_map escaped s) (0 ∷ []) rest; string = sym (string_read s) ∙ valid; subs = subs })

subs_step : (most b : ℕ) (w : List ℕ) (subs : List Sub) → list_all is_sub subs ≡ true → length subs ≤ suc most → flat_map encoded_sub subs ≡ b ∷ w → IsSubStep most b w
subs_step most b w [] valid few e = cc
subs_step most b w (s ∷ ss) valid few e =
    let t = and_parts (is_sub s) (list_all is_sub ss) valid in
    sub_step most b w s (flat_map encoded_sub ss) (sym e) t.0 (record { subs = ss; valid = t.1; few = omega arith; encode = refl })

subs_first : (most b : ℕ) (w : List ℕ) → AreSubs (suc most) (b ∷ w) → IsSubStep most b w
subs_first most b w r = subs_step most b w r.subs r.valid r.few r.encode

no_subs : (b : ℕ) (w : List ℕ) (subs : List Sub) → length subs ≤ 0 → flat_map encoded_sub subs ≡ b ∷ w → ⊥
no_subs b w [] few e = cc
no_subs b w (s ∷ ss) few e = omega arith

-- a subscript before others
one_more : (most : ℕ) (s : Sub) (w rest : List ℕ) → is_sub s ≡ true → encoded_sub s ++ rest ≡ w → AreSubs most rest → AreSubs (suc most) w
one_more most s w rest valid e r = record {
  subs = s ∷ r.subs;
  valid = both_true (is_sub s) (list_all is_sub r.subs) valid r.valid;
  few = omega (arith, r.few);
  encode = ap (λ x. encoded_sub s ++ x) r.encode ∙ e;
}

nought_more : (most : ℕ) (w : List ℕ) → AreSubs most w → AreSubs (suc most) (2 ∷ w)
nought_more most w r = one_more most (Number (pos 0)) (2 ∷ w) w refl refl r

text_more : (most : ℕ) (w : List ℕ) → EndsText most Empty w → AreSubs (suc most) (4 ∷ w)
text_more most w r =
    one_more most (Text r.more) (4 ∷ w) r.behind (string_read r.more ∙ r.string) (ap (λ x. 4 ∷ x) (append_assoc (flat_map escaped r.more) (0 ∷ []) r.behind ∙ sym r.is)) r.subs

positive_more : (most : ℕ) (w : List ℕ) (count : ℕ) (ds rest : List ℕ) → AreCoded count ds → w ≡ (46 + count) ∷ (map (turned false) ds ++ (0 ∷ rest)) → AreSubs most rest → AreSubs (suc most) (3 ∷ w)
positive_more most w count ds rest c e r =
    let n = coded_number count ds c in
    let k = n.1 in
    let join : (ds ++ (0 ∷ [])) ++ rest ≡ map (turned false) ds ++ (0 ∷ rest) = append_assoc ds (0 ∷ []) rest ∙ ap (λ x. x ++ (0 ∷ rest)) (sym (unturned ds)) in
    one_more most (Number (pos (suc n.0))) (3 ∷ w) rest k.plus
    ((λ i. 3 ∷ ((46 + k.long i) ∷ ((k.digits_are i ++ (0 ∷ [])) ++ rest))) ∙ ap (λ x. 3 ∷ ((46 + count) ∷ x)) join ∙ ap (λ x. 3 ∷ x) (sym e)) r

negative_more : (most : ℕ) (w : List ℕ) (count : ℕ) (ds rest : List ℕ) → AreCoded count ds → w ≡ (209 - count) ∷ (map (turned true) ds ++ (255 ∷ rest)) → AreSubs most rest → AreSubs (suc most) (1 ∷ w)
negative_more most w count ds rest c e r =
    let n = coded_number count ds c in
    let k = n.1 in
    let join : (map (turned true) ds ++ (255 ∷ [])) ++ rest ≡ map (turned true) ds ++ (255 ∷ rest) = append_assoc (map (turned true) ds) (255 ∷ []) rest in
    one_more most (Number (negsuc n.0)) (1 ∷ w) rest k.minus
    ((λ i. 1 ∷ ((209 - k.long i) ∷ ((map (turned true) (k.digits_are i) ++ (255 ∷ [])) ++ rest))) ∙ ap (λ x. 1 ∷ ((209 - count) ∷ x)) join ∙ ap (λ x. 1 ∷ x) (sym e)) r

-- the digits of a number behind its exponent
are_coded : (most : ℕ) (negative : Bool) (count : ℕ) (w : List ℕ) → count ≤ 36 → (d : EndsDigits most (unstarted negative count) w) → AreCoded count d.digits
are_coded most negative count w h d = record { all = d.all; well = d.well; few = omega (arith, d.few); fits = omega (arith, d.few); most = h }

number_is : (most : ℕ) (negative : Bool) (w : List ℕ) → (r : EndsNumber most negative w) → w ≡ exponent_byte negative r.count ∷ (map (turned negative) r.digits.digits ++ (end_byte negative ∷ r.digits.behind))
number_is most negative w r = r.is ∙ ap (λ x. exponent_byte negative r.count ∷ x) r.digits.is

plus_number : (most : ℕ) (w : List ℕ) → EndsNumber most false w → AreSubs (suc most) (3 ∷ w)
plus_number most w r = positive_more most w r.count r.digits.digits r.digits.behind (are_coded most false r.count r.rest r.few r.digits) (number_is most false w r) r.digits.subs

minus_number : (most : ℕ) (w : List ℕ) → EndsNumber most true w → AreSubs (suc most) (1 ∷ w)
minus_number most w r = negative_more most w r.count r.digits.digits r.digits.behind (are_coded most true r.count r.rest r.few r.digits) (number_is most true w r) r.digits.subs

-- which byte leads where

at_one : (most : ℕ) (w : List ℕ) → IsSubStep most 1 w → EndsNumber most true w
at_one most w (negative_sub e r) = r
at_one most w (nought_sub e r) = absurd (omega arith)
at_one most w (positive_sub e r) = absurd (omega arith)
at_one most w (text_sub e r) = absurd (omega arith)

at_two : (most : ℕ) (w : List ℕ) → IsSubStep most 2 w → AreSubs most w
at_two most w (negative_sub e r) = absurd (omega arith)
at_two most w (nought_sub e r) = r
at_two most w (positive_sub e r) = absurd (omega arith)
at_two most w (text_sub e r) = absurd (omega arith)

at_three : (most : ℕ) (w : List ℕ) → IsSubStep most 3 w → EndsNumber most false w
at_three most w (negative_sub e r) = absurd (omega arith)
at_three most w (nought_sub e r) = absurd (omega arith)
at_three most w (positive_sub e r) = r
at_three most w (text_sub e r) = absurd (omega arith)

at_four : (most : ℕ) (w : List ℕ) → IsSubStep most 4 w → EndsText most Empty w
at_four most w (negative_sub e r) = absurd (omega arith)
at_four most w (nought_sub e r) = absurd (omega arith)
at_four most w (positive_sub e r) = absurd (omega arith)
at_four most w (text_sub e r) = r

at_other : (most b : ℕ) (w : List ℕ) → b ≢ 1 → b ≢ 2 → b ≢ 3 → b ≢ 4 → IsSubStep most b w → ⊥
at_other most b w one two three four (negative_sub e r) = one e
at_other most b w one two three four (nought_sub e r) = two e
at_other most b w one two three four (positive_sub e r) = three e
at_other most b w one two three four (text_sub e r) = four e

one_follows : (most : ℕ) → Follows (places.Boundary (suc most)) 1 (begun most 1)
one_follows most w = ((λ r. minus_number most w r), (λ r. at_one most w (subs_first most 1 w r)))

two_follows : (most : ℕ) → Follows (places.Boundary (suc most)) 2 (begun most 2)
two_follows most w = ((λ r. nought_more most w r), (λ r. at_two most w (subs_first most 2 w r)))

three_follows : (most : ℕ) → Follows (places.Boundary (suc most)) 3 (begun most 3)
three_follows most w = ((λ r. plus_number most w r), (λ r. at_three most w (subs_first most 3 w r)))

four_follows : (most : ℕ) → Follows (places.Boundary (suc most)) 4 (begun most 4)
four_follows most w = ((λ r. text_more most w r), (λ r. at_four most w (subs_first most 4 w r)))

begun_at : (most b c : ℕ) → b ≡ c → Follows (places.Boundary (suc most)) c (begun most c) → Follows (places.Boundary (suc most)) b (begun most b)
begun_at most b c e f = subst (λ x. Follows (places.Boundary (suc most)) x (begun most x)) (sym e) f

begun_none : (most b : ℕ) → b ≢ 1 → b ≢ 2 → b ≢ 3 → b ≢ 4 → Follows (places.Boundary (suc most)) b (begun most b)
begun_none most b one two three four =
    rw (ne_eqb b 1 one, ne_eqb b 2 two, ne_eqb b 3 three, ne_eqb b 4 four) (λ w r. at_other most b w one two three four (subs_first most b w r))

begun_follows : (most b : ℕ) → Follows (places.Boundary (suc most)) b (begun most b)
begun_follows most b = elim (cases_eq b 1) [
  | inl e ↦ begun_at most b 1 e (one_follows most)
  | inr one ↦ elim (cases_eq b 2) [
    | inl e ↦ begun_at most b 2 e (two_follows most)
    | inr two ↦ elim (cases_eq b 3) [
      | inl e ↦ begun_at most b 3 e (three_follows most)
      | inr three ↦ elim (cases_eq b 4) [ inl e ↦ begun_at most b 4 e (four_follows most) | inr four ↦ begun_none most b one two three four ]
    ]
  ]
]

pub boundary_follows : (subs b : ℕ) → Follows (places.Boundary subs) b (at_boundary subs b)
boundary_follows zero b = λ w r. no_subs b w r.subs r.few r.encode
boundary_follows (suc most) b = begun_follows most b
