-- How many bytes subscripts can have.
use Rattle.std.proofs.Common.{◌≡◌, ◌≢◌, ℕ, pos, negsuc, zero, suc, ◌-◌, ◌<◌, ◌≤◌, ◌==◌, true, not, nat_lt, List, [], ◌∷◌, ◌++◌, length, map, replicate, inl, inr, refl, ap, sym, subst, ◌∙◌, arith}
use Rattle.std.specs.List.{list_all, flat_map}
use Rattle.std.specs.Fmt.{decimal}
use Rattle.std.proofs.lemmas.List.{length-replicate, length-map, append-nil}
use Rattle.std.proofs.Math.ListN.{length-append}
use Rattle.std.proofs.lemmas.Bool.{and_parts, ne_eqb, eqb-true, eqb-false, not-true, ltb-true, cases_Bool, cases_eq}
use Rattle.global_defs.specs.Key.{Sub, Number, Text}
use Rattle.global_defs.specs.Valid.{is_sub}
use Rattle.global_defs.specs.Numeral.{is_number}
use Rattle.global_defs.specs.Encoded.{encoded_sub, escaped, significant}
use Rattle.gvn_key.specs.Steps.{is_string, numeral_read, fills}
use Rattle.gvn_key.specs.Rests.{AreSubs, read_on, Completes}
use Rattle.gvn_key.specs.declared.numeral_front.Numeral.{Numeral}
use Rattle.gvn_key.specs.declared.numeral_front.Numeral.TheVariants.{Empty, Nought, Minus, Whole, Fraction, Unlike}
use Rattle.gvn_key.specs.declared.place.Place.{Place}
use Rattle.gvn_key.proofs.Numerals.{string_read}
use Rattle.gvn_key.proofs.PrefixNumbers.{number_coded, some_digits}
use Rattle.gvn_key.proofs.NameSteps.{both_true}

-- so many bytes complete a place
pub record GoesOn (p : Place) (r : ℕ) : Type 0 where
  pub rest : List ℕ
  pub completes : Completes p rest
  pub long : length rest ≡ r

-- letters are no numeral

pub letter_read : (n : Numeral) → numeral_read n 65 ≡ Unlike
letter_read Empty = refl
letter_read Nought = refl
letter_read Minus = refl
letter_read (Whole n) = refl
letter_read (Fraction n last) = refl
letter_read Unlike = refl

pub zero_read : (n : Numeral) → numeral_read n 0 ≡ Unlike
zero_read Empty = refl
zero_read Nought = refl
zero_read Minus = refl
zero_read (Whole n) = refl
zero_read (Fraction n last) = refl
zero_read Unlike = refl

pub letters : ℕ → List ℕ
letters n = replicate n 65

pub letters_long : (n : ℕ) → length (letters n) ≡ n
unfolding letters
letters_long n = length-replicate {A = ℕ} n 65

letters_unlike : (n : ℕ) → read_on Unlike (letters n) ≡ Unlike
unfolding letters
letters_unlike zero = refl
letters_unlike (suc n) = letters_unlike n

pub letters_escaped : (n : ℕ) → flat_map escaped (letters n) ≡ letters n
unfolding letters
letters_escaped zero = refl
letters_escaped (suc n) = ap (λ x. 65 ∷ x) (letters_escaped n)

-- a string that has begun otherwise than a numeral, with any letters behind
pub unlike_string : (n : ℕ) → is_string (read_on Unlike (letters n)) ≡ true
unlike_string n = ap is_string (letters_unlike n)

pub letters_string : (n : Numeral) (k : ℕ) → is_string (read_on n (65 ∷ letters k)) ≡ true
letters_string n k = ap (λ m. is_string (read_on m (letters k))) (letter_read n) ∙ unlike_string k

-- subscripts of so many bytes

pub no_subs : (most : ℕ) → AreSubs most []
no_subs most = record { subs = []; valid = refl; few = omega arith; encode = refl }

one_byte : (most : ℕ) → AreSubs (suc most) (2 ∷ [])
one_byte most = record { subs = Number (pos 0) ∷ []; valid = refl; few = omega arith; encode = refl }

two_bytes : (most : ℕ) → AreSubs (suc (suc most)) (2 ∷ 2 ∷ [])
two_bytes most = record { subs = Number (pos 0) ∷ Number (pos 0) ∷ []; valid = refl; few = omega arith; encode = refl }

string_sub : (k : ℕ) → is_sub (Text (65 ∷ letters k)) ≡ true
string_sub k = string_read (65 ∷ letters k) ∙ letters_string Empty k

more_bytes : (most k : ℕ) → AreSubs (suc most) (4 ∷ (65 ∷ (letters k ++ (0 ∷ []))))
more_bytes most k = record {
  subs = Text (65 ∷ letters k) ∷ [];
  valid = both_true (is_sub (Text (65 ∷ letters k))) true (string_sub k) refl;
  few = omega arith;
  encode = append-nil (4 ∷ (65 ∷ (flat_map escaped (letters k) ++ (0 ∷ [])))) ∙ ap (λ x. 4 ∷ (65 ∷ (x ++ (0 ∷ [])))) (letters_escaped k);
}

pub record AreBytes (most r : ℕ) : Type 0 where
  pub bytes : List ℕ
  pub subs : AreSubs most bytes
  pub long : length bytes ≡ r

string_bytes : (most r : ℕ) → 3 ≤ r → AreBytes (suc most) r
string_bytes most r h = record { bytes = 4 ∷ (65 ∷ (letters (r - 3) ++ (0 ∷ []))); subs = more_bytes most (r - 3); long = omega (arith, length-append (letters (r - 3)) (0 ∷ []), letters_long (r - 3)) }

-- none, one, or three and more
not_two : (most r : ℕ) → r ≢ 2 → AreBytes (suc most) r
not_two most r h = elim (cases_eq r 0) [
  | inl e ↦ record { bytes = []; subs = no_subs (suc most); long = omega arith }
  | inr n ↦ elim (cases_eq r 1) [
    | inl e ↦ record { bytes = 2 ∷ []; subs = one_byte most; long = omega arith }
    | inr m ↦ string_bytes most r (omega arith)
  ]
]

any_bytes : (most r : ℕ) → AreBytes (suc (suc most)) r
any_bytes most r = elim (cases_eq r 2) [
  | inl e ↦ record { bytes = 2 ∷ 2 ∷ []; subs = two_bytes most; long = omega arith }
  | inr n ↦ not_two (suc most) r n
]

pub filled : (most r : ℕ) → fills most r ≡ true → AreBytes most r
filled zero r h = record { bytes = []; subs = no_subs 0; long = sym (eqb-true r 0 h) }
filled (suc zero) r h = not_two 0 r (eqb-false r 2 (not-true (r == 2) h))
filled (suc (suc most)) r h = any_bytes most r

-- and no others

escaped_some : (s : List ℕ) → 0 < length s → 0 < length (flat_map escaped s)
escaped_some [] h = absurd (omega arith)
escaped_some (zero ∷ s) h = omega arith
escaped_some (suc b ∷ s) h = elim (cases_Bool (b == 0)) [ inl e ↦ rw e (omega arith) | inr e ↦ rw e (omega arith) ]

sub_bytes : (s : Sub) → is_sub s ≡ true → length (encoded_sub s) ≢ 2
sub_bytes (Number (pos zero)) h e = omega arith
sub_bytes (Number (pos (suc n))) h e =
    let some = some_digits (significant (decimal (suc n))) (number_coded (pos (suc n)) (omega arith) h).well in
    omega (arith, length-append (significant (decimal (suc n))) (0 ∷ []))
sub_bytes (Number (negsuc n)) h e =
    let some = some_digits (significant (decimal (suc n))) (number_coded (negsuc n) (omega arith) h).well in
    omega (arith, length-append (map (λ d. 105 - d) (significant (decimal (suc n)))) (255 ∷ []), length-map (significant (decimal (suc n))) (λ d. 105 - d))
sub_bytes (Text s) h e =
    let some = ltb-true 0 (length s) (and_parts (nat_lt 0 (length s)) (not (is_number s)) h).0 in
    omega (arith, length-append (flat_map escaped s) (0 ∷ []), escaped_some s some)

none_fill : (subs : List Sub) (w : List ℕ) → length subs ≤ 0 → flat_map encoded_sub subs ≡ w → fills 0 (length w) ≡ true
none_fill [] w few e = subst (λ x. fills 0 (length x) ≡ true) e refl
none_fill (s ∷ ss) w few e = absurd (omega arith)

one_fills : (subs : List Sub) (w : List ℕ) → list_all is_sub subs ≡ true → length subs ≤ 1 → flat_map encoded_sub subs ≡ w → fills 1 (length w) ≡ true
one_fills [] w valid few e = subst (λ x. fills 1 (length x) ≡ true) e refl
one_fills (s ∷ []) w valid few e =
    let t = and_parts (is_sub s) true valid in
    let ne : length w ≢ 2 = λ z. sub_bytes s t.0 (ap length (sym (append-nil (encoded_sub s)) ∙ e) ∙ z) in
    rw (ne_eqb (length w) 2 ne) refl
one_fills (s ∷ u ∷ ss) w valid few e = absurd (omega arith)

pub subs_fill : (most : ℕ) (w : List ℕ) → AreSubs most w → fills most (length w) ≡ true
subs_fill zero w r = none_fill r.subs w r.few r.encode
subs_fill (suc zero) w r = one_fills r.subs w r.valid r.few r.encode
subs_fill (suc (suc most)) w r = refl
