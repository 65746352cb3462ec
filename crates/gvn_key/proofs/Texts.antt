-- The text of a subscript, and others in its place.
use Rattle.std.proofs.Common.{◌≡◌, ℕ, zero, suc, pos, ◌+◌, ◌-◌, ◌<◌, ◌≤◌, true, false, not, nat_lt, List, [], ◌∷◌, ◌++◌, length, take, get_or, position, Some, refl, ap, sym, ◌∙◌, arith, ◌==◌, slice_index}
use Rattle.std.specs.List.{AllByRecursion, list_all}
use Rattle.std.specs.Char.{is_ascii_digit}
use Rattle.std.proofs.lemmas.Bool.{and_parts, ne_eqb, ltb-false, le-ltb, not-true}
use Rattle.std.proofs.Math.ListN.{length-take}
use Rattle.std.proofs.Math.Seq.{take-suc}
use Rattle.global_defs.specs.Key.{Number, Text}
use Rattle.global_defs.proofs.Digits.{digit_bounds}
use Rattle.global_defs.proofs.Places.{none_pass}
use Rattle.gvn_key.proofs.Numerals.{is_digit}
use Rattle.gvn_key.specs.Plain.{HasText, MayStand, IsSubCode, begins_numeral, is_whole_number}
use Rattle.gvn_key.proofs.Splits.{split, all_pass}
use Rattle.gvn_key.proofs.Spelled.{AreBytes, taken_bytes}
use Rattle.gvn_key.proofs.CodeNumbers.{whole, whole_parts, whole_made}
use Rattle.gvn_key.proofs.CodeParts.{rest_of, rest_is, text_code, first_of}

-- bytes from the one below a bound up to another
abbrev pub AreWithin : ℕ → ℕ → List ℕ → Type 0
AreWithin low most text = AllByRecursion (λ b. (low ≤ b + 1) × (b ≤ most)) text

-- ---- whole numbers

digits_within : (ds : List ℕ) → list_all is_ascii_digit ds ≡ true → AreWithin 49 57 ds
digits_within [] all = tt
digits_within (d ∷ ds) all =
    let t = and_parts (is_ascii_digit d) (list_all is_ascii_digit ds) all in
    let bounds = digit_bounds d t.0 in
    let low = bounds.0 in
    ((omega (arith, low), bounds.1), digits_within ds t.1)

within_digits : (ds : List ℕ) → AreWithin 49 57 ds → list_all is_ascii_digit ds ≡ true
within_digits [] all = refl
within_digits (d ∷ ds) all = let low = all.0.0 in rw (is_digit d (omega (arith, low)) all.0.1) (within_digits ds all.1)

other_whole : (exponent : ℕ) (text other : List ℕ) → is_whole_number exponent text ≡ true → MayStand 49 57 (exponent - 64) (slice_index text 0) other → IsSubCode (3 ∷ exponent ∷ (other ++ 0 ∷ []))
other_whole exponent [] other is m = cc
other_whole exponent (t ∷ ts) [] is m = let some = m.some in absurd (omega (arith, some))
other_whole exponent (t ∷ ts) (d ∷ ds) is m =
    let parts = whole_parts exponent t ts is in
    let few = m.few in
    let least = parts.least in
    let last = m.last in
    let made = whole_made exponent d ds (record {
      lead = ap (λ k. k == 48) m.first ∙ parts.lead;
      last = ne_eqb (slice_index (d ∷ ds) (length (d ∷ ds) - 1)) 48 (λ e. omega (arith, e, last));
      least = omega (arith, few, least);
      most = parts.most;
    }) in
    let w = whole exponent (d ∷ ds) (within_digits (d ∷ ds) m.inner) made in
    (Number (pos w.n), w.valid, sym w.code)

whole_has_text : (exponent : ℕ) (rest : List ℕ) (i : ℕ) → position (λ b. not (is_ascii_digit b)) rest ≡ Some i → get_or rest i 0 ≡ 0 → is_whole_number exponent (take i rest) ≡ true → HasText 2 49 57 (exponent - 64) (i + 2 + 1) (3 ∷ exponent ∷ rest)
whole_has_text exponent rest zero e end is = cc
whole_has_text exponent rest (suc i) e end is =
    let s = split (λ b. not (is_ascii_digit b)) rest (suc i) e in
    let inside = s.inside in
    let size : suc i + 2 + 1 ≡ suc (suc (suc (suc i))) = omega arith in
    let long : length (take (suc i) rest) ≡ suc i = omega (arith, length-take (suc i) rest, inside) in
    record {
      text = take (suc i) rest;
      is = ap (λ k. take k (3 ∷ exponent ∷ rest)) size ∙ ap (λ (x : List ℕ). 3 ∷ exponent ∷ x) (take-suc rest (suc i) 0 inside ∙ ap (λ k. take (suc i) rest ++ k ∷ []) end);
      long = omega (arith, long);
      some = omega (arith, long);
      inner = digits_within (take (suc i) rest) (all_pass is_ascii_digit (take (suc i) rest) s.front);
      can = λ other m. other_whole exponent (take (suc i) rest) other is m;
    }

pub whole_text : (bytes : List ℕ) (i : ℕ) → 1 ≤ length bytes → position (λ b. not (is_ascii_digit b)) (rest_of bytes) ≡ Some i → get_or (rest_of bytes) i 0 ≡ 0 → is_whole_number (get_or bytes 0 0) (take i (rest_of bytes)) ≡ true → HasText 2 49 57 (get_or bytes 0 0 - 64) (i + 2 + 1) (3 ∷ bytes)
whole_text [] i some e end is = absurd (omega arith)
whole_text (b ∷ rest) i some e end is =
    whole_has_text b rest i (ap (position (λ c. not (is_ascii_digit c))) (sym (rest_is b rest)) ∙ e) (ap (λ (x : List ℕ). get_or x i 0) (sym (rest_is b rest)) ∙ end)
    (ap (λ (x : List ℕ). is_whole_number b (take i x)) (sym (rest_is b rest)) ∙ is)

-- ---- strings

plain_within : (xs : List ℕ) → AreBytes xs → none_pass (λ b. nat_lt b 2) xs ≡ true → AreWithin 3 255 xs
plain_within [] small none = tt
plain_within (x ∷ xs) small none =
    let t = and_parts (not (nat_lt x 2)) (none_pass (λ b. nat_lt b 2) xs) none in
    let two : 2 ≤ x = ltb-false x 2 (not-true (nat_lt x 2) t.0) in
    ((omega (arith, two), omega (arith, small 0)), plain_within xs (λ i. small (suc i)) t.1)

within_plain : (xs : List ℕ) → AreWithin 3 255 xs → none_pass (λ b. nat_lt b 2) xs ≡ true
within_plain [] all = refl
within_plain (x ∷ xs) all = let low = all.0.0 in rw (le-ltb x 2 (omega (arith, low))) (within_plain xs all.1)

pub text_text : (bytes : List ℕ) (i : ℕ) → AreBytes bytes → position (λ b. nat_lt b 2) bytes ≡ Some i → get_or bytes i 0 ≡ 0 → 0 < i → begins_numeral (get_or bytes 0 0) ≡ false → HasText 1 3 255 255 (i + 1 + 1) (4 ∷ bytes)
text_text bytes i small e end some first =
    let s = split (λ b. nat_lt b 2) bytes i e in
    let inside = s.inside in
    let size : i + 1 + 1 ≡ suc (suc i) = omega arith in
    let long : length (take i bytes) ≡ i = omega (arith, length-take i bytes, inside) in
    record {
      text = take i bytes;
      is = ap (λ k. take k (4 ∷ bytes)) size ∙ ap (λ (x : List ℕ). 4 ∷ x) (take-suc bytes i 0 inside ∙ ap (λ k. take i bytes ++ k ∷ []) end);
      long = omega (arith, long);
      some = omega (arith, long, some);
      inner = plain_within (take i bytes) (taken_bytes i bytes small) s.front;
      can = λ other m.
          let t = text_code other (within_plain other m.inner) m.some (ap begins_numeral (m.first ∙ first_of bytes i some) ∙ first) in
          (Text other, t.1, ap (λ (x : List ℕ). 4 ∷ x) refl ∙ sym t.0);
    }
