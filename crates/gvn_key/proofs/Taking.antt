-- A prefix before its first byte, and behind one byte more.
use Rattle.std.proofs.Common.{◌≡◌, ℕ, ◌-◌, ◌<◌, ◌≤◌, ◌&&◌, true, false, nat_le, List, [], ◌∷◌, ◌++◌, length, refl, ap, sym, subst, ◌∙◌, arith, append_assoc, Some, None}
use Rattle.std.specs.List.{list_all, flat_map}
use Rattle.std.proofs.Math.ListN.{length-append}
use Rattle.std.proofs.lemmas.Bool.{leb-true, le-leb}
use Rattle.global_defs.specs.declared.limits.TheConstants.{LONGEST_KEY}
use Rattle.global_defs.specs.Key.{Key}
use Rattle.global_defs.specs.Valid.{is_name, is_sub}
use Rattle.global_defs.specs.Encoded.{encoded, encoded_sub}
use Rattle.global_defs.proofs.ValidKeys.{valid_parts}
use Rattle.gvn_key.specs.Codes.{IsCode, Begins}
use Rattle.gvn_key.specs.Steps.{step, fits}
use Rattle.gvn_key.specs.Rests.{EndsName, Completes, IsAt}
use Rattle.gvn_key.specs.declared.place.Place.{Place}
use Rattle.gvn_key.specs.declared.place.Place.TheVariants.{Name}
use Rattle.gvn_key.specs.declared.prefix.KeyPrefix.{KeyPrefix}
use Rattle.gvn_key.proofs.NameSteps.{Follows, both_true, not_both}
use Rattle.gvn_key.proofs.Stepping.{follows}
use Rattle.gvn_key.proofs.Filling.{GoesOn}
use Rattle.gvn_key.proofs.Fitting.{goes_on, completed_fits}

-- whole keys

code_name : (len : ℕ) (bytes : List ℕ) → IsCode len bytes → EndsName 0 bytes
code_name len bytes c =
    let v = valid_parts c.key c.valid in
    record {
      name = c.key.name;
      behind = flat_map encoded_sub c.key.subs;
      is = sym c.encodes;
      valid = v.name;
      short = v.short;
      subs = record { subs = c.key.subs; valid = v.subs; few = v.few; encode = refl };
    }

name_code : (bytes : List ℕ) → EndsName 0 bytes → length bytes ≤ 255 → IsCode (length bytes) bytes
name_code bytes r long =
    let key : Key = record { name = r.name; subs = r.subs.subs } in
    let spelled : encoded key ≡ bytes = ap (λ x. r.name ++ (0 ∷ x)) r.subs.encode ∙ sym r.is in
    let short : length (encoded key) ≤ 255 = omega (arith, ap length spelled) in
    record {
      key = key;
      valid = both_true (is_name key.name && nat_le (length key.name) 31 && list_all is_sub key.subs && nat_le (length key.subs) 31) (nat_le (length (encoded key)) 255)
          (both_true (is_name key.name && nat_le (length key.name) 31 && list_all is_sub key.subs) (nat_le (length key.subs) 31)
          (both_true (is_name key.name && nat_le (length key.name) 31) (list_all is_sub key.subs)
          (both_true (is_name key.name) (nat_le (length key.name) 31) r.valid (le-leb (length key.name) 31 r.short)) r.subs.valid)
          (le-leb (length key.subs) 31 r.subs.few))
          (le-leb (length (encoded key)) 255 short);
      encodes = spelled;
      long = refl;
    }

code_long : (len n : ℕ) (bytes : List ℕ) → n ≡ len → IsCode n bytes → IsCode len bytes
code_long len n bytes e c = subst (λ m. IsCode m bytes) e c

name_of_length : (len : ℕ) (bytes : List ℕ) → len ≤ LONGEST_KEY → EndsName 0 bytes → length bytes ≡ len → IsCode len bytes
name_of_length len bytes small r long = code_long len (length bytes) bytes long (name_code bytes r (omega arith))

-- before the first byte

started : (len : ℕ) → len ≤ LONGEST_KEY → GoesOn (Name 0) len → IsAt (record { place = Name 0; left = len }) [] len
started len small g = record {
  left = omega arith;
  fits_length = small;
  completes = λ rest r long. name_of_length len rest small r long;
  completed = λ rest c. code_name len rest c;
  begins = record { rest = g.rest; whole = name_of_length len g.rest small g.completes g.long };
}

pub at_start : (len : ℕ) → len ≤ LONGEST_KEY → fits (Name 0) len ≡ true → IsAt (record { place = Name 0; left = len }) [] len
at_start len small h = started len small (goes_on (Name 0) len h)

pub no_start : (len : ℕ) → fits (Name 0) len ≡ false → (bytes : List ℕ) → IsCode len bytes → ⊥
no_start len h bytes c = not_both (fits (Name 0) len) (subst (λ n. fits (Name 0) n ≡ true) c.long (completed_fits (Name 0) bytes (code_name len bytes c))) h

-- keys have 2 bytes at least, and 255 at most

pub code_length : (len : ℕ) (bytes : List ℕ) → IsCode len bytes → (2 ≤ len) × (len ≤ LONGEST_KEY)
code_length len bytes c =
    let some = leb-true 2 (length bytes) (completed_fits (Name 0) bytes (code_name len bytes c)) in
    (omega (arith, c.long), omega (arith, c.long, ap length c.encodes, (valid_parts c.key c.valid).fits))

pub each_length : (len : ℕ) → 2 ≤ len → len ≤ LONGEST_KEY → Begins [] len
each_length len some small = (at_start len small (le-leb 2 len some)).begins

-- behind one byte more

-- the bytes behind one are those of the place that it leads to
step_to : (p q : Place) (b : ℕ) → step p b ≡ Some q → (w : List ℕ) → (Completes q w → Completes p (b ∷ w)) × (Completes p (b ∷ w) → Completes q w)
step_to p q b e = subst (Follows p b) e (follows p b)

step_none : (p : Place) (b : ℕ) → step p b ≡ None → (w : List ℕ) → Completes p (b ∷ w) → ⊥
step_none p b e = subst (Follows p b) e (follows p b)

taken_then : (taken : List ℕ) (b : ℕ) (rest : List ℕ) → (taken ++ (b ∷ [])) ++ rest ≡ taken ++ (b ∷ rest)
taken_then taken b rest = append_assoc taken (b ∷ []) rest

-- a whole code behind one byte more completes the place before it
behind_byte : (p : KeyPrefix) (taken : List ℕ) (len b : ℕ) → IsAt p taken len → (rest : List ℕ) → IsCode len ((taken ++ (b ∷ [])) ++ rest) → Completes p.place (b ∷ rest)
behind_byte p taken len b a rest c = a.completed (b ∷ rest) (subst (IsCode len) (taken_then taken b rest) c)

rest_long : (p : KeyPrefix) (taken : List ℕ) (len b : ℕ) → IsAt p taken len → (rest : List ℕ) → IsCode len ((taken ++ (b ∷ [])) ++ rest) → length rest ≡ p.left - 1
rest_long p taken len b a rest c = omega (arith, a.left, c.long, length-append (taken ++ (b ∷ [])) rest, length-append taken (b ∷ []))

code_behind : (p : KeyPrefix) (q : Place) (taken : List ℕ) (len b : ℕ) → IsAt p taken len → 0 < p.left → step p.place b ≡ Some q
    → (rest : List ℕ) → Completes q rest → length rest ≡ p.left - 1 → IsCode len ((taken ++ (b ∷ [])) ++ rest)
code_behind p q taken len b a some e rest r long =
    subst (IsCode len) (sym (taken_then taken b rest)) (a.completes (b ∷ rest) ((step_to p.place q b e rest).0 r) (omega arith))

moved : (p : KeyPrefix) (q : Place) (taken : List ℕ) (len b : ℕ) → IsAt p taken len → 0 < p.left → step p.place b ≡ Some q → GoesOn q (p.left - 1)
    → IsAt (record { place = q; left = p.left - 1 }) (taken ++ (b ∷ [])) len
moved p q taken len b a some e g = record {
  left = omega (arith, a.left, length-append taken (b ∷ []));
  fits_length = a.fits_length;
  completes = λ rest r long. code_behind p q taken len b a some e rest r long;
  completed = λ rest c. (step_to p.place q b e rest).1 (behind_byte p taken len b a rest c);
  begins = record { rest = g.rest; whole = code_behind p q taken len b a some e g.rest g.completes g.long };
}

pub at_next : (p : KeyPrefix) (q : Place) (taken : List ℕ) (len b : ℕ) → IsAt p taken len → 0 < p.left → step p.place b ≡ Some q → fits q (p.left - 1) ≡ true
    → IsAt (record { place = q; left = p.left - 1 }) (taken ++ (b ∷ [])) len
at_next p q taken len b a some e h = moved p q taken len b a some e (goes_on q (p.left - 1) h)

pub no_fit : (p : KeyPrefix) (q : Place) (taken : List ℕ) (len b : ℕ) → IsAt p taken len → step p.place b ≡ Some q → fits q (p.left - 1) ≡ false → Begins (taken ++ (b ∷ [])) len → ⊥
no_fit p q taken len b a e h g =
    let rest = g.rest in
    let done = (step_to p.place q b e rest).1 (behind_byte p taken len b a rest g.whole) in
    not_both (fits q (p.left - 1)) (subst (λ n. fits q n ≡ true) (rest_long p taken len b a rest g.whole) (completed_fits q rest done)) h

pub no_step : (p : KeyPrefix) (taken : List ℕ) (len b : ℕ) → IsAt p taken len → step p.place b ≡ None → Begins (taken ++ (b ∷ [])) len → ⊥
no_step p taken len b a e g = step_none p.place b e g.rest (behind_byte p taken len b a g.rest g.whole)
