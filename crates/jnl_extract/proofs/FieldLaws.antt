-- Which bytes no field has, and that a text has its fields in one way.
use Rattle.std.proofs.Common.{◌≡◌, ℕ, ◌<◌, ◌^◌, ◌==◌, Bool, true, false, ◌&&◌, ◌||◌, List, [], ◌∷◌, ◌++◌, length, refl, ap, sym, ◌∙◌, arith, nat_lt, nat_le}
use Rattle.std.specs.Prelude.{decimal}
use Rattle.std.specs.Str.{bytes_eq}
use Rattle.std.specs.List.{list_any, list_all}
use Rattle.std.specs.Char.{is_ascii_digit, is_ascii_alphabetic, is_ascii_alphanumeric}
use Rattle.std.proofs.lemmas.Bool.{and_parts, and_from, ltb-true, lt-ltb, eq-eqb, or_parts, or_from}
use Rattle.std.proofs.lemmas.Fmt.{decimal_injective}
use Rattle.std.proofs.lemmas.List.Folds.{list_any-append}
use Rattle.global_defs.specs.Entry.{Stamp, Origin}
use Rattle.global_defs.specs.Fields.{IsSiteName, IsStamp, IsOrigin}
use Rattle.global_defs.proofs.NumberText.{decimal_is}
use Rattle.jnl_extract.specs.Lines.{is_site_name, stamp_text, origin_text}
use Rattle.jnl_extract.proofs.Cuts.{none_of, one_cut}
use Rattle.gvn_key.proofs.Decoded.{ascii_digits}

pub number_clean : (byte n : ℕ) → is_ascii_digit byte ≡ false → n < 2 ^ 64 → list_any (λ b. b == byte) (decimal n) ≡ false
number_clean byte n q h = none_of is_ascii_digit byte (decimal n) q (ascii_digits (decimal n) (decimal_is n (omega arith)).digits)

either : (a b c : Bool) → (b || c) ≡ true → ((a || b) || c) ≡ true
either true b c h = refl
either false b c h = h

letter_also : (b : ℕ) → is_ascii_alphabetic b ≡ true → is_ascii_alphanumeric b ≡ true
letter_also b h = either (nat_le 48 b && nat_le b 57) (nat_le 65 b && nat_le b 90) (nat_le 97 b && nat_le b 122) h

name_letters : (s : List ℕ) → IsSiteName s → list_all is_ascii_alphanumeric s ≡ true
name_letters [] h = absurd h
name_letters (b ∷ bs) h = and_from (is_ascii_alphanumeric b) (list_all is_ascii_alphanumeric bs) (letter_also b h.0) h.1

pub name_clean : (byte : ℕ) (s : List ℕ) → is_ascii_alphanumeric byte ≡ false → IsSiteName s → list_any (λ b. b == byte) s ≡ false
name_clean byte s q h = none_of is_ascii_alphanumeric byte s q (name_letters s h)

pub is_name : (s : List ℕ) → is_site_name s ≡ true → IsSiteName s
is_name [] h = absurd (let e : false ≡ true = h in cc)
is_name (b ∷ bs) h =
    let p = and_parts (is_ascii_alphabetic b && list_all is_ascii_alphanumeric bs) (nat_lt (length bs) 15) h in
    let q = and_parts (is_ascii_alphabetic b) (list_all is_ascii_alphanumeric bs) p.0 in
    (q.0, q.1, ltb-true (length bs) 15 p.1)

pub name_is : (s : List ℕ) → IsSiteName s → is_site_name s ≡ true
name_is [] h = absurd h
name_is (b ∷ bs) h =
    and_from (is_ascii_alphabetic b && list_all is_ascii_alphanumeric bs) (nat_lt (length bs) 15)
    (and_from (is_ascii_alphabetic b) (list_all is_ascii_alphanumeric bs) h.0 h.1)
    (lt-ltb (length bs) 15 h.2)

pub no_name : (s : List ℕ) → is_site_name s ≡ false → IsSiteName s → ⊥
no_name s e h = let t : true ≡ false = sym (name_is s h) ∙ e in cc

-- a text is cut in one way
pub halves : (byte : ℕ) (text a x c y : List ℕ) → text ≡ a ++ byte ∷ x → text ≡ c ++ byte ∷ y → list_any (λ b. b == byte) a ≡ false → list_any (λ b. b == byte) c ≡ false → (a ≡ c) × (x ≡ y)
halves byte text a x c y e f p q = one_cut byte a x c y p q (sym e ∙ f)

-- what stands in a text that has no such byte
pub whole : (byte : ℕ) (a x : List ℕ) → list_any (λ b. b == byte) (a ++ byte ∷ x) ≡ false → ⊥
whole byte [] x p = let t : true ≡ false = sym (eq-eqb byte byte refl) ∙ (or_parts (byte == byte) (list_any (λ b. b == byte) x) p).0 in cc
whole byte (c ∷ a) x p = whole byte a x (or_parts (c == byte) (list_any (λ b. b == byte) (a ++ byte ∷ x)) p).1

pub same_number : (text : List ℕ) (m n : ℕ) → text ≡ decimal m → text ≡ decimal n → m < 2 ^ 64 → n < 2 ^ 64 → m ≡ n
same_number text m n e f p q = decimal_injective m n p q (sym e ∙ f)

-- two numbers with a point between them are read in one way
pub same_pair : (text : List ℕ) (m n j k : ℕ) → text ≡ decimal m ++ 46 ∷ decimal n → text ≡ decimal j ++ 46 ∷ decimal k → m < 2 ^ 64 → n < 2 ^ 64 → j < 2 ^ 64 → k < 2 ^ 64 → (m ≡ j) × (n ≡ k)
same_pair text m n j k e f a b c d =
    let h = halves 46 text (decimal m) (decimal n) (decimal j) (decimal k) e f (number_clean 46 m refl a) (number_clean 46 j refl c) in
    (decimal_injective m j a c h.0, decimal_injective n k b d h.1)

-- the same numbers of a name, a point and a number
pub origin_clean : (o : Origin) → IsOrigin o → list_any (λ b. b == 92) (origin_text o) ≡ false
origin_clean o h =
    let p : list_any (λ b. b == 92) (decimal o.updater) ≡ false = number_clean 92 o.updater refl (omega (arith, h.updater)) in
    let q : list_any (λ b. b == 92) (decimal o.serial) ≡ false = number_clean 92 o.serial refl (omega (arith, h.serial)) in
    list_any-append (λ b. b == 92) (decimal o.updater) (46 ∷ decimal o.serial) ∙ or_from (list_any (λ b. b == 92) (decimal o.updater)) (list_any (λ b. b == 92) (46 ∷ decimal o.serial)) p q

pub stamp_clean : (s : Stamp) → IsStamp s → list_any (λ b. b == 92) (stamp_text s) ≡ false
stamp_clean s h =
    let p : list_any (λ b. b == 92) s.root ≡ false = name_clean 92 s.root refl h.root in
    let q : list_any (λ b. b == 92) (decimal s.cycle) ≡ false = number_clean 92 s.cycle refl (omega (arith, h.cycle)) in
    list_any-append (λ b. b == 92) s.root (46 ∷ decimal s.cycle) ∙ or_from (list_any (λ b. b == 92) s.root) (list_any (λ b. b == 92) (46 ∷ decimal s.cycle)) p q

stamps : (r t : List ℕ) (m n : ℕ) → r ≡ t → m ≡ n → (let x : Stamp = record { root = r; cycle = m } in x) ≡ record { root = t; cycle = n }
stamps r t m n e f = cc

origins : (r t m n : ℕ) → r ≡ t → m ≡ n → (let x : Origin = record { updater = r; serial = m } in x) ≡ record { updater = t; serial = n }
origins r t m n e f = cc

-- a stamp and an origin are told by their texts
pub same_stamp : (a b : Stamp) → IsStamp a → IsStamp b → stamp_text a ≡ stamp_text b → a ≡ b
same_stamp a b p q e =
    let h = one_cut 46 a.root (decimal a.cycle) b.root (decimal b.cycle) (name_clean 46 a.root refl p.root) (name_clean 46 b.root refl q.root) e in
    let r : a.root ≡ b.root = h.0 in
    let n : a.cycle ≡ b.cycle = decimal_injective a.cycle b.cycle (omega (arith, p.cycle)) (omega (arith, q.cycle)) h.1 in
    stamps a.root b.root a.cycle b.cycle r n

pub same_origin : (a b : Origin) → IsOrigin a → IsOrigin b → origin_text a ≡ origin_text b → a ≡ b
same_origin a b p q e =
    let h = same_pair (origin_text a) a.updater a.serial b.updater b.serial refl e (omega (arith, p.updater)) (omega (arith, p.serial)) (omega (arith, q.updater)) (omega (arith, q.serial)) in
    origins a.updater b.updater a.serial b.serial h.0 h.1

pub bytes_same : (xs : List ℕ) → bytes_eq xs xs ≡ true
bytes_same [] = refl
bytes_same (x ∷ xs) = rw (eq-eqb x x refl) (bytes_same xs)

pub no_bytes : (xs ys : List ℕ) → xs ≡ ys → bytes_eq xs ys ≡ false → ⊥
no_bytes xs ys e f = let t : true ≡ false = sym (bytes_same xs) ∙ ap (bytes_eq xs) e ∙ f in cc
