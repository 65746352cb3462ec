-- A part's end is behind a key, a value or an integer that a space, an equals sign or the text's end follows.
use Rattle.std.proofs.Common.{◌≡◌, ℕ, suc, ◌+◌, ◌<◌, ◌≤◌, ◌≢◌, Bool, true, false, not, ◌||◌, ◌==◌, nat_lt, List, [], ◌∷◌, ◌++◌, length, map, refl, ap, sym, ◌∙◌, arith, inl, inr, append_assoc, length-append, ◌⊎◌}
use Rattle.std.specs.List.{list_all, flat_map, join_with_byte}
use Rattle.std.specs.Char.{is_ascii_alphabetic, is_ascii_alphanumeric}
use Rattle.std.specs.Str.Parse.{AllDigits}
use Rattle.std.specs.Fmt.{decimal}
use Rattle.std.proofs.lemmas.List.{append-nil}
use Rattle.std.proofs.lemmas.List.Folds.{list_all-append}
use Rattle.std.proofs.lemmas.Str.Parse.{digit_from_value}
use Rattle.std.proofs.lemmas.Bool.{and_parts, and_from, cases_Bool, ne_eqb, not-true, true≢false, ltb-true}
use Rattle.global_defs.specs.Zwr.{quoted_byte}
use Rattle.global_defs.specs.NodeText.{pointed}
use Rattle.global_defs.specs.Valid.{is_name}
use Rattle.global_defs.proofs.Numerals.{IsSigned, nought, minus, plus, numeral_signed, positive_parts, IsParts}
use Rattle.global_defs.proofs.NumberText.{decimal_is}
use Rattle.gvn_key.specs.ZwrText.{IsPiece, quoted, coded, IsZwr, one, more}
use Rattle.gvn_key.specs.KeyText.{IsSubText, number, string, IsSubsText, last, another, IsKeyText, bare, branched}
use Rattle.script_defs.specs.Parts.{ends_at, part_end}

-- a part goes on over the whole of a text, whatever stands behind it
abbrev pub Stays : ℕ → List ℕ → Type 0
Stays mark t = (rest : List ℕ) → part_end mark false (t ++ rest) ≡ length t + part_end mark false rest

-- a byte that ends no part and opens no quotes
abbrev pub passes : ℕ → ℕ → Bool
passes mark b = not (ends_at mark b || b == 34)

neither : (a b : Bool) → not (a || b) ≡ true → (a ≡ false) × (b ≡ false)
neither true b h = cc
neither false b h = (refl, not-true b h)

pub stay_bytes : (mark : ℕ) (t : List ℕ) → list_all (passes mark) t ≡ true → Stays mark t
stay_bytes mark [] h rest = omega arith
stay_bytes mark (b ∷ bs) h rest =
    let a = and_parts (passes mark b) (list_all (passes mark) bs) h in
    let n = neither (ends_at mark b) (b == 34) a.0 in
    rw (n.0, n.1) (omega (arith, stay_bytes mark bs a.1 rest))

pub stay_both : (mark : ℕ) (s t : List ℕ) → Stays mark s → Stays mark t → Stays mark (s ++ t)
stay_both mark s t p q rest = ap (part_end mark false) (append_assoc s t rest) ∙ p (t ++ rest) ∙ omega (arith, q rest, length-append s t)

stay_inside : (mark : ℕ) (bs rest : List ℕ) → ends_at mark 34 ≡ false
    → part_end mark true (flat_map quoted_byte bs ++ (34 ∷ rest)) ≡ length (flat_map quoted_byte bs) + suc (part_end mark false rest)
stay_inside mark [] rest h = omega arith
stay_inside mark (b ∷ bs) rest h =
    ap (part_end mark true) (append_assoc (quoted_byte b) (flat_map quoted_byte bs) (34 ∷ rest))
    ∙ elim (cases_Bool (b == 34)) [
      | inl e ↦ rw e (rw h (omega (arith, stay_inside mark bs rest h)))
      | inr e ↦ rw e (rw e (omega (arith, stay_inside mark bs rest h)))
    ]

pub stay_quoted : (mark : ℕ) (bs : List ℕ) → ends_at mark 34 ≡ false → Stays mark (34 ∷ (flat_map quoted_byte bs ++ (34 ∷ [])))
stay_quoted mark bs h rest =
    let inner : List ℕ = flat_map quoted_byte bs in
    ap (λ x. part_end mark false (34 ∷ x)) (append_assoc inner (34 ∷ []) rest)
    ∙ rw h (omega (arith, stay_inside mark bs rest h, length-append inner (34 ∷ [])))

-- the marks that end a part beside the space
abbrev pub IsMark : ℕ → Type 0
IsMark mark = (mark ≡ 32) ⊎ (mark ≡ 61)

abbrev outside : ℕ → Bool
outside b = not (b == 32 || (b == 61 || b == 34))

by_space : (x y z : Bool) → not (x || (y || z)) ≡ true → not ((x || x) || z) ≡ true
by_space true y z h = cc
by_space false true z h = cc
by_space false false z h = h

by_equals : (x y z : Bool) → not (x || (y || z)) ≡ true → not ((x || y) || z) ≡ true
by_equals true y z h = cc
by_equals false true z h = cc
by_equals false false z h = h

passed : (mark b : ℕ) → IsMark mark → outside b ≡ true → passes mark b ≡ true
passed mark b (inl e) h = rw e (by_space (b == 32) (b == 61) (b == 34) h)
passed mark b (inr e) h = rw e (by_equals (b == 32) (b == 61) (b == 34) h)

all_passed : (mark : ℕ) (t : List ℕ) → IsMark mark → list_all outside t ≡ true → list_all (passes mark) t ≡ true
all_passed mark [] m h = refl
all_passed mark (b ∷ bs) m h =
    let a = and_parts (outside b) (list_all outside bs) h in
    and_from (passes mark b) (list_all (passes mark) bs) (passed mark b m a.0) (all_passed mark bs m a.1)

no_quote : (mark : ℕ) → IsMark mark → ends_at mark 34 ≡ false
no_quote mark (inl e) = rw e refl
no_quote mark (inr e) = rw e refl

-- the bytes of numerals, codes and names

digit_outside : (c : ℕ) → 48 ≤ c → c < 58 → outside c ≡ true
digit_outside c low high = rw (ne_eqb c 32 (λ e. omega arith), ne_eqb c 61 (λ e. omega arith), ne_eqb c 34 (λ e. omega arith)) refl

digits_outside : (ds : List ℕ) → AllDigits 10 ds → list_all outside ds ≡ true
digits_outside [] h = refl
digits_outside (d ∷ ds) h = let b = digit_from_value d h.0 in and_from (outside d) (list_all outside ds) (digit_outside d b.0 (omega (arith, b))) (digits_outside ds h.1)

both_outside : (s t : List ℕ) → list_all outside s ≡ true → list_all outside t ≡ true → list_all outside (s ++ t) ≡ true
both_outside s t h g = list_all-append outside s t ∙ and_from (list_all outside s) (list_all outside t) h g

pointed_outside : (f : List ℕ) → AllDigits 10 f → list_all outside (pointed f) ≡ true
pointed_outside [] h = refl
pointed_outside (d ∷ ds) h = digits_outside (d ∷ ds) h

parts_outside : (bs w f : List ℕ) → IsParts bs w f → list_all outside bs ≡ true
parts_outside bs w f p = ap (list_all outside) p.text ∙ both_outside w (pointed f) (digits_outside w p.whole) (pointed_outside f p.fraction)

signed_outside : {s : List ℕ} → IsSigned s → list_all outside s ≡ true
signed_outside nought = refl
signed_outside (minus bs h few) = let p = positive_parts bs h few in parts_outside bs p.0 p.1 p.2
signed_outside (plus b bs ne h few) = let p = positive_parts (b ∷ bs) h few in parts_outside (b ∷ bs) p.0 p.1 p.2

codes_outside : (bs : List ℕ) → list_all (λ c. nat_lt c 256) bs ≡ true → list_all outside (join_with_byte 44 (map decimal bs)) ≡ true
codes_outside [] h = refl
codes_outside (b ∷ []) h =
    let small = ltb-true b 256 (and_parts (nat_lt b 256) true h).0 in
    digits_outside (decimal b) (decimal_is b (omega (arith, small))).digits
codes_outside (b ∷ c ∷ cs) h =
    let a = and_parts (nat_lt b 256) (list_all (λ c. nat_lt c 256) (c ∷ cs)) h in
    let small = ltb-true b 256 a.0 in
    both_outside (decimal b) (44 ∷ join_with_byte 44 (map decimal (c ∷ cs))) (digits_outside (decimal b) (decimal_is b (omega (arith, small))).digits) (codes_outside (c ∷ cs) a.1)

letter_outside : (b : ℕ) → is_ascii_alphanumeric b ≡ true → outside b ≡ true
letter_outside b h =
    let p : b ≢ 32 = λ e. true≢false (sym h ∙ ap is_ascii_alphanumeric e) in
    let q : b ≢ 61 = λ e. true≢false (sym h ∙ ap is_ascii_alphanumeric e) in
    let r : b ≢ 34 = λ e. true≢false (sym h ∙ ap is_ascii_alphanumeric e) in
    rw (ne_eqb b 32 p, ne_eqb b 61 q, ne_eqb b 34 r) refl

first_outside : (b : ℕ) → (b == 37 || is_ascii_alphabetic b) ≡ true → outside b ≡ true
first_outside b h =
    let p : b ≢ 32 = λ e. true≢false (sym h ∙ ap (λ c. c == 37 || is_ascii_alphabetic c) e) in
    let q : b ≢ 61 = λ e. true≢false (sym h ∙ ap (λ c. c == 37 || is_ascii_alphabetic c) e) in
    let r : b ≢ 34 = λ e. true≢false (sym h ∙ ap (λ c. c == 37 || is_ascii_alphabetic c) e) in
    rw (ne_eqb b 32 p, ne_eqb b 61 q, ne_eqb b 34 r) refl

letters_outside : (bs : List ℕ) → list_all is_ascii_alphanumeric bs ≡ true → list_all outside bs ≡ true
letters_outside [] h = refl
letters_outside (b ∷ bs) h =
    let a = and_parts (is_ascii_alphanumeric b) (list_all is_ascii_alphanumeric bs) h in
    and_from (outside b) (list_all outside bs) (letter_outside b a.0) (letters_outside bs a.1)

name_outside : (name : List ℕ) → is_name name ≡ true → list_all outside name ≡ true
name_outside [] h = refl
name_outside (b ∷ bs) h =
    let a = and_parts (b == 37 || is_ascii_alphabetic b) (list_all is_ascii_alphanumeric bs) h in
    and_from (outside b) (list_all outside bs) (first_outside b a.0) (letters_outside bs a.1)

-- values and keys

stay_outside : (mark : ℕ) (t : List ℕ) → IsMark mark → list_all outside t ≡ true → Stays mark t
stay_outside mark t m h = stay_bytes mark t (all_passed mark t m h)

stay_piece : (mark : ℕ) {t v : List ℕ} → IsMark mark → IsPiece t v → Stays mark t
stay_piece mark m (quoted bs p) = stay_quoted mark bs (no_quote mark m)
stay_piece mark m (coded b bs p) =
    let list : List ℕ = join_with_byte 44 (map decimal (b ∷ bs)) in
    stay_outside mark (36 ∷ 67 ∷ 40 ∷ (list ++ (41 ∷ []))) m (both_outside list (41 ∷ []) (codes_outside (b ∷ bs) p) refl)

stay_zwr : (mark : ℕ) {t v : List ℕ} → IsMark mark → IsZwr t v → Stays mark t
stay_zwr mark m (one p) = stay_piece mark m p
stay_zwr mark m (more {t} {v} {u} {w} p z) = stay_both mark t (95 ∷ u) (stay_piece mark m p) (stay_both mark (95 ∷ []) u (stay_outside mark (95 ∷ []) m refl) (stay_zwr mark m z))

pub stay_value : (mark : ℕ) {t v : List ℕ} → IsMark mark → IsSubText t v → Stays mark t
stay_value mark m (number s h) = stay_outside mark s m (signed_outside (numeral_signed s h))
stay_value mark m (string z) = stay_zwr mark m z

stay_subs : (mark : ℕ) {t : List ℕ} {subs : List (List ℕ)} → IsMark mark → IsSubsText t subs → Stays mark t
stay_subs mark m (last {t} {v} p) = stay_both mark t (41 ∷ []) (stay_value mark m p) (stay_outside mark (41 ∷ []) m refl)
stay_subs mark m (another {t} {v} {u} {subs} p z) = stay_both mark t (44 ∷ u) (stay_value mark m p) (stay_both mark (44 ∷ []) u (stay_outside mark (44 ∷ []) m refl) (stay_subs mark m z))

pub stay_key : (mark : ℕ) {t name : List ℕ} {subs : List (List ℕ)} → IsMark mark → is_name name ≡ true → IsKeyText t name subs → Stays mark t
stay_key mark m good (bare name) = stay_outside mark (94 ∷ name) m (name_outside name good)
stay_key mark m good (branched name {t} {subs} z) =
    stay_both mark (94 ∷ name) (40 ∷ t) (stay_outside mark (94 ∷ name) m (name_outside name good)) (stay_both mark (40 ∷ []) t (stay_outside mark (40 ∷ []) m refl) (stay_subs mark m z))

-- where such a part ends

pub ends_before : (mark : ℕ) (t : List ℕ) (b : ℕ) (rest : List ℕ) → Stays mark t → ends_at mark b ≡ true → part_end mark false (t ++ (b ∷ rest)) ≡ length t
ends_before mark t b rest s h = s (b ∷ rest) ∙ rw h (omega arith)

pub ends_last : (mark : ℕ) (t : List ℕ) → Stays mark t → part_end mark false t ≡ length t
ends_last mark t s = ap (part_end mark false) (sym (append-nil t)) ∙ s [] ∙ omega arith
