-- A text in ZWR form is read to its value.
use Rattle.std.proofs.Common.{◌≡◌, ℕ, ◌+◌, ◌-◌, ◌*◌, ◌/◌, ◌%◌, ◌<◌, ◌≤◌, ◌⊎◌, true, ◌==◌, nat_lt, nat_le, List, [], ◌∷◌, ◌++◌, map, refl, ap, sym, ◌∙◌, arith, append_assoc, inl, inr}
use Rattle.std.specs.List.{list_all, flat_map, join_with_byte}
use Rattle.std.specs.Fmt.{decimal}
use Rattle.std.specs.declared.result.Result.TheVariants.{Ok}
use Rattle.std.proofs.lemmas.List.{append-nil}
use Rattle.std.proofs.lemmas.Fmt.{decimal_by_steps}
use Rattle.std.proofs.lemmas.Bool.{and_parts, eqb-true, ne_eqb, cases_Bool, ltb-true, lt-ltb, le-leb}
use Rattle.global_defs.specs.Zwr.{is_plain, quoted_byte}
use Rattle.gvn_key.specs.ZwrText.{IsPiece, quoted, coded, IsZwr, one, more, Scanned, scan, emitted, zwr_reading}
use Rattle.gvn_key.specs.declared.reader.State.TheVariants.{Start, Quotes, Closed, First, Number, Done}

-- what is read behind a value
abbrev pub behind : List ℕ → Scanned → Scanned
behind value s = record s { value = value ++ s.value }

quoted_one : (b : ℕ) (rest : List ℕ) → is_plain b ≡ true → scan Quotes (quoted_byte b ++ rest) ≡ emitted b (scan Quotes rest)
quoted_one b rest p = elim (cases_Bool (b == 34)) [
  | inl e ↦ rw e (ap (λ c. emitted c (scan Quotes rest)) (sym (eqb-true b 34 e)))
  | inr e ↦ rw e (rw (e, p) refl)
]

quoted_read : (bs rest : List ℕ) → list_all is_plain bs ≡ true → scan Quotes (flat_map quoted_byte bs ++ (34 ∷ rest)) ≡ behind bs (scan Closed rest)
quoted_read [] rest p = refl
quoted_read (b ∷ bs) rest p =
    let t = and_parts (is_plain b) (list_all is_plain bs) p in
    ap (scan Quotes) (append_assoc (quoted_byte b) (flat_map quoted_byte bs) (34 ∷ rest))
    ∙ quoted_one b (flat_map quoted_byte bs ++ (34 ∷ rest)) t.0
    ∙ ap (emitted b) (quoted_read bs rest t.1)

digit_first : (n : ℕ) (rest : List ℕ) → n < 10 → scan First ((48 + n) ∷ rest) ≡ scan (Number n) rest
digit_first n rest small =
    let low : nat_le 48 (48 + n) ≡ true = le-leb 48 (48 + n) (omega arith) in
    let high : nat_le (48 + n) 57 ≡ true = le-leb (48 + n) 57 (omega arith) in
    let back : (48 + n) - 48 ≡ n = omega arith in
    rw (low, high, back) refl

digit_next : (n d : ℕ) (rest : List ℕ) → 0 < n → d < 10 → n * 10 + d < 256 → scan (Number n) ((48 + d) ∷ rest) ≡ scan (Number (n * 10 + d)) rest
digit_next n d rest some small few =
    let comma = ne_eqb (48 + d) 44 (λ e. omega arith) in
    let bracket = ne_eqb (48 + d) 41 (λ e. omega arith) in
    let low : nat_le 48 (48 + d) ≡ true = le-leb 48 (48 + d) (omega arith) in
    let high : nat_le (48 + d) 57 ≡ true = le-leb (48 + d) 57 (omega arith) in
    let lead = ne_eqb n 0 (λ e. omega arith) in
    let back : (48 + d) - 48 ≡ d = omega arith in
    let fits : nat_lt (n * 10 + d) 256 ≡ true = lt-ltb (n * 10 + d) 256 few in
    rw (comma, bracket, low, high, lead, back, fits) refl

number_more : (m : ℕ) (ds r : List ℕ) → 10 ≤ m → m < 256 → ((s : List ℕ) → scan First (ds ++ s) ≡ scan (Number (m / 10)) s) → scan First ((ds ++ ((48 + m % 10) ∷ [])) ++ r) ≡ scan (Number m) r
number_more m ds r large few front =
    let whole : m / 10 * 10 + m % 10 ≡ m = omega arith in
    ap (scan First) (append_assoc ds ((48 + m % 10) ∷ []) r)
    ∙ front ((48 + m % 10) ∷ r)
    ∙ digit_next (m / 10) (m % 10) r (omega arith) (omega arith) (omega arith)
    ∙ ap (λ k. scan (Number k) r) whole

number_read : (n : ℕ) (rest : List ℕ) → n < 256 → scan First (decimal n ++ rest) ≡ scan (Number n) rest
number_read n rest small = decimal_by_steps (λ m ds. m < 256 → (r : List ℕ) → scan First (ds ++ r) ≡ scan (Number m) r)
    (λ m few _ r. digit_first m r few)
    (λ m ds large front few r. number_more m ds r large few (front (omega arith)))
    n (omega arith) small rest

codes_read : (b : ℕ) (bs rest : List ℕ) → list_all (λ c. nat_lt c 256) (b ∷ bs) ≡ true
    → scan First (join_with_byte 44 (map decimal (b ∷ bs)) ++ (41 ∷ rest)) ≡ behind (b ∷ bs) (scan Done rest)
codes_read b [] rest p = number_read b (41 ∷ rest) (ltb-true b 256 (and_parts (nat_lt b 256) true p).0)
codes_read b (c ∷ cs) rest p =
    let t = and_parts (nat_lt b 256) (list_all (λ c. nat_lt c 256) (c ∷ cs)) p in
    ap (scan First) (append_assoc (decimal b) (44 ∷ join_with_byte 44 (map decimal (c ∷ cs))) (41 ∷ rest))
    ∙ number_read b (44 ∷ (join_with_byte 44 (map decimal (c ∷ cs)) ++ (41 ∷ rest))) (ltb-true b 256 t.0)
    ∙ ap (emitted b) (codes_read c cs rest t.1)

-- a text is read to its value, whatever follows
abbrev pub IsRead : List ℕ → List ℕ → List ℕ → Type 0
IsRead text value rest = (scan Start (text ++ rest) ≡ behind value (scan Closed rest)) ⊎ (scan Start (text ++ rest) ≡ behind value (scan Done rest))

piece_read : {t v : List ℕ} → IsPiece t v → (rest : List ℕ) → IsRead t v rest
piece_read (quoted bs p) rest = inl (ap (λ x. scan Start (34 ∷ x)) (append_assoc (flat_map quoted_byte bs) (34 ∷ []) rest) ∙ quoted_read bs rest p)
piece_read (coded b bs p) rest = inr (ap (λ x. scan Start (36 ∷ 67 ∷ 40 ∷ x)) (append_assoc (join_with_byte 44 (map decimal (b ∷ bs))) (41 ∷ []) rest) ∙ codes_read b bs rest p)

-- behind a piece, an underscore begins another
next_piece : (t v rest : List ℕ) → IsRead t v (95 ∷ rest) → scan Start (t ++ (95 ∷ rest)) ≡ behind v (scan Start rest)
next_piece t v rest (inl e) = e
next_piece t v rest (inr e) = e

behind_twice : (v w : List ℕ) (s : Scanned) → behind v (behind w s) ≡ behind (v ++ w) s
behind_twice v w s = ap (λ x. record { value = x; state = s.state; left = s.left }) (sym (append_assoc v w s.value))

joined_read : (t v u w rest : List ℕ) → IsRead t v (95 ∷ (u ++ rest)) → IsRead u w rest → IsRead (t ++ 95 ∷ u) (v ++ w) rest
joined_read t v u w rest first (inl e) = inl (ap (scan Start) (append_assoc t (95 ∷ u) rest) ∙ next_piece t v (u ++ rest) first ∙ ap (behind v) e ∙ behind_twice v w (scan Closed rest))
joined_read t v u w rest first (inr e) = inr (ap (scan Start) (append_assoc t (95 ∷ u) rest) ∙ next_piece t v (u ++ rest) first ∙ ap (behind v) e ∙ behind_twice v w (scan Done rest))

pub zwr_is_read : {t v : List ℕ} → IsZwr t v → (rest : List ℕ) → IsRead t v rest
zwr_is_read (one p) rest = piece_read p rest
zwr_is_read (more {t} {v} {u} {w} p z) rest = joined_read t v u w rest (piece_read p (95 ∷ (u ++ rest))) (zwr_is_read z rest)

read_alone : (t v : List ℕ) → IsRead t v [] → zwr_reading t ≡ Ok v
read_alone t v (inl e) = let f : scan Start t ≡ record { value = v; state = Closed; left = [] } = ap (scan Start) (sym (append-nil t)) ∙ e ∙ ap (λ x. record { value = x; state = Closed; left = [] }) (append-nil v) in rw f refl
read_alone t v (inr e) = let f : scan Start t ≡ record { value = v; state = Done; left = [] } = ap (scan Start) (sym (append-nil t)) ∙ e ∙ ap (λ x. record { value = x; state = Done; left = [] }) (append-nil v) in rw f refl

pub zwr_complete : (t v : List ℕ) → IsZwr t v → zwr_reading t ≡ Ok v
zwr_complete t v z = read_alone t v (zwr_is_read z [])
