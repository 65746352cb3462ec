-- A text that is read is in ZWR form.
use Rattle.std.proofs.Common.{◌≡◌, ℕ, ◌+◌, ◌-◌, ◌*◌, ◌/◌, ◌%◌, ◌<◌, true, false, not, ◌&&◌, ◌==◌, nat_lt, List, [], ◌∷◌, ◌++◌, length, map, refl, ap, sym, subst, ◌∙◌, arith, append_assoc, inl, inr, IfOk}
use Rattle.std.specs.List.{list_all, flat_map, join_with_byte}
use Rattle.std.specs.Char.{is_ascii_digit}
use Rattle.std.specs.Fmt.{decimal}
use Rattle.std.specs.declared.result.Result.{Result}
use Rattle.std.specs.declared.result.Result.TheVariants.{Ok, Err}
use Rattle.std.proofs.lemmas.List.{append-nil}
use Rattle.std.proofs.lemmas.Fmt.{decimal_step, decimal_digit}
use Rattle.std.proofs.lemmas.Bool.{and_parts, and_from, eqb-true, eqb-false, cases_Bool, ltb-true, lt-ltb, not-true}
use Rattle.global_defs.specs.Zwr.{is_plain, quoted_byte}
use Rattle.global_defs.proofs.Digits.{digit_bounds}
use Rattle.gvn_key.specs.ZwrText.{IsPiece, quoted, coded, IsZwr, one, more, Scanned, scan, step, onward, is_whole, digit_more, zwr_reading, read_whole, ReadsZwr}
use Rattle.gvn_key.specs.declared.reader.State.{State}
use Rattle.gvn_key.specs.declared.reader.State.TheVariants.{Start, Quotes, Closed, Dollar, Paren, First, Number, Done}
use Rattle.gvn_key.specs.declared.reader.Effect.{Effect}
use Rattle.gvn_key.specs.declared.reader.Effect.TheVariants.{Stop, Silent, Emit}
use Rattle.gvn_key.specs.declared.reader.ZwrError.{ZwrError}

-- what may stand behind a piece
pub data IsAfter : (text value : List ℕ) → Type 0 where
  nothing : IsAfter [] []
  another : {t v : List ℕ} → IsZwr t v → IsAfter (95 ∷ t) v

abbrev pub AreSmall : ℕ → List ℕ → Type 0
AreSmall b bs = list_all (λ c. nat_lt c 256) (b ∷ bs) ≡ true

-- the numbers behind another one
abbrev pub more_codes : List ℕ → List ℕ
more_codes [] = []
more_codes (b ∷ bs) = 44 ∷ join_with_byte 44 (map decimal (b ∷ bs))

joined_codes : (b : ℕ) (bs : List ℕ) → join_with_byte 44 (map decimal (b ∷ bs)) ≡ decimal b ++ more_codes bs
joined_codes b [] = sym (append-nil (decimal b))
joined_codes b (c ∷ cs) = refl

-- what may stand behind each state, and the value that it adds
pub data IsRest : State → (text value : List ℕ) → Type 0 where
  start : {t v : List ℕ} → IsZwr t v → IsRest Start t v
  quotes : {t v : List ℕ} (bs : List ℕ) → list_all is_plain bs ≡ true → IsAfter t v → IsRest Quotes (flat_map quoted_byte bs ++ (34 ∷ t)) (bs ++ v)
  closed : {t v : List ℕ} → IsAfter t v → IsRest Closed t v
  doubled : {t v : List ℕ} → IsRest Quotes t v → IsRest Closed (34 ∷ t) (34 ∷ v)
  dollar : {t v : List ℕ} → IsRest Paren t v → IsRest Dollar (67 ∷ t) v
  paren : {t v : List ℕ} → IsRest First t v → IsRest Paren (40 ∷ t) v
  first : {t v : List ℕ} (b : ℕ) (bs : List ℕ) → AreSmall b bs → IsAfter t v → IsRest First (join_with_byte 44 (map decimal (b ∷ bs)) ++ (41 ∷ t)) ((b ∷ bs) ++ v)
  number : {t v : List ℕ} (n b : ℕ) (ds bs : List ℕ) → decimal b ≡ decimal n ++ ds → AreSmall b bs → IsAfter t v
      → IsRest (Number n) (ds ++ (more_codes bs ++ (41 ∷ t))) ((b ∷ bs) ++ v)
  done : {t v : List ℕ} → IsAfter t v → IsRest Done t v

after_piece : {t v u w : List ℕ} → IsPiece t v → IsAfter u w → IsZwr (t ++ u) (v ++ w)
after_piece {t} {v} p nothing = subst (λ x. IsZwr x (v ++ [])) (sym (append-nil t)) (subst (IsZwr t) (sym (append-nil v)) (one p))
after_piece p (another z) = more p z

open_quotes : {t v : List ℕ} → IsRest Quotes t v → IsZwr (34 ∷ t) v
open_quotes (quotes {t} {v} bs p a) = subst (λ x. IsZwr (34 ∷ x) (bs ++ v)) (append_assoc (flat_map quoted_byte bs) (34 ∷ []) t) (after_piece (quoted bs p) a)

open_codes : {t v : List ℕ} → IsRest Dollar t v → IsZwr (36 ∷ t) v
open_codes (dollar (paren (first {t} {v} b bs small a))) =
    subst (λ x. IsZwr (36 ∷ 67 ∷ 40 ∷ x) ((b ∷ bs) ++ v)) (append_assoc (join_with_byte 44 (map decimal (b ∷ bs))) (41 ∷ []) t) (after_piece (coded b bs small) a)

plain_quote : {t v : List ℕ} → IsRest Quotes t v → IsRest Quotes (34 ∷ 34 ∷ t) (34 ∷ v)
plain_quote (quotes bs p a) = quotes (34 ∷ bs) p a

plain_more : {t v : List ℕ} (b : ℕ) → (b == 34) ≡ false → is_plain b ≡ true → IsRest Quotes t v → IsRest Quotes (b ∷ t) (b ∷ v)
plain_more b ne p (quotes {t} {v} bs q a) =
    let e : quoted_byte b ≡ b ∷ [] = rw ne refl in
    subst (λ x. IsRest Quotes ((x ++ flat_map quoted_byte bs) ++ (34 ∷ t)) ((b ∷ bs) ++ v)) e (quotes (b ∷ bs) (and_from (is_plain b) (list_all is_plain bs) p q) a)

close_quotes : {t v : List ℕ} → IsRest Closed t v → IsRest Quotes (34 ∷ t) v
close_quotes (closed a) = quotes [] refl a
close_quotes (doubled q) = plain_quote q

-- a number's first digit, and one more
number_begun : {t v : List ℕ} (d : ℕ) → d < 10 → IsRest (Number d) t v → IsRest First ((48 + d) ∷ t) v
number_begun d small (number {t} {v} n b ds bs e s a) =
    let whole : decimal b ≡ (48 + d) ∷ ds = e ∙ ap (λ x. x ++ ds) (decimal_digit d small) in
    subst (λ x. IsRest First x ((b ∷ bs) ++ v)) (ap (λ x. x ++ (41 ∷ t)) (joined_codes b bs) ∙ append_assoc (decimal b) (more_codes bs) (41 ∷ t) ∙ ap (λ x. x ++ (more_codes bs ++ (41 ∷ t))) whole) (first b bs s a)

number_longer : {t v : List ℕ} (n d : ℕ) → 0 < n → d < 10 → n * 10 + d < 256 → IsRest (Number (n * 10 + d)) t v → IsRest (Number n) ((48 + d) ∷ t) v
number_longer n d some small few (number {t} {v} m b ds bs e s a) =
    let front : (n * 10 + d) / 10 ≡ n = omega arith in
    let end : 48 + (n * 10 + d) % 10 ≡ 48 + d = omega arith in
    let whole : decimal b ≡ decimal n ++ ((48 + d) ∷ ds) =
    e ∙ ap (λ x. x ++ ds) (decimal_step (n * 10 + d) (omega arith) (omega arith) ∙ (λ i. decimal (front i) ++ (end i ∷ []))) ∙ append_assoc (decimal n) ((48 + d) ∷ []) ds in
    number n b ((48 + d) ∷ ds) bs whole s a

number_ended : {t v : List ℕ} (n : ℕ) → n < 256 → IsRest Done t v → IsRest (Number n) (41 ∷ t) (n ∷ v)
number_ended n small (done a) = number n n [] [] (sym (append-nil (decimal n))) (and_from (nat_lt n 256) true (lt-ltb n 256 small) refl) a

number_next : {t v : List ℕ} (n : ℕ) → n < 256 → IsRest First t v → IsRest (Number n) (44 ∷ t) (n ∷ v)
number_next n small (first b bs s a) = number n n [] (b ∷ bs) (sym (append-nil (decimal n))) (and_from (nat_lt n 256) (list_all (λ c. nat_lt c 256) (b ∷ bs)) (lt-ltb n 256 small) s) a

-- what each byte does
pub data Moves : State → ℕ → Effect → Type 0 where
  stops : {s : State} {b : ℕ} → Moves s b Stop
  opens : Moves Start 34 (Silent Quotes)
  names_codes : Moves Start 36 (Silent Dollar)
  closes : Moves Quotes 34 (Silent Closed)
  keeps : (b : ℕ) → (b == 34) ≡ false → is_plain b ≡ true → Moves Quotes b (Emit Quotes b)
  doubles : Moves Closed 34 (Emit Quotes 34)
  joins : Moves Closed 95 (Silent Start)
  letters : Moves Dollar 67 (Silent Paren)
  brackets : Moves Paren 40 (Silent First)
  begins : (d : ℕ) → d < 10 → Moves First (48 + d) (Silent (Number d))
  lengthens : (n d : ℕ) → 0 < n → d < 10 → n * 10 + d < 256 → Moves (Number n) (48 + d) (Silent (Number (n * 10 + d)))
  goes_on : {n : ℕ} → Moves (Number n) 44 (Emit First n)
  ends : {n : ℕ} → Moves (Number n) 41 (Emit Done n)
  joins_codes : Moves Done 95 (Silent Start)

at : {s : State} {e : Effect} (b c : ℕ) → (b == c) ≡ true → Moves s c e → Moves s b e
at {s} {e} b c h m = subst (λ x. Moves s x e) (sym (eqb-true b c h)) m

start_moves : (b : ℕ) → Moves Start b (step Start b)
start_moves b = elim (cases_Bool (b == 34)) [
  | inl h ↦ rw h (at b 34 h opens)
  | inr h ↦ elim (cases_Bool (b == 36)) [ inl k ↦ rw (h, k) (at b 36 k names_codes) | inr k ↦ rw (h, k) stops ]
]

quotes_moves : (b : ℕ) → Moves Quotes b (step Quotes b)
quotes_moves b = elim (cases_Bool (b == 34)) [
  | inl h ↦ rw h (at b 34 h closes)
  | inr h ↦ elim (cases_Bool (is_plain b)) [ inl k ↦ rw (h, k) (keeps b h k) | inr k ↦ rw (h, k) stops ]
]

closed_moves : (b : ℕ) → Moves Closed b (step Closed b)
closed_moves b = elim (cases_Bool (b == 34)) [
  | inl h ↦ rw h (at b 34 h doubles)
  | inr h ↦ elim (cases_Bool (b == 95)) [ inl k ↦ rw (h, k) (at b 95 k joins) | inr k ↦ rw (h, k) stops ]
]

dollar_moves : (b : ℕ) → Moves Dollar b (step Dollar b)
dollar_moves b = elim (cases_Bool (b == 67)) [ inl h ↦ rw h (at b 67 h letters) | inr h ↦ rw h stops ]

paren_moves : (b : ℕ) → Moves Paren b (step Paren b)
paren_moves b = elim (cases_Bool (b == 40)) [ inl h ↦ rw h (at b 40 h brackets) | inr h ↦ rw h stops ]

done_moves : (b : ℕ) → Moves Done b (step Done b)
done_moves b = elim (cases_Bool (b == 95)) [ inl h ↦ rw h (at b 95 h joins_codes) | inr h ↦ rw h stops ]

digit_begins : (b : ℕ) → is_ascii_digit b ≡ true → Moves First b (Silent (Number (b - 48)))
digit_begins b h = let r = digit_bounds b h in let e : 48 + (b - 48) ≡ b = omega arith in subst (λ x. Moves First x (Silent (Number (b - 48)))) e (begins (b - 48) (omega arith))

first_moves : (b : ℕ) → Moves First b (step First b)
first_moves b = elim (cases_Bool (is_ascii_digit b)) [ inl h ↦ rw h (digit_begins b h) | inr h ↦ rw h stops ]

digit_lengthens : (n b : ℕ) → (is_ascii_digit b && not (n == 0) && nat_lt (n * 10 + (b - 48)) 256) ≡ true → Moves (Number n) b (Silent (Number (n * 10 + (b - 48))))
digit_lengthens n b h =
    let t = and_parts (is_ascii_digit b && not (n == 0)) (nat_lt (n * 10 + (b - 48)) 256) h in
    let u = and_parts (is_ascii_digit b) (not (n == 0)) t.0 in
    let r = digit_bounds b u.0 in
    let e : 48 + (b - 48) ≡ b = omega arith in
    subst (λ x. Moves (Number n) x (Silent (Number (n * 10 + (b - 48))))) e
    (lengthens n (b - 48) (omega (arith, eqb-false n 0 (not-true (n == 0) u.1))) (omega arith) (ltb-true (n * 10 + (b - 48)) 256 t.1))

digit_moves : (n b : ℕ) → Moves (Number n) b (digit_more n b)
digit_moves n b = elim (cases_Bool (is_ascii_digit b && not (n == 0) && nat_lt (n * 10 + (b - 48)) 256)) [
  | inl h ↦ rw h (digit_lengthens n b h)
  | inr h ↦ rw h stops
]

number_moves : (n b : ℕ) → Moves (Number n) b (step (Number n) b)
number_moves n b = elim (cases_Bool (b == 44)) [
  | inl h ↦ rw h (at b 44 h goes_on)
  | inr h ↦ elim (cases_Bool (b == 41)) [ inl k ↦ rw (h, k) (at b 41 k ends) | inr k ↦ rw (h, k) (digit_moves n b) ]
]

pub moves : (s : State) (b : ℕ) → Moves s b (step s b)
moves Start b = start_moves b
moves Quotes b = quotes_moves b
moves Closed b = closed_moves b
moves Dollar b = dollar_moves b
moves Paren b = paren_moves b
moves First b = first_moves b
moves (Number n) b = number_moves n b
moves Done b = done_moves b

-- a number so far is a byte
abbrev pub IsGood : State → Type 0
IsGood (Number n) = n < 256
IsGood s = Unit {0}

abbrev pub LeadsToGood : Effect → Type 0
LeadsToGood Stop = Unit {0}
LeadsToGood (Silent t) = IsGood t
LeadsToGood (Emit t b) = IsGood t

pub good : {s : State} {b : ℕ} {e : Effect} → Moves s b e → LeadsToGood e
good stops = tt
good opens = tt
good names_codes = tt
good closes = tt
good (keeps b h k) = tt
good doubles = tt
good joins = tt
good letters = tt
good brackets = tt
good (begins d small) = omega arith
good (lengthens n d some small few) = few
good goes_on = tt
good ends = tt
good joins_codes = tt

-- what stands behind a byte's effect stands behind the byte
abbrev pub GoesBack : State → ℕ → Effect → Type 0
GoesBack s b Stop = Unit {0}
GoesBack s b (Silent t) = (l v : List ℕ) → IsRest t l v → IsRest s (b ∷ l) v
GoesBack s b (Emit t c) = (l v : List ℕ) → IsRest t l v → IsRest s (b ∷ l) (c ∷ v)

after_start : {t v : List ℕ} → IsRest Start t v → IsAfter (95 ∷ t) v
after_start (start z) = another z

pub back : {s : State} {b : ℕ} {e : Effect} → IsGood s → Moves s b e → GoesBack s b e
back g stops = tt
back g opens = λ l v r. start (open_quotes r)
back g names_codes = λ l v r. start (open_codes r)
back g closes = λ l v r. close_quotes r
back g (keeps b h k) = λ l v r. plain_more b h k r
back g doubles = λ l v r. doubled r
back g joins = λ l v r. closed (after_start r)
back g letters = λ l v r. dollar r
back g brackets = λ l v r. paren r
back g (begins d small) = λ l v r. number_begun d small r
back g (lengthens n d some small few) = λ l v r. number_longer n d some small few r
back g (goes_on {n}) = λ l v r. number_next n g r
back g (ends {n}) = λ l v r. number_ended n g r
back g joins_codes = λ l v r. done (after_start r)

-- a reader that ends well has read a text of its value
abbrev IsSound : State → List ℕ → Scanned → Type 0
IsSound s text r = is_whole r.state ≡ true → (front : List ℕ) × (text ≡ front ++ r.left) × IsRest s front r.value

at_end : (s : State) → is_whole s ≡ true → IsRest s [] []
at_end Closed h = closed nothing
at_end Done h = done nothing
at_end Start h = cc
at_end Quotes h = cc
at_end Dollar h = cc
at_end Paren h = cc
at_end First h = cc
at_end (Number n) h = cc

sound_at : (s : State) (b : ℕ) (bs : List ℕ) (e : Effect) → Moves s b e → IsGood s → ((t : State) → IsGood t → IsSound t bs (scan t bs))
    → IsSound s (b ∷ bs) (onward e (record { value = []; state = s; left = b ∷ bs }) (λ t. scan t bs))
sound_at s b bs Stop m g next w = ([], refl, at_end s w)
sound_at s b bs (Silent t) m g next w = let r = next t (good m) w in (b ∷ r.0, ap (λ x. b ∷ x) r.1, back g m r.0 (scan t bs).value r.2)
sound_at s b bs (Emit t c) m g next w = let r = next t (good m) w in (b ∷ r.0, ap (λ x. b ∷ x) r.1, back g m r.0 (scan t bs).value r.2)

sound : (s : State) (text : List ℕ) → IsGood s → IsSound s text (scan s text)
sound s [] g = λ w. ([], refl, at_end s w)
sound s (b ∷ bs) g = sound_at s b bs (step s b) (moves s b) g (λ t h. sound t bs h)

pub from_start : {t v : List ℕ} → IsRest Start t v → IsZwr t v
from_start (start z) = z

pub none_left : (xs : List ℕ) → (length xs == 0) ≡ true → xs ≡ []
none_left [] h = refl
none_left (x ∷ xs) h = absurd (omega (arith, eqb-true (length (x ∷ xs)) 0 h))

pub ended : (len : ℕ) (r : Scanned) (v : List ℕ) → read_whole len r ≡ Ok v → (is_whole r.state ≡ true) × (r.left ≡ []) × (r.value ≡ v)
ended len r v e = elim (cases_Bool (is_whole r.state && length r.left == 0)) [
  | inl h ↦ let t = and_parts (is_whole r.state) (length r.left == 0) h in let f = rw h at e in (t.0, none_left r.left t.1, cc)
  | inr h ↦ let f = rw h at e in cc
]

-- what was read up to a place where a text may end is in ZWR form
pub scan_found : (text : List ℕ) → is_whole (scan Start text).state ≡ true → (front : List ℕ) × (text ≡ front ++ (scan Start text).left) × IsZwr front (scan Start text).value
scan_found text w = let r = sound Start text tt w in (r.0, r.1, from_start r.2)

pub zwr_found : (text v : List ℕ) → zwr_reading text ≡ Ok v → IsZwr text v
zwr_found text v e =
    let t = ended (length text) (scan Start text) v e in
    let r = scan_found text t.0 in
    let all : r.0 ≡ text = sym (append-nil r.0) ∙ ap (λ x. r.0 ++ x) (sym t.1) ∙ sym r.1 in
    subst (IsZwr text) t.2 (subst (λ x. IsZwr x (scan Start text).value) all r.2)

pub found_by : (text : List ℕ) (r : Result (List ℕ) ZwrError) → ReadsZwr (zwr_reading text) r → IfOk r (λ v. IsZwr text v)
found_by text (Ok v) h = zwr_found text v h
found_by text (Err e) h = tt
