-- Codes that keep an order. A list of elements is written as their codes one after another.
use Rattle.std.proofs.Common.{◌≡◌, ℕ, suc, zero, ◌<◌, ◌≤◌, Bool, true, nat_lt, ◌==◌, inl, inr, List, [], ◌∷◌, ◌++◌, length, refl, ap, sym, ◌∙◌, arith, append_assoc}
use Rattle.std.specs.declared.cmp.Ordering.{Ordering}
use Rattle.std.specs.declared.cmp.Ordering.TheVariants.{Less, Equal, Greater}
use Rattle.std.specs.Ordering.{nat_cmp, ordering_then}
use Rattle.std.specs.Cmp.Lexicographic.{slice_cmp, nat_list_cmp_total}
use Rattle.std.specs.List.{list_all, flat_map}
use Rattle.std.specs.FinMap as map
use Rattle.std.proofs.lemmas.Bool.{and_parts, ltb-true, eqb-true, eqb-false, cases_Bool}
use Rattle.std.proofs.lemmas.Cmp.{tied_itself}
use Rattle.std.proofs.Math.ListN.{length-append}
use Rattle.global_defs.specs.Encoded.{escaped}
use Rattle.global_defs.proofs.Order.{first_equal, second_equal}
use Rattle.global_defs.proofs.Ranks.{less, equal, greater, agree, then_then}

-- Codes of valid elements that aren't empty, and compare as the elements do whatever follows them. So no code begins another.
pub record IsOrderedCode {X : Type 0} (cmp : X → X → Ordering) (valid : X → Bool) (code : X → List ℕ) : Type 0 where
  pub some : (x : X) → valid x ≡ true → 0 < length (code x)
  pub first : (x y : X) → valid x ≡ true → valid y ≡ true → (a b : List ℕ) → slice_cmp nat_cmp (code x ++ a) (code y ++ b) ≡ ordering_then (cmp x y) (slice_cmp nat_cmp a b)

nothing_less : (a b : List ℕ) → 0 < length a → slice_cmp nat_cmp [] (a ++ b) ≡ Less
nothing_less [] b h = absurd (omega arith)
nothing_less (x ∷ a) b h = refl

more_greater : (a b : List ℕ) → 0 < length a → slice_cmp nat_cmp (a ++ b) [] ≡ Greater
more_greater [] b h = absurd (omega arith)
more_greater (x ∷ a) b h = refl

-- lists compare as their codes do
pub lists_ordered : {X : Type 0} {cmp : X → X → Ordering} {valid : X → Bool} {code : X → List ℕ} → IsOrderedCode cmp valid code
    → (xs ys : List X) → list_all valid xs ≡ true → list_all valid ys ≡ true → slice_cmp nat_cmp (flat_map code xs) (flat_map code ys) ≡ slice_cmp cmp xs ys
lists_ordered {valid = valid} {code = code} c [] [] h g = refl
lists_ordered {valid = valid} {code = code} c [] (y ∷ ys) h g =
    nothing_less (code y) (flat_map code ys) (c.some y (and_parts (valid y) (list_all valid ys) g).0)
lists_ordered {valid = valid} {code = code} c (x ∷ xs) [] h g =
    more_greater (code x) (flat_map code xs) (c.some x (and_parts (valid x) (list_all valid xs) h).0)
lists_ordered {cmp = cmp} {valid = valid} {code = code} c (x ∷ xs) (y ∷ ys) h g =
    let p = and_parts (valid x) (list_all valid xs) h in
    let q = and_parts (valid y) (list_all valid ys) g in
    c.first x y p.0 q.0 (flat_map code xs) (flat_map code ys) ∙ ap (ordering_then (cmp x y)) (lists_ordered c xs ys p.1 q.1)

-- Where the code of a list begins that of another, the list begins the other.
pub lists_begin : {X : Type 0} {cmp : X → X → Ordering} {valid : X → Bool} {code : X → List ℕ} → IsOrderedCode cmp valid code → map.IsAntisymmetric cmp
    → (xs ys : List X) (rest : List ℕ) → list_all valid xs ≡ true → list_all valid ys ≡ true → flat_map code ys ≡ flat_map code xs ++ rest → (more : List X) × (ys ≡ xs ++ more)
lists_begin c anti [] ys rest h g e = (ys, refl)
lists_begin {valid = valid} {code = code} c anti (x ∷ xs) [] rest h g e =
    absurd (omega (arith, c.some x (and_parts (valid x) (list_all valid xs) h).0, ap length e, length-append (code x ++ flat_map code xs) rest, length-append (code x) (flat_map code xs)))
lists_begin {cmp = cmp} {valid = valid} {code = code} c anti (x ∷ xs) (y ∷ ys) rest h g e =
    let p = and_parts (valid x) (list_all valid xs) h in
    let q = and_parts (valid y) (list_all valid ys) g in
    let a : List ℕ = flat_map code xs ++ rest in
    let b : List ℕ = flat_map code ys in
    let split : code y ++ b ≡ code x ++ a = e ∙ append_assoc (code x) (flat_map code xs) rest in
    let tied : ordering_then (cmp x y) (slice_cmp nat_cmp a b) ≡ Equal =
    sym (c.first x y p.0 q.0 a b) ∙ ap (slice_cmp nat_cmp (code x ++ a)) split ∙ tied_itself nat_list_cmp_total (code x ++ a) in
    let one : x ≡ y = anti x y (first_equal (cmp x y) (slice_cmp nat_cmp a b) tied) in
    let others : a ≡ b = map.slice_cmp-IsAntisymmetric map.nat_cmp-IsAntisymmetric a b (second_equal (cmp x y) (slice_cmp nat_cmp a b) tied) in
    let more = lists_begin c anti xs ys rest p.1 q.1 (sym others) in
    (more.0, λ i. sym one i ∷ more.1 i)

-- codes whose first byte is above that which ends the list
pub record IsAbove {X : Type 0} (end : ℕ) (valid : X → Bool) (code : X → List ℕ) : Type 0 where
  pub above : (x : X) → valid x ≡ true → (a b : List ℕ) → slice_cmp nat_cmp (end ∷ a) (code x ++ b) ≡ Less
  pub below : (x : X) → valid x ≡ true → (a b : List ℕ) → slice_cmp nat_cmp (code x ++ b) (end ∷ a) ≡ Greater

-- lists compare as their codes do, with such a byte and anything behind them
pub ended_ordered : {X : Type 0} {cmp : X → X → Ordering} {valid : X → Bool} {code : X → List ℕ} → IsOrderedCode cmp valid code → (end : ℕ) → IsAbove end valid code
    → (xs ys : List X) → list_all valid xs ≡ true → list_all valid ys ≡ true → (a b : List ℕ)
    → slice_cmp nat_cmp (flat_map code xs ++ (end ∷ a)) (flat_map code ys ++ (end ∷ b)) ≡ ordering_then (slice_cmp cmp xs ys) (slice_cmp nat_cmp a b)
ended_ordered c end o [] [] h g a b = rw (equal end end refl) refl
ended_ordered {valid = valid} {code = code} c end o [] (y ∷ ys) h g a b =
    ap (slice_cmp nat_cmp (end ∷ a)) (append_assoc (code y) (flat_map code ys) (end ∷ b))
    ∙ o.above y (and_parts (valid y) (list_all valid ys) g).0 a (flat_map code ys ++ (end ∷ b))
ended_ordered {valid = valid} {code = code} c end o (x ∷ xs) [] h g a b =
    ap (λ z. slice_cmp nat_cmp z (end ∷ b)) (append_assoc (code x) (flat_map code xs) (end ∷ a))
    ∙ o.below x (and_parts (valid x) (list_all valid xs) h).0 b (flat_map code xs ++ (end ∷ a))
ended_ordered {cmp = cmp} {valid = valid} {code = code} c end o (x ∷ xs) (y ∷ ys) h g a b =
    let p = and_parts (valid x) (list_all valid xs) h in
    let q = and_parts (valid y) (list_all valid ys) g in
    let more : List ℕ = flat_map code xs ++ (end ∷ a) in
    let others : List ℕ = flat_map code ys ++ (end ∷ b) in
    (λ i. slice_cmp nat_cmp (append_assoc (code x) (flat_map code xs) (end ∷ a) i) (append_assoc (code y) (flat_map code ys) (end ∷ b) i))
    ∙ c.first x y p.0 q.0 more others
    ∙ ap (ordering_then (cmp x y)) (ended_ordered c end o xs ys p.1 q.1 a b)
    ∙ sym (then_then (cmp x y) (slice_cmp cmp xs ys) (slice_cmp nat_cmp a b))

-- bytes above 0 with a 0 behind them

abbrev pub is_some_byte : ℕ → Bool
is_some_byte b = nat_lt 0 b

abbrev pub single : ℕ → List ℕ
single b = b ∷ []

pub singles : (bs : List ℕ) → flat_map single bs ≡ bs
singles [] = refl
singles (b ∷ bs) = ap (λ x. b ∷ x) (singles bs)

bytes_code : IsOrderedCode nat_cmp is_some_byte single
bytes_code = record { some = λ x h. omega arith; first = λ x y h g a b. refl }

bytes_above : IsAbove 0 is_some_byte single
bytes_above = record {
  above = λ x h a b. rw (less 0 x (ltb-true 0 x h)) refl;
  below = λ x h a b. rw (greater x 0 (ltb-true 0 x h)) refl;
}

pub bytes_ended : (s t a b : List ℕ) → list_all is_some_byte s ≡ true → list_all is_some_byte t ≡ true
    → slice_cmp nat_cmp (s ++ (0 ∷ a)) (t ++ (0 ∷ b)) ≡ ordering_then (slice_cmp nat_cmp s t) (slice_cmp nat_cmp a b)
bytes_ended s t a b h g =
    (λ i. slice_cmp nat_cmp (sym (singles s) i ++ (0 ∷ a)) (sym (singles t) i ++ (0 ∷ b))) ∙ ended_ordered bytes_code 0 bytes_above s t h g a b

-- any bytes, escaped, with a 0 behind them

abbrev is_byte : ℕ → Bool
is_byte b = true

all_bytes : (s : List ℕ) → list_all is_byte s ≡ true
all_bytes [] = refl
all_bytes (b ∷ s) = all_bytes s

-- a byte's escaped form, by cases
data IsEscaped (b : ℕ) (code : List ℕ) : Type 0 where
  low : b < 2 → code ≡ 1 ∷ suc b ∷ [] → IsEscaped b code
  high : 2 ≤ b → code ≡ b ∷ [] → IsEscaped b code

escaped_is : (b : ℕ) → IsEscaped b (escaped b)
escaped_is zero = low (omega arith) refl
escaped_is (suc b) = elim (cases_Bool (b == 0)) [
  | inl e ↦ let z : 2 ≡ suc (suc b) = omega (arith, eqb-true b 0 e) in low (omega (arith, eqb-true b 0 e)) (rw e (λ i. 1 ∷ z i ∷ []))
  | inr e ↦ high (omega (arith, eqb-false b 0 e)) (rw e refl)
]

escaped_first : (x y : ℕ) (a b : List ℕ) → slice_cmp nat_cmp (escaped x ++ a) (escaped y ++ b) ≡ ordering_then (nat_cmp x y) (slice_cmp nat_cmp a b)
escaped_first x y a b = elim (escaped_is x) [
  | low p e ↦ elim (escaped_is y) [
    | low q g ↦ rw (e, g) (ap (λ o. ordering_then o (slice_cmp nat_cmp a b)) (agree x y (suc x) (suc y) (λ h. omega arith) (λ h. omega arith) (λ h. omega arith)))
    | high q g ↦ rw (e, g, less x y (omega arith), less 1 y (omega arith)) refl
  ]
  | high p e ↦ elim (escaped_is y) [
    | low q g ↦ rw (e, g, greater x y (omega arith), greater x 1 (omega arith)) refl
    | high q g ↦ rw (e, g) refl
  ]
]

escaped_code : IsOrderedCode nat_cmp is_byte escaped
escaped_code = record {
  some = λ x h. elim (escaped_is x) [ low p e ↦ rw e (omega arith) | high p e ↦ rw e (omega arith) ];
  first = λ x y h g a b. escaped_first x y a b;
}

escaped_above : IsAbove 0 is_byte escaped
escaped_above = record {
  above = λ x h a b. elim (escaped_is x) [ low p e ↦ rw e refl | high p e ↦ rw (e, less 0 x (omega arith)) refl ];
  below = λ x h a b. elim (escaped_is x) [ low p e ↦ rw e refl | high p e ↦ rw (e, greater x 0 (omega arith)) refl ];
}

pub escaped_ended : (s t a b : List ℕ)
    → slice_cmp nat_cmp (flat_map escaped s ++ (0 ∷ a)) (flat_map escaped t ++ (0 ∷ b)) ≡ ordering_then (slice_cmp nat_cmp s t) (slice_cmp nat_cmp a b)
escaped_ended s t a b = ended_ordered escaped_code 0 escaped_above s t (all_bytes s) (all_bytes t) a b
