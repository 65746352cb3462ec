-- What texts of gates and bodies stand for.
use Rattle.std.proofs.Common.{◌≡◌, ◌≢◌, inl, inr, ℕ, zero, suc, ◌+◌, ◌-◌, ◌≤◌, ◌<◌, ◌^◌, Bool, true, cond, List, [], ◌∷◌, ◌++◌, length, take, drop, Option, Some, refl, sym, ◌∙◌, ap, subst, arith, append_assoc, length-append}
use Rattle.std.proofs.lemmas.Bool.{cases_eq, cases_lt}
use Rattle.std.proofs.lemmas.Bool.Decides.{nat_tests}
use Rattle.std.proofs.lemmas.List.{take_at, drop_at, drop-drop, take-append-le}
use Rattle.std.proofs.lemmas.Nat.{from_be_bytes-to_be_bytes_4}
use Rattle.std.specs.Option.{option_map}
use Rattle.std.specs.Int.{from_be_bytes, to_be_bytes, w32}
use Rattle.std.specs.List.{AllByRecursion}
use Rattle.global_defs.specs.declared.limits.TheConstants.{LONGEST_BODY}
use Rattle.disk_defs.specs.Gates.{Body, Open, NoGate, fits, behind_length, behind, bodies_from, bodies_within, records, framed, spelled, spelled_with, IsBody, Stands}

pub length-framed : (body : Body) → length (framed body) ≡ 4 + length body
length-framed body = length-append (to_be_bytes w32 (length body)) body

pub behind_is : (xs : List ℕ) (n : ℕ) → from_be_bytes w32 (take 4 xs) ≡ n → fits n xs ≡ true → behind xs ≡ Open (take n (drop 4 xs)) (drop (4 + n) xs)
behind_is xs n is ok = ap (λ (m : ℕ). behind_length m xs) is ∙ ap (λ (b : Bool). cond b (Open (take n (drop 4 xs)) (drop (4 + n) xs)) NoGate) ok

pub fits_is : (n : ℕ) (xs : List ℕ) → 1 ≤ n → n ≤ LONGEST_BODY → n + 5 ≤ length xs → fits n xs ≡ true
fits_is n xs low high next = grind (arith, nat_tests)

pub behind_framed : (body : Body) (rest : List ℕ) → IsBody body → 1 ≤ length rest → behind (framed body ++ rest) ≡ Open body rest
behind_framed body rest is_body next =
    let n = length body in
    let xs = framed body ++ rest in
    let small : n < 2 ^ 32 = omega (arith, is_body.not_long) in
    let is : from_be_bytes w32 (take 4 xs) ≡ n = from_be_bytes-to_be_bytes_4 n small in
    let long : n + 5 ≤ length xs = omega (arith, length-append (framed body) rest, length-framed body) in
    behind_is xs n is (fits_is n xs is_body.not_empty is_body.not_long long)
    ∙ ap (λ (b : Body). Open b (drop (4 + n) xs)) (take_at body rest n refl)
    ∙ ap (λ (r : List ℕ). Open body r) (sym (drop-drop n 4 xs) ∙ drop_at body rest n refl)

-- a closed gate ends the list
pub within_closed : (n gate : ℕ) (rest : List ℕ) → gate ≢ 1 → bodies_within (suc n) (gate ∷ rest) ≡ Some []
within_closed n gate rest shut = grind (arith, nat_tests)

pub within_open : (n : ℕ) (body : Body) (rest : List ℕ) → IsBody body → 1 ≤ length rest → bodies_within (suc n) (1 ∷ framed body ++ rest) ≡ option_map (λ bodies. body ∷ bodies) (bodies_within n rest)
within_open n body rest is_body next = ap (bodies_from (λ r. bodies_within n r)) (behind_framed body rest is_body next)

pub length-spelled : (gate : ℕ) (bodies : List Body) → length bodies ≤ length (spelled gate bodies)
length-spelled gate [] = omega arith
length-spelled gate (body ∷ bodies) = omega (arith, length-append (framed body) (spelled gate bodies), length-spelled gate bodies)

some_more : (body : Body) (o : Option (List Body)) (bodies : List Body) → o ≡ Some bodies → option_map (λ bs. body ∷ bs) o ≡ Some (body ∷ bodies)
some_more body o bodies is = ap (option_map (λ bs. body ∷ bs)) is

-- open records, and then what the rest stands for
pub within_spelled : (bodies : List Body) (m n : ℕ) (rest : List ℕ) (after : List Body) → m ≡ length bodies + n → AllByRecursion IsBody bodies → 1 ≤ length rest → bodies_within n rest ≡ Some after
    → bodies_within m (spelled 1 bodies ++ rest) ≡ Some (bodies ++ after)
within_spelled [] m n rest after fuel all next is = let same : m ≡ n = omega arith in ap (λ (k : ℕ). bodies_within k rest) same ∙ is
within_spelled (body ∷ bodies) zero n rest after fuel all next is = absurd (omega arith)
within_spelled (body ∷ bodies) (suc m) n rest after fuel all next is =
    ap (λ (r : List ℕ). bodies_within (suc m) (1 ∷ r)) (append_assoc (framed body) (spelled 1 bodies) rest)
    ∙ within_open m body (spelled 1 bodies ++ rest) all.0 (omega (arith, length-append (spelled 1 bodies) rest))
    ∙ some_more body _ _ (within_spelled bodies m n rest after (omega arith) all.1 next is)

-- gates of any kind: up to the first that is closed
pub within_gates : (gates : List ℕ) (bodies : List Body) (n gate : ℕ) (rest : List ℕ) → length gates ≡ length bodies → AllByRecursion IsBody bodies → gate ≢ 1 → length bodies < n
    → (k : ℕ) × (k ≤ length bodies) × (bodies_within n (spelled_with gates bodies ++ gate ∷ rest) ≡ Some (take k bodies))
within_gates gates [] zero gate rest same all shut enough = absurd (omega arith)
within_gates gates [] (suc n) gate rest same all shut enough = (0, omega arith, within_closed n gate rest shut)
within_gates [] (body ∷ bodies) n gate rest same all shut enough = absurd (omega arith)
within_gates (g ∷ gates) (body ∷ bodies) zero gate rest same all shut enough = absurd (omega arith)
within_gates (g ∷ gates) (body ∷ bodies) (suc n) gate rest same all shut enough = elim (cases_eq g 1) [
  | inl is_open ↦
      let more = within_gates gates bodies n gate rest (omega arith) all.1 shut (omega arith) in
      let after = spelled_with gates bodies ++ gate ∷ rest in (
        suc more.0,
        omega (arith, more.1),
        ap (λ (x : ℕ). bodies_within (suc n) (x ∷ (framed body ++ spelled_with gates bodies) ++ gate ∷ rest)) is_open
            ∙ ap (λ (r : List ℕ). bodies_within (suc n) (1 ∷ r)) (append_assoc (framed body) (spelled_with gates bodies) (gate ∷ rest))
            ∙ within_open n body after all.0 (omega (arith, length-append (spelled_with gates bodies) (gate ∷ rest)))
            ∙ some_more body _ _ more.2,
      )
  | inr is_shut ↦ (0, omega arith, within_closed n g ((framed body ++ spelled_with gates bodies) ++ gate ∷ rest) is_shut)
]

-- A file of open records, of records whose gates are any, and of a closed gate.
abbrev pub opened : List Body → List ℕ → List Body → List ℕ → List ℕ
opened sure gates more rest = spelled 1 sure ++ (spelled_with gates more ++ rest)

pub length-spelled_with : (gates : List ℕ) (bodies : List Body) → length gates ≡ length bodies → length bodies ≤ length (spelled_with gates bodies)
length-spelled_with gates [] same = omega arith
length-spelled_with [] (body ∷ bodies) same = absurd (omega arith)
length-spelled_with (g ∷ gates) (body ∷ bodies) same = omega (arith, length-append (framed body) (spelled_with gates bodies), length-spelled_with gates bodies (omega arith))

length-opened : (sure : List Body) (gates : List ℕ) (more : List Body) (rest : List ℕ) → length (opened sure gates more rest) ≡ length (spelled 1 sure) + (length (spelled_with gates more) + length rest)
length-opened sure gates more rest = omega (arith, length-append (spelled 1 sure) (spelled_with gates more ++ rest), length-append (spelled_with gates more) rest)

pub records_short : (file : List ℕ) → length file < 2 → records file ≡ Some []
records_short file short = grind (arith, nat_tests)

records_long : (file : List ℕ) (n : ℕ) → 2 ≤ length file → n ≡ length file → records file ≡ bodies_within n file
records_long file n long is = subst (λ (k : ℕ). records file ≡ bodies_within k file) (sym is) (grind (arith, nat_tests))

none_short : (sure : List Body) (gates : List ℕ) (more : List Body) (rest : List ℕ) → length (opened sure gates more rest) < 2 → records (opened sure gates more rest) ≡ Some (sure ++ [])
none_short [] gates more rest short = records_short (opened [] gates more rest) short
none_short (body ∷ sure) gates more rest short = absurd (omega (arith, length-opened (body ∷ sure) gates more rest, length-append (framed body) (spelled 1 sure), length-framed body))

all_long : (sure : List Body) (gates : List ℕ) (more : List Body) (gate : ℕ) (rest : List ℕ) → AllByRecursion IsBody sure → 2 ≤ length (opened sure gates more (gate ∷ rest)) → length sure + length more < length (opened sure gates more (gate ∷ rest))
    → (k : ℕ) × (k ≤ length more) × (bodies_within (length (opened sure gates more (gate ∷ rest)) - length sure) (spelled_with gates more ++ gate ∷ rest) ≡ Some (take k more))
    → Stands sure more (opened sure gates more (gate ∷ rest))
all_long sure gates more gate rest all_sure long enough found =
    let file = opened sure gates more (gate ∷ rest) in
    let tail = spelled_with gates more ++ gate ∷ rest in (
      found.0,
      found.1,
      records_long file (length file) long refl
          ∙ within_spelled sure (length file) (length file - length sure) tail (take found.0 more) (omega (arith, enough)) all_sure (omega (arith, length-append (spelled_with gates more) (gate ∷ rest))) found.2,
    )

-- It has the sure records, and of the others those up to the first closed gate.
pub stands : (sure : List Body) (gates : List ℕ) (more : List Body) (gate : ℕ) (rest : List ℕ) → length gates ≡ length more → AllByRecursion IsBody sure → AllByRecursion IsBody more → gate ≢ 1
    → Stands sure more (opened sure gates more (gate ∷ rest))
stands sure gates more gate rest same all_sure all_more shut = elim (cases_lt (length (opened sure gates more (gate ∷ rest))) 2) [
  | inl short ↦ (0, omega arith, none_short sure gates more (gate ∷ rest) short)
  | inr long ↦
      all_long sure gates more gate rest all_sure long (omega (arith, length-opened sure gates more (gate ∷ rest), length-spelled 1 sure, length-spelled_with gates more same))
      (within_gates gates more (length (opened sure gates more (gate ∷ rest)) - length sure) gate rest same all_more shut
      (omega (arith, length-opened sure gates more (gate ∷ rest), length-spelled 1 sure, length-spelled_with gates more same)))
]

-- the records so far, with more that may follow
pub stands_more : (sure more others : List Body) (bytes : List ℕ) → Stands sure more bytes → Stands sure (more ++ others) bytes
stands_more sure more others bytes h =
    (h.0, omega (arith, h.1, length-append more others), h.2 ∙ ap (λ (l : List Body). Some (sure ++ l)) (sym (take-append-le h.0 more others h.1)))
