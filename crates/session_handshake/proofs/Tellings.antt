-- What a HELLO tells of a history.
use Rattle.std.proofs.Common.{◌≡◌, ℕ, zero, suc, ◌+◌, ◌*◌, ◌^◌, ◌<◌, ◌≤◌, nat_le, true, false, List, [], ◌∷◌, ◌++◌, length, take, refl, sym, ap, ◌∙◌, arith, length-append, if◌then◌else◌}
use Rattle.std.specs.Int.{to_be_bytes, w32, w64}
use Rattle.std.specs.List.{AllByRecursion, flat_map}
use Rattle.std.proofs.lemmas.List.{take-append-le, take_all, length-take}
use Rattle.global_defs.specs.declared.limits.TheConstants.{MOST_REIGNS, NUMBERS_END}
use Rattle.global_defs.specs.Entry.{Reign}
use Rattle.global_defs.specs.Fields.{IsReign, IsSiteName, short}
use Rattle.global_defs.specs.Prefix.{History}
use Rattle.global_defs.specs.Rising.{begun_by}
use Rattle.wire_defs.specs.Frames.{Hello, IsFrame, spelled_reign}
use Rattle.ship_defs.specs.Greeting.{carried, greeting}

-- one more of a list that is cut off at a length
pub take_push : (n : ℕ) (xs : List Reign) (x : Reign) → length (take n xs) < n → take n (xs ++ x ∷ []) ≡ take n xs ++ x ∷ []
take_push n xs x few =
    let size = length-take n xs in
    let more = length-append xs (x ∷ []) in
    let one : length (xs ++ x ∷ []) ≤ n = omega (arith, size, few, more) in
    let all : length xs ≤ n = omega (arith, size, few) in
    take_all n (xs ++ x ∷ []) one ∙ ap (λ (l : List Reign). l ++ x ∷ []) (sym (take_all n xs all))

pub take_full : (n : ℕ) (xs : List Reign) (x : Reign) → n ≤ length (take n xs) → take n (xs ++ x ∷ []) ≡ take n xs
take_full n xs x full =
    let size = length-take n xs in
    take-append-le n xs (x ∷ []) (omega (arith, size, full))

all_front : (n : ℕ) (xs : List Reign) → AllByRecursion IsReign xs → AllByRecursion IsReign (take n xs)
all_front zero xs a = tt
all_front (suc n) [] a = tt
all_front (suc n) (x ∷ xs) a = (a.0, all_front n xs a.1)

all_begun : (n : ℕ) (xs : List Reign) → AllByRecursion IsReign xs → AllByRecursion IsReign (begun_by n xs)
all_begun n [] a = tt
all_begun n (x ∷ xs) a = elim (nat_le x.start n) as (λ b. AllByRecursion IsReign (if b then x ∷ begun_by n xs else begun_by n xs)) [ true ↦ (a.0, all_begun n xs a.1) | false ↦ all_begun n xs a.1 ]

pub all_told : (m n : ℕ) (xs : List Reign) → AllByRecursion IsReign xs → AllByRecursion IsReign (take m (begun_by n xs))
all_told m n xs a = all_front m (begun_by n xs) (all_begun n xs a)

-- with how few bytes a HELLO tells reigns

name_few : (name : List ℕ) → IsSiteName name → length name ≤ 15
name_few [] named = absurd named
name_few (b ∷ bs) named = omega (arith, named.2)

reign_few : (r : Reign) → IsReign r → length (spelled_reign r) ≤ 28
reign_few r form =
    let behind = length-append (short r.stamp.root ++ to_be_bytes w32 r.stamp.cycle) (to_be_bytes w64 r.start) in
    let front = length-append (short r.stamp.root) (to_be_bytes w32 r.stamp.cycle) in
    let few = name_few r.stamp.root form.stamp.root in
    omega (arith, behind, front, few)

reigns_few : (rs : List Reign) → AllByRecursion IsReign rs → length (flat_map spelled_reign rs) ≤ 28 * length rs
reigns_few [] a = omega arith
reigns_few (r ∷ rs) a =
    let size = length-append (spelled_reign r) (flat_map spelled_reign rs) in
    let here = reign_few r a.0 in
    let later = reigns_few rs a.1 in
    omega (arith, size, here, later)

pub hello_form : (name : List ℕ) (h : History) → IsSiteName name → h.length < NUMBERS_END → AllByRecursion IsReign h.reigns → length h.reigns ≤ 32769 → IsFrame (Hello 1 name h)
hello_form name h named few form count =
    let last = length-append (short name ++ to_be_bytes w64 h.length ++ to_be_bytes w32 (length h.reigns)) (flat_map spelled_reign h.reigns) in
    let behind = length-append (short name ++ to_be_bytes w64 h.length) (to_be_bytes w32 (length h.reigns)) in
    let front = length-append (short name) (to_be_bytes w64 h.length) in
    let some = reigns_few h.reigns form in
    let short_name = name_few name named in
    record { fields = (refl, named, few, omega (arith, count), form); short = omega (arith, last, behind, front, some, short_name, count) }

pub greeting_form : (name : List ℕ) (mine : History) → IsSiteName name → mine.length < NUMBERS_END → AllByRecursion IsReign mine.reigns → IsFrame (greeting name mine)
greeting_form name mine named few form =
    let size = length-take (MOST_REIGNS + 1) (begun_by mine.length mine.reigns) in
    hello_form name (carried mine) named few (all_told (MOST_REIGNS + 1) mine.length mine.reigns form) (omega (arith, size))
