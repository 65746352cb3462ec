-- Cells read back from their bytes.
use Rattle.std.proofs.Common.{◌≡◌, ℕ, zero, suc, ◌+◌, ◌≤◌, ◌<◌, ◌^◌, List, [], ◌∷◌, ◌++◌, length, take, drop, get_or, flat_map, refl, sym, ◌∙◌, ap, arith, append_assoc, length-append, length-drop}
use Rattle.std.proofs.lemmas.List.{append-nil, take_all, get_or-drop, drop-drop, length-take-le, take-append-drop}
use Rattle.std.proofs.Math.Seq.{take-append_seam, drop-append_seam, drop-append-add}
use Rattle.std.proofs.lemmas.Nat.{from_be_bytes-to_be_bytes_2, be_bytes_2}
use Rattle.std.specs.Int.{from_be_bytes, to_be_bytes, w16}
use Rattle.std.specs.List.{AllByRecursion}
use Rattle.global_defs.specs.declared.limits.TheConstants.{LONGEST_VALUE}
use Rattle.global_defs.specs.Fields.{short, long}
use Rattle.journal_defs.specs.Leaves.{Cell, spelled_cell, IsCell}
use Rattle.block_fmt.specs.Read.{first_cell, cells_in, BeginWithCell}

pub length-spelled_cell : (c : Cell) → length (spelled_cell c) ≡ length c.0 + length c.1 + 3
length-spelled_cell c = omega (arith, length-append c.0 (long c.1))

-- a cell's bytes behind its first one
behind : Cell → List ℕ → List ℕ
behind c rest = c.0 ++ (long c.1 ++ rest)

spelled_behind : (c : Cell) (rest : List ℕ) → spelled_cell c ++ rest ≡ length c.0 ∷ (c.0 ++ (long c.1 ++ rest))
spelled_behind c rest = append_assoc (short c.0) (long c.1) rest

pub first_is : (c : Cell) (rest : List ℕ) → length c.1 < 2 ^ 16 → first_cell (spelled_cell c ++ rest) ≡ c
first_is c rest fits =
    let k = length c.0 in
    let head = to_be_bytes w16 (length c.1) in
    let all = c.0 ++ (long c.1 ++ rest) in
    let key : take k all ≡ c.0 = take-append_seam c.0 (long c.1 ++ rest) in
    let count : from_be_bytes w16 (take 2 (drop k all)) ≡ length c.1 =
    ap (λ (l : List ℕ). from_be_bytes w16 (take 2 l)) (drop-append_seam c.0 (long c.1 ++ rest)) ∙ from_be_bytes-to_be_bytes_2 (length c.1) fits in
    let order : 2 + k ≡ k + 2 = omega arith in
    let from : drop (2 + k) all ≡ c.1 ++ rest = ap (λ (n : ℕ). drop n all) order ∙ drop-append-add c.0 (long c.1 ++ rest) 2 in
    let value : take (from_be_bytes w16 (take 2 (drop k all))) (drop (2 + k) all) ≡ c.1 = ap (λ (n : ℕ). take n (drop (2 + k) all)) count ∙ ap (take (length c.1)) from ∙ take-append_seam c.1 rest in
    ap first_cell (spelled_behind c rest) ∙ (λ i. (key i, value i))

-- the cell that bytes begin with, and those behind it
pub begins : (bytes : List ℕ) → BeginWithCell bytes → bytes ≡ spelled_cell (first_cell bytes) ++ drop (length (spelled_cell (first_cell bytes))) bytes
begins bytes h =
    let few = h.short in
    let cell : first_cell bytes ≡ h.cell = ap first_cell h.is ∙ first_is h.cell h.rest (omega (arith, few)) in
    let rest : drop (length (spelled_cell h.cell)) bytes ≡ h.rest = ap (drop (length (spelled_cell h.cell))) h.is ∙ drop-append_seam (spelled_cell h.cell) h.rest in
    h.is ∙ ap (λ (l : List ℕ). spelled_cell h.cell ++ l) (sym rest) ∙ ap (λ (c : Cell). spelled_cell c ++ drop (length (spelled_cell c)) bytes) (sym cell)

pub first_short : (bytes : List ℕ) → BeginWithCell bytes → length (first_cell bytes).1 ≤ LONGEST_VALUE
first_short bytes h =
    let few = h.short in
    let cell : first_cell bytes ≡ h.cell = ap first_cell h.is ∙ first_is h.cell h.rest (omega (arith, few)) in
    omega (arith, few, ap (λ (c : Cell). length c.1) cell)

pub byte_at : (bytes : List ℕ) (at : ℕ) → get_or (drop at bytes) 0 0 ≡ get_or bytes at 0
byte_at bytes at = let same : at + 0 ≡ at = omega arith in get_or-drop at bytes 0 0 ∙ ap (λ (k : ℕ). get_or bytes k 0) same

-- where its parts stand
pub first_parts : (bytes : List ℕ) → BeginWithCell bytes → length (first_cell bytes).0 + length (first_cell bytes).1 + 3 ≤ length bytes
first_parts bytes h =
    let c = first_cell bytes in
    omega (arith, ap length (begins bytes h), length-append (spelled_cell c) (drop (length (spelled_cell c)) bytes), length-spelled_cell c)

pub first_byte : (bytes : List ℕ) → BeginWithCell bytes → get_or bytes 0 0 ≡ length (first_cell bytes).0
first_byte bytes h =
    let c = first_cell bytes in
    ap (λ (l : List ℕ). get_or l 0 0) (begins bytes h ∙ spelled_behind c (drop (length (spelled_cell c)) bytes))

pub second_number : (bytes : List ℕ) → BeginWithCell bytes → from_be_bytes w16 (take 2 (drop (length (first_cell bytes).0 + 1) bytes)) ≡ length (first_cell bytes).1
second_number bytes h =
    let c = first_cell bytes in
    let k = length c.0 in
    let rest = drop (length (spelled_cell c)) bytes in
    let few = first_short bytes h in
    let next : k + 1 ≡ suc k = omega arith in
    let from : drop (k + 1) (length c.0 ∷ (c.0 ++ (long c.1 ++ rest))) ≡ long c.1 ++ rest = ap (λ (n : ℕ). drop n (length c.0 ∷ (c.0 ++ (long c.1 ++ rest)))) next ∙ drop-append_seam c.0 (long c.1 ++ rest) in
    ap (λ (l : List ℕ). from_be_bytes w16 (take 2 l)) (ap (drop (k + 1)) (begins bytes h ∙ spelled_behind c rest) ∙ from) ∙ from_be_bytes-to_be_bytes_2 (length c.1) (omega (arith, few))

-- the bytes behind a cell's first one
behind_first : (bytes : List ℕ) (at : ℕ) → BeginWithCell (drop at bytes)
    → drop (at + 1) bytes ≡ (first_cell (drop at bytes)).0 ++ (long (first_cell (drop at bytes)).1 ++ drop (length (spelled_cell (first_cell (drop at bytes)))) (drop at bytes))
behind_first bytes at h =
    let c = first_cell (drop at bytes) in
    let rest = drop (length (spelled_cell c)) (drop at bytes) in
    sym (drop-drop 1 at bytes) ∙ ap (drop 1) (begins (drop at bytes) h ∙ spelled_behind c rest)

pub key_read : (bytes : List ℕ) (at n : ℕ) → BeginWithCell (drop at bytes) → n ≡ length (first_cell (drop at bytes)).0 → take n (drop (at + 1) bytes) ≡ (first_cell (drop at bytes)).0
key_read bytes at n h is =
    let c = first_cell (drop at bytes) in
    let rest = long c.1 ++ drop (length (spelled_cell c)) (drop at bytes) in
    ap (take n) (behind_first bytes at h) ∙ ap (λ (k : ℕ). take k (c.0 ++ rest)) is ∙ take-append_seam c.0 rest

pub value_read : (bytes : List ℕ) (at k n : ℕ) → BeginWithCell (drop at bytes) → k ≡ length (first_cell (drop at bytes)).0 → n ≡ length (first_cell (drop at bytes)).1
    → take n (drop (at + 1 + k + 2) bytes) ≡ (first_cell (drop at bytes)).1
value_read bytes at k n h key_is is =
    let c = first_cell (drop at bytes) in
    let rest = drop (length (spelled_cell c)) (drop at bytes) in
    let order : at + 1 + k + 2 ≡ (at + 1) + (length c.0 + 2) = omega (arith, key_is) in
    let from : drop (at + 1 + k + 2) bytes ≡ c.1 ++ rest =
    ap (λ (m : ℕ). drop m bytes) order ∙ sym (drop-drop (length c.0 + 2) (at + 1) bytes) ∙ ap (drop (length c.0 + 2)) (behind_first bytes at h) ∙ drop-append-add c.0 (long c.1 ++ rest) 2 in
    ap (take n) from ∙ ap (λ (m : ℕ). take m (c.1 ++ rest)) is ∙ take-append_seam c.1 rest

-- where the value's length stands
pub number_read : (bytes : List ℕ) (at k : ℕ) → BeginWithCell (drop at bytes) → k ≡ length (first_cell (drop at bytes)).0
    → from_be_bytes w16 (take 2 (drop (at + 1 + k) bytes)) ≡ length (first_cell (drop at bytes)).1
number_read bytes at k h is =
    let c = first_cell (drop at bytes) in
    let order : at + 1 + k ≡ at + (length c.0 + 1) = omega (arith, is) in
    ap (λ (l : List ℕ). from_be_bytes w16 (take 2 l)) (ap (λ (m : ℕ). drop m bytes) order ∙ sym (drop-drop (length c.0 + 1) at bytes)) ∙ second_number (drop at bytes) h

-- cells are read back from their bytes
pub cells_in_front : (n : ℕ) (cs : List Cell) (rest : List ℕ) → n ≤ length cs → AllByRecursion IsCell cs → cells_in n (flat_map spelled_cell cs ++ rest) ≡ take n cs
cells_in_front zero cs rest few all = refl
cells_in_front (suc n) [] rest few all = absurd (omega arith)
cells_in_front (suc n) (c ∷ cs) rest few all =
    let bytes = flat_map spelled_cell (c ∷ cs) ++ rest in
    let more = flat_map spelled_cell cs ++ rest in
    let short_value = all.0.1 in
    let split : bytes ≡ spelled_cell c ++ more = append_assoc (spelled_cell c) (flat_map spelled_cell cs) rest in
    let cell : first_cell bytes ≡ c = ap first_cell split ∙ first_is c more (omega (arith, short_value)) in
    let next : drop (length (spelled_cell (first_cell bytes))) bytes ≡ more = ap (λ (d : Cell). drop (length (spelled_cell d)) bytes) cell ∙ ap (drop (length (spelled_cell c))) split ∙ drop-append_seam (spelled_cell c) more in
    let others : cells_in n (drop (length (spelled_cell (first_cell bytes))) bytes) ≡ take n cs = ap (cells_in n) next ∙ cells_in_front n cs rest (omega arith) all.1 in
    λ i. cell i ∷ others i

pub cells_in_is : (cs : List Cell) → AllByRecursion IsCell cs → cells_in (length cs) (flat_map spelled_cell cs) ≡ cs
cells_in_is cs all =
    ap (cells_in (length cs)) (sym (append-nil (flat_map spelled_cell cs))) ∙ cells_in_front (length cs) cs [] (omega arith) all ∙ take_all (length cs) cs (omega arith)

pub small_take : (n : ℕ) (xs : List ℕ) → ((i : ℕ) → get_or xs i 0 < 256) → (i : ℕ) → get_or (take n xs) i 0 < 256
small_take zero xs small i = omega arith
small_take (suc n) [] small i = omega arith
small_take (suc n) (x ∷ xs) small zero = small 0
small_take (suc n) (x ∷ xs) small (suc i) = small_take n xs (λ j. small (suc j)) i

pub small_drop : (n : ℕ) (xs : List ℕ) → ((i : ℕ) → get_or xs i 0 < 256) → (i : ℕ) → get_or (drop n xs) i 0 < 256
small_drop n xs small i = omega (arith, small (n + i), get_or-drop n xs i 0)

-- a key, a length of two bytes and a value, and what stands behind
parts : (rest : List ℕ) (k n : ℕ) → ((i : ℕ) → get_or rest i 0 < 256) → k + 2 ≤ length rest → n ≡ from_be_bytes w16 (take 2 (drop k rest))
    → rest ≡ take k rest ++ (to_be_bytes w16 n ++ (take n (drop (k + 2) rest) ++ drop n (drop (k + 2) rest)))
parts rest k n small inside number =
    let from = drop (k + 2) rest in
    let two = length-take-le 2 (drop k rest) (omega (arith, length-drop k rest)) in
    let head : to_be_bytes w16 n ≡ take 2 (drop k rest) = be_bytes_2 (take 2 (drop k rest)) n two (small_take 2 (drop k rest) (small_drop k rest small)) number in
    let tail : drop 2 (drop k rest) ≡ take n from ++ drop n from = drop-drop 2 k rest ∙ sym (take-append-drop n from) in
    let both : take 2 (drop k rest) ++ drop 2 (drop k rest) ≡ to_be_bytes w16 n ++ (take n from ++ drop n from) =
    ap (λ (l : List ℕ). take 2 (drop k rest) ++ l) tail ∙ ap (λ (l : List ℕ). l ++ (take n from ++ drop n from)) (sym head) in
    sym (take-append-drop k rest) ∙ ap (λ (l : List ℕ). take k rest ++ l) (sym (take-append-drop 2 (drop k rest)) ∙ both)

parted : (b k n : ℕ) (rest key value more : List ℕ) → length key ≡ k → k ≡ b → length value ≡ n → rest ≡ key ++ (to_be_bytes w16 n ++ (value ++ more)) → b ∷ rest ≡ spelled_cell (key, value) ++ more
parted b k n rest key value more key_size first value_size is =
    let size : b ≡ length key = sym first ∙ sym key_size in
    let all : rest ≡ key ++ (long value ++ more) = is ∙ ap (λ (m : ℕ). key ++ (to_be_bytes w16 m ++ (value ++ more))) (sym value_size) in
    (λ i. size i ∷ all i) ∙ sym (spelled_behind (key, value) more)

-- bytes with a key's length, the key, the value's length and the value begin with a cell
pub makes_cell : (bytes : List ℕ) (k n : ℕ) → ((i : ℕ) → get_or bytes i 0 < 256) → k ≡ get_or bytes 0 0 → n ≡ from_be_bytes w16 (take 2 (drop (k + 1) bytes)) → n ≤ LONGEST_VALUE → k + 1 + 2 + n ≤ length bytes
    → BeginWithCell bytes
makes_cell [] k n small first number few inside = absurd (omega arith)
makes_cell (b ∷ rest) k n small first number few inside =
    let next : k + 1 ≡ suc k = omega arith in
    let count : n ≡ from_be_bytes w16 (take 2 (drop k rest)) = number ∙ ap (λ (m : ℕ). from_be_bytes w16 (take 2 (drop m (b ∷ rest)))) next in
    let key_size : length (take k rest) ≡ k = length-take-le k rest (omega arith) in
    let value_size : length (take n (drop (k + 2) rest)) ≡ n = length-take-le n (drop (k + 2) rest) (omega (arith, length-drop (k + 2) rest)) in
    record {
      cell = (take k rest, take n (drop (k + 2) rest));
      rest = drop n (drop (k + 2) rest);
      short = omega (arith, value_size);
      is = parted b k n rest (take k rest) (take n (drop (k + 2) rest)) (drop n (drop (k + 2) rest)) key_size first value_size (parts rest k n (λ i. small (suc i)) (omega arith) count);
    }
