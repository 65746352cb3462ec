-- The places of cells, and the bytes of some of them.
use Rattle.std.proofs.Common.{◌≡◌, ℕ, zero, suc, ◌+◌, ◌-◌, ◌*◌, ◌≤◌, ◌<◌, ◌^◌, true, List, [], ◌∷◌, ◌++◌, length, take, drop, map, get_or, flat_map, refl, sym, ◌∙◌, ap, subst, arith, length-append}
use Rattle.std.proofs.lemmas.List.{take-append-drop}
use Rattle.std.proofs.lemmas.Grind.{flat_map-append}
use Rattle.std.proofs.Math.Seq.{take-append_seam, drop-append_seam}
use Rattle.std.specs.List.{AllByRecursion}
use Rattle.journal_defs.specs.Leaves.{Cell, spelled_cell, IsCell, IsEncoded}
use Rattle.global_defs.specs.Encoded.{encoded_sub}
use Rattle.global_defs.specs.Valid.{is_name}
use Rattle.global_defs.proofs.ValidKeys.{valid_parts}
use Rattle.block_fmt.specs.Cells.{size_of}
use Rattle.block_fmt.specs.Read.{places, moved, CanMove}
use Rattle.block_fmt.proofs.ReadBack.{length-spelled_cell}

pub length-places : (at : ℕ) (cs : List Cell) → length (places at cs) ≡ length cs
length-places at [] = refl
length-places at (c ∷ cs) = ap suc (length-places (at + length (spelled_cell c)) cs)

pub size_cons : (c : Cell) (cs : List Cell) → size_of (c ∷ cs) ≡ length (spelled_cell c) + size_of cs
size_cons c cs = length-append (spelled_cell c) (flat_map spelled_cell cs)

pub place_at : (at : ℕ) (cs : List Cell) (i d : ℕ) → i < length cs → get_or (places at cs) i d ≡ at + size_of (take i cs)
place_at at [] i d inside = absurd (omega arith)
place_at at (c ∷ cs) zero d inside = omega arith
place_at at (c ∷ cs) (suc i) d inside = omega (arith, place_at (at + length (spelled_cell c)) cs i d (omega arith), size_cons c (take i cs))

pub places_take : (i at : ℕ) (cs : List Cell) → take i (places at cs) ≡ places at (take i cs)
places_take zero at cs = refl
places_take (suc i) at [] = refl
places_take (suc i) at (c ∷ cs) = ap (λ (l : List ℕ). at ∷ l) (places_take i (at + length (spelled_cell c)) cs)

pub places_drop : (i at : ℕ) (cs : List Cell) → drop i (places at cs) ≡ places (at + size_of (take i cs)) (drop i cs)
places_drop zero at cs = let same : at ≡ at + 0 = omega arith in ap (λ (k : ℕ). places k cs) same
places_drop (suc i) at [] = refl
places_drop (suc i) at (c ∷ cs) =
    let s = length (spelled_cell c) in
    let size : at + s + size_of (take i cs) ≡ at + size_of (take (suc i) (c ∷ cs)) = omega (arith, size_cons c (take i cs)) in
    places_drop i (at + s) cs ∙ ap (λ (k : ℕ). places k (drop i cs)) size

-- all places moved alike
pub places_moved : (old new d : ℕ) (cs : List Cell) → map (moved old new) (places (old + d) cs) ≡ places (new + d) cs
places_moved old new d [] = refl
places_moved old new d (c ∷ cs) =
    let s = length (spelled_cell c) in
    let first : moved old new (old + d) ≡ new + d = omega arith in
    let from : old + d + s ≡ old + (d + s) = omega arith in
    let to : new + (d + s) ≡ new + d + s = omega arith in
    let rest : map (moved old new) (places (old + d + s) cs) ≡ places (new + d + s) cs =
    ap (λ (k : ℕ). map (moved old new) (places k cs)) from ∙ places_moved old new (d + s) cs ∙ ap (λ (k : ℕ). places k cs) to in
    λ i. first i ∷ rest i

pub can_move : (old new d : ℕ) (cs : List Cell) → new + d + size_of cs < 2 ^ 16 → CanMove old new (places (old + d) cs)
can_move old new d [] near = tt
can_move old new d (c ∷ cs) near =
    let s = length (spelled_cell c) in
    let from : old + (d + s) ≡ old + d + s = omega arith in
    let rest : CanMove old new (places (old + d + s) cs) = subst (λ (k : ℕ). CanMove old new (places k cs)) from (can_move old new (d + s) cs (omega (arith, near, size_cons c cs))) in
    ((omega arith, omega (arith, near)), rest)

-- and moved back
pub places_back : (back d : ℕ) (cs : List Cell) → map (λ p. p - back) (places (back + d) cs) ≡ places d cs
places_back back d [] = refl
places_back back d (c ∷ cs) =
    let s = length (spelled_cell c) in
    let first : back + d - back ≡ d = omega arith in
    let from : back + d + s ≡ back + (d + s) = omega arith in
    let rest : map (λ p. p - back) (places (back + d + s) cs) ≡ places (d + s) cs = ap (λ (k : ℕ). map (λ p. p - back) (places k cs)) from ∙ places_back back (d + s) cs in
    λ i. first i ∷ rest i

pub are_behind : (back d : ℕ) (cs : List Cell) → AllByRecursion (λ p. back ≤ p) (places (back + d) cs)
are_behind back d [] = tt
are_behind back d (c ∷ cs) =
    let s = length (spelled_cell c) in
    let from : back + (d + s) ≡ back + d + s = omega arith in
    (omega arith, subst (λ (k : ℕ). AllByRecursion (λ p. back ≤ p) (places k cs)) from (are_behind back (d + s) cs))

-- bytes of the first cells, and of the others
pub bytes_split : (i : ℕ) (cs : List Cell) → flat_map spelled_cell cs ≡ flat_map spelled_cell (take i cs) ++ flat_map spelled_cell (drop i cs)
bytes_split i cs = ap (λ (l : List Cell). flat_map spelled_cell l) (sym (take-append-drop i cs)) ∙ flat_map-append spelled_cell (take i cs) (drop i cs)

pub size_split : (i : ℕ) (cs : List Cell) → size_of cs ≡ size_of (take i cs) + size_of (drop i cs)
size_split i cs = ap length (bytes_split i cs) ∙ length-append (flat_map spelled_cell (take i cs)) (flat_map spelled_cell (drop i cs))

pub bytes_take : (i : ℕ) (cs : List Cell) → take (size_of (take i cs)) (flat_map spelled_cell cs) ≡ flat_map spelled_cell (take i cs)
bytes_take i cs = ap (take (size_of (take i cs))) (bytes_split i cs) ∙ take-append_seam (flat_map spelled_cell (take i cs)) (flat_map spelled_cell (drop i cs))

pub bytes_drop : (i : ℕ) (cs : List Cell) → drop (size_of (take i cs)) (flat_map spelled_cell cs) ≡ flat_map spelled_cell (drop i cs)
bytes_drop i cs = ap (drop (size_of (take i cs))) (bytes_split i cs) ∙ drop-append_seam (flat_map spelled_cell (take i cs)) (flat_map spelled_cell (drop i cs))

pub size_grows : (i j : ℕ) (cs : List Cell) → i ≤ j → size_of (take i cs) ≤ size_of (take j cs)
size_grows zero j cs order = omega arith
size_grows (suc i) zero cs order = absurd (omega arith)
size_grows (suc i) (suc j) [] order = omega arith
size_grows (suc i) (suc j) (c ∷ cs) order = omega (arith, size_grows i j cs (omega arith), size_cons c (take i cs), size_cons c (take j cs))

-- each cell has five bytes at least

named : (name : List ℕ) → is_name name ≡ true → 1 ≤ length name
named [] is = cc
named (b ∷ bs) is = omega arith

pub key_length : (bytes : List ℕ) → IsEncoded bytes → (2 ≤ length bytes) × (length bytes ≤ 255)
key_length bytes h =
    let key = h.0 in
    let parts = valid_parts key h.1 in
    let some = named key.name parts.name in
    let few = parts.fits in
    let size = ap length h.2 in
    (omega (arith, some, size, length-append key.name (0 ∷ flat_map encoded_sub key.subs)), omega (arith, few, size))

pub few_cells : (cs : List Cell) → AllByRecursion IsCell cs → 5 * length cs ≤ size_of cs
few_cells [] all = omega arith
few_cells (c ∷ cs) all = let two = (key_length c.0 all.0.0).0 in omega (arith, two, few_cells cs all.1, size_cons c cs, length-spelled_cell c)
