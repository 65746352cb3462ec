-- A block is that of one leaf.
use Rattle.std.proofs.Common.{◌≡◌, ℕ, ◌+◌, ◌-◌, ◌≤◌, List, [], ◌∷◌, ◌++◌, length, replicate, flat_map, refl, sym, ◌∙◌, arith, append_assoc, length-append}
use Rattle.std.specs.Int.{to_be_bytes, w16, w32}
use Rattle.std.specs.List.{AllByRecursion}
use Rattle.global_defs.specs.Fields.{short, long}
use Rattle.journal_defs.specs.Leaves.{Cell, Leaf, spelled_cell, cell_bytes, spelled_leaf, IsCell, IsBlock}
use Rattle.journal_laws.proofs.Readings.{split_front, w16_one, w32_one, short_one, long_one}

few_cells : (cs : List Cell) → length cs ≤ length (flat_map spelled_cell cs)
few_cells [] = omega arith
few_cells (c ∷ cs) =
    let rest = few_cells cs in
    let all : length (spelled_cell c ++ flat_map spelled_cell cs) ≡ length (spelled_cell c) + length (flat_map spelled_cell cs) = length-append (spelled_cell c) (flat_map spelled_cell cs) in
    let some : 1 ≤ length (spelled_cell c) = omega arith in
    omega (arith, rest, all, some)

cells_one : (cs ds : List Cell) → length cs ≡ length ds → AllByRecursion IsCell cs → AllByRecursion IsCell ds → flat_map spelled_cell cs ≡ flat_map spelled_cell ds → cs ≡ ds
cells_one [] [] same p q h = refl
cells_one [] (d ∷ ds) same p q h = absurd (omega arith)
cells_one (c ∷ cs) [] same p q h = absurd (omega arith)
cells_one (c ∷ cs) (d ∷ ds) same p q h =
    let x : List ℕ = flat_map spelled_cell cs in
    let y : List ℕ = flat_map spelled_cell ds in
    let key = short_one c.0 d.0 (long c.1 ++ x) (long d.1 ++ y) (sym (append_assoc (short c.0) (long c.1) x) ∙ h ∙ append_assoc (short d.0) (long d.1) y) in
    let value = long_one c.1 d.1 x y (let few = p.0.1 in omega (arith, few)) (let few = q.0.1 in omega (arith, few)) key.1 in
    let rest : cs ≡ ds = cells_one cs ds (omega arith) p.1 q.1 value.1 in
    let first : c ≡ d = (λ i. (key.0 i, value.0 i)) in
    λ i. first i ∷ rest i

pub block : (bytes : List ℕ) (l m : Leaf) → IsBlock bytes l → IsBlock bytes m → l ≡ m
block bytes l m p q =
    let a : List ℕ = cell_bytes l in
    let b : List ℕ = cell_bytes m in
    let zeros : List ℕ = replicate (4088 - length a) 0 in
    let more : List ℕ = replicate (4088 - length b) 0 in
    let h : spelled_leaf l ≡ spelled_leaf m = sym p.spelled ∙ q.spelled in
    let fits_l = p.form.fits in
    let fits_m = q.form.fits in
    let few_l = few_cells l.cells in
    let few_m = few_cells m.cells in
    let count = w16_one (length l.cells) (length m.cells) (to_be_bytes w16 (length a) ++ (to_be_bytes w32 l.next ++ (a ++ zeros))) (to_be_bytes w16 (length b) ++ (to_be_bytes w32 m.next ++ (b ++ more)))
    (omega (arith, fits_l, few_l)) (omega (arith, fits_m, few_m)) h in
    let used = w16_one (length a) (length b) (to_be_bytes w32 l.next ++ (a ++ zeros)) (to_be_bytes w32 m.next ++ (b ++ more)) (omega (arith, fits_l)) (omega (arith, fits_m)) count.1 in
    let next = w32_one l.next m.next (a ++ zeros) (b ++ more) p.form.next q.form.next used.1 in
    let bodies = split_front a b zeros more used.0 next.1 in
    let cells = cells_one l.cells m.cells count.0 p.form.cells q.form.cells bodies.0 in
    λ i. record { next = next.0 i; cells = cells i }
