use Rattle.std.proofs.Common.{◌≡◌, vec_len, ◌≤◌, ◌+◌, ◌-◌, ℕ, List, true, length, take, drop, sym, ◌∙◌, ap, subst, arith}
use Rattle.std.specs.Global.{Vec}
use Rattle.journal_defs.specs.Leaves.{cell_bytes, IsBlock}
use Rattle.block_fmt.specs.Read.{cells_in, places, AreCells}
use Rattle.block_fmt.proofs.Told.{some_told, none_told}
use Rattle.block_fmt.proofs.Walk.{length-cells_in}
use Rattle.block_fmt.proofs.CellPlaces.{length-places}
use Rattle.block_fmt.proofs.Spelled.{length-block}
use Rattle.block_fmt.proofs.WholeBlocks.{read_block, count_there, used_there, are_cells_there, zeros_behind}
use Rattle.block_fmt.proofs.block.Block.read.Goals as goal
use Rattle.block_fmt.proofs.block.Block.read.Goals.{In-Some, then-used-gt-ROOM-via-then-used-gt-ROOM, then-used-gt-ROOM-via-else-used-gt-ROOM+then-not-is_zero}

pub returns-then-bytes-ne-BLOCK-clause-none : goal.returns-then-bytes-ne-BLOCK-clause-none
returns-then-bytes-ne-BLOCK-clause-none c l block = c.if-bytes-ne-BLOCK.true (length-block c.args.bytes.now l block)

pub returns-then-used-gt-ROOM-clause-none : goal.returns-then-used-gt-ROOM-clause-none
returns-then-used-gt-ROOM-clause-none c l block =
    let used_is : c.number_at-used.result ≡ length (cell_bytes l) = c.number_at-used.ensures ∙ used_there c.args.bytes.now l block in
    let fits = block.form.fits in
    elim c.then-used-gt-ROOM.branch [
      | then-used-gt-ROOM-via-then-used-gt-ROOM w ↦ absurd (omega (arith, used_is, fits, w.if-used-gt-ROOM.true))
      | then-used-gt-ROOM-via-else-used-gt-ROOM+then-not-is_zero w ↦
          let yes : w.is_zero.result ≡ true = w.is_zero.ensures.1 (zeros_behind c.args.bytes.now w.bytes_from.result.now l c.number_at-used.result block used_is w.bytes_from.ensures) in
          let no = w.if-not-is_zero.true in
          cc
    ]

pub returns-in_default-clause-none : goal.returns-in_default-clause-none
returns-in_default-clause-none c l block =
    let used_is : c.number_at-used.result ≡ length (cell_bytes l) = c.number_at-used.ensures ∙ used_there c.args.bytes.now l block in
    let body = take (8 + c.number_at-used.result - 8) (drop 8 c.args.bytes.now) in
    none_told (AreCells c.number_at-count.result body → ⊥) c.in_default.is c.in_ok-places.ensures.none
    (are_cells_there c.args.bytes.now l c.number_at-count.result (8 + c.number_at-used.result - 8) block (omega (arith, used_is)) (c.number_at-count.ensures ∙ count_there c.args.bytes.now l block))

abbrev body : In-Some → List ℕ
body c = take (8 + c.number_at-used.result - 8) (drop 8 c.args.bytes.now)

-- what the places tell
read_cells : (c : In-Some) → AreCells (vec_len c.in-Some.places) (body c) × (c.in-Some.places.items ≡ places 0 (cells_in (vec_len c.in-Some.places) (body c))) × (vec_len c.in-Some.places ≡ c.number_at-count.result)
read_cells c =
    let are : AreCells c.number_at-count.result (body c) = some_told (λ (made : Vec ℕ). AreCells c.number_at-count.result (body c)) c.in-Some.places c.in-Some.is c.in_ok-places.ensures.cells in
    let items : c.in-Some.places.items ≡ places 0 (cells_in c.number_at-count.result (body c)) = some_told (λ (made : Vec ℕ). made.items ≡ places 0 (cells_in c.number_at-count.result (body c))) c.in-Some.places c.in-Some.is c.in_ok-places.ensures.items in
    let count : vec_len c.in-Some.places ≡ c.number_at-count.result = omega (arith, c.in-Some.places.ok.0, ap length items, length-places 0 (cells_in c.number_at-count.result (body c)), length-cells_in c.number_at-count.result (body c)) in
    (subst (λ (n : ℕ). AreCells n (body c)) (sym count) are, items ∙ ap (λ (n : ℕ). places 0 (cells_in n (body c))) (sym count), count)

pub of_cells-requires-clause-cells : goal.of_cells-requires-clause-cells
of_cells-requires-clause-cells c = (read_cells (goal.at.of_cells-requires-clause-cells c).In-Some).0

pub of_cells-requires-clause-of : goal.of_cells-requires-clause-of
of_cells-requires-clause-of c = (read_cells (goal.at.of_cells-requires-clause-of c).In-Some).1

pub returns-clause-block : goal.returns-clause-block
returns-clause-block c =
    let bytes = c.args.bytes.now in
    let told = read_cells (goal.at.returns-clause-block c).In-Some in
    let count = told.2 in
    let cells = take (8 + c.number_at-used.result - 8) (drop 8 bytes) in
    let next = c.long_number_at.result in
    let fit : c.number_at-used.result ≤ 4088 = omega (arith, c.if-used-gt-ROOM.false) in
    let size : length bytes ≡ 4096 = omega (arith, c.if-bytes-ne-BLOCK.false) in
    let same : 8 + c.number_at-used.result - 8 ≡ c.number_at-used.result = omega arith in
    let block : IsBlock bytes (record { next = next; cells = cells_in c.number_at-count.result cells }) =
    read_block bytes cells c.bytes_from.result.now c.number_at-count.result c.number_at-used.result next (λ i. omega (arith, c.type_inv.bytes i)) size c.number_at-count.ensures c.number_at-used.ensures c.long_number_at.ensures
    (omega (arith, c.long_number_at.type_inv)) fit (ap (λ (n : ℕ). take n (drop 8 bytes)) same) c.bytes_from.ensures (c.is_zero.ensures.0 c.if-not-is_zero.false) (subst (λ (n : ℕ). AreCells n cells) count told.0) in
    let leaf : c.in_ok-made.made ≡ record { next = next; cells = cells_in c.number_at-count.result cells } = c.in_ok-made.ensures ∙ ap (λ (n : ℕ). record { next = next; cells = cells_in n cells }) count in
    subst (IsBlock bytes) (sym leaf) block
