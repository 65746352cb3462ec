use Rattle.std.proofs.Common.{◌≡◌, ◌≤◌, ◌+◌, ◌-◌, ℕ, IsTrue, length, arith}
use Rattle.std.proofs.lemmas.Bool.{leb-true, le-leb}
use Rattle.std.proofs.Math.Dec.{leb}
use Rattle.block_fmt.specs.Cells.{size_of, with_cell}
use Rattle.block_fmt.proofs.CellPlaces.{size_grows, size_split}
use Rattle.block_fmt.proofs.Changed.{put_size}
use Rattle.block_fmt.proofs.block.Block.fits_at.Goals as goal
use Rattle.block_fmt.proofs.block.Block.fits_at.Goals.{then-key-gt-ROOM-via-then-key-gt-ROOM, then-key-gt-ROOM-via-else-key-gt-ROOM+then-value-gt-ROOM}

tested : (x y : ℕ) → x ≡ y → (IsTrue (leb x 4088) → y ≤ 4088) × (y ≤ 4088 → IsTrue (leb x 4088))
tested x y same = (λ yes. omega (arith, same, leb-true x 4088 yes), λ few. le-leb x 4088 (omega (arith, same, few)))

pub overflow_sub-kept : goal.overflow_sub-kept
overflow_sub-kept c =
    let t = c.taken-i.ensures.taken in
    omega (arith, c.used_before.ensures, c.used_before-2.ensures, size_grows c.taken-i.result.0 c.taken-i.result.1 c.args.self.now.cells t.order)

pub overflow_sub-kept-2 : goal.overflow_sub-kept-2
overflow_sub-kept-2 c = omega (arith, c.used_before.ensures, c.used_before-2.ensures, c.used.ensures.used, size_split c.taken-i.result.1 c.args.self.now.cells)

pub returns-then-key-gt-ROOM : goal.returns-then-key-gt-ROOM
returns-then-key-gt-ROOM c =
    let t = c.taken-i.ensures.taken in
    let size = put_size c.args.self.now.cells c.args.key.now c.args.value.now c.taken-i.result.0 c.taken-i.result.1 t in
    let grows = size_grows c.taken-i.result.0 c.taken-i.result.1 c.args.self.now.cells t.order in
    let split = size_split c.taken-i.result.1 c.args.self.now.cells in (
      λ no. cc,
      λ fit. elim c.then-key-gt-ROOM.branch [
        | then-key-gt-ROOM-via-then-key-gt-ROOM w ↦ absurd (omega (arith, fit, size, split, w.if-key-gt-ROOM.true))
        | then-key-gt-ROOM-via-else-key-gt-ROOM+then-value-gt-ROOM w ↦ absurd (omega (arith, fit, size, split, w.if-value-gt-ROOM.true))
      ],
    )

pub returns : goal.returns
returns c =
    let t = c.taken-i.ensures.taken in
    let cs = c.args.self.now.cells in
    let size = put_size cs c.args.key.now c.args.value.now c.taken-i.result.0 c.taken-i.result.1 t in
    let grows = size_grows c.taken-i.result.0 c.taken-i.result.1 cs t.order in
    let split = size_split c.taken-i.result.1 cs in
    let made = size_of (with_cell c.args.self.now c.args.key.now c.args.value.now).cells in
    let x = c.used.result - (c.used_before.result - c.used_before-2.result) + length c.args.key.now + length c.args.value.now + 3 in
    let same : x ≡ made = omega (arith, size, grows, split, c.used.ensures.used, c.used_before.ensures, c.used_before-2.ensures) in
    tested x made same
