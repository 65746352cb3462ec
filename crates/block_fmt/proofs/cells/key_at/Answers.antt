use Rattle.std.proofs.Common.{◌≡◌, ◌+◌, ◌-◌, length, drop, arith, length-drop}
use Rattle.block_fmt.specs.Read.{first_cell}
use Rattle.block_fmt.proofs.ReadBack.{byte_at, first_byte, first_parts, key_read}
use Rattle.block_fmt.proofs.cells.key_at.Goals as goal

pub slice_bounds-result-end : goal.slice_bounds-result-end
slice_bounds-result-end c =
    let bytes = c.args.bytes.now in
    omega (arith, c.from.ensures, byte_at bytes c.args.at, first_byte (drop c.args.at bytes) c.requires, first_parts (drop c.args.at bytes) c.requires, length-drop c.args.at bytes)

pub returns : goal.returns
returns c =
    let bytes = c.args.bytes.now in
    let size : c.args.at + 1 + c.from.result - (c.args.at + 1) ≡ length (first_cell (drop c.args.at bytes)).0 = omega (arith, c.from.ensures, byte_at bytes c.args.at, first_byte (drop c.args.at bytes) c.requires) in
    key_read bytes c.args.at (c.args.at + 1 + c.from.result - (c.args.at + 1)) c.requires size
