use Rattle.std.proofs.Common.{◌≡◌, ◌+◌, ◌-◌, length, drop, sym, ◌∙◌, arith, length-drop}
use Rattle.block_fmt.specs.Read.{first_cell}
use Rattle.block_fmt.proofs.ReadBack.{byte_at, first_byte, first_parts, number_read, value_read}
use Rattle.block_fmt.proofs.cells.value_at.Goals as goal

pub number_at-requires : goal.number_at-requires
number_at-requires c =
    let bytes = c.args.bytes.now in
    omega (arith, c.from.ensures, byte_at bytes c.args.at, first_byte (drop c.args.at bytes) c.requires, first_parts (drop c.args.at bytes) c.requires, length-drop c.args.at bytes)

pub overflow_add-result-3 : goal.overflow_add-result-3
overflow_add-result-3 c =
    let bytes = c.args.bytes.now in
    let k : c.from.result ≡ length (first_cell (drop c.args.at bytes)).0 = c.from.ensures ∙ sym (byte_at bytes c.args.at) ∙ first_byte (drop c.args.at bytes) c.requires in
    let n : c.number_at.result ≡ length (first_cell (drop c.args.at bytes)).1 = c.number_at.ensures ∙ number_read bytes c.args.at c.from.result c.requires k in
    omega (arith, k, n, first_parts (drop c.args.at bytes) c.requires, length-drop c.args.at bytes)

pub slice_bounds-result-end : goal.slice_bounds-result-end
slice_bounds-result-end c =
    let bytes = c.args.bytes.now in
    let k : c.from.result ≡ length (first_cell (drop c.args.at bytes)).0 = c.from.ensures ∙ sym (byte_at bytes c.args.at) ∙ first_byte (drop c.args.at bytes) c.requires in
    let n : c.number_at.result ≡ length (first_cell (drop c.args.at bytes)).1 = c.number_at.ensures ∙ number_read bytes c.args.at c.from.result c.requires k in
    omega (arith, k, n, first_parts (drop c.args.at bytes) c.requires, length-drop c.args.at bytes)

pub returns : goal.returns
returns c =
    let bytes = c.args.bytes.now in
    let k : c.from.result ≡ length (first_cell (drop c.args.at bytes)).0 = c.from.ensures ∙ sym (byte_at bytes c.args.at) ∙ first_byte (drop c.args.at bytes) c.requires in
    let n : c.number_at.result ≡ length (first_cell (drop c.args.at bytes)).1 = c.number_at.ensures ∙ number_read bytes c.args.at c.from.result c.requires k in
    let at = c.args.at + 1 + c.from.result in
    let size : at + 2 + c.number_at.result - (at + 2) ≡ length (first_cell (drop c.args.at bytes)).1 = omega (arith, n) in
    value_read bytes c.args.at c.from.result (at + 2 + c.number_at.result - (at + 2)) c.requires k size
