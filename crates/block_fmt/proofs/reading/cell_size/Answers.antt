use Rattle.std.proofs.Common.{arith}
use Rattle.block_fmt.proofs.ReadBack.{makes_cell}
use Rattle.block_fmt.proofs.reading.cell_size.Goals as goal

pub returns-clause-cell : goal.returns-clause-cell
returns-clause-cell c = makes_cell c.args.bytes.now c.from-key_end.result c.number_at-value_size.result (λ i. omega (arith, c.type_inv.bytes i)) c.from-key_end.ensures c.number_at-value_size.ensures c.if-value_size-gt-LONGEST_VALUE.false c.if-bytes-key_end-2.false
