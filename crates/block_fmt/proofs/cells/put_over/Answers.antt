use Rattle.std.proofs.Common.{◌≡◌, ◌∷◌, ◌++◌, List, ℕ, length, ap, ◌∙◌, arith}
use Rattle.block_fmt.specs.Read.{written}
use Rattle.block_fmt.proofs.ReadBack.{length-spelled_cell}
use Rattle.block_fmt.proofs.Lists.{cell_written}
use Rattle.block_fmt.proofs.cells.put_over.Goals as goal

pub returns-clause-items : goal.returns-clause-items
returns-clause-items c =
    let x = c.args.bytes.now.items in
    let key = c.args.key.now in
    let value = c.args.value.now in
    let two : length c.to_be_bytes.result ≡ 2 = ap length c.to_be_bytes.ensures in
    cell_written x c.write_at.new.bytes.items c.write_at-2.new.bytes.items c.write_at-3.new.bytes.items c.write_at-4.new.bytes.items c.args.at (length key) key c.to_be_bytes.result value two
    (omega (arith, c.requires.inside, c.args.bytes.now.ok.0, length-spelled_cell (key, value))) c.write_at.ensures.items c.write_at-2.ensures.items c.write_at-3.ensures.items c.write_at-4.ensures.items
    ∙ ap (λ (be : List ℕ). written x c.args.at (length key ∷ (key ++ (be ++ value)))) c.to_be_bytes.ensures
