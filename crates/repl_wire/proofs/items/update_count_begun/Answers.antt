use Rattle.std.proofs.Common.{arith, ◌-◌}
use Rattle.std.proofs.lemmas.Grind.{div_ceil_times}
use Rattle.repl_wire.proofs.Begun.{update_count_awaited}
use Rattle.repl_wire.proofs.items.update_count_begun.Goals as goal

pub returns : goal.returns
returns c =
    let d = div_ceil_times (c.args.left - 2) 1759 (omega arith) in
    let ceil = c.div_ceil.ensures in
    rw c.new.ensures (update_count_awaited c.args.left (c.args.left - 2) c.from.result c.from-2.result (omega (arith, c.requires.least)) c.requires.least c.requires.most
    (omega (arith, d.0)) (omega (arith, d.1)) (omega arith) (omega arith) (λ n four most. omega arith))
