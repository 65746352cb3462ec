use Rattle.std.proofs.Common.{◌+◌, ◌%◌, rules, arith, sym}
use Rattle.pool_rule.proofs.Keeps.{loads_word}
use Rattle.pool_rule.proofs.table.PoolTable.load_word_as.Goals as goal

pub load-requires : goal.load-requires
load-requires g c =
    let at = c.requires.at in
    let hard = c.requires.hard in
    (search rules, search rules, loads_word _ _ _ _ _ _ g.J.Pick.at c.requires.reader (omega arith) (λ i. at i % sym c.self.invariant.2 i + 2))
