use Rattle.std.proofs.Common.{ℕ, ◌+◌, rules, arith, ap, sym, ◌∙◌, replicate}
use Rattle.pool_rule.proofs.Keeps.{begins}
use Rattle.pool_rule.proofs.table.PoolTable.new.Goals as goal

pub of_words-requires : goal.of_words-requires
of_words-requires c =
    let is = c.from-size.ensures in
    let p = c.requires.words in
    begins c.from-size.result c.args.first c.as_slice.result.now (omega arith) (c.as_slice.ensures.value ∙ c.in-Ok.ensures.items_if_clones_equal (λ y e. search rules) ∙ ap (λ (k : ℕ). replicate (k + 2) 0) (sym is))
