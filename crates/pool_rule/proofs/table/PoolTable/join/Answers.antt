use Rattle.std.proofs.Common.{rules, ap, ◌∙◌}
use Rattle.pool_rule.proofs.Keeps.{takes_reader, settles}
use Rattle.pool_rule.proofs.table.PoolTable.join.Goals as goal

pub join_seat-requires : goal.join_seat-requires
join_seat-requires c = (search rules, search rules, search rules, search rules, takes_reader _ _ _ _ _ _ c.w.invariant.0 c.r.invariant.0)

pub load-requires : goal.load-requires
load-requires c = let j = c.join_seat.ensures in (search rules, search rules, settles _ _ _ _ _ (ap (λ m. m.0.live) j.2 ∙ c.w.invariant.0) (ap (λ m. m.0.writes) j.2 ∙ c.w.invariant.1))
