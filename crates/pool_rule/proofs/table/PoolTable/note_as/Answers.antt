use Rattle.std.proofs.Common.{rules, ap, ◌∙◌}
use Rattle.pool_rule.proofs.Keeps.{takes_note, places}
use Rattle.pool_rule.proofs.table.PoolTable.note_as.Goals as goal

pub join_seat-requires : goal.join_seat-requires
join_seat-requires g c = (search rules, search rules, search rules, search rules, takes_note _ _ _ _ _ _ _ c.requires.live.1 c.requires.live.2 c.requires.place)

pub load-requires : goal.load-requires
load-requires g c = let j = c.join_seat.ensures in (search rules, search rules, places _ _ _ _ _ (ap (λ m. m.0.live) j.2 ∙ c.requires.live.0))
