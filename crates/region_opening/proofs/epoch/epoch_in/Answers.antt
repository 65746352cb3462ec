use Rattle.std.proofs.Common.{refl, sym, ◌∙◌}
use Rattle.region_opening.proofs.epoch.epoch_in.Goals as goal

pub returns-then-counts-clause-epoch : goal.returns-then-counts-clause-epoch
returns-then-counts-clause-epoch c behind = rw c.in-Epoch.is (rw (sym c.counts.ensures ∙ c.if-counts.true) refl)

pub returns-else-counts-clause-epoch : goal.returns-else-counts-clause-epoch
returns-else-counts-clause-epoch c behind = rw c.in-Epoch.is (rw (sym c.counts.ensures ∙ c.if-counts.false) refl)
