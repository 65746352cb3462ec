use Rattle.std.proofs.Common.{ℕ, take}
use Rattle.before_image.specs.Undoing.{Undoes}
use Rattle.region_store.specs.Laid.{epoch_at}
use Rattle.region_store.proofs.reading.undo_of.Given as goal

abbrev pub invariant-loop-placed : goal.invariant-loop-placed
invariant-loop-placed l = (number : ℕ) → Undoes l.undo (epoch_at number l.blocks (take l.placed-index l.behind))
