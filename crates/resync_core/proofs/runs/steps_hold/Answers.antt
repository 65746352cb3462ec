use Rattle.std.proofs.Common.{refl, length}
use Rattle.lineage_defs.specs.Events.{Hardens, Begins, Follows, IsCut, IsLeft, for_followers, resumed, set_back}
use Rattle.lineage_defs.specs.Outcomes.{settled}
use Rattle.resync_core.proofs.SingleSteps as steps
use Rattle.resync_core.proofs.runs.steps_hold.Goals as goal

pub returns : goal.returns
returns c = record {
  hardened = λ w i a at. steps.alone w i Hardens a (record a { hardened = length a.sequence }) at refl;
  begun = λ w i a new at d. steps.alone w i Begins a new at d;
  followed = λ w i k a b new at bt d. (a, at, steps.alone w i (Follows a) b new bt d);
  crashed = λ w i n a new at le d. (a, at, le, steps.beside w i (IsLeft a.hardened n) (for_followers a.name (resumed a.name)) a new at d);
  settled = λ w i a x at m. (a, at, steps.image-within a x m, steps.beside w i (IsLeft a.hardened (length x.sequence)) (for_followers a.name (resumed a.name)) a (settled a x) at (steps.settles a x m));
  rolled = λ w i t a new at le d. (a, at, le, steps.beside w i (IsLeft 0 t) (for_followers a.name (set_back a.name)) a new at d);
  cut = λ w i b new bt d. steps.alone w i IsCut b new bt d;
}
