use Rattle.resync_core.proofs.Steps as steps
use Rattle.resync_core.proofs.Hardened as hardened
use Rattle.resync_core.proofs.lineage.lineage_holds.Goals as goal

pub returns : goal.returns
returns c = record {
  fit = steps.fit;
  prefixes = λ w v events j b primary sent received h reaches. hardened.prefixes-of v (steps.fit w v events h reaches) j b primary sent received;
  durable = hardened.durable;
}
