-- Epochs of all entries on a site's disk.
use Rattle.site_defs.specs.Epochs.{HasEpochs}
use Rattle.world_defs.specs.World.{Place, IfKnown, EachOutcome}

-- Where the files are known, each region goes back to an epoch of all entries, as they read and in each outcome.
pub record EndsInEpochs (p : Place) : Type 0 where
  pub now : IfKnown p (HasEpochs p.now)
  pub outcomes : EachOutcome HasEpochs p
