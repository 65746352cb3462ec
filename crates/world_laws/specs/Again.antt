-- Disks from one run to the next.
use Rattle.std.specs.Prelude.{◌≡◌, None}
use Rattle.world_defs.specs.World.{Place, AmongCovered, IfKnown, EachOutcome, NoNew}
use Rattle.world_defs.specs.Fit.{IsFitContents}

-- where its files are known, each outcome is fit
abbrev pub HasFitOutcomes : Place → Type 0
HasFitOutcomes p = EachOutcome IsFitContents p

-- No site stands on the disk any more, and it reads as one of its outcomes, or as one that is covered by it.
pub record IsGivenBack (old new : Place) : Type 0 where
  pub site : new.site ≡ None
  pub now : IfKnown old (AmongCovered old.outcomes new.now)
  pub told : new.told ≡ old.told
  pub outcomes : NoNew old.outcomes new.outcomes
  pub simulated : new.simulated ≡ old.simulated
