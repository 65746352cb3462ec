-- Joined regions stay those of some epoch and the disk.
use Rattle.std.proofs.Common.{ℕ, ◌<◌, length, Option}
use Rattle.std.specs.Prelude.{IfSome}
use Rattle.disk_defs.specs.Disk.{Files}
use Rattle.region_store.specs.Region.{IsHeld}
use Rattle.region_store.specs.Joined.{Joined, AreChanged, region_at}
use Rattle.region_store.proofs.Making.{region_changed}
use Rattle.region_tests.proofs.Kept.{applied_held}

pub changed_held : (old new : Joined) → AreChanged old new → (o : Option Files) (number : ℕ) → number < length old.regions → IfSome o (IsHeld (region_at old number)) → IfSome o (IsHeld (region_at new number))
changed_held old new changed o number low told =
    let now = region_changed old new changed number low in
    applied_held (region_at old number) (region_at new number) now.file now.holds o told
