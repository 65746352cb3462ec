-- What a recovery finds of the bytes of a disk.
use Rattle.std.specs.Prelude.{◌≡◌, ◌<◌, ℕ, Bool, false, length}
use Rattle.site_defs.specs.Limits.{LAST_GENERATION}
use Rattle.disk_defs.specs.Disk.{Files}
use Rattle.global_defs.specs.Entry.{Sequence}
use Rattle.journal_defs.specs.Instance.{generation}
use Rattle.journal_defs.specs.Sequence.{Records, IsSequence}
use Rattle.journal_defs.specs.Stands.{AreRecords}
use Rattle.world_defs.specs.Without.{NoneIsWithout}

-- they stand for so many entries of a site that has a generation left, and unless its blocks are made anew no region needs that
abbrev pub IsHeldFor : (anew : Bool) → ℕ → Files → Type 0
IsHeldFor anew n files = (u : Records) × (seq : Sequence) × AreRecords files u × IsSequence u seq × (n ≡ length seq) × (generation u.instance < LAST_GENERATION) × (anew ≡ false → NoneIsWithout u (length seq))
