-- What a call that is refused leaves, and where an instance file doesn't take a pattern.
use Rattle.std.specs.Prelude.{◌≡◌}
use Rattle.disk_defs.specs.Disk.{View, Image, AtEachMoment}

-- nothing was written: the files read as before, and a crash leaves what it left before
abbrev pub IsUnwritten : View → View → Type 0
IsUnwritten old new = (new.content ≡ old.content) × AtEachMoment old new (Image old)
