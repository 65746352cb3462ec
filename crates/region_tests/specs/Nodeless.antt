-- Regions without nodes.
use Rattle.std.specs.Prelude.{◌≡◌}
use Rattle.std.specs.FinMap as globals
use Rattle.region_store.specs.Region.{Standing}

abbrev pub HasNoNodes : Standing → Type 0
HasNoNodes s = globals.len s.globals ≡ 0
