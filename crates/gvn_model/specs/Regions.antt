-- What a region's name with whether its mode is BEFORE stands for.
use Rattle.std.specs.Prelude.{ℕ, Bool, List}
use Rattle.global_defs.specs.Region.{Region}

abbrev pub named_region : List ℕ × Bool → Region
named_region r = record { name = r.0; before = r.1 }
