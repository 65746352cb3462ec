-- Commands on a named site.
use Rattle.std.specs.Prelude.{[]}
use Rattle.command_defs.specs.Commands.{Name, Command}
use Rattle.world_defs.specs.World.{Place}
use Rattle.world_defs.specs.Row.{Row, quiet}
use Rattle.world_defs.specs.Meaning.{Target, On, Open, row_at}
use Rattle.world_defs.specs.rows.{target}

abbrev pub IsOn : Target → Type 0
IsOn (On name row) = Unit {0}
IsOn (Open f) = ⊥

abbrev pub target_name : Target → Name
target_name (On name row) = name
target_name (Open f) = []

abbrev pub target_row : Target → Name → Place → Row
target_row (On name row) = row
target_row (Open f) = λ name. quiet []

-- it names a site
abbrev pub IsNamed : Command → Type 0
IsNamed c = IsOn (target c)

-- that one
abbrev pub name_in : Command → Name
name_in c = target_name (target c)

-- and this is its row, for the name and the place of the site
abbrev pub row_on : Command → Name → Place → Row
row_on c = target_row (target c)

-- there
abbrev pub row_in : Command → Place → Row
row_in c = row_at (row_on c)
