-- Entries of the code with their numbers.
use Rattle.std.specs.Prelude.{ℕ}
use Rattle.global_defs.specs.Entry as defs
use Rattle.gvn_model.specs.declared.entry.Entry.{Entry}
use Rattle.gvn_model.specs.Entries.{entry_value}

abbrev pub numbered : Entry → ℕ × defs.Entry
numbered e = (e.number, entry_value e)
