-- Nodes in a list.
use Rattle.std.specs.Prelude.{ℕ, List}
use Rattle.global_defs.specs.Key.{Key}
use Rattle.gvn_globals.specs.declared.globals.Listed.{Listed}

abbrev pub listed_value : Listed → Key × List ℕ
listed_value n = (n.key.now, n.value.now)
