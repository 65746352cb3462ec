-- Statements that set a node.
use Rattle.std.specs.Prelude.{Bool, Option, Some, None, is_some}
use Rattle.global_defs.specs.Entry as update
use Rattle.global_defs.specs.Entry.{Update}
use Rattle.global_defs.specs.Jobs.{Statement, Set, Kill, ZKill, Incr, Get, Defined, Order, CheckIs, CheckAtLeast}

-- the update of a statement that sets a node
abbrev pub setting : Statement → Option Update
setting (Set key value) = Some (update.Set key value)
setting (Kill key) = None
setting (ZKill key) = None
setting (Incr key n) = None
setting (Get key) = None
setting (Defined key) = None
setting (Order key last) = None
setting (CheckIs key value) = None
setting (CheckAtLeast key n) = None

-- whether a statement sets a node
abbrev pub is_setting : Statement → Bool
is_setting s = is_some (setting s)
