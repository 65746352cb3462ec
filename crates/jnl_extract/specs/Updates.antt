-- An update as the statement that makes it.
use Rattle.global_defs.specs.Entry.{Update, Set, Kill, ZKill}
use Rattle.global_defs.specs.Jobs.{Statement}
use Rattle.global_defs.specs.Jobs as statement

abbrev pub statement_of : Update → Statement
statement_of (Set key value) = statement.Set key value
statement_of (Kill key) = statement.Kill key
statement_of (ZKill key) = statement.ZKill key
