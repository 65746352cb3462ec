-- What an update and a statement of the code stand for.
use Rattle.global_defs.specs.Entry as update
use Rattle.global_defs.specs.Jobs as statement
use Rattle.gvn_key.specs.declared.terms.Update.{Update}
use Rattle.gvn_key.specs.declared.terms.Update.TheVariants as updates
use Rattle.gvn_key.specs.declared.terms.Statement.{Statement}
use Rattle.gvn_key.specs.declared.terms.Statement.TheVariants as statements

abbrev pub update_value : Update → update.Update
update_value (updates.Set key value) = update.Set key value
update_value (updates.Kill key) = update.Kill key
update_value (updates.ZKill key) = update.ZKill key

abbrev pub statement_value : Statement → statement.Statement
statement_value (statements.Set key value) = statement.Set key value
statement_value (statements.Kill key) = statement.Kill key
statement_value (statements.ZKill key) = statement.ZKill key
statement_value (statements.Incr key n) = statement.Incr key n
statement_value (statements.Get key) = statement.Get key
statement_value (statements.Defined key) = statement.Defined key
statement_value (statements.Order key last) = statement.Order key last
statement_value (statements.CheckIs key value) = statement.CheckIs key value
statement_value (statements.CheckAtLeast key n) = statement.CheckAtLeast key n
