use Rattle.gvn_key.specs.Terms.{statement_value}
use Rattle.jnl_extract.proofs.Canonical.{told, no_error}
use Rattle.jnl_extract.proofs.update.spelled_statement.Goals as goal

pub returns-in-Ok-clause-only : goal.returns-in-Ok-clause-only
returns-in-Ok-clause-only c s p = told s (statement_value c.in-Ok.statement) (c.in-Ok.ensures.only s p)

pub returns-in_ok-pass_fault-in-Err-clause-only : goal.returns-in_ok-pass_fault-in-Err-clause-only
returns-in_ok-pass_fault-in-Err-clause-only c s p = absurd (no_error c.in-Err.error s c.in_ok-pass_fault-in-Err.ensures (c.in-Err.ensures.only s p))
