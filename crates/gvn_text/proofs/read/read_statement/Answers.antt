use Rattle.std.proofs.Common.{◌∙◌, sym, subst}
use Rattle.gvn_key.specs.Terms.{statement_value}
use Rattle.script_defs.specs.Statements.{SpellsStatement, statement_reading}
use Rattle.script_defs.proofs.StatementsFound.{statement_found}
use Rattle.script_defs.proofs.StatementsRead.{statement_read}
use Rattle.script_defs.proofs.StatementsWritten.{statement_written}
use Rattle.gvn_text.specs.Reads.{TellsError, error_value}
use Rattle.gvn_text.proofs.Answered.{error_told}
use Rattle.gvn_text.proofs.read.read_statement.Goals as goal

pub returns-in-Ok-clause-found : goal.returns-in-Ok-clause-found
returns-in-Ok-clause-found c = statement_found c.args.text.now (statement_value c.in-Ok.statement) c.in-Ok.ensures

pub returns-in-Ok-clause-only : goal.returns-in-Ok-clause-only
returns-in-Ok-clause-only c = λ s p. sym (statement_read c.args.text.now s p) ∙ c.in-Ok.ensures

pub returns-in-Ok-clause-again : goal.returns-in-Ok-clause-again
returns-in-Ok-clause-again c = λ s valid e. sym (statement_read c.args.text.now s (subst (λ t. SpellsStatement t s) (sym e) (statement_written s valid))) ∙ c.in-Ok.ensures

pub returns-in-Err-clause-only : goal.returns-in-Err-clause-only
returns-in-Err-clause-only c = λ s p.
    subst (TellsError (error_value c.in-Err.fault.error)) (statement_read c.args.text.now s p)
    (error_told c.in-Err.fault.part (error_value c.in-Err.fault.error) (statement_reading c.args.text.now) c.in-Err.ensures)

pub returns-in-Err-clause-again : goal.returns-in-Err-clause-again
returns-in-Err-clause-again c = λ s valid e.
    subst (TellsError (error_value c.in-Err.fault.error)) (statement_read c.args.text.now s (subst (λ t. SpellsStatement t s) (sym e) (statement_written s valid)))
    (error_told c.in-Err.fault.part (error_value c.in-Err.fault.error) (statement_reading c.args.text.now) c.in-Err.ensures)
