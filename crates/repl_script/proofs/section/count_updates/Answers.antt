use Rattle.std.proofs.Common.{◌≡◌, ◌∙◌, sym, rules}
use Rattle.std.specs.Prelude.{count_by}
use Rattle.gvn_key.specs.Terms.{statement_value}
use Rattle.command_defs.specs.Updaters.{is_update}
use Rattle.repl_script.proofs.Sectioned.{count-map}
use Rattle.repl_script.proofs.section.count_updates.Goals as goal

pub returns : goal.returns
returns c = let e : c.count.result ≡ count_by (λ s. is_update (statement_value s)) c.args.statements.now = search rules in e ∙ sym (count-map is_update statement_value c.args.statements.now)
