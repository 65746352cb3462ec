use Rattle.std.proofs.Common.{◌∙◌, sym}
use Rattle.gvn_key.specs.Terms.{statement_value}
use Rattle.command_defs.proofs.Sizes.{still_sized}
use Rattle.repl_script.proofs.section.Section.read_job.Goals as goal

pub returns-in-Ok-clause-allowed : goal.returns-in-Ok-clause-allowed
returns-in-Ok-clause-allowed c = (c.requires, still_sized c.args.self.now c.args.updater c.cut_part-cut.result.part.now c.args.left.now (statement_value c.in-Ok.statement) c.is_full.ensures.sized (sym c.is_full.ensures.full ∙ c.if-is_full.false) c.cut_part-cut.ensures.part c.in-Ok.ensures)
