use Rattle.std.proofs.Common.{sym, ◌∙◌, ap}
use Rattle.std.proofs.lemmas.Bool.{false≢true}
use Rattle.repl_script.specs.Commands.{command_value}
use Rattle.site_runner.specs.declared.slot.Slot.{Slot}
use Rattle.site_runner.specs.Named.{name_in}
use Rattle.site_runner.specs.Sites.{is_slot_named}
use Rattle.site_runner.proofs.execute.execute_at.Goals as goal

-- no site stands on a disk without one
pub returns-in-Free-clause-left : goal.returns-in-Free-clause-left
returns-in-Free-clause-left g c = let name = name_in (command_value c.args.command) in absurd (false≢true (sym (ap (λ (x : Slot g.row.D.Denot). is_slot_named name x) c.in-Free.is) ∙ c.requires.site))
