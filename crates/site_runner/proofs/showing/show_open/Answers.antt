use Rattle.std.proofs.Common.{◌≡◌, ◌++◌, refl, subst}
use Rattle.std.specs.Prelude.{OnOk}
use Rattle.repl_section.specs.declared.reign.Reign as code
use Rattle.site_runner.specs.Sites.{Primary, reign_in}
use Rattle.site_runner.specs.Steps.{state_text}
use Rattle.site_runner.specs.declared.slot.Slot.TheVariants as slots
use Rattle.site_runner.specs.Ending.{primary}
use Rattle.site_runner.proofs.Endings.{shows_leaves}
use Rattle.site_runner.proofs.showing.show_open.Goals as goal

pub returns-clause-left : goal.returns-clause-left
returns-clause-left g c =
    shows_leaves g.D.Disk.disk (slots.Open c.args.reign c.args.name) (primary c.args.name c.args.reign.value) c.as_slice.result.now c.write_state-written.result c.after.result c.args.text.now _ refl c.as_slice.ensures c.after.ensures.written c.after.ensures.unwritten
    (subst (λ (o : code.Reign g.row.D.Denot). OnOk c.write_state-written.result (c.write_state-written.new.text ≡ c.args.text.now ++ state_text c.as_slice.result.now (Primary (reign_in o)))) c.as_ref.ensures c.write_state-written.ensures)
