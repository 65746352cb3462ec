use Rattle.std.proofs.Common.{◌∙◌, ap}
use Rattle.std.specs.Prelude.{Option}
use Rattle.gvn_model.specs.declared.reign.Stamp.{Stamp}
use Rattle.repl_section.specs.Reigns.{stamp_in}
use Rattle.site_runner.specs.Sites.{reign_in}
use Rattle.site_runner.proofs.Stopped.{state_written}
use Rattle.site_runner.proofs.showing.write_state.Goals as goal
use Rattle.repl_section.proofs.Results.{on_ok}

pub returns : goal.returns
returns g c =
    on_ok c.write_reigns.result _ _ c.write_reigns.ensures (λ t.
    state_written c.args.name.now (reign_in c.args.reign.now) c.begun_cycle-cycle.result c.sequence_length.result c.as_slice.result.now c.args.text.now c.write_open.new.text c.write_reigns.new.text
    (c.begun_cycle-cycle.ensures ∙ ap (λ (o : Option Stamp). (stamp_in o).cycle) c.stamp.ensures) c.sequence_length.ensures (c.as_slice.ensures ∙ (c.history.ensures.history c.requires.going).surviving) c.in_ok-write_open.ensures t)
