use Rattle.std.proofs.Common.{◌++◌, List, ℕ, take, map, ap, sym, ◌∙◌, append_assoc}
use Rattle.std.specs.List.{flat_map}
use Rattle.global_defs.specs.Entry.{Reign}
use Rattle.gvn_model.specs.Reigns.{reign_value}
use Rattle.world_defs.specs.Answers.{line}
use Rattle.world_defs.specs.rows.Show.{reign_text}
use Rattle.site_store.proofs.Pieces.{written_more}
use Rattle.site_runner.proofs.showing.write_reigns.Goals as goal

pub loop-reign-preserved : goal.loop-reign-preserved
loop-reign-preserved c =
    let f : Reign → List ℕ = λ (r : Reign). line c.args.name.now (reign_text r) in
    c.in_ok-write_reign.ensures
    ∙ ap (λ x. x ++ f (reign_value c.reign-item.result)) c.loop-reign.invariant
    ∙ append_assoc c.args.text.now (flat_map f (map reign_value (take c.loop-reign.reign-index c.args.reigns.now))) (f (reign_value c.reign-item.result))
    ∙ ap (λ x. c.args.text.now ++ x) (sym (written_more f reign_value c.args.reigns.now c.loop-reign.reign-index c.reign-item.result c.loop-reign-test.true c.reign-item.is))
