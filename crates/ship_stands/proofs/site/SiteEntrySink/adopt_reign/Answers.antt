use Rattle.std.proofs.Common.{◌+◌, ◌==◌, option_map}
use Rattle.std.specs.Prelude.{option_to_list}
use Rattle.gvn_model.specs.Reigns.{reign_value}
use Rattle.ship_stands.specs.Formed.{front_formed}
use Rattle.ship_stands.proofs.Rising.{one_or_none}
use Rattle.ship_stands.proofs.site.SiteEntrySink.adopt_reign.Goals as goal

pub invariant_of-self-clause-formed : goal.invariant_of-self-clause-formed
invariant_of-self-clause-formed c =
    let s = c.args.self.now in
    one_or_none s.history.reigns (reign_value c.args.reign.now) (c.args.reign.now.start == s.history.length + 1) (option_map reign_value c.in-Ok.remembered)
    (front_formed s.history.reigns (option_to_list (option_map reign_value s.remembered)) s.formed) c.requires.form c.in-Ok.ensures
