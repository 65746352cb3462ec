use Rattle.std.specs.Prelude.{option_map}
use Rattle.gvn_model.specs.Reigns.{stamp_value, reign_value}
use Rattle.site_store.proofs.Applied.{covered_adopted}
use Rattle.site_store.proofs.site.Site.adopt_reign.Goals as goal

pub returns-clause-covered : goal.returns-clause-covered
returns-clause-covered g c =
    let a = c.args in
    covered_adopted a.self.now.inner (record { stamp = stamp_value a.stamp.now; start = a.start }) (option_map reign_value c.in_ok-self.field-0) c.in_ok-self.ensures.reign c.requires.start c.requires.no_reign_past
