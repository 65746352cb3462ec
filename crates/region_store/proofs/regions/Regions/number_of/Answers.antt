use Rattle.std.proofs.Common.{◌<◌, ◌∙◌, length, ap, subst, arith}
use Rattle.gvn_key.specs.Terms.{update_value}
use Rattle.journal_defs.specs.Directory.{region_of}
use Rattle.journal_defs.specs.Fit.{key_of}
use Rattle.region_store.specs.Joined.{Joined}
use Rattle.region_store.proofs.regions.Regions.number_of.Goals as goal

pub returns-clause-number : goal.returns-clause-number
returns-clause-number c =
    c.region_of.ensures.value ∙ ap (region_of c.self.inside.directory.patterns) c.name_of.ensures
    ∙ ap (λ (j : Joined). region_of j.patterns (key_of (update_value c.args.update.now)).name) c.self.view_is

pub returns-clause-inside : goal.returns-clause-inside
returns-clause-inside c =
    let n = c.region_of.result in
    let inside : n < length c.self.inside.regions.items = omega (arith, c.region_of.ensures.there, c.self.invariant.count) in
    subst (λ (j : Joined). n < length j.regions) c.self.view_is inside
