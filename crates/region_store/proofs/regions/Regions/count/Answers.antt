use Rattle.std.proofs.Common.{◌<◌, subst, length, arith, ap}
use Rattle.journal_defs.specs.Directory.{region_of}
use Rattle.region_store.specs.Joined.{Joined}
use Rattle.region_store.proofs.Parts.{region_inside}
use Rattle.region_store.specs.Inside.{regions_of}
use Rattle.region_store.proofs.regions.Regions.count.Goals as goal

pub returns-clause-there : goal.returns-clause-there
returns-clause-there c name =
    let i = c.self.inside in
    let low : region_of c.args.self.now.patterns name < length c.args.self.now.regions = subst (λ (j : Joined). region_of j.patterns name < length j.regions) c.self.view_is (region_inside (regions_of i) c.self.invariant.joined name) in
    let many = ap (λ (j : Joined). length j.regions) c.self.view_is in
    omega (arith, low, many, c.len.ensures, i.regions.ok.0)
