use Rattle.std.proofs.Common.{◌<◌, ℕ, List, map, subst, arith}
use Rattle.journal_defs.specs.Directory.{region_of}
use Rattle.journal_laws.proofs.Regions.{below}
use Rattle.global_dir.specs.Directory.{Mapping, pattern_value}
use Rattle.global_dir.proofs.directory.Directory.regions.Goals as goal

pub returns-clause-there : goal.returns-clause-there
returns-clause-there c name =
    let n = c.self.inside.regions in
    let low = below (map pattern_value c.self.inside.patterns.items) name n (omega (arith, c.self.invariant.0)) c.self.invariant.2 in
    subst (λ (d : Mapping). region_of d.patterns name < n) c.self.view_is low
