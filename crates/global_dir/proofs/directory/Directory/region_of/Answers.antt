use Rattle.std.proofs.Common.{◌≡◌, ◌<◌, map, ℕ, List, sym, ap, subst, ◌∙◌, arith}
use Rattle.journal_defs.specs.Directory as defs
use Rattle.journal_defs.specs.Directory.{region_of}
use Rattle.global_dir.specs.declared.pattern.Pattern.{Pattern}
use Rattle.global_dir.specs.Directory.{Mapping, pattern_value}
use Rattle.journal_laws.proofs.Regions.{below}
use Rattle.global_dir.proofs.directory.Directory.region_of.Goals as goal

pub returns-clause-there : goal.returns-clause-there
returns-clause-there c =
    let n = c.self.inside.regions in
    let ps : List defs.Pattern = map pattern_value c.self.inside.patterns.items in
    let low = below ps c.args.name.now n (omega (arith, c.self.invariant.0)) c.self.invariant.2 in
    let is : c.region_by.result ≡ region_of ps c.args.name.now = c.region_by.ensures ∙ ap (λ (l : List Pattern). region_of (map pattern_value l) c.args.name.now) c.deref.ensures.value in
    subst (λ (d : Mapping). c.region_by.result < d.regions) c.self.view_is (subst (λ (r : ℕ). r < n) (sym is) low)
