use Rattle.std.proofs.Common.{◌∙◌, ◌<◌, List, ap, sym, subst, length, arith}
use Rattle.std.specs.List.{AllByRecursion}
use Rattle.journal_defs.specs.Directory.{Pattern}
use Rattle.block_laws.specs.Nodes.{sum_below}
use Rattle.region_store.specs.Region.{Standing}
use Rattle.region_store.specs.Counts.{nodes_at}
use Rattle.region_store.proofs.Parts.{together_are, nodes_of_parts}
use Rattle.region_store.proofs.regions.Regions.new.Goals as goal

pub invariant_of-result : goal.invariant_of-result
invariant_of-result c =
    let ps = c.args.directory.patterns in
    let rs = c.args.regions.items in
    let some : 0 < length rs = omega (arith, c.requires.count, c.regions.ensures.count, c.regions.ensures.some) in
    let within = subst (λ n. AllByRecursion (λ (p : Pattern). p.region < n) ps) (sym c.requires.count) c.requires.within in
    let nodes = c.count_nodes.ensures ∙ ap (λ (xs : List Standing). sum_below (length xs) (nodes_at xs)) c.deref.ensures.value ∙ nodes_of_parts ps rs c.requires.parts.0 c.requires.parts.1 some within in
    let fits = c.if-count_nodes-from.false in
    record {
      joined = record { entries = c.requires.parts.0; parts = c.requires.parts.1; some = some; within = within; few = omega (arith, nodes, fits, c.from.ensures) };
      count = c.requires.count;
      few = omega (arith, c.requires.count, c.regions.ensures.count, c.regions.ensures.few);
    }

pub returns-clause-joined : goal.returns-clause-joined
returns-clause-joined c seq are =
    let ps = c.args.directory.patterns in
    let rs = c.args.regions.items in
    together_are ps rs seq are (omega (arith, c.requires.count, c.regions.ensures.count, c.regions.ensures.some)) (subst (λ n. AllByRecursion (λ (p : Pattern). p.region < n) ps) (sym c.requires.count) c.requires.within)
