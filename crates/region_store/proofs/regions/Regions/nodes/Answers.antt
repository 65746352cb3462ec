use Rattle.std.proofs.Common.{◌∙◌, List, ap, length, arith}
use Rattle.std.specs.FinMap as globals
use Rattle.block_laws.specs.Nodes.{sum_below}
use Rattle.region_store.specs.Region.{Standing}
use Rattle.region_store.specs.Inside.{regions_of}
use Rattle.region_store.specs.Joined.{Joined, joined}
use Rattle.region_store.specs.Counts.{nodes_at}
use Rattle.region_store.proofs.Parts.{joined_is, nodes_in_all}
use Rattle.region_store.proofs.regions.Regions.nodes.Goals as goal

pub overflow_cast-result : goal.overflow_cast-result
overflow_cast-result c =
    let i = c.self.inside in
    let h = c.self.invariant.joined in
    let few = h.few in
    let same = ap globals.len (joined_is (regions_of i) h) in
    let all = ap (λ (rs : List Standing). sum_below (length rs) (nodes_at rs)) c.deref.ensures.value ∙ nodes_in_all (regions_of i) h in
    omega (arith, few, same, all, c.count_nodes.ensures)

pub returns : goal.returns
returns c =
    let i = c.self.inside in
    let h = c.self.invariant.joined in
    c.count_nodes.ensures ∙ ap (λ (rs : List Standing). sum_below (length rs) (nodes_at rs)) c.deref.ensures.value ∙ nodes_in_all (regions_of i) h ∙ ap (λ (j : Joined). globals.len (joined j)) c.self.view_is
