use Rattle.std.proofs.Common.{◌≡◌, ◌∙◌, ◌+◌, List, Some, length, map, slice_get, sym, ap, subst, arith}
use Rattle.std.specs.Prelude.{nat_lt}
use Rattle.journal_defs.specs.Directory.{region_of}
use Rattle.gvt_leaf.specs.Listed.{node_value}
use Rattle.region_store.specs.Region.{Standing}
use Rattle.region_store.specs.Joined.{Joined, AreJoined}
use Rattle.region_store.proofs.Lists.{read_at}
use Rattle.region_store.proofs.Sharing.{of_first, first_none, first_sorted, first_more, first_all}
use Rattle.region_store.proofs.regions.Regions.list.Goals as goal

pub loop-region-init : goal.loop-region-init
loop-region-init c = ap (map node_value) c.new-all.ensures.items ∙ sym (first_none c.args.self.now)

pub loop-region-preserved : goal.loop-region-preserved
loop-region-preserved c =
    let j = c.args.self.now in
    let l = c.loop-region in
    let n = l.region-index in
    let s = c.region-item.result in
    let rs = c.deref-region-items.result.now in
    let here : slice_get j.regions n ≡ Some s =
    ap (λ (x : Joined). slice_get x.regions n) (sym c.self.view_is) ∙ ap (λ (xs : List Standing). slice_get xs n) (sym c.deref-region-items.ensures.value)
    ∙ read_at rs n s c.loop-region-test.true c.region-item.is in
    c.in_ok-all.ensures (of_first j (n + 1)) (λ k. nat_lt (region_of j.patterns k.name) n) (first_sorted j (n + 1))
    (first_more j (subst AreJoined c.self.view_is c.self.invariant.joined) n s (map node_value l.all.items) (map node_value c.in_ok-list.field-0.items) here l.invariant c.in_ok-list.ensures)

pub returns : goal.returns
returns c =
    let j = c.args.self.now in
    let l = c.loop-region in
    let end = c.loop-region-test.false in
    let many = ap length c.deref-region-items.ensures.value ∙ ap (λ (x : Joined). length x.regions) c.self.view_is in
    l.invariant ∙ first_all j (subst AreJoined c.self.view_is c.self.invariant.joined) l.region-index (omega (arith, end, many))
