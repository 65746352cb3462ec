use Rattle.std.proofs.Common.{◌≡◌, ◌<◌, subst, length, sym, slice_get, Some}
use Rattle.region_store.specs.Inside.{regions_of}
use Rattle.region_store.specs.Joined.{Joined, IsSameJoined, AreChanged}
use Rattle.region_store.proofs.Lists.{read_at}
use Rattle.region_store.proofs.Making.{with_region, same_at, changed_at, kept_same}
use Rattle.region_store.proofs.regions.Regions.reserve_in.Goals as goal

pub invariant_of-self : goal.invariant_of-self
invariant_of-self c =
    let i = c.self.inside in
    let n = c.args.number in
    let s = c.index_mut.result.now in
    let inside : n < length i.regions.items = subst (λ (j : Joined). n < length j.regions) (sym c.self.view_is) c.requires in
    let here : slice_get i.regions.items n ≡ Some s = read_at i.regions.items n s inside c.index_mut.ensures.value in
    kept_same i n s c.reserve.new.self here c.reserve.ensures.same c.self.invariant

pub returns-clause-same : goal.returns-clause-same
returns-clause-same c =
    let i = c.self.inside in
    let n = c.args.number in
    let s = c.index_mut.result.now in
    let inside : n < length i.regions.items = subst (λ (j : Joined). n < length j.regions) (sym c.self.view_is) c.requires in
    let here : slice_get i.regions.items n ≡ Some s = read_at i.regions.items n s inside c.index_mut.ensures.value in
    subst (λ (j : Joined). IsSameJoined j (with_region (regions_of i) n c.reserve.new.self)) c.self.view_is (same_at (regions_of i) n s c.reserve.new.self here c.reserve.ensures.same)

pub returns-clause-changed : goal.returns-clause-changed
returns-clause-changed c =
    let i = c.self.inside in
    let n = c.args.number in
    let s = c.index_mut.result.now in
    let inside : n < length i.regions.items = subst (λ (j : Joined). n < length j.regions) (sym c.self.view_is) c.requires in
    let here : slice_get i.regions.items n ≡ Some s = read_at i.regions.items n s inside c.index_mut.ensures.value in
    subst (λ (j : Joined). AreChanged j (with_region (regions_of i) n c.reserve.new.self)) c.self.view_is (changed_at (regions_of i) n s c.reserve.new.self here c.reserve.ensures.changed)
