use Rattle.std.proofs.Common.{◌≡◌, ◌<◌, subst, length, sym, ap, slice_get, Some}
use Rattle.std.specs.Prelude.{ℕ, List}
use Rattle.journal_defs.specs.Journal.{Mark}
use Rattle.journal_defs.specs.Epochs.{Chosen}
use Rattle.journal_defs.specs.Undo.{fresh}
use Rattle.region_store.specs.Region.{Standing, HoldsRegion}
use Rattle.region_store.specs.Joined.{Joined}
use Rattle.region_store.proofs.Lists.{read_at}
use Rattle.region_store.proofs.Making.{kept_nodes, lifted, same_elsewhere}
use Rattle.region_store.proofs.regions.Regions.begin_epoch.Goals as goal

pub invariant_of-self : goal.invariant_of-self
invariant_of-self c =
    let i = c.self.inside in
    let n = c.args.number in
    let s = c.index_mut.result.now in
    let inside : n < length i.regions.items = subst (λ (j : Joined). n < length j.regions) (sym c.self.view_is) c.requires.inside in
    let here : slice_get i.regions.items n ≡ Some s = read_at i.regions.items n s inside c.index_mut.ensures.value in
    kept_nodes i n s c.begin_epoch.new.self here (ap (λ (x : Standing). x.globals) c.begin_epoch.ensures.begun) c.self.invariant

pub returns-clause-same : goal.returns-clause-same
returns-clause-same c =
    let i = c.self.inside in
    let n = c.args.number in
    let s = c.index_mut.result.now in
    let inside : n < length i.regions.items = subst (λ (j : Joined). n < length j.regions) (sym c.self.view_is) c.requires.inside in
    let here : slice_get i.regions.items n ≡ Some s = read_at i.regions.items n s inside c.index_mut.ensures.value in
    same_elsewhere i c.args.self.now c.self.view_is n s c.begin_epoch.new.self here (ap (λ (x : Standing). x.globals) c.begin_epoch.ensures.begun)

pub returns-clause-holds : goal.returns-clause-holds
returns-clause-holds c =
    let i = c.self.inside in
    let n = c.args.number in
    let s = c.index_mut.result.now in
    let inside : n < length i.regions.items = subst (λ (j : Joined). n < length j.regions) (sym c.self.view_is) c.requires.inside in
    let here : slice_get i.regions.items n ≡ Some s = read_at i.regions.items n s inside c.index_mut.ensures.value in
    lifted i c.args.self.now c.self.view_is n s c.begin_epoch.new.self here
    (λ x y. (e : Chosen) (bytes : List ℕ) (m : Mark) → m.blocks ≡ length x.pool.leaves → HoldsRegion e bytes x → HoldsRegion (fresh m) bytes y)
    c.begin_epoch.ensures.holds
