use Rattle.std.proofs.Common.{◌≡◌, ◌<◌, subst, length, sym, slice_get, Some}
use Rattle.std.specs.Prelude.{OnOk, IfSome}
use Rattle.journal_defs.specs.Journal.{Mark}
use Rattle.journal_defs.specs.Epochs.{image_state, block_of}
use Rattle.journal_defs.specs.Sound.{Restores}
use Rattle.journal_defs.specs.Undo.{fresh}
use Rattle.region_store.specs.Joined.{Joined}
use Rattle.region_store.proofs.Lists.{read_at}
use Rattle.region_store.proofs.Making.{kept_nodes, lifted, same_elsewhere, globals_still}
use Rattle.region_store.proofs.regions.Regions.flush.Goals as goal

pub invariant_of-self : goal.invariant_of-self
invariant_of-self g c =
    let i = c.self.inside in
    let n = c.args.number in
    let s = c.index_mut.result.now in
    let inside : n < length i.regions.items = subst (λ (j : Joined). n < length j.regions) (sym c.self.view_is) c.requires.inside in
    let here : slice_get i.regions.items n ≡ Some s = read_at i.regions.items n s inside c.index_mut.ensures.value in
    kept_nodes i n s c.flush.new.self here (globals_still c.flush.result s c.flush.new.self c.flush.ensures.ok c.flush.ensures.err) c.self.invariant

pub returns-clause-same : goal.returns-clause-same
returns-clause-same g c =
    let i = c.self.inside in
    let n = c.args.number in
    let s = c.index_mut.result.now in
    let inside : n < length i.regions.items = subst (λ (j : Joined). n < length j.regions) (sym c.self.view_is) c.requires.inside in
    let here : slice_get i.regions.items n ≡ Some s = read_at i.regions.items n s inside c.index_mut.ensures.value in
    same_elsewhere i c.args.self.now c.self.view_is n s c.flush.new.self here (globals_still c.flush.result s c.flush.new.self c.flush.ensures.ok c.flush.ensures.err)

pub returns-clause-restores : goal.returns-clause-restores
returns-clause-restores g c =
    let i = c.self.inside in
    let n = c.args.number in
    let s = c.index_mut.result.now in
    let inside : n < length i.regions.items = subst (λ (j : Joined). n < length j.regions) (sym c.self.view_is) c.requires.inside in
    let here : slice_get i.regions.items n ≡ Some s = read_at i.regions.items n s inside c.index_mut.ensures.value in
    lifted i c.args.self.now c.self.view_is n s c.flush.new.self here
    (λ x y. OnOk c.flush.result (IfSome (g.D.Disk.disk c.flush.new.disk).content (λ files. (m : Mark) → m.blocks ≡ length x.pool.leaves → Restores (image_state (fresh m) (block_of (files x.file))) x.globals)))
    c.flush.ensures.restores
