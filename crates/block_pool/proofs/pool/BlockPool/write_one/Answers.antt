use Rattle.std.proofs.Common.{◌≡◌, ℕ, ◌*◌, true, false, sym, ◌∙◌, ap, subst, arith}
use Rattle.disk_defs.proofs.Told.{weaker_told, both_weak}
use Rattle.journal_defs.specs.Leaves.{Leaf, IsLeaf, spelled_leaf}
use Rattle.disk_defs.specs.Disk.{OnFile, ReadsAfter, written}
use Rattle.block_pool.specs.Pool.{leaf_at, is_dirty, CleanStand, StandBelow}
use Rattle.block_pool.proofs.Pages.{page_inside, mark_inside, block-at, dirty-at}
use Rattle.block_pool.proofs.Steps.{left_clean, stand_clean, stand_written, clean_written, place_inside, on_ok, writes_one, room_one, room_left}
use Rattle.block_pool.proofs.pool.BlockPool.write_one.Goals as goal

pub returns-then-not-page-clause-below : goal.returns-then-not-page-clause-below
returns-then-not-page-clause-below g c =
    let p = c.args.self.now in
    let n = c.args.number in
    let inside = page_inside c.self.inside p n c.self.view_is c.requires.inside in
    let is : is_dirty p n ≡ false = sym (dirty-at c.self.inside n c.index-page.result.now inside c.index-page.ensures ∙ ap (λ v. is_dirty v n) c.self.view_is) ∙ c.if-not-page.true in
    both_weak _ (λ files. CleanStand p (files c.args.file)) (λ files. StandBelow p n (files c.args.file)) _ c.requires.clean c.requires.below (λ files clean below. stand_clean p n (files c.args.file) c.requires.inside is clean below)

pub returns-then-not-page-clause-room : goal.returns-then-not-page-clause-room
returns-then-not-page-clause-room g c =
    let p = c.args.self.now in
    let n = c.args.number in
    let inside = page_inside c.self.inside p n c.self.view_is c.requires.inside in
    let is : is_dirty p n ≡ false = sym (dirty-at c.self.inside n c.index-page.result.now inside c.index-page.ensures ∙ ap (λ v. is_dirty v n) c.self.view_is) ∙ c.if-not-page.true in
    let left = left_clean p n (mark_inside c.self.inside p n c.self.view_is c.requires.inside) is in
    subst (λ (k : ℕ). (g.D.Disk.disk c.args.disk.now).has_room c.args.file k (4096 * k)) left c.requires.room

pub write_block-requires-clause-place : goal.write_block-requires-clause-place
write_block-requires-clause-place g c =
    let p = c.args.self.now in
    let n = c.args.number in
    weaker_told _ (λ files. StandBelow p n (files c.args.file)) _ c.requires.below (λ files below. let low = c.requires.inside in place_inside p n (files c.args.file) (omega arith) below)

pub write_block-requires-clause-room : goal.write_block-requires-clause-room
write_block-requires-clause-room g c =
    let p = c.args.self.now in
    let n = c.args.number in
    let inside = page_inside c.self.inside p n c.self.view_is c.requires.inside in
    let is : is_dirty p n ≡ true = sym (dirty-at c.self.inside n c.index-page.result.now inside c.index-page.ensures ∙ ap (λ v. is_dirty v n) c.self.view_is) ∙ c.if-not-page.false in
    room_one p _ c.args.file n (g.met.D.Disk.lawful c.args.disk.now) is (mark_inside c.self.inside p n c.self.view_is c.requires.inside) c.requires.room

pub returns-clause-below : goal.returns-clause-below
returns-clause-below g c =
    let p = c.args.self.now in
    let n = c.args.number in
    let inside = page_inside c.self.inside p n c.self.view_is c.requires.inside in
    let leaf : c.index-page.result.now.block ≡ leaf_at p n = block-at c.self.inside n c.index-page.result.now inside c.index-page.ensures ∙ ap (λ v. leaf_at v n) c.self.view_is in
    on_ok c.write_block.result c.write_block.ensures.wrote (λ wrote. stand_written p c.args.file n (g.D.Disk.disk c.args.disk.now) (g.D.Disk.disk c.write_block.new.disk) c.requires.inside (subst IsLeaf leaf c.write_block.ensures.form)
    (subst (λ (l : Leaf). ReadsAfter (OnFile c.args.file (λ old new. new ≡ written old (4096 * n) (spelled_leaf l))) (g.D.Disk.disk c.args.disk.now).content (g.D.Disk.disk c.write_block.new.disk).content) leaf wrote)
    c.write_block.ensures.content c.requires.below)

pub returns-clause-clean : goal.returns-clause-clean
returns-clause-clean g c =
    let p = c.args.self.now in
    let n = c.args.number in
    let inside = page_inside c.self.inside p n c.self.view_is c.requires.inside in
    let leaf : c.index-page.result.now.block ≡ leaf_at p n = block-at c.self.inside n c.index-page.result.now inside c.index-page.ensures ∙ ap (λ v. leaf_at v n) c.self.view_is in
    let is : is_dirty p n ≡ true = sym (dirty-at c.self.inside n c.index-page.result.now inside c.index-page.ensures ∙ ap (λ v. is_dirty v n) c.self.view_is) ∙ c.if-not-page.false in
    on_ok c.write_block.result c.write_block.ensures.wrote (λ wrote. clean_written p c.args.file n (g.D.Disk.disk c.args.disk.now) (g.D.Disk.disk c.write_block.new.disk) is
    (subst (λ (l : Leaf). ReadsAfter (OnFile c.args.file (λ old new. new ≡ written old (4096 * n) (spelled_leaf l))) (g.D.Disk.disk c.args.disk.now).content (g.D.Disk.disk c.write_block.new.disk).content) leaf wrote)
    c.write_block.ensures.content c.requires.clean)

pub returns-clause-room : goal.returns-clause-room
returns-clause-room g c =
    let p = c.args.self.now in
    let n = c.args.number in
    let inside = page_inside c.self.inside p n c.self.view_is c.requires.inside in
    let is : is_dirty p n ≡ true = sym (dirty-at c.self.inside n c.index-page.result.now inside c.index-page.ensures ∙ ap (λ v. is_dirty v n) c.self.view_is) ∙ c.if-not-page.false in
    on_ok c.write_block.result c.write_block.ensures.wrote (λ wrote. room_left p _ _ c.args.file n is (mark_inside c.self.inside p n c.self.view_is c.requires.inside) c.write_block.ensures.room c.requires.room)

pub returns-clause-writes : goal.returns-clause-writes
returns-clause-writes g c =
    let p = c.args.self.now in
    let n = c.args.number in
    let inside = page_inside c.self.inside p n c.self.view_is c.requires.inside in
    let is : is_dirty p n ≡ true = sym (dirty-at c.self.inside n c.index-page.result.now inside c.index-page.ensures ∙ ap (λ v. is_dirty v n) c.self.view_is) ∙ c.if-not-page.false in
    writes_one p c.args.file _ _ n is c.write_block.ensures.content c.write_block.ensures.passes c.write_block.ensures.room
