use Rattle.std.proofs.Common.{◌≡◌, ◌∙◌, length, sym, ap, subst}
use Rattle.block_laws.specs.Several.{logged_all}
use Rattle.before_image.specs.Images.{placed_images}
use Rattle.region_store.specs.Region.{Standing, HoldsRegion, AreLogged, changed_images}
use Rattle.region_store.proofs.Marking.{marked_is, all_logged, holds_logged}
use Rattle.region_store.proofs.region.Region.mark_logged.Goals as goal

pub returns-clause-marks : goal.returns-clause-marks
returns-clause-marks c =
    let i = c.self.inside in
    let p = c.pool.result.now in
    marked_is i.file i.leaves i.imaged c.mark_dirty.new.imaged p.dirty p.leaves c.args.self.now c.self.view_is c.pool.ensures.blocks c.pool.ensures.dirty c.mark_dirty.ensures.marks

pub returns-clause-logged : goal.returns-clause-logged
returns-clause-logged c =
    let i = c.self.inside in
    let p = c.pool.result.now in
    let s = c.args.self.now in
    let is = marked_is i.file i.leaves i.imaged c.mark_dirty.new.imaged p.dirty p.leaves s c.self.view_is c.pool.ensures.blocks c.pool.ensures.dirty c.mark_dirty.ensures.marks in
    let many : length s.pool.dirty ≡ length s.pool.leaves =
    sym (ap length c.pool.ensures.dirty ∙ ap (λ (x : Standing). length x.pool.dirty) c.self.view_is) ∙ c.mark_dirty.ensures.many
    ∙ (ap length c.pool.ensures.blocks ∙ ap (λ (x : Standing). length x.pool.leaves) c.self.view_is) in
    subst AreLogged (sym is) (all_logged s many)

pub returns-clause-holds : goal.returns-clause-holds
returns-clause-holds c e bytes g h =
    let i = c.self.inside in
    let p = c.pool.result.now in
    let s = c.args.self.now in
    let is = marked_is i.file i.leaves i.imaged c.mark_dirty.new.imaged p.dirty p.leaves s c.self.view_is c.pool.ensures.blocks c.pool.ensures.dirty c.mark_dirty.ensures.marks in
    subst (HoldsRegion (logged_all e (placed_images g (changed_images s bytes))) bytes) (sym is) (holds_logged e bytes g s h)
