use Rattle.std.proofs.Common.{sym, subst}
use Rattle.journal_defs.specs.Epochs.{block_of}
use Rattle.block_laws.specs.Several.{logged_all}
use Rattle.before_image.specs.Images.{first_image, placed_images}
use Rattle.region_store.specs.Region.{HoldsRegion}
use Rattle.region_store.proofs.Marking.{first_marked, holds_first}
use Rattle.region_store.proofs.region.Region.mark_image.Goals as goal

pub returns-clause-marks : goal.returns-clause-marks
returns-clause-marks c =
    let i = c.self.inside in
    first_marked i.file i.leaves i.imaged c.mark.new.self c.args.block c.args.self.now c.self.view_is c.mark.ensures.marked

pub returns-clause-holds : goal.returns-clause-holds
returns-clause-holds c e bytes g h =
    let i = c.self.inside in
    let s = c.args.self.now in
    let b = c.args.block in
    let is = first_marked i.file i.leaves i.imaged c.mark.new.self b s c.self.view_is c.mark.ensures.marked in
    subst (HoldsRegion (logged_all e (placed_images g (first_image s.imaged b (block_of bytes b)))) bytes) (sym is) (holds_first e bytes g b s h)
