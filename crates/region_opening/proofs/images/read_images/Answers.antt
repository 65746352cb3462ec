use Rattle.std.proofs.Common.{get_or, arith}
use Rattle.std.proofs.lemmas.Result.{err_from_is_err_and}
use Rattle.disk_defs.proofs.Told.{told_at}
use Rattle.disk_defs.proofs.Frames.{reads_more}
use Rattle.journal_defs.specs.Sequence.{Placed}
use Rattle.entry_index.specs.Places.{IsSignOf}
use Rattle.region_store.specs.declared.error.RegionError.TheVariants.{NotAFile}
use Rattle.region_store.proofs.Handed.{handed_on}
use Rattle.region_opening.specs.Signs.{IsDrawn}
use Rattle.region_opening.proofs.Said.{NO_SIGN}
use Rattle.region_opening.proofs.Imaged.{IsAdded, images_more, all_images, never_told}
use Rattle.region_opening.proofs.images.read_images.Goals as goal

pub loop-placed-preserved : goal.loop-placed-preserved
loop-placed-preserved g c =
    let view = g.D.Disk.disk in
    let l = c.loop-placed in
    let inv = l.invariant in
    let u = view c.args.disk.now in
    let v = view l.disk in
    let r = c.args.region in
    let ss = c.args.behind.now in
    let s = get_or ss l.placed-index NO_SIGN in
    let news = c.add_image.new.made.items in
    record {
      forms = c.in_ok-add_image.ensures.forms;
      images = images_more u.content r ss l.placed-index l.made.items news c.loop-placed-test.true inv.images
          (told_at u.content v.content (IsAdded u.content r s l.made.items news) inv.reads.content c.in_ok-add_image.ensures.added);
      reads = reads_more u v (view c.add_image.new.disk) (g.met.D.Disk.lawful c.args.disk.now) inv.reads c.add_image.ensures.reads;
      faults = omega (arith, inv.faults, c.add_image.ensures.faults.later);
    }

pub returns-clause-images : goal.returns-clause-images
returns-clause-images g c =
    let l = c.loop-placed in
    all_images (g.D.Disk.disk c.args.disk.now).content c.args.region c.args.behind.now l.placed-index l.made.items c.loop-placed-test.false l.invariant.images

pub returns-in_err-add_image-clause-outside : goal.returns-in_err-add_image-clause-outside
returns-in_err-add_image-clause-outside g c =
    let view = g.D.Disk.disk in
    let l = c.loop-placed in
    let u = view c.args.disk.now in
    let v = view l.disk in
    let r = c.args.region in
    let ss = c.args.behind.now in
    let s = get_or ss l.placed-index NO_SIGN in
    let p = err_from_is_err_and c.from_residual.result c.from_residual.ensures.1 in
    rw (p.1, p.2) (λ f offset is.
    never_told u.content r ss l.placed-index c.loop-placed-test.true
    (told_at u.content v.content (λ files. (q : Placed) → IsSignOf files r s q → IsDrawn q → ⊥) l.invariant.reads.content
    (c.in_err-add_image.ensures.outside f offset (handed_on c.in_err-add_image.field-0.0 (NotAFile f offset) is))))
