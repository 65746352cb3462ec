use Rattle.std.proofs.Common.{◌≡◌, true, ap}
use Rattle.std.proofs.lemmas.Result.{err_from_is_err_and}
use Rattle.region_store.specs.declared.error.RegionError.TheVariants.{NotAFile}
use Rattle.region_store.proofs.Handed.{handed_on}
use Rattle.region_opening.proofs.Imaged.{says_image, added, not_there}
use Rattle.region_opening.proofs.images.add_image.Goals as goal

pub returns-in_err-image-in-Pblk-clause-outside : goal.returns-in_err-image-in-Pblk-clause-outside
returns-in_err-image-in-Pblk-clause-outside g c =
    let a = c.args in
    let image : says_image a.placed.now.sign ≡ true = ap says_image c.in-Pblk.is in
    let p = err_from_is_err_and c.from_residual.result c.from_residual.ensures.1 in
    rw (p.1, p.2) (λ f at is.
    not_there (g.D.Disk.disk a.disk.now).content a.region a.placed.now image (c.in_err-image-in-Pblk.ensures.outside f at (handed_on c.in_err-image-in-Pblk.field-0.0 (NotAFile f at) is)))

pub returns-in_ok-keep_image-in-Pblk-clause-added : goal.returns-in_ok-keep_image-in-Pblk-clause-added
returns-in_ok-keep_image-in-Pblk-clause-added g c =
    let a = c.args in
    let image : says_image a.placed.now.sign ≡ true = ap says_image c.in-Pblk.is in
    added (g.D.Disk.disk a.disk.now).content a.region a.placed.now a.made.now.items c.keep_image.new.made.items c.in_ok-image-in-Pblk.image image c.in_ok-image-in-Pblk.ensures.generation c.in_ok-keep_image-in-Pblk.ensures c.in_ok-image-in-Pblk.ensures.image
