use Rattle.site_files.proofs.Kept.{image_read}
use Rattle.site_files.proofs.laws.images_have_what_was_read.Goals as goal

pub returns : goal.returns
returns g c = image_read (g.D.Disk.disk c.args.disk.now)
