use Rattle.std.proofs.Common.{◌∙◌, ap, length, sym, arith}
use Rattle.region_tests.proofs.regions.is_image.Goals as goal

pub returns-in-Pblk : goal.returns-in-Pblk
returns-in-Pblk c = λ is. let both = c.is_whole.ensures is in rw c.in-Pblk.is (omega (arith, both.0), ap length (sym c.as_slice.ensures) ∙ both.1)
