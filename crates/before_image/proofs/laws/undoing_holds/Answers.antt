use Rattle.before_image.proofs.OldestImages as oldest
use Rattle.before_image.proofs.laws.undoing_holds.Goals as goal

pub returns : goal.returns
returns c = record {
  begins = oldest.undoes_none;
  image = oldest.undoes_image;
  other = oldest.undoes_other;
  marks = oldest.knows_undone;
}
