use Rattle.before_image.proofs.Marks as marks
use Rattle.before_image.proofs.laws.knowing_holds.Goals as goal

pub returns : goal.returns
returns c = record {
  begins = marks.knows_fresh;
  may_write = marks.may_write;
  may_change = marks.may_change;
  may_log = marks.may_log;
  image = marks.knows_image;
  first = marks.knows_first;
  other = marks.knows_other;
}
