use Rattle.std.proofs.Common.{◌+◌, length, arith}
use Rattle.journal_defs.specs.Instance.{generation}
use Rattle.journal_laws.proofs.Drawing as drawing
use Rattle.site_files.proofs.Keeping as keeping
use Rattle.site_files.proofs.laws.drawing_keeps_the_sequence.Goals as goal

pub returns : goal.returns
returns c = record {
  uncut = λ a b s seq last text sound form read is cut. keeping.uncut_image a s last form seq sound text b is cut;
  drawn = λ anew a b s seq last text k sound form read has. keeping.drawn_image a s last form seq sound anew text read k b has;
  text = λ anew a b s seq last text k sound form is has. keeping.text_is a s last form seq sound anew text b k is has;
  none_past = λ anew a s seq last k sound. keeping.none_past anew s (length seq) last (drawing.before a s (generation s.instance + 1) sound.held (omega arith)) k;
  no_epoch_past = λ anew a s seq last k r sound. keeping.no_epoch_past anew s (length seq) last (drawing.before a s (generation s.instance + 1) sound.held (omega arith)) k r;
  cut_off = λ a b s seq last text sound form read cut. keeping.cut_off_image a s last form seq sound text read b cut;
  drawn_to = λ anew a b s seq t last text k sound most form read has. keeping.drawn_image_to a s last form seq sound t most anew text read k b has;
  text_to = λ anew a b s seq t last text k sound form is has. keeping.text_is_to a s last form seq sound anew t text b k is has;
  none_past_to = λ anew a s seq t last k sound. keeping.none_past anew s t last (drawing.before a s (generation s.instance + 1) sound.held (omega arith)) k;
  no_epoch_past_to = λ anew a s seq t last k r sound. keeping.no_epoch_past anew s t last (drawing.before a s (generation s.instance + 1) sound.held (omega arith)) k r;
  uncut_older = λ a b s last text r form read cut here. keeping.older_still a s last form b cut.others read r here;
  drawn_older = λ anew a b s n last text k r form read has here. keeping.older_still a s last form b has.others read r here;
}
