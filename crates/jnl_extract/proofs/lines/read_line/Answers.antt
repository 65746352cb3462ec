use Rattle.std.proofs.Common.{◌∷◌, ◌++◌}
use Rattle.std.specs.Prelude.{decimal}
use Rattle.jnl_extract.specs.Lines.{line_head, line_rest, stamp_text}
use Rattle.jnl_extract.specs.Values.{line_value}
use Rattle.jnl_extract.proofs.LineLaws.{behind_word, behind_number, line_from, Cuts}
use Rattle.jnl_extract.proofs.lines.read_line.Goals as goal

pub returns-in-None-cut : goal.returns-in-None-cut
returns-in-None-cut c l i b =
    let w = behind_word l c.args.text.now c.in-Some.word.now c.in-Some.rest.now c.in-Some.ensures.cases c.in-Some.ensures.first b in
    c.in-None-cut.ensures.cases (decimal (line_head l).number) (stamp_text (line_head l).stamp ++ 92 ∷ line_rest l) w.1

pub returns-in-None-cut-2 : goal.returns-in-None-cut-2
returns-in-None-cut-2 c l i b =
    let w = behind_word l c.args.text.now c.in-Some.word.now c.in-Some.rest.now c.in-Some.ensures.cases c.in-Some.ensures.first b in
    let n = behind_number l c.in-Some.rest.now c.in-Some-cut.number.now c.in-Some-cut.rest.now i c.in-Some-cut.ensures.cases c.in-Some-cut.ensures.first w.1 in
    c.in-None-cut-2.ensures.cases (stamp_text (line_head l).stamp) (line_rest l) n.1

pub returns-in-Some-cut-2 : goal.returns-in-Some-cut-2
returns-in-Some-cut-2 c =
    let k : Cuts c.args.text.now c.in-Some.word.now c.in-Some-cut.number.now c.in-Some-cut-2.stamp.now c.in-Some-cut-2.rest.now = record {
      middle = c.in-Some.rest.now;
      end = c.in-Some-cut.rest.now;
      text_is = c.in-Some.ensures.cases;
      middle_is = c.in-Some-cut.ensures.cases;
      end_is = c.in-Some-cut-2.ensures.cases;
      word_first = c.in-Some.ensures.first;
      number_first = c.in-Some-cut.ensures.first;
      stamp_first = c.in-Some-cut-2.ensures.first;
    } in
    line_from line_value c.read_parts.result c.args.text.now c.in-Some.word.now c.in-Some-cut.number.now c.in-Some-cut-2.stamp.now c.in-Some-cut-2.rest.now k c.read_parts.ensures
