use Rattle.std.proofs.Common.{sym, ◌∙◌}
use Rattle.jnl_extract.proofs.Numbers.{begun_badly, begun_well, is_text, read_so, own_text, no_number}
use Rattle.jnl_extract.proofs.cut.read_number.Goals as goal

pub returns-then-begins_badly : goal.returns-then-begins_badly
returns-then-begins_badly c k h e = begun_badly c.args.text.now k c.begins_badly.result _ h e c.if-begins_badly.true c.begins_badly.ensures

pub returns-in-Err : goal.returns-in-Err
returns-in-Err c k h e = c.in-Err.ensures.cases.0 (is_text c.args.text.now k h e)

pub returns-in-Err-parse : goal.returns-in-Err-parse
returns-in-Err-parse c k h e = no_number (read_so c.in-Ok.digits.now c.parse.result k h (c.in-Ok.ensures.cases.0 ∙ e) c.parse.ensures.value.0) c.in-Err-parse.is

pub returns-in-Ok-parse : goal.returns-in-Ok-parse
returns-in-Ok-parse c =
    let w = begun_well _ c.begins_badly.result _ c.if-begins_badly.false c.begins_badly.ensures in
    let same = c.in-Ok.ensures.cases.0 in
    let t = own_text c.in-Ok.digits.now c.parse.result c.in-Ok-parse.number c.parse.ensures.value.0 c.in-Ok-parse.is (rw same w.0) (rw same w.1) in
    (t.0, sym same ∙ t.1)
