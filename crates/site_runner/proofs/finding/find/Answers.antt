use Rattle.std.proofs.Common.{sym, ◌∙◌, ap, arith, add-one}
use Rattle.site_runner.specs.Sites.{is_slot_named}
use Rattle.site_runner.proofs.FirstWhere.{found, one_more}
use Rattle.site_runner.proofs.finding.find.Goals as goal

pub returns-then-is_named-clause-place : goal.returns-then-is_named-clause-place
returns-then-is_named-clause-place g c =
    let t = is_slot_named c.args.name.now in
    sym (found t c.args.slots.now c.loop-i.i c.index-slots-i.result c.loop-i.invariant (omega (arith, c.loop-i-test.true)) (ap t (sym c.index-slots-i.is) ∙ sym c.is_named.ensures ∙ c.if-is_named.true))

pub loop-i-preserved : goal.loop-i-preserved
loop-i-preserved g c =
    let t = is_slot_named c.args.name.now in
    rw add-one (one_more t c.args.slots.now c.loop-i.i c.index-slots-i.result c.loop-i.invariant (omega (arith, c.loop-i-test.true)) (ap t (sym c.index-slots-i.is) ∙ sym c.is_named.ensures ∙ c.if-is_named.false))
