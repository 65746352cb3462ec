use Rattle.std.proofs.Common.{◌∙◌, ◌+◌, ◌-◌, Ok, sym, ap}
use Rattle.global_defs.specs.declared.limits.TheConstants.{MOST_SUBS}
use Rattle.gvn_key.specs.KeyText.{subs_at, fronted}
use Rattle.gvn_key.specs.Reads.{next_view}
use Rattle.gvn_key.proofs.Parsing.{fronted_nil, one_more, last_one, wrong_one, past_one, told_fault}
use Rattle.gvn_key.proofs.parse.subs_at.Goals as goal

pub loop-init : goal.loop-init
loop-init c = rw c.new-subs.ensures.items (fronted_nil (subs_at MOST_SUBS c.args.text.now))

pub returns-in-Last : goal.returns-in-Last
returns-in-Last c =
    sym c.loop.invariant
    ∙ last_one c.loop.subs.items c.loop.counter c.loop.rest.now c.in-Last.value c.loop-test.true (sym c.in_ok-value.ensures ∙ ap next_view c.in-Last.is)
    ∙ ap (λ s. Ok s) (sym c.in_ok-push-in-Last.ensures)

pub returns-in-Wrong : goal.returns-in-Wrong
returns-in-Wrong c = told_fault (subs_at MOST_SUBS c.args.text.now) c.in-Wrong.fault
    (sym c.loop.invariant
    ∙ wrong_one c.loop.subs.items c.loop.counter c.loop.rest.now c.in-Wrong.fault c.loop-test.true (sym c.in_ok-value.ensures ∙ ap next_view c.in-Wrong.is))

pub loop-preserved : goal.loop-preserved
loop-preserved c =
    ap (λ s. fronted s (subs_at (31 - (c.loop.counter + 1)) c.in-More.left.now)) c.in_ok-push-in-More.ensures
    ∙ one_more c.loop.subs.items c.loop.counter c.loop.rest.now c.in-More.value c.in-More.left.now c.loop-test.true (sym c.in_ok-value.ensures ∙ ap next_view c.in-More.is)
    ∙ c.loop.invariant

pub returns : goal.returns
returns c = told_fault (subs_at MOST_SUBS c.args.text.now) c.in_ok-fault_past.field-0
    (sym c.loop.invariant ∙ past_one c.loop.subs.items c.loop.counter c.loop.rest.now c.in_ok-fault_past.field-0 c.loop-test.false c.in_ok-fault_past.ensures)
