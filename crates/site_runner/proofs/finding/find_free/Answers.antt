use Rattle.std.proofs.Common.{◌≡◌, List, take, sym, ◌∙◌, ap, subst, add-one, arith, ◌<◌, length, get_or, ℕ}
use Rattle.site_defs.specs.Lists.{first_where}
use Rattle.site_runner.specs.declared.slot.Slot.{Slot}
use Rattle.site_runner.specs.Sites.{is_slot_free}
use Rattle.site_runner.proofs.FirstWhere.{found, one_more, all_taken}
use Rattle.site_runner.proofs.Written.{take_least}
use Rattle.site_runner.proofs.finding.find_free.Goals as goal

pub returns-then-is_free-clause-place : goal.returns-then-is_free-clause-place
returns-then-is_free-clause-place g c =
    let e : take c.min-most.result c.args.slots.now ≡ take 8 c.args.slots.now = ap (λ (n : ℕ). take n c.args.slots.now) c.min-most.ensures ∙ take_least c.args.slots.now 8 in
    let at = ap (λ (xs : List (Slot g.row.D.Denot)). get_or xs c.loop-i.i c.slot-item.result) e in
    let k : c.loop-i.i < length (take 8 c.args.slots.now) = subst (λ (xs : List (Slot g.row.D.Denot)). c.loop-i.i < length xs) e c.loop-i-test.true in
    sym (found is_slot_free (take 8 c.args.slots.now) c.loop-i.i c.slot-item.result c.loop-i.invariant k (ap is_slot_free (sym (c.slot-item.is ∙ at)) ∙ sym c.is_free.ensures ∙ c.if-is_free.true))

pub returns-clause-place : goal.returns-clause-place
returns-clause-place g c =
    let e : take c.min-most.result c.args.slots.now ≡ take 8 c.args.slots.now = ap (λ (n : ℕ). take n c.args.slots.now) c.min-most.ensures ∙ take_least c.args.slots.now 8 in
    let n : length (take c.min-most.result c.args.slots.now) ≡ length (take 8 c.args.slots.now) = ap (λ (xs : List (Slot g.row.D.Denot)). length xs) e in
    sym (sym (ap (λ (xs : List (Slot g.row.D.Denot)). first_where is_slot_free xs) (all_taken (take 8 c.args.slots.now) c.loop-i.i (omega (arith, c.loop-i-test.false, n)))) ∙ c.loop-i.invariant)

pub loop-i-preserved : goal.loop-i-preserved
loop-i-preserved g c =
    let e : take c.min-most.result c.args.slots.now ≡ take 8 c.args.slots.now = ap (λ (n : ℕ). take n c.args.slots.now) c.min-most.ensures ∙ take_least c.args.slots.now 8 in
    let at = ap (λ (xs : List (Slot g.row.D.Denot)). get_or xs c.loop-i.i c.slot-item.result) e in
    let k : c.loop-i.i < length (take 8 c.args.slots.now) = subst (λ (xs : List (Slot g.row.D.Denot)). c.loop-i.i < length xs) e c.loop-i-test.true in
    rw add-one (one_more is_slot_free (take 8 c.args.slots.now) c.loop-i.i c.slot-item.result c.loop-i.invariant k (ap is_slot_free (sym (c.slot-item.is ∙ at)) ∙ sym c.is_free.ensures ∙ c.if-is_free.false))
