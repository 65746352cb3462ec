use Rattle.std.proofs.Common.{ap, arith}
use Rattle.region_store.specs.Region.{Standing}
use Rattle.region_epochs.proofs.Lifts.{none_yet, nodes_then, none_lifted, one_lifted}
use Rattle.region_epochs.proofs.Blocks.{IsMarked}
use Rattle.region_epochs.proofs.imaging.mark_regions.Goals as goal

pub loop-number-init : goal.loop-number-init
loop-number-init c = record { few = omega arith; lifted = none_lifted IsMarked c.args.regions.now; same = none_yet c.args.regions.now }

pub loop-number-preserved : goal.loop-number-preserved
loop-number-preserved c =
    let l = c.loop-number in
    let call = c.mark_logged.ensures in
    record {
      few = omega (arith, c.loop-number-test.true, c.count-number-end.ensures.count);
      lifted = one_lifted IsMarked l.number c.args.regions.now l.regions c.mark_logged.new.self l.invariant.lifted call.same (record { keeps = (call.marks, call.holds); logged = call.logged });
      same = nodes_then l.number c.args.regions.now l.regions c.mark_logged.new.self l.invariant.same call.same (ap (λ (s : Standing). s.file) call.marks);
    }

pub mark_logged-requires : goal.mark_logged-requires
mark_logged-requires c = let count = c.loop-number.invariant.same.count in omega (arith, c.loop-number-test.true, c.count-number-end.ensures.count, count)

pub returns : goal.returns
returns c =
    let l = c.loop-number in
    let end = c.loop-number-test.false in
    let count = c.count-number-end.ensures.count in
    record {
      marks = λ r low. (l.invariant.lifted.done r (omega (arith, low, end, count))).keeps.0;
      logged = λ r low. (l.invariant.lifted.done r (omega (arith, low, end, count))).logged;
      holds = λ r e bytes g low h. (l.invariant.lifted.done r (omega (arith, low, end, count))).keeps.1 e bytes g h;
      same = l.invariant.same;
    }
