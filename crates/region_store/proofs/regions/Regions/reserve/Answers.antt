use Rattle.std.proofs.Common.{map, subst, arith}
use Rattle.gvn_key.specs.Terms.{update_value}
use Rattle.gvt_leaf.specs.Stored.{HasRoom}
use Rattle.region_store.specs.Region.{stored_in}
use Rattle.region_store.proofs.Making.{same_none, same_then, changed_none, changed_then, room_more, room_all}
use Rattle.region_store.proofs.regions.Regions.reserve.Goals as goal

pub loop-number-init : goal.loop-number-init
loop-number-init c = record {
  few = omega arith;
  below = λ r s low is. absurd (omega (arith, low));
  same = same_none c.args.self.now;
  changed = changed_none c.args.self.now;
}

pub reserve_in-requires : goal.reserve_in-requires
reserve_in-requires c = let count = c.loop-number.invariant.same.count in omega (arith, c.loop-number-test.true, c.count-number-end.ensures.count, count)

pub returns-in_err-reserve_in-clause-same : goal.returns-in_err-reserve_in-clause-same
returns-in_err-reserve_in-clause-same c = same_then c.args.self.now c.loop-number.self c.reserve_in.new.self c.loop-number.invariant.same c.reserve_in.ensures.same

pub returns-in_err-reserve_in-clause-changed : goal.returns-in_err-reserve_in-clause-changed
returns-in_err-reserve_in-clause-changed c = changed_then c.args.self.now c.loop-number.self c.reserve_in.new.self c.loop-number.invariant.changed c.reserve_in.ensures.changed

pub loop-number-preserved : goal.loop-number-preserved
loop-number-preserved c =
    let l = c.loop-number in
    let us = map update_value c.args.updates.now in
    record {
      few = omega (arith, c.loop-number-test.true, c.count-number-end.ensures.count);
      below = room_more c.args.self.now l.self c.reserve_in.new.self l.number us l.invariant.same.patterns l.invariant.below c.reserve_in.ensures.others
          (λ s is. subst (HasRoom (stored_in s)) c.sets_in-sets.ensures (c.in_ok-reserve_in.ensures.ok s is));
      same = same_then c.args.self.now l.self c.reserve_in.new.self l.invariant.same c.reserve_in.ensures.same;
      changed = changed_then c.args.self.now l.self c.reserve_in.new.self l.invariant.changed c.reserve_in.ensures.changed;
    }

pub returns-clause-ok : goal.returns-clause-ok
returns-clause-ok c =
    let l = c.loop-number in
    let end = c.loop-number-test.false in
    let fits = c.if-nodes-count_sets.false in
    room_all c.args.self.now l.self l.number (map update_value c.args.updates.now) (omega (arith, end, c.count-number-end.ensures.count)) l.invariant.same l.invariant.below
    (omega (arith, fits, c.nodes.ensures, c.count_sets.ensures))
