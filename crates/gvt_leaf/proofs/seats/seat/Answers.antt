use Rattle.std.proofs.Common.{◌+◌, ◌-◌, ◌/◌, sym, arith}
use Rattle.gvt_leaf.proofs.Seated.{behind_from, before_to}
use Rattle.gvt_leaf.proofs.seats.seat.Goals as goal

pub loop-high-preserved-then-begins_behind : goal.loop-high-preserved-then-begins_behind
loop-high-preserved-then-begins_behind c =
    let m = c.loop-high.low + (c.loop-high.high - c.loop-high.low) / 2 in
    let i = c.loop-high.invariant in
    let test = c.loop-high-test.true in
    record {
      order = omega (arith, test);
      inside = omega (arith, test, i.inside);
      before = i.before;
      behind = behind_from c.args.chain.now.leaves c.args.key.now m c.requires (omega (arith, test, i.inside)) (omega (arith, test)) (sym c.if-begins_behind.ensures);
    }

pub loop-high-preserved : goal.loop-high-preserved
loop-high-preserved c =
    let m = c.loop-high.low + (c.loop-high.high - c.loop-high.low) / 2 in
    let i = c.loop-high.invariant in
    let test = c.loop-high-test.true in
    record {
      order = omega (arith, test);
      inside = i.inside;
      before = before_to c.args.chain.now.leaves c.args.key.now m c.requires (omega (arith, test, i.inside)) (omega (arith, test)) (sym c.if-begins_behind.ensures);
      behind = i.behind;
    }
