use Rattle.std.proofs.Common.{◌∙◌, length, ◌<◌, arith}
use Rattle.block_fmt.proofs.Lists.{one_less}
use Rattle.block_fmt.proofs.places.remove_run.Goals as goal

pub remove-requires : goal.remove-requires
remove-requires c =
    let ps = c.args.places.now.items in
    let inside : c.loop.counter < length ps = omega (arith, c.loop-test.true, c.requires.inside, c.args.places.now.ok.0) in
    let one = one_less ps c.loop.places.items c.args.i c.loop.counter c.loop.invariant.from inside c.loop.invariant.items in
    omega (arith, one.0, c.loop.places.ok.0)

pub loop-preserved : goal.loop-preserved
loop-preserved c =
    let ps = c.args.places.now.items in
    let inside : c.loop.counter < length ps = omega (arith, c.loop-test.true, c.requires.inside, c.args.places.now.ok.0) in
    let one = one_less ps c.loop.places.items c.args.i c.loop.counter c.loop.invariant.from inside c.loop.invariant.items in
    let low = c.loop.invariant.from in
    let room = c.loop.invariant.capacity in
    let same = c.remove.ensures.capacity in
    record {
      items = c.remove.ensures.by_index.2 ∙ one.1;
      from = omega (arith, low);
      capacity = omega (arith, room, same);
    }
