use Rattle.std.proofs.Common.{arith, sym, refl, get_or}
use Rattle.block_pool.proofs.Numbers.{next_of}
use Rattle.block_pool.proofs.Steps.{writes_none, writes_then, none_below, below_next, room_next, written_on, all_written}
use Rattle.block_pool.proofs.pool.BlockPool.write_dirty.Goals as goal

pub loop-number-init : goal.loop-number-init
loop-number-init g c = record {
  at = record {
    reached = 0;
    left = sym c.dirty_numbers-numbers.ensures.numbers;
    below = none_below c.args.self.now (g.D.Disk.disk c.args.disk.now).content c.args.file;
    room = c.requires.room;
  };
  clean = c.requires.clean;
  writes = writes_none c.args.self.now c.args.file (g.D.Disk.disk c.args.disk.now);
  later = omega arith;
}

pub write_one-requires-clause-inside : goal.write_one-requires-clause-inside
write_one-requires-clause-inside g c =
    let l = c.loop-number in
    let p = c.args.self.now in
    let next = next_of p.dirty c.dirty_numbers-numbers.result.now l.invariant.at.reached l.number-index (get_or c.dirty_numbers-numbers.result.now l.number-index 0) l.invariant.at.left c.loop-number-test.true refl in
    let inside = next.inside in
    omega (arith, inside, c.dirty_numbers-numbers.ensures.marks)

pub write_one-requires-clause-below : goal.write_one-requires-clause-below
write_one-requires-clause-below g c =
    let l = c.loop-number in
    below_next c.args.self.now c.args.file l.number-index (get_or c.dirty_numbers-numbers.result.now l.number-index 0) c.dirty_numbers-numbers.result.now (g.D.Disk.disk l.disk) l.invariant.at c.loop-number-test.true refl l.invariant.clean

pub write_one-requires-clause-room : goal.write_one-requires-clause-room
write_one-requires-clause-room g c =
    let l = c.loop-number in
    room_next c.args.self.now c.args.file l.number-index (get_or c.dirty_numbers-numbers.result.now l.number-index 0) c.dirty_numbers-numbers.result.now (g.D.Disk.disk l.disk) l.invariant.at c.loop-number-test.true refl

pub returns-in_err-write_one-clause-writes : goal.returns-in_err-write_one-clause-writes
returns-in_err-write_one-clause-writes g c =
    writes_then c.args.self.now c.args.file _ (g.D.Disk.disk c.loop-number.disk) _ (g.met.D.Disk.lawful c.loop-number.disk) c.loop-number.invariant.writes c.write_one.ensures.writes

pub loop-number-preserved : goal.loop-number-preserved
loop-number-preserved g c =
    let l = c.loop-number in
    record {
      at = written_on c.args.self.now c.args.file l.number-index (get_or c.dirty_numbers-numbers.result.now l.number-index 0) c.dirty_numbers-numbers.result.now (g.D.Disk.disk l.disk) _ l.invariant.at c.loop-number-test.true refl c.in_ok-write_one.ensures.below c.in_ok-write_one.ensures.room;
      clean = c.in_ok-write_one.ensures.clean;
      writes = writes_then c.args.self.now c.args.file _ (g.D.Disk.disk l.disk) _ (g.met.D.Disk.lawful l.disk) l.invariant.writes c.write_one.ensures.writes;
      later = omega (arith, l.invariant.later, c.write_one.ensures.cause.later);
    }

pub returns-clause-all : goal.returns-clause-all
returns-clause-all g c =
    let l = c.loop-number in
    let end = c.loop-number-test.false in
    all_written c.args.self.now c.args.file l.number-index c.dirty_numbers-numbers.result.now (g.D.Disk.disk l.disk) l.invariant.at (omega (arith, end)) l.invariant.clean
