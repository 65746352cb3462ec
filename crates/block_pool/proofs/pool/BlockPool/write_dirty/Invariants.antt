use Rattle.std.proofs.Common.{◌≤◌, IfSome}
use Rattle.block_pool.specs.Pool.{CleanStand, WritesDirty}
use Rattle.block_pool.proofs.Steps.{IsWrittenTo}
use Rattle.block_pool.proofs.pool.BlockPool.write_dirty.Given as goal

abbrev pub invariant-loop-number : goal.invariant-loop-number
invariant-loop-number g l =
    let view = g.D.Disk.disk in
    record {
      at : IsWrittenTo l.self l.file l.number-index l.numbers (view l.disk);
      clean : IfSome (view l.disk).content (λ files. CleanStand l.self (files l.file));
      writes : WritesDirty l.self l.file (view l.fn.disk) (view l.disk);
      later : (view l.fn.disk).faults ≤ (view l.disk).faults;
    }
