use Rattle.std.proofs.Common.{◌≡◌, ◌≤◌, ◌-◌, ◌^◌, IfSome}
use Rattle.disk_defs.specs.Disk.{Reads}
use Rattle.jnl_file.proofs.Walk.{Walked}
use Rattle.jnl_file.proofs.reading.read_whole.Given as goal

abbrev pub invariant-loop-body : goal.invariant-loop-body
invariant-loop-body g l =
    let view = g.D.Disk.disk in
    record {
      walked : IfSome (view l.fn.disk).content (λ files. Walked l.fn.region l.fn.generation (files l.fn.gated.file) l.at);
      same : l.gated ≡ l.fn.gated;
      reads : Reads (view l.fn.disk) (view l.disk);
      faults : (view l.fn.disk).faults ≤ (view l.disk).faults;
    }

abbrev pub decreases-loop-body : goal.decreases-loop-body
decreases-loop-body g l = 2 ^ 64 - l.at
