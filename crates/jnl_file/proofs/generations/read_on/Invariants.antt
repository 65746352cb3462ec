use Rattle.std.proofs.Common.{◌≡◌, ◌≤◌, ◌-◌, ◌^◌, ◌⊎◌, map, IfSome}
use Rattle.std.specs.List.{AllByRecursion}
use Rattle.disk_defs.specs.Disk.{Reads}
use Rattle.jnl_record.specs.Values.{placed_value}
use Rattle.jnl_file.specs.Reading.{IsReadRecord}
use Rattle.jnl_file.specs.Newer.{Reached}
use Rattle.jnl_file.proofs.generations.read_on.Given as goal

abbrev pub invariant-loop-body : goal.invariant-loop-body
invariant-loop-body g l =
    let view = g.D.Disk.disk in
    record {
      reached : IfSome (view l.fn.disk).content (λ files. Reached l.fn.region l.fn.generation l.fn.previous (files l.fn.gated.file) l.at (map placed_value l.fn.into.items) (map placed_value l.into.items) l.began);
      form : AllByRecursion (λ p. IsReadRecord p.what) l.fn.into.items → AllByRecursion (λ p. IsReadRecord p.what) l.into.items;
      began : (l.began ≡ l.fn.previous) ⊎ (l.began ≡ l.fn.generation);
      same : l.gated ≡ l.fn.gated;
      reads : Reads (view l.fn.disk) (view l.disk);
      faults : (view l.fn.disk).faults ≤ (view l.disk).faults;
    }

abbrev pub decreases-loop-body : goal.decreases-loop-body
decreases-loop-body g l = 2 ^ 64 - l.at
