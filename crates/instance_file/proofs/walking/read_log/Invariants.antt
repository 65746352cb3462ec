use Rattle.std.proofs.Common.{◌≡◌, ◌≤◌, ◌-◌, ◌^◌, length, IfSome}
use Rattle.disk_defs.specs.Disk.{Reads}
use Rattle.std.specs.List.{AllByRecursion}
use Rattle.journal_defs.specs.Instance.{IsInForm, generation}
use Rattle.site_defs.specs.OutsideInstance.{AreOrdered}
use Rattle.instance_file.proofs.Passing.{Passed}
use Rattle.instance_file.proofs.walking.read_log.Given as goal

abbrev pub invariant-loop-places : goal.invariant-loop-places
invariant-loop-places g l =
    let view = g.D.Disk.disk in
    record {
      passed : IfSome (view l.fn.disk).content (λ files. Passed (files l.fn.gated.file) l.at l.records l.places.items l.generation);
      ordered : AreOrdered l.records;
      form : AllByRecursion IsInForm l.records;
      last : generation l.records ≡ l.generation;
      many : length l.places.items ≡ length l.records;
      same : l.gated ≡ l.fn.gated;
      reads : Reads (view l.fn.disk) (view l.disk);
      faults : (view l.fn.disk).faults ≤ (view l.disk).faults;
    }

abbrev pub decreases-loop-places : goal.decreases-loop-places
decreases-loop-places g l = 2 ^ 64 - l.at
