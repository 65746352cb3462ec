use Rattle.std.proofs.Common.{◌≡◌, ◌≤◌, [], length, ℕ, List, IfSome}
use Rattle.disk_defs.specs.Disk.{Files, Reads}
use Rattle.journal_defs.specs.Instance.{InstanceRecord}
use Rattle.entry_index.specs.Cursors.{AreReady, AreOnWay, AreTold}
use Rattle.entry_index.proofs.side_by_side.begin_all.Given as goal

abbrev pub invariant-loop-region : goal.invariant-loop-region
invariant-loop-region g l =
    let view = g.D.Disk.disk in
    record {
      many : length l.cursors.items ≡ l.region;
      ready : AreReady (view l.disk).content l.last l.cursors.items;
      begun : IfSome (view l.fn.disk).content (λ files. (instance : List InstanceRecord) (lowest : ℕ) → AreOnWay files instance lowest 0 l.cursors.items (λ r. []));
      told : (files : Files) (instance : List InstanceRecord) → AreTold files instance 0 l.cursors.items (λ r. []);
      reads : Reads (view l.fn.disk) (view l.disk);
      faults : (view l.fn.disk).faults ≤ (view l.disk).faults;
    }
