use Rattle.std.proofs.Common.{◌≡◌, ◌≤◌, ◌++◌, length, IsTrue}
use Rattle.disk_defs.specs.Disk.{AtEachMoment}
use Rattle.disk_defs.specs.Frames.{Only, OnlyOn, OthersStay}
use Rattle.disk_defs.specs.Gates.{Stands}
use Rattle.gated_file.specs.State.{State}
use Rattle.gated_file.specs.Gated.{IsReady, HasState}
use Rattle.gated_file.proofs.gated.Gated.open_gates.Given as goal

abbrev pub invariant-loop-self : goal.invariant-loop-self
invariant-loop-self g l =
    let view = g.D.Disk.disk in
    record {
      ready : IsReady (view l.disk) l.self;
      bodies : l.self.bodies_left ≡ l.fn.self.bodies_left;
      bytes : l.self.bytes_left ≡ l.fn.self.bytes_left;
      syncs : l.self.syncs_left ≡ l.fn.self.syncs_left;
      file : l.self.file ≡ l.fn.self.file;
      is_synced : IsTrue l.self.synced;
      faults : (view l.fn.disk).faults ≤ (view l.disk).faults;
      opened : (s : State) → HasState (view l.fn.disk) l.fn.self s → (t : State) × HasState (view l.disk) l.self t × (t.hard ≡ s.hard) × (t.opening ++ t.closed ≡ s.opening ++ s.closed);
      moments : (s : State) → HasState (view l.fn.disk) l.fn.self s → AtEachMoment (view l.fn.disk) (view l.disk) (OnlyOn (view l.fn.disk) l.fn.self.file (Stands s.hard (s.opening ++ s.closed)));
      frame : OthersStay (Only l.fn.self.file) (view l.fn.disk) (view l.disk);
    }

abbrev pub decreases-loop-self : goal.decreases-loop-self
decreases-loop-self g l = length l.self.closed.items
