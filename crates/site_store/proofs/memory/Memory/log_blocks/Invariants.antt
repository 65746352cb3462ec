use Rattle.std.proofs.Common.{◌≤◌}
use Rattle.disk_defs.specs.Frames.{OthersStay}
use Rattle.site_store.specs.Committing.{HasLogged, AreLoggingMoments, IsOwnJournal}
use Rattle.site_store.proofs.memory.Memory.log_blocks.Given as goal

abbrev pub invariant-loop-block : goal.invariant-loop-block
invariant-loop-block g l =
    let view = g.D.Disk.disk in
    let u = view l.fn.disk in
    let v = view l.disk in
    record {
      logged : HasLogged u v l.fn.self l.self;
      moments : AreLoggingMoments u v l.fn.self;
      frame : OthersStay (IsOwnJournal l.fn.self) u v;
      faults : u.faults ≤ v.faults;
    }
