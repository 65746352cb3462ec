use Rattle.std.proofs.Common.{◌≤◌, length}
use Rattle.disk_defs.specs.Disk.{Reads}
use Rattle.region_opening.specs.Replaying.{AreBecome, IsGivenUpTo}
use Rattle.region_opening.proofs.replaying.replay.Given as goal

abbrev pub invariant-loop-done : goal.invariant-loop-done
invariant-loop-done g l =
    let view = g.D.Disk.disk in
    let u = view l.fn.disk in
    let v = view l.disk in
    record {
      become : AreBecome (IsGivenUpTo u.content l.fn.history l.fn.entries l.directory.patterns l.from l.done) (length l.fn.regions.items) l.fn.regions.items l.regions.items;
      within : l.done ≤ l.fn.target;
      reads : Reads u v;
      faults : u.faults ≤ v.faults;
    }
