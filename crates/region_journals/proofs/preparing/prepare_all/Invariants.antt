use Rattle.std.proofs.Common.{◌≡◌, ℕ, length}
use Rattle.disk_defs.specs.Disk.{Image, AtEachMoment}
use Rattle.disk_defs.specs.Frames.{OthersStay}
use Rattle.region_journals.specs.Fronts.{IsNewestFile}
use Rattle.region_journals.specs.Journals.{AreReady}
use Rattle.region_journals.specs.Entering.{IsUnchanged, Stays}
use Rattle.region_journals.proofs.Turns.{HasCome}
use Rattle.region_journals.proofs.Prepared.{PreparedTo}
use Rattle.region_journals.proofs.preparing.prepare_all.Given as goal

abbrev pub invariant-loop-journal : goal.invariant-loop-journal
invariant-loop-journal g l =
    let view = g.D.Disk.disk in
    let u = view l.fn.disk in
    let v = view l.disk in
    let old = l.fn.journals in
    record {
      come : HasCome u v IsUnchanged Stays l.journal-index old l.journals;
      prepared : PreparedTo l.fn.parts l.journal-index l.journals;
      moments : AtEachMoment u v (Image u);
      frame : (h : ℕ) → AreReady u h old → OthersStay (IsNewestFile h (length old)) u v;
      faults : v.faults ≡ u.faults;
    }
