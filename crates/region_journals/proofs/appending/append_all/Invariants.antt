use Rattle.std.proofs.Common.{◌≤◌, ℕ, List, [], length}
use Rattle.disk_defs.specs.Disk.{AtEachMoment}
use Rattle.disk_defs.specs.Frames.{OnlyIn, OthersStay}
use Rattle.journal_defs.specs.Journal.{JournalRecord}
use Rattle.jnl_file.specs.Records.{StandsRecords}
use Rattle.region_journals.specs.Fronts.{IsNewestFile}
use Rattle.region_journals.specs.Journals.{AreReady, KeepsJournals}
use Rattle.region_journals.specs.Entering.{HasTaken, Takes}
use Rattle.region_journals.proofs.Turns.{HasCome}
use Rattle.region_journals.proofs.Moments.{Have}
use Rattle.region_journals.proofs.appending.append_all.Given as goal

abbrev pub invariant-loop-journal : goal.invariant-loop-journal
invariant-loop-journal g l =
    let view = g.D.Disk.disk in
    let u = view l.fn.disk in
    let v = view l.disk in
    let old = l.fn.journals in
    record {
      come : HasCome u v (HasTaken l.fn.parts) (Takes l.fn.parts) l.journal-index old l.journals;
      moments : (h : ℕ) (hard waiting : ℕ → List JournalRecord) → AreReady u h old → KeepsJournals u hard waiting old → AtEachMoment u v (OnlyIn u (IsNewestFile h (length old)) (Have h (length old) (λ r. StandsRecords (hard r) [])));
      frame : (h : ℕ) → AreReady u h old → OthersStay (IsNewestFile h (length old)) u v;
      faults : u.faults ≤ v.faults;
    }
