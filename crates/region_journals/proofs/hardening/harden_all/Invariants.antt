use Rattle.std.proofs.Common.{◌≡◌, ◌≤◌, ℕ, List, length, Some}
use Rattle.std.specs.Prelude.{slice_get}
use Rattle.disk_defs.specs.Disk.{AtEachMoment}
use Rattle.disk_defs.specs.Frames.{OnlyIn, OthersStay}
use Rattle.journal_defs.specs.Journal.{JournalRecord}
use Rattle.jnl_file.specs.Records.{StandsRecords}
use Rattle.jnl_file.specs.Journal as files
use Rattle.region_journals.specs.declared.journals.RegionJournal.{RegionJournal}
use Rattle.region_journals.specs.Fronts.{IsNewestFile}
use Rattle.region_journals.specs.Journals.{AreOpen}
use Rattle.region_journals.specs.Rounds.{Before, HasDone, Becomes, before}
use Rattle.region_journals.proofs.Turns.{HasCome}
use Rattle.region_journals.proofs.Moments.{Have}
use Rattle.region_journals.proofs.hardening.harden_all.Given as goal

abbrev pub invariant-loop-journal : goal.invariant-loop-journal
invariant-loop-journal g l =
    let view = g.D.Disk.disk in
    let u = view l.fn.disk in
    let v = view l.disk in
    let old = l.fn.journals in
    record {
      come : HasCome u v (HasDone l.fn.round) (Becomes l.fn.round) l.journal-index old l.journals;
      moments : (h : ℕ) (hard waiting : ℕ → List JournalRecord) → AreOpen u h (Before l.fn.round) old
          → ((r : ℕ) (x : RegionJournal) → slice_get old r ≡ Some x → files.HasRecords u x.journal (before l.fn.round (hard r) (waiting r)))
          → AtEachMoment u v (OnlyIn u (IsNewestFile h (length old)) (Have h (length old) (λ r. StandsRecords (hard r) (waiting r))));
      frame : (h : ℕ) → AreOpen u h (Before l.fn.round) old → OthersStay (IsNewestFile h (length old)) u v;
      faults : u.faults ≤ v.faults;
    }
