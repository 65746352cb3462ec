use Rattle.std.proofs.Common.{◌≡◌, ◌≤◌, ℕ, List, [], length, IfSome}
use Rattle.journal_defs.specs.Journal.{JournalRecord}
use Rattle.region_journals.specs.Journals.{AreReady, KeepsJournals}
use Rattle.region_epochs.proofs.Logs.{FirstMoments, JournalsStay}
use Rattle.region_epochs.proofs.Turned.{LoggedTo}
use Rattle.region_epochs.proofs.imaging.log_regions.Given as goal

abbrev pub invariant-loop-number : goal.invariant-loop-number
invariant-loop-number g l =
    let view = g.D.Disk.disk in
    let u = view l.fn.disk in
    let v = view l.disk in
    let old = l.fn.journals.journals.items in
    let js = l.journals.journals.items in
    record {
      few : l.number ≤ length l.regions.regions;
      ready : (h : ℕ) → AreReady u h old → AreReady v h js;
      state : IfSome u.content (LoggedTo u v old js l.regions l.number);
      waits : (hard : ℕ → List JournalRecord) → KeepsJournals u hard (λ r. []) old → (more : ℕ → List JournalRecord) × KeepsJournals v hard more js;
      count : length js ≡ length old;
      moments : FirstMoments u v old;
      frame : JournalsStay u v old;
      faults : u.faults ≤ v.faults;
    }
