use Rattle.std.proofs.Common.{◌≡◌, ◌≤◌, ℕ, List, [], length}
use Rattle.journal_defs.specs.Journal.{JournalRecord}
use Rattle.region_journals.specs.Journals.{AreReady, KeepsJournals}
use Rattle.region_epochs.specs.Flushed.{one_each}
use Rattle.region_epochs.proofs.Logs.{FirstMoments, JournalsStay}
use Rattle.region_epochs.proofs.Turned.{up_to}
use Rattle.region_epochs.proofs.closing.log_each.Given as goal

abbrev pub invariant-loop-region : goal.invariant-loop-region
invariant-loop-region g l =
    let view = g.D.Disk.disk in
    let u = view l.fn.disk in
    let v = view l.disk in
    let old = l.fn.journals.journals.items in
    let js = l.journals.journals.items in
    record {
      few : l.region ≤ length l.records;
      ready : (h : ℕ) → AreReady u h old → AreReady v h js;
      state : (hard : ℕ → List JournalRecord) → KeepsJournals u hard (λ r. []) old → KeepsJournals v hard (up_to l.region (one_each l.records)) js;
      count : length js ≡ length old;
      moments : FirstMoments u v old;
      frame : JournalsStay u v old;
      faults : u.faults ≤ v.faults;
    }
