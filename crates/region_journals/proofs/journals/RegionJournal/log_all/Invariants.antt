use Rattle.std.proofs.Common.{◌≤◌, List, [], map, take}
use Rattle.disk_defs.specs.Disk.{AtEachMoment}
use Rattle.disk_defs.specs.Frames.{Only, OnlyOn, OthersStay}
use Rattle.journal_defs.specs.Journal.{JournalRecord}
use Rattle.jnl_record.specs.Values.{record_value}
use Rattle.jnl_file.specs.Records.{StandsRecords}
use Rattle.jnl_file.specs.Journal as files
use Rattle.region_journals.specs.Logging.{HasLogged}
use Rattle.region_journals.proofs.journals.RegionJournal.log_all.Given as goal

abbrev pub invariant-loop-what : goal.invariant-loop-what
invariant-loop-what g l =
    let view = g.D.Disk.disk in
    let u = view l.fn.disk in
    let v = view l.disk in
    let file = l.fn.self.journal.gated.file in
    record {
      logged : HasLogged u v (map record_value (take l.what-index l.records)) l.fn.self l.self;
      moments : (hard waiting : List JournalRecord) → files.HasRecords u l.fn.self.journal (record { hard = hard; opening = []; closed = waiting }) → AtEachMoment u v (OnlyOn u file (StandsRecords hard []));
      frame : OthersStay (Only file) u v;
      faults : u.faults ≤ v.faults;
    }
