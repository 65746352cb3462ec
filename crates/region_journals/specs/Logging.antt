-- Records on their way into one region's journal.
use Rattle.std.specs.Prelude.{◌≡◌, ◌≤◌, ◌==◌, ◌++◌, ℕ, false, List, [], length, if◌then◌else◌, IsTrue}
use Rattle.global_defs.specs.declared.limits.TheConstants.{LONGEST_BODY}
use Rattle.disk_defs.specs.Disk.{View}
use Rattle.journal_defs.specs.Journal.{JournalRecord, IsInForm, spelled_record}
use Rattle.jnl_record.specs.declared.record.JnlRecord.{JnlRecord}
use Rattle.jnl_record.specs.Values.{record_value, IsFirstVersion}
use Rattle.jnl_file.specs.Journal as journals
use Rattle.region_journals.specs.declared.journals.RegionJournal.{RegionJournal}
use Rattle.region_journals.specs.Journals.{HasSyncs}

-- A record that a journal can take: it is in its form, of the first version, and its body is at most 1,048,576 bytes long.
pub record MayBeAppended (r : JnlRecord) : Type 0 where
  pub form : IsInForm (record_value r)
  pub version : IsFirstVersion r
  pub short : length (spelled_record (record_value r)) ≤ LONGEST_BODY

-- these records in one region, and none in any other
abbrev pub in_region : ℕ → List JournalRecord → ℕ → List JournalRecord
in_region region rs r = if r == region then rs else []

-- These records were appended to a journal behind closed gates; where none was, and nothing before, it doesn't say that something was.
pub record HasLogged (u v : View) (rs : List JournalRecord) (x y : RegionJournal) : Type 0 where
  pub ready : journals.IsReady v y.journal
  pub same : journals.IsSameJournal x.journal y.journal
  pub goes_on : IsTrue y.appended → HasSyncs y.journal
  pub none_before : y.appended ≡ false → x.appended ≡ false
  pub none_more : y.appended ≡ false → rs ≡ []
  pub state : (hard waiting : List JournalRecord) → journals.HasRecords u x.journal (record { hard = hard; opening = []; closed = waiting }) → journals.HasRecords v y.journal (record { hard = hard; opening = []; closed = waiting ++ rs })
