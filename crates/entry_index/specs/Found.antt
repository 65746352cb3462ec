-- What was found of a site: its records by their signs, and its entries by their places.
use Rattle.std.specs.Prelude.{◌≡◌, ◌*◌, ◌/◌, ◌==◌, ◌<◌, ◌≤◌, ℕ, List, [], length, get_or, if◌then◌else◌}
use Rattle.disk_defs.specs.Disk.{Files}
use Rattle.global_defs.specs.Entry.{Sequence}
use Rattle.journal_defs.specs.Instance.{InstanceRecord}
use Rattle.journal_defs.specs.Surviving.{reigns}
use Rattle.journal_defs.specs.Sequence.{Placed, Records, IsSequence}
use Rattle.journal_defs.specs.Stands.{AreRecords, IsJournal}
use Rattle.entry_index.specs.declared.placed.PlacedSign.{PlacedSign}
use Rattle.entry_index.specs.declared.index.EntryIndex.{EntryIndex}
use Rattle.entry_index.specs.Indexes.{Indexes}
use Rattle.entry_index.specs.Thinned.{AreKept}
use Rattle.entry_index.specs.Among.{IsIndexOf}
use Rattle.entry_index.specs.Parts.{InFiles}

-- how many entries an index has
abbrev pub entry_count : EntryIndex → ℕ
entry_count index = if index.regions == 0 then 0 else length index.places.items / index.regions

-- its places are whole rows
abbrev pub IsWhole : EntryIndex → Type 0
IsWhole index = length index.places.items ≡ index.regions * entry_count index

-- The files hold these records, whose signs are kept for targets from `lowest` on, and stand for this sequence, which the index is of.
pub record AreFound (files : Files) (instance : List InstanceRecord) (lowest : ℕ) (signs : List (List PlacedSign)) (index : EntryIndex) (u : Records) (seq : Sequence) : Type 0 where
  pub instance_is : u.instance ≡ instance
  pub held : AreRecords files u
  pub are_kept : AreKept files instance lowest (length seq) signs u.journal
  pub sequence : IsSequence u seq
  pub indexed : Indexes (InFiles files) (reigns instance) index seq

-- The journals of the first regions, up to a generation, have these records: they stand for a sequence, which the index is of, and what is kept of them for targets from `lowest`
-- on has these signs.
pub record HaveFound (files : Files) (instance : List InstanceRecord) (lowest regions last : ℕ) (signs : List (List PlacedSign)) (began : List ℕ) (index : EntryIndex) (journal : ℕ → List Placed) : Type 0 where
  pub journals : (r : ℕ) → r < regions → IsJournal files r last (get_or began r 0) (journal r)
  pub no_more : (r : ℕ) → regions ≤ r → journal r ≡ []
  pub seq : Sequence
  pub sequence : IsSequence (record { instance = instance; journal = journal }) seq
  pub indexed : Indexes (InFiles files) (reigns instance) index seq
  pub among : IsIndexOf journal (reigns instance) index seq
  pub kept : AreKept files instance lowest (length seq) signs journal
