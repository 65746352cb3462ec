-- Making a journal.
use Rattle.std.specs.Prelude.{◌≡◌, ◌⊎◌, ℕ, Bool, [], ◌∷◌}
use Rattle.disk_defs.specs.Disk.{Files, View, Image, From, OnFile}
use Rattle.disk_defs.specs.Gates.{records}
use Rattle.journal_defs.specs.Journal.{JournalRecord, Pini}
use Rattle.jnl_file.specs.Records.{StandsRecords}

-- the record that a journal begins with
abbrev pub pini : (region : ℕ) → (before : Bool) → (generation previous : ℕ) → JournalRecord
pini region before generation previous = Pini (record { region = region; before = before; generation = generation; previous = previous })

-- An image from before the call, in which this file may have other bytes that stand for the same records, or for none, or for this one alone.
abbrev pub MayBegin : View → ℕ → JournalRecord → Files → Type 0
MayBegin old file first = From (Image old) (OnFile file (λ was now. (records now ≡ records was) ⊎ StandsRecords [] (first ∷ []) now))
