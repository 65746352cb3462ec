-- What bodies tell.
use Rattle.std.specs.Prelude.{◌≡◌, ℕ, ◌≤◌, List, Option, Some, None}
use Rattle.global_defs.specs.declared.limits.TheConstants.{MOST_UPDATERS, MOST_UPDATES}
use Rattle.global_defs.specs.Fields.{IsNumber}
use Rattle.journal_defs.specs.Journal.{JournalRecord, IsJournalBody}
use Rattle.entry_index.specs.RecordSigns.{sign_of}
use Rattle.entry_index.specs.declared.sign.Sign.{Sign}
use Rattle.entry_index.specs.declared.parts.Head.{Head}

-- what the record says whose body these bytes are, or nothing where they are no record's
abbrev pub TellsSign : List ℕ → Option Sign → Type 0
TellsSign body None = (r : JournalRecord) → IsJournalBody body r → ⊥
TellsSign body (Some s) = (r : JournalRecord) × IsJournalBody body r × (s ≡ sign_of r)

-- how a TCOM begins, as its fields one after the other
abbrev pub head_fields : Head → ℕ × (ℕ × (ℕ × (ℕ × (ℕ × ℕ))))
head_fields h = (h.number, (h.mask, (h.origin.updater, (h.origin.serial, (h.count, h.items)))))

-- each field is in its range
pub record IsInRange (h : Head) : Type 0 where
  pub number : IsNumber h.number
  pub updater : (1 ≤ h.origin.updater) × (h.origin.updater ≤ MOST_UPDATERS)
  pub serial : 1 ≤ h.origin.serial
  pub count : (1 ≤ h.count) × (h.count ≤ MOST_UPDATES)
