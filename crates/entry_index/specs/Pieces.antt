-- Files that are read a piece at a time.
use Rattle.std.specs.Prelude.{◌≡◌, ℕ, ◌+◌, ◌≤◌, List, [], ◌∷◌, length, take, drop, Option, Some, None}
use Rattle.std.specs.Int.{to_be_bytes, w32}
use Rattle.global_defs.specs.declared.limits.TheConstants.{LONGEST_BODY}
use Rattle.disk_defs.specs.Disk.{Files}
use Rattle.gated_file.specs.Reading.{HasBody}
use Rattle.jnl_record.specs.Values.{record_value}
use Rattle.jnl_record.specs.declared.record.JnlRecord.{JnlRecord}
use Rattle.jnl_file.specs.Reading.{FindsRecord}
use Rattle.entry_index.specs.RecordSigns.{sign_of}
use Rattle.entry_index.specs.Places.{StandsAt}
use Rattle.entry_index.specs.declared.sign.Sign.{Sign}
use Rattle.entry_index.specs.declared.pieces.Pieces.{Pieces}

-- what is at hand of a file is a piece of it, and its length is known
pub record IsPieceOf (p : Pieces) (files : Files) : Type 0 where
  pub size : p.size ≡ length (files p.file)
  pub bytes : p.bytes.items ≡ take (length p.bytes.items) (drop p.start (files p.file))

-- so many bytes from this place on are at hand
pub record HasBytes (p : Pieces) (at n : ℕ) : Type 0 where
  pub from : p.start ≤ at
  pub to : at + n ≤ p.start + length p.bytes.items

-- the same file
pub record IsSameFile (old new : Pieces) : Type 0 where
  pub file : new.file ≡ old.file
  pub size : new.size ≡ old.size

-- bytes that begin with an open gate, this body behind it and one more gate
pub record BeginsWithBody (bytes body : List ℕ) : Type 0 where
  pub gate : take 1 bytes ≡ 1 ∷ []
  pub head : take 4 (drop 1 bytes) ≡ to_be_bytes w32 (length body)
  pub not_empty : 1 ≤ length body
  pub not_long : length body ≤ LONGEST_BODY
  pub inside : length body + 6 ≤ length bytes
  pub shown : body ≡ take (length body) (drop 5 bytes)

-- an open gate with this body behind it
pub record IsBodyOf (file : List ℕ) (at : ℕ) (body : List ℕ) : Type 0 where
  pub has : HasBody file at (length body)
  pub shown : body ≡ take (length body) (drop (at + 5) file)

-- What the record behind an open gate says, and the next gate's place; or a closed gate.
abbrev pub FindsSign : List ℕ → ℕ → Option (Sign × ℕ) → Type 0
FindsSign file at None = FindsRecord file at None
FindsSign file at (Some found) = (x : JnlRecord) × FindsRecord file at (Some (x, found.1)) × (found.0 ≡ sign_of (record_value x)) × StandsAt file at (record_value x)
