-- Signs of parts by number and region.
use Rattle.std.specs.Prelude.{◌≡◌, ℕ, ◌+◌, ◌<◌, List, map, length, get_or, Option, None, ◌++◌, Bool, true, false}
use Rattle.std.specs.Borrow.{Bor}
use Rattle.std.specs.Option.{option_and_then}
use Rattle.disk_defs.specs.Disk.{Files}
use Rattle.journal_defs.specs.Journal.{Part}
use Rattle.journal_defs.specs.Instance.{InstanceRecord}
use Rattle.entry_index.specs.declared.placed.PlacedSign.{PlacedSign}
use Rattle.entry_index.specs.declared.signed_part.PartSign.{PartSign}
use Rattle.entry_index.specs.declared.table.SignTable.{SignTable}
use Rattle.entry_index.specs.Signs.{part_sign_in, last_sign, IsSign}
use Rattle.entry_index.specs.declared.place.PartPlace.{PartPlace}
use Rattle.entry_index.specs.Parts.{NOWHERE}
use Rattle.entry_index.specs.Completing.{place_told}

-- what the sign at a place of a column says
abbrev pub sign_in_column : ℕ → List (Option (Bor PlacedSign)) → Option PartSign
sign_in_column i column = option_and_then (λ s. part_sign_in s.now) (get_or column i None)

-- what the sign at a place of a region says
abbrev pub sign_at : SignTable → ℕ → ℕ → Option PartSign
sign_at t i r = get_or (map (λ c. sign_in_column i c.items) t.columns.items) r None

-- The column has the signs of the last surviving parts at its places, of which the first stands for number 1.
pub record IsColumn (instance : List InstanceRecord) (places : ℕ) (signs : List PlacedSign) (column : List (Option (Bor PlacedSign))) : Type 0 where
  pub many : length column ≡ places
  pub each : (i : ℕ) → i < places → sign_in_column i column ≡ last_sign instance (i + 1) signs

-- what the sign of a region in a row says
abbrev pub row_sign : List (Option PartSign) → ℕ → Option PartSign
row_sign row r = get_or row r None

-- the signs of a row are those of these parts of entry n
abbrev pub AreSigned : Files → List (Option PartSign) → ℕ → (ℕ → Option Part) → Type 0
AreSigned files row n part = (r : ℕ) → IsSign files r n (row_sign row r) (part r)

-- Where places were added they are those that the signs of a row tell, one a region.
abbrev pub AddsRow : List (Option PartSign) → (regions : ℕ) → Bool → List PartPlace → List PartPlace → Type 0
AddsRow row regions true old new = (places : List PartPlace) × (new ≡ old ++ places) × (length places ≡ regions) × ((r : ℕ) → r < regions → get_or places r NOWHERE ≡ place_told (row_sign row r))
AddsRow row regions false old new = new ≡ old
