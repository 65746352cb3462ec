use Rattle.std.proofs.Common.{◌≡◌, ℕ, ◌<◌, length, get_or}
use Rattle.entry_index.specs.Parts.{NOWHERE}
use Rattle.entry_index.specs.Completing.{place_told}
use Rattle.entry_index.specs.Table.{row_sign}
use Rattle.entry_index.proofs.completing.places_of.Given as goal

abbrev pub invariant-loop-region : goal.invariant-loop-region
invariant-loop-region l = record {
  many : length l.made.items ≡ l.region;
  each : (r : ℕ) → r < l.region → get_or l.made.items r NOWHERE ≡ place_told (row_sign l.row r);
}
