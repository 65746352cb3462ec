use Rattle.std.proofs.Common.{◌≡◌, ℕ, ◌<◌, length, get_or}
use Rattle.entry_index.specs.Parts.{NOWHERE}
use Rattle.site_store.specs.Committing.{next_place}
use Rattle.site_store.proofs.entering.next_places.Given as goal

abbrev pub invariant-loop-region : goal.invariant-loop-region
invariant-loop-region l = record {
  many : length l.row ≡ 8;
  each : (r : ℕ) → r < l.region → get_or l.row r NOWHERE ≡ next_place l.parts l.journals.journals.items r;
}
