use Rattle.std.proofs.Common.{◌≡◌, ◌≤◌, ℕ, List, Vec, Global, [], length, map, slice_get, Some, IfSome}
use Rattle.std.specs.Prelude.{slice_index}
use Rattle.disk_defs.specs.Disk.{Reads}
use Rattle.journal_defs.specs.Directory.{patterns}
use Rattle.journal_defs.specs.Sequence.{Placed}
use Rattle.entry_index.specs.declared.placed.PlacedSign.{PlacedSign}
use Rattle.entry_index.specs.Signs.{signs_of}
use Rattle.entry_index.specs.Indexes.{AreSigns}
use Rattle.region_store.specs.Region.{Standing, IsHeld}
use Rattle.region_opening.specs.Opening.{IsBegun, IsGoneBack}
use Rattle.region_opening.proofs.opening.begin_each.Given as goal

abbrev pub invariant-loop-number : goal.invariant-loop-number
invariant-loop-number g l =
    let view = g.D.Disk.disk in
    let u = view l.fn.disk in
    let v = view l.disk in
    let signs = map (λ (s : Vec PlacedSign Global). s.items) l.signs in
    record {
      count : length l.all.regions.items ≡ l.number;
      numbers : length l.all.from.items ≡ l.number;
      few : l.number ≤ l.directory.regions;
      begun : (r : ℕ) (s : Standing) → slice_get l.all.regions.items r ≡ Some s → IsBegun (patterns l.instance) l.target (slice_index l.all.from.items r) r s;
      first : (r : ℕ) → signs_of signs r ≡ [] → slice_index l.all.from.items r ≡ 0;
      held : IfSome u.content (λ files. (r : ℕ) (s : Standing) → slice_get l.all.regions.items r ≡ Some s → IsHeld s files);
      back : IfSome u.content (λ files. (journal : ℕ → List Placed) → AreSigns files signs journal → (r : ℕ) (s : Standing) → slice_get l.all.regions.items r ≡ Some s
          → IsGoneBack l.instance l.target (slice_index l.all.from.items r) (journal r) r s files);
      reads : Reads u v;
      faults : u.faults ≤ v.faults;
    }
