use Rattle.std.proofs.Common.{◌≡◌, ℕ, ◌≤◌, ◌<◌, List, length, map, IfSome}
use Rattle.disk_defs.specs.Disk.{Reads}
use Rattle.journal_defs.specs.Sequence.{Placed}
use Rattle.mupip_recover.specs.Site.{journal_of}
use Rattle.entry_index.specs.Indexes.{AreSigns}
use Rattle.site_files.specs.Past.{all_past}
use Rattle.site_files.proofs.past.read_past.Given as goal

abbrev pub invariant-loop-region : goal.invariant-loop-region
invariant-loop-region g l =
    let view = g.D.Disk.disk in
    let u = view l.fn.disk in
    let v = view l.disk in
    record {
      read : IfSome u.content (λ files. (journal : ℕ → List Placed) → AreSigns files (map (λ s. s.items) l.signs) journal
          → (r : ℕ) → r < l.region → journal_of (map (λ j. j.items) l.made.items) r ≡ all_past l.fn.count (journal r));
      many : length l.made.items ≡ l.region;
      reads : Reads u v;
      faults : u.faults ≤ v.faults;
    }
