use Rattle.std.proofs.Common.{◌≡◌, ℕ, ◌≤◌, ◌<◌, length, map, get_or, Option, None, IfSome}
use Rattle.std.specs.List.{AllByRecursion}
use Rattle.std.specs.Option.{option_map}
use Rattle.disk_defs.specs.Disk.{Reads}
use Rattle.journal_defs.specs.Journal.{Part}
use Rattle.entry_index.specs.Parts.{InFiles, AreParts, read_value, IsReadPart}
use Rattle.entry_index.proofs.reading.read_parts.Given as goal

abbrev pub invariant-loop-region : goal.invariant-loop-region
invariant-loop-region g l =
    let view = g.D.Disk.disk in
    record {
      many : length l.made.items ≡ l.region;
      read : IfSome (view l.fn.disk).content (λ files. (part : ℕ → Option Part) → AreParts (InFiles files) l.fn.number l.fn.row part → (r : ℕ) → r < l.region → get_or (map (option_map read_value) l.made.items) r None ≡ part r);
      forms : AllByRecursion (λ found. IfSome found IsReadPart) l.made.items;
      reads : Reads (view l.fn.disk) (view l.disk);
      faults : (view l.fn.disk).faults ≤ (view l.disk).faults;
    }
