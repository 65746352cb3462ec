use Rattle.std.proofs.Common.{◌≡◌, ◌≤◌, map, IfSome}
use Rattle.std.specs.List.{AllByRecursion}
use Rattle.disk_defs.specs.Disk.{Image, AtEachMoment}
use Rattle.disk_defs.specs.Frames.{OthersStay}
use Rattle.journal_defs.specs.Stands.{IsJournal}
use Rattle.jnl_record.specs.Values.{placed_value}
use Rattle.jnl_file.specs.Reading.{IsReadRecord}
use Rattle.jnl_file.specs.Generations.{AreJournals, AreDurable}
use Rattle.jnl_file.proofs.generations.read_generations.Given as goal

abbrev pub invariant-loop-before : goal.invariant-loop-before
invariant-loop-before g l =
    let view = g.D.Disk.disk in
    let u = view l.fn.disk in
    let v = view l.disk in
    record {
      read : IfSome u.content (λ files. IsJournal files l.fn.region l.before l.last_began (map placed_value l.records.items));
      form : AllByRecursion (λ p. IsReadRecord p.what) l.records.items;
      began : l.last_began ≤ l.before;
      durable : IfSome u.content (AreDurable v l.fn.region l.before);
      content : v.content ≡ u.content;
      moments : AtEachMoment u v (Image u);
      frame : OthersStay (AreJournals l.fn.region l.fn.last) u v;
      faults : u.faults ≤ v.faults;
    }
