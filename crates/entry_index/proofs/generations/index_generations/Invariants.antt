use Rattle.std.proofs.Common.{◌≡◌, ◌≤◌, IfSome}
use Rattle.disk_defs.specs.Disk.{Image, AtEachMoment}
use Rattle.disk_defs.specs.Frames.{OthersStay}
use Rattle.jnl_file.specs.Generations.{AreJournals, AreDurable}
use Rattle.entry_index.proofs.Indexing.{HasSigns}
use Rattle.entry_index.proofs.generations.index_generations.Given as goal

abbrev pub invariant-loop-before : goal.invariant-loop-before
invariant-loop-before g l =
    let view = g.D.Disk.disk in
    let u = view l.fn.disk in
    let v = view l.disk in
    record {
      read : IfSome u.content (λ files. HasSigns files l.fn.region l.before l.last_began l.signs.items);
      began : l.last_began ≤ l.before;
      durable : IfSome u.content (AreDurable v l.fn.region l.before);
      content : v.content ≡ u.content;
      moments : AtEachMoment u v (Image u);
      frame : OthersStay (AreJournals l.fn.region l.fn.last) u v;
      faults : u.faults ≤ v.faults;
    }
