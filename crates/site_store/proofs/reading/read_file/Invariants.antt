use Rattle.std.proofs.Common.{◌≡◌, ◌≤◌, ◌++◌, ◌-◌, take, IfSome}
use Rattle.disk_defs.specs.Disk.{Reads}
use Rattle.global_defs.specs.Prefix.{IsPrefix}
use Rattle.site_store.proofs.reading.read_file.Given as goal

-- so many bytes were added
abbrev pub invariant-loop-at : goal.invariant-loop-at
invariant-loop-at g l =
    let view = g.D.Disk.disk in
    let u = view l.fn.disk in
    let v = view l.disk in
    record {
      within : l.at ≤ l.length;
      text : IfSome u.content (λ files. l.out ≡ l.fn.out ++ take l.at (files l.file));
      front : IsPrefix l.fn.out l.out;
      reads : Reads u v;
      faults : u.faults ≤ v.faults;
    }

abbrev pub decreases-loop-at : goal.decreases-loop-at
decreases-loop-at g l = l.length - l.at
