use Rattle.std.proofs.Common.{◌≡◌, ◌<◌, map, take}
use Rattle.std.specs.List.{AllByRecursion}
use Rattle.journal_defs.specs.Directory.{Pattern, patterns}
use Rattle.instance_file.specs.Values.{record_value}
use Rattle.site_files.proofs.mapping.mapped.Given as goal

abbrev pub invariant-loop-record : goal.invariant-loop-record
invariant-loop-record l =
    let before = patterns (map record_value (take l.record-index l.records)) in
    record {
      regions : l.directory.regions ≡ l.fn.regions;
      patterns : l.directory.patterns ≡ before;
      fits : AllByRecursion (λ (p : Pattern). p.region < l.fn.regions) before;
    }
