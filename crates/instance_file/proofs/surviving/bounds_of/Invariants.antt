use Rattle.std.proofs.Common.{◌≡◌, reverse, map}
use Rattle.instance_file.specs.Values.{record_value}
use Rattle.instance_file.specs.Walks as walks
use Rattle.instance_file.proofs.surviving.bounds_of.Given as goal

abbrev pub invariant-loop-record : goal.invariant-loop-record
invariant-loop-record l = record {
  made : l.made.items ≡ reverse (walks.bounds_behind (map record_value (reverse (map (λ y. y.now) l.yielded))));
  bound : l.bound ≡ walks.bound (map record_value (reverse (map (λ y. y.now) l.yielded)));
}
