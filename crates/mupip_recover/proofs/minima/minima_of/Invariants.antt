use Rattle.std.proofs.Common.{◌≡◌, reverse, map}
use Rattle.mupip_recover.specs.Minima.{first_of, minima}
use Rattle.mupip_recover.proofs.minima.minima_of.Given as goal

abbrev pub invariant-loop-value : goal.invariant-loop-value
invariant-loop-value l = record {
  made : l.made.items ≡ reverse (minima (reverse (map (λ y. y.now) l.yielded)));
  least : l.least ≡ first_of (minima (reverse (map (λ y. y.now) l.yielded)));
}
