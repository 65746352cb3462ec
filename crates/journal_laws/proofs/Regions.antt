-- The region of a name.
use Rattle.std.proofs.Common.{ℕ, ◌<◌, ◌&&◌, Bool, true, false, if◌then◌else◌, List, [], ◌∷◌}
use Rattle.std.specs.List.{AllByRecursion}
use Rattle.journal_defs.specs.Directory.{Pattern, is_matched, is_beaten, winner, rest, region_of}

there : (n : ℕ) (name : List ℕ) (p : Pattern) (ps : List Pattern) → p.region < n → AllByRecursion (λ q. q.region < n) ps → (winner name p ps).region < n
there n name p [] low all = low
there n name p (q ∷ qs) low all = there n name (if is_matched name q && is_beaten p q then q else p) qs (either (is_matched name q && is_beaten p q)) all.1
  where
    either : (b : Bool) → (if b then q else p).region < n
    either true = all.0
    either false = low

pub below : (ps : List Pattern) (name : List ℕ) (n : ℕ) → 0 < n → AllByRecursion (λ p. p.region < n) ps → region_of ps name < n
below ps name n some all = there n name rest ps some all
