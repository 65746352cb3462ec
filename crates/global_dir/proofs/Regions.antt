-- The regions of patterns.
use Rattle.std.proofs.Common.{◌<◌, ℕ, List, [], ◌∷◌, ◌++◌}
use Rattle.std.specs.List.{AllByRecursion}
use Rattle.journal_defs.specs.Directory.{Pattern}

pub all_more : (n : ℕ) (ps : List Pattern) (p : Pattern) → AllByRecursion (λ p. p.region < n) ps → p.region < n → AllByRecursion (λ p. p.region < n) (ps ++ p ∷ [])
all_more n [] p all last = (last, tt)
all_more n (q ∷ qs) p all last = (all.0, all_more n qs p all.1 last)
