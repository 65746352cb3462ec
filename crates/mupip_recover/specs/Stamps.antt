-- The starts of reigns.
use Rattle.std.specs.Prelude.{◌≡◌, ℕ, List, map}
use Rattle.global_defs.specs.Entry.{Reign}
use Rattle.mupip_recover.specs.Minima.{minima}

-- for each reign the least start of that and the later ones
abbrev pub AreStarts : List Reign → List ℕ → Type 0
AreStarts reigns starts = starts ≡ minima (map (λ r. r.start) reigns)
