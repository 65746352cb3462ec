-- How generations of a region's journal began, and what a CUT leaves of a region's mode.
use Rattle.std.proofs.Common.{◌≡◌, ℕ, zero, suc, List, [], ◌∷◌, ◌++◌, ◌≤◌, map, refl, sym, ◌∙◌, ap, arith}
use Rattle.std.specs.List.{AllByRecursion, filter_map}
use Rattle.std.proofs.lemmas.List.Elements.{filter_map-append}
use Rattle.disk_defs.specs.Disk.{Files}
use Rattle.journal_defs.specs.Journal.{JournalRecord, Start, Pini, Epoch, Pblk, Tcom, IsNoPini, BeginsWithPini}
use Rattle.journal_defs.specs.Sequence.{Placed}
use Rattle.journal_defs.specs.Stands.{IsJournal, in_generation, last_began}
use Rattle.site_defs.specs.Opening.{last_generation}
use Rattle.site_defs.specs.Contents.{Taken}
use Rattle.site_defs.specs.Stands.{start_in, epoch_in}

abbrev pub starts_of : List Placed → List Start
starts_of ps = filter_map (λ (p : Placed). start_in p.what) ps

-- the epochs among these records
abbrev pub epochs_of : List Placed → List Taken
epochs_of ps = filter_map (λ (p : Placed). epoch_in p.generation p.what) ps

last_more : (g : ℕ) (a b : List Start) → last_generation g (a ++ b) ≡ last_generation (last_generation g a) b
last_more g [] b = refl
last_more g (s ∷ a) b = last_more s.generation a b

no_starts : (g : ℕ) (rs : List JournalRecord) → AllByRecursion IsNoPini rs → starts_of (map (in_generation g) rs) ≡ []
no_starts g [] all = refl
no_starts g (Pini s ∷ rs) all = absurd all.0
no_starts g (Epoch m ∷ rs) all = no_starts g rs all.1
no_starts g (Pblk b ∷ rs) all = no_starts g rs all.1
no_starts g (Tcom p ∷ rs) all = no_starts g rs all.1

last_newer : (r g previous : ℕ) (rs : List JournalRecord) → BeginsWithPini r g previous rs → last_generation previous (starts_of (map (in_generation g) rs)) ≡ last_began previous g rs
last_newer r g previous [] begins = refl
last_newer r g previous (Pini s ∷ rs) begins = ap (λ (l : List Start). last_generation s.generation l) (no_starts g rs begins.3) ∙ begins.1
last_newer r g previous (Epoch m ∷ rs) begins = absurd begins
last_newer r g previous (Pblk b ∷ rs) begins = absurd begins
last_newer r g previous (Tcom p ∷ rs) begins = absurd begins

-- the last generation that began is that of the last start
pub last_is : (files : Files) (r g last : ℕ) (journal : List Placed) → IsJournal files r g last journal → last_generation 0 (starts_of journal) ≡ last
last_is files r zero last journal h = ap (λ (ps : List Placed). last_generation 0 (starts_of ps)) h.1 ∙ sym h.0
last_is files r (suc g) last journal h =
    ap (λ (ps : List Placed). last_generation 0 (starts_of ps)) h.7
    ∙ ap (last_generation 0) (filter_map-append (λ (p : Placed). start_in p.what) h.1 (map (in_generation (suc g)) h.2))
    ∙ last_more 0 (starts_of h.1) (starts_of (map (in_generation (suc g)) h.2))
    ∙ ap (λ (k : ℕ). last_generation k (starts_of (map (in_generation (suc g)) h.2))) (last_is files r g h.0 h.1 h.3)
    ∙ last_newer r (suc g) h.0 h.2 h.5
    ∙ sym h.6

-- and no generation past the newest one has begun
pub last_low : (files : Files) (r g last : ℕ) (journal : List Placed) → IsJournal files r g last journal → last ≤ g
last_low files r zero last journal h = let none = h.0 in omega (arith, none)
last_low files r (suc g) last journal h = by_newer h.0 (last_low files r g h.0 h.1 h.3) h.2 h.6
  where
    by_newer : (previous : ℕ) → previous ≤ g → (newer : List JournalRecord) → last ≡ last_began previous (suc g) newer → last ≤ suc g
    by_newer previous low [] is = omega (arith, is, low)
    by_newer previous low (x ∷ newer) is = omega (arith, is)
