-- What a crash may leave of sites, and how sites begin (GT.M: files after a crash, and instances that were just made or brought up again).
use Rattle.std.specs.Prelude.{◌≡◌, ◌≢◌, ℕ, ◌≤◌, List, length, take, slice_get, Some}
use Rattle.global_defs.specs.declared.limits.TheConstants.{MOST_REIGNS}
use Rattle.global_defs.specs.Entry.{Entry, Sequence, Reign}
use Rattle.global_defs.specs.Rising.{SerialsRise, begun_by}
use Rattle.lineage_defs.specs.Histories.{IsHistory}
use Rattle.lineage_defs.specs.Sites.{Down, Site, World}

-- What a crash may leave of the site's sequence: some first entries, with those that are hardened.
pub record IsOutcome (s : Site) (seq : Sequence) : Type 0 where
  pub size : ℕ
  pub least : s.hardened ≤ size
  pub most : size ≤ length s.sequence
  pub is : seq ≡ take size s.sequence

-- what one image of a site's files stands for
pub record Image : Type 0 where
  pub sequence : Sequence
  pub reigns : List Reign
  pub cycle : ℕ

-- The image is one of the site's: its instance file has the reigns of its entries, and no less than the site's greatest cycle.
pub record IsImage (s : Site) (x : Image) : Type 0 where
  pub outcome : IsOutcome s x.sequence
  pub begun : begun_by (length x.sequence) x.reigns ≡ begun_by (length x.sequence) s.reigns
  pub cycle : s.cycle ≤ x.cycle

-- the site as an image leaves it
abbrev pub settled : Site → Image → Site
settled s x = record s { sequence = x.sequence; hardened = length x.sequence; reigns = x.reigns; cycle = x.cycle; role = Down }

-- What a site was before anything happened to it: it is down, and its files stand for its sequence.
pub record IsAtRest (s : Site) : Type 0 where
  pub down : s.role ≡ Down
  pub hardened : s.hardened ≡ length s.sequence
  pub rise : SerialsRise s.sequence
  pub history : IsHistory s.reigns s.sequence
  pub few : length (begun_by (length s.sequence) s.reigns) ≤ MOST_REIGNS

-- no site has that name, nor an entry of it
abbrev pub IsUnused : List ℕ → World → Type 0
IsUnused name w = (i : ℕ) (a : Site) → slice_get w i ≡ Some a → (a.name ≢ name) × ((n : ℕ) (e : Entry) → slice_get a.sequence n ≡ Some e → e.stamp.root ≢ name)
