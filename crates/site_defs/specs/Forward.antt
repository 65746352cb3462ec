-- What recovering a site forward makes of its contents (GT.M: MUPIP JOURNAL -RECOVER -FORWARD).
--
-- The next generation is drawn as by an opening, but keeps images in no region: the blocks are written anew from the first one on, from the
-- entries alone. So until the closing epoch each region needs forward recovery.
use Rattle.std.specs.Prelude.{◌≡◌, ◌⊎◌, ℕ, ◌&&◌, nat_lt, Bool, true, not, List, [], ◌∷◌, ◌++◌, length, if◌then◌else◌}
use Rattle.std.specs.Option.{unwrap_or}
use Rattle.journal_defs.specs.Journal.{Start}
use Rattle.journal_defs.specs.Instance.{InstanceRecord, generation, mode_of, regions}
use Rattle.site_defs.specs.Contents.{Contents, Standing, bare}
use Rattle.site_defs.specs.Epochs.{marked, MayMark, MayMarkLeft}
use Rattle.site_defs.specs.Opening.{cut_there, last_generation}

-- whether a generation that begins in a region keeps images: in none where it's anew, and else in the mode that the region has
abbrev pub begun_mode : (anew : Bool) → List InstanceRecord → ℕ → Bool
begun_mode anew rs r = not anew && unwrap_or (mode_of rs r) true

-- how the newest generation begins in a region, behind the last one that began there
abbrev pub start_as : (anew : Bool) → Contents → ℕ → Start
start_as anew c r = record { region = r; before = begun_mode anew c.instance r; generation = generation c.instance; previous = last_generation 0 (c.starts r) }

-- where it has begun in the first k regions
abbrev pub starts_as : (anew : Bool) → ℕ → Contents → ℕ → List Start
starts_as anew k c r = if nat_lt r k && nat_lt r (length (regions c.instance)) then start_as anew c r ∷ [] else []

-- and its newest generation has begun so in the first k regions
abbrev pub begun_as : (anew : Bool) → ℕ → Contents → Contents
begun_as anew k c = record c { starts = λ r. c.starts r ++ starts_as anew k c r }

-- in all of them
abbrev pub opened_as : (anew : Bool) → List ℕ → Contents → Contents
opened_as anew broken c = begun_as anew (length (regions c.instance)) (cut_there broken c)

-- and closed, with an epoch of all entries
abbrev pub recovered_as : (anew : Bool) → List ℕ → Contents → Contents
recovered_as anew broken c = marked (opened_as anew broken c)

-- what such an opening may leave of these contents: the same, or with a CUT and the next generation begun in the first k regions
abbrev pub MayOpenAs : (anew : Bool) → List ℕ → Contents → Contents → Type 0
MayOpenAs anew broken c o = (o ≡ c) ⊎ ((k : ℕ) × (o ≡ begun_as anew k (cut_there broken c)))

-- and of these with what lies behind them
abbrev pub MayOpenAsLeft : (anew : Bool) → Standing → Standing → Type 0
MayOpenAsLeft anew s o = (o ≡ s) ⊎ ((k : ℕ) × (o ≡ bare (begun_as anew k (cut_there s.broken s.contents))))

-- what recovering so may leave of these contents: that, or opened and with an epoch in some regions
abbrev pub MayRecoverAs : (anew : Bool) → List ℕ → Contents → Contents → Type 0
MayRecoverAs anew broken c o = MayOpenAs anew broken c o ⊎ MayMark (opened_as anew broken c) o

-- and of these with what lies behind them
abbrev pub MayRecoverAsLeft : (anew : Bool) → Standing → Standing → Type 0
MayRecoverAsLeft anew s o = MayOpenAsLeft anew s o ⊎ MayMarkLeft (bare (opened_as anew s.broken s.contents)) o
