-- What opening a site, beginning a reign, mapping and setting a mode make of its contents.
use Rattle.site_defs.specs.Contents.{Name}
use Rattle.std.specs.Prelude.{◌≡◌, ◌⊎◌, ℕ, ◌+◌, ◌&&◌, nat_lt, Bool, true, List, [], ◌∷◌, ◌++◌, length, Some, if◌then◌else◌}
use Rattle.std.specs.Option.{unwrap_or}
use Rattle.global_defs.specs.Entry.{Stamp, Reign}
use Rattle.journal_defs.specs.Journal.{Start}
use Rattle.journal_defs.specs.Instance as records
use Rattle.journal_defs.specs.Instance.{InstanceRecord, pattern_record, generation, greatest_cycle, mode_of, site_name, regions}
use Rattle.journal_defs.specs.Broken.{BrokenPart, broken_text}
use Rattle.site_defs.specs.Contents.{Contents, Leftover, Standing, bare}
use Rattle.site_defs.specs.Limits.{region_number}

-- what is broken behind these contents is the text of some parts
abbrev pub IsBehind : Contents → Leftover → Type 0
IsBehind c left = (parts : List BrokenPart) × (left.broken ≡ broken_text (site_name c.instance) (length c.sequence) parts)

-- MAP: the pattern that is written so is one more of the instance file
abbrev pub with_pattern : ℕ → List ℕ → Contents → Contents
with_pattern region text c = record c { instance = c.instance ++ pattern_record region text ∷ [] }

-- what mapping may leave of these contents: the same, or with the pattern
abbrev pub MayMap : Name → List ℕ → Contents → Contents → Type 0
MayMap region text c o = (o ≡ c) ⊎ ((number : ℕ) × (region_number region c ≡ Some number) × (o ≡ with_pattern number text c))

-- SET JOURNAL: the region's mode, for each generation that begins from now on, is one record more of the instance file
abbrev pub with_mode : ℕ → Bool → Contents → Contents
with_mode region before c = record c { instance = c.instance ++ records.Mode region before ∷ [] }

-- what setting the mode of a region may leave of these contents: the same, or with the record
abbrev pub MaySetMode : Name → Bool → Contents → Contents → Type 0
MaySetMode region before c o = (o ≡ c) ⊎ ((number : ℕ) × (region_number region c ≡ Some number) × (o ≡ with_mode number before c))

-- and of these with what lies behind them, which stays
abbrev pub MaySetModeLeft : Name → Bool → Standing → Standing → Type 0
MaySetModeLeft region before s o = (o ≡ s) ⊎ ((number : ℕ) × (region_number region s.contents ≡ Some number) × (o ≡ record { contents = with_mode number before s.contents; broken = s.broken }))

-- with a CUT of its length, the text of what is broken, and these bytes of a lost-transaction file
abbrev pub cut_with : (broken lost : List ℕ) → Contents → Contents
cut_with broken lost c = record c { instance = c.instance ++ records.Cut (length c.sequence) (generation c.instance + 1) ∷ []; texts = c.texts ++ broken ∷ []; losts = c.losts ++ lost ∷ [] }

-- with a CUT of its length, and the text of what is broken
abbrev pub cut_there : List ℕ → Contents → Contents
cut_there broken c = cut_with broken [] c

-- the generation of the last of these, or the one before them
abbrev pub last_generation : ℕ → List Start → ℕ
last_generation g [] = g
last_generation g (s ∷ ss) = last_generation s.generation ss

-- how the newest generation begins in a region: in the mode that it has, behind the last one that began there
abbrev pub start_of : Contents → ℕ → Start
start_of c r = record { region = r; before = unwrap_or (mode_of c.instance r) true; generation = generation c.instance; previous = last_generation 0 (c.starts r) }

-- where it has begun in the first k regions
abbrev pub starts_in : ℕ → Contents → ℕ → List Start
starts_in k c r = if nat_lt r k && nat_lt r (length (regions c.instance)) then start_of c r ∷ [] else []

-- and its newest generation has begun in the first k regions
abbrev pub with_starts : ℕ → Contents → Contents
with_starts k c = record c { starts = λ r. c.starts r ++ starts_in k c r }

-- in all of them
abbrev pub opened : List ℕ → Contents → Contents
opened broken c = with_starts (length (regions c.instance)) (cut_there broken c)

-- A reign begins behind the last entry, under the site's name and a cycle past that of every reign that there was.
abbrev pub next_stamp : Name → Contents → Stamp
next_stamp name c = record { root = name; cycle = greatest_cycle c.instance + 1 }

abbrev pub next_reign : Name → Contents → Reign
next_reign name c = record { stamp = next_stamp name c; start = length c.sequence + 1 }

abbrev pub with_reign : Name → Contents → Contents
with_reign name c = record c { instance = c.instance ++ records.Reigned (next_reign name c) ∷ [] }

-- what opening may leave of these contents: the same, or with a CUT and the next generation begun in the first k regions
abbrev pub MayOpen : List ℕ → Contents → Contents → Type 0
MayOpen broken c o = (o ≡ c) ⊎ ((k : ℕ) × (o ≡ with_starts k (cut_there broken c)))

-- what it may leave of these with what lies behind them: the same, or with a CUT, that text written down, the next generation begun in the first k regions, and nothing behind
abbrev pub MayOpenLeft : Standing → Standing → Type 0
MayOpenLeft s o = (o ≡ s) ⊎ ((k : ℕ) × (o ≡ bare (with_starts k (cut_there s.broken s.contents))))

-- what beginning a reign may leave of them: what opening may, or opened and with the reign
abbrev pub MayBegin : Name → List ℕ → Contents → Contents → Type 0
MayBegin name broken c o = MayOpen broken c o ⊎ (o ≡ with_reign name (opened broken c))

abbrev pub MayBeginLeft : Name → Standing → Standing → Type 0
MayBeginLeft name s o = MayOpenLeft s o ⊎ (o ≡ bare (with_reign name (opened s.broken s.contents)))
