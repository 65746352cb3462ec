-- What a section that a fault ended leaves behind the sequence: the parts of its last entries in the regions that have them.
use Rattle.std.specs.Prelude.{◌≡◌, ◌⊎◌, ◌≤◌, ◌<◌, ℕ, ◌+◌, ◌-◌, nat_lt, List, [], ◌∷◌, length, take, drop, filter, map, Option}
use Rattle.std.specs.List.{flat_map, filter_map, enumerate_from}
use Rattle.disk_defs.specs.Disk.{Files}
use Rattle.global_defs.specs.Entry.{Entry, Sequence}
use Rattle.journal_defs.specs.Journal.{Part}
use Rattle.journal_defs.specs.Instance.{InstanceRecord, regions, site_name}
use Rattle.journal_defs.specs.Directory.{Pattern, patterns}
use Rattle.journal_defs.specs.Split.{split, mask_of}
use Rattle.journal_defs.specs.Fit.{region_of_update}
use Rattle.journal_defs.specs.Broken.{BrokenPart, broken_text}
use Rattle.site_defs.specs.Contents.{Contents, Standing, nothing, bare}
use Rattle.site_defs.specs.Fronts.{IsFrontOf, with_sequence}
use Rattle.site_defs.specs.Stands.{IsBlank, IsSite, HasLeft}

-- the parts of the entry of that number, by region
abbrev pub parts_of_entry : List Pattern → ℕ → Entry → ℕ → Option Part
parts_of_entry ps n e = split (region_of_update ps) n (mask_of (region_of_update ps) e.transaction.updates) e.transaction

-- those of each of these entries, which stand behind the first n
abbrev pub parts_of_each : List Pattern → ℕ → Sequence → List (ℕ → Option Part)
parts_of_each ps n [] = []
parts_of_each ps n (e ∷ es) = parts_of_entry ps (n + 1) e ∷ parts_of_each ps (n + 1) es

-- those of a region, in their order
abbrev pub parts_in : List (ℕ → Option Part) → ℕ → List Part
parts_in parts r = filter_map (λ p. p r) parts

-- Where of these parts each region has the first few: those past the length, region by region.
abbrev pub left_of : List InstanceRecord → List (ℕ → Option Part) → (kept : ℕ → ℕ) → (len : ℕ) → List BrokenPart
left_of instance parts kept len =
    flat_map (λ r. map (λ p. record { region = r.1.name; part = p }) (filter (λ p. nat_lt len p.number) (take (kept r.0) (parts_in parts r.0)))) (enumerate_from 0 (regions instance))

-- their text, behind the first low entries of this sequence
abbrev pub text_left : Contents → (all : Sequence) → (low : ℕ) → (kept : ℕ → ℕ) → (len : ℕ) → List ℕ
text_left c all low kept len = broken_text (site_name c.instance) len (left_of c.instance (parts_of_each (patterns c.instance) low (drop low all)) kept len)

-- each of the first n regions has these parts, as the first few that it has
abbrev pub AreKept : (n : ℕ) → List (ℕ → Option Part) → (kept : ℕ → ℕ) → Type 0
AreKept n parts kept = (r : ℕ) → r < n → length (parts_in parts r) ≤ kept r

-- A front of this sequence with at least so many entries. Of the parts of the entries behind these each region has the first few. What of that lies past the front is broken, and
-- the next entry lacks a part.
pub record IsFrontLeft (all : Sequence) (low : ℕ) (c : Contents) (o : Standing) : Type 0 where
  pub front : IsFrontOf all low c o.contents
  pub kept : ℕ → ℕ
  pub broken : o.broken ≡ text_left c all low kept (length o.contents.sequence)
  pub lacks : length o.contents.sequence < length all → AreKept (length (regions c.instance)) (parts_of_each (patterns c.instance) low (take (length o.contents.sequence + 1 - low) (drop low all))) kept → ⊥

-- what a fault in a pick may leave: what stood before it with nothing behind, or a front with its entry or without, and then with some of its parts behind
abbrev pub MayStand : Contents → (before after : Sequence) → Standing → Type 0
MayStand c before after o = (o ≡ bare (with_sequence c before)) ⊎ IsFrontLeft after (length before) c o

-- The files of a site stand for this, with that text behind it; the next broken-transaction file may have bytes.
pub record IsStanding (files : Files) (o : Standing) : Type 0 where
  pub site : IsSite files o.contents
  pub torn : List ℕ
  pub left : HasLeft files o.contents (record { broken = o.broken; torn = torn })

-- so it is, and the next broken-transaction file has no byte
pub record IsSiteWith (files : Files) (o : Standing) : Type 0 where
  pub site : IsSite files o.contents
  pub left : HasLeft files o.contents (record { broken = o.broken; torn = [] })

-- the files stand for this, with that text behind it
abbrev pub StandsSo : Files → Standing → Type 0
StandsSo files o = ((o ≡ bare nothing) × IsBlank files) ⊎ IsStanding files o
