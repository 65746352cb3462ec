-- MAP: the pattern that is written so is one more of the instance file, for its region of that name.
use Rattle.std.specs.Prelude.{◌≡◌, ◌⊎◌, ℕ, nat_lt, List, [], ◌∷◌, codes, Option, Some, None}
use Rattle.std.specs.List.{list_any}
use Rattle.disk_defs.specs.Disk.{Files}
use Rattle.journal_defs.specs.Directory.{patterns}
use Rattle.journal_defs.specs.Instance.{InstanceRecord, generation, regions, site_name}
use Rattle.command_defs.specs.Commands.{Name}
use Rattle.site_defs.specs.Contents.{Contents, Standing, same_name, bare}
use Rattle.site_defs.specs.Lists.{first_where}
use Rattle.site_defs.specs.Limits.{is_written, region_number}
use Rattle.site_defs.specs.Opening.{MayMap, with_pattern}
use Rattle.world_defs.specs.World.{Down, Place, IfKnown, IfShown}
use Rattle.world_defs.specs.Answers.{Cause, Started, NoRegion, TwiceMapped, line}
use Rattle.world_defs.specs.Shown.{ByRecords, HasNoLayout, IsOfAnother, ByAnswer, Anything}
use Rattle.world_defs.specs.Changes.{Becomes, KeptUnknown}
use Rattle.world_defs.specs.Row.{Row, writing, first, refused_with, caused, in_state, why_not_down, where_known}

-- its instance file has a CUT
abbrev pub started : List InstanceRecord → Option Cause
started rs = caused (nat_lt 0 (generation rs)) Started

abbrev pub no_region_at : Name → Option ℕ → Option Cause
no_region_at region None = Some (NoRegion region)
no_region_at region (Some number) = None

abbrev pub twice_mapped : List ℕ → List InstanceRecord → Option Cause
twice_mapped text rs = caused (list_any (is_written text) (patterns rs)) TwiceMapped

-- why a pattern isn't mapped to a region of a site with these records
abbrev pub unmapped_by : Name → List ℕ → List InstanceRecord → Option Cause
unmapped_by region text rs = first (started rs ∷ no_region_at region (first_where (λ r. same_name r.name region) (regions rs)) ∷ twice_mapped text rs ∷ [])

abbrev pub unmapped : Name → List ℕ → Place → Option Cause
unmapped region text p = where_known p (unmapped_by region text p.now.instance)

-- the instance file is of that site, and its records are against it
abbrev pub UnmappedBy : Name → List ℕ → Name → Cause → Files → Type 0
UnmappedBy region text name cause files = ByRecords (λ rs. (site_name rs ≡ name) × (unmapped_by region text rs ≡ Some cause)) files

-- so it is where files decide
abbrev pub RefusedBy : Name → List ℕ → Name → Cause → Files → Type 0
RefusedBy region text name Started files = UnmappedBy region text name Started files
RefusedBy region text name (NoRegion other) files = UnmappedBy region text name (NoRegion other) files
RefusedBy region text name TwiceMapped files = UnmappedBy region text name TwiceMapped files
RefusedBy region text name cause files = Unit {0}

-- the instance file is of that site, and nothing is against it
abbrev pub MappedBy : Name → List ℕ → Name → Files → Type 0
MappedBy region text name files = ByRecords (λ rs. (site_name rs ≡ name) × (unmapped_by region text rs ≡ None)) files

-- the site doesn't stand there, by what stands at this place
abbrev pub IsNotThere : Name → ℕ → ℕ → Files → Type 0
IsNotThere name file offset files = HasNoLayout file offset files ⊎ IsOfAnother name file offset files

-- a pattern isn't mapped to that region
abbrev pub IsUnmapped : Name → Cause → Type 0
IsUnmapped region cause = (cause ≡ Started) ⊎ (cause ≡ NoRegion region) ⊎ (cause ≡ TwiceMapped)

-- what mapping may leave of these contents with what lies behind them: the same, or with the pattern and nothing behind
abbrev pub MayMapLeft : Name → List ℕ → Standing → Standing → Type 0
MayMapLeft region text s o = (o ≡ s) ⊎ ((number : ℕ) × (region_number region s.contents ≡ Some number) × (o ≡ bare (with_pattern number text s.contents)))

-- what was read, which is what the files stand for where they are known, has the pattern
pub record Maps (region : Name) (text : List ℕ) (old new : Place) : Type 0 where
  pub read : Contents
  pub as_before : IfKnown old (read ≡ old.now)
  pub number : ℕ
  pub named : region_number region read ≡ Some number
  pub becomes : Becomes Down (with_pattern number text read) old new

abbrev pub map_pattern : (region : Name) → (text : List ℕ) → Name → Place → Row
map_pattern region text name p = record (writing name (MayMap region text) (MayMapLeft region text) p) {
  early = refused_with name (in_state why_not_down p.site);
  late = refused_with name (unmapped region text p);
  may_refuse = λ r q. (r.site ≡ name) × IsUnmapped region r.cause × KeptUnknown p q;
  by_bytes = λ a. IfShown p (λ files. ByAnswer (MappedBy region text name files) (λ r. RefusedBy region text name r.cause files) (λ file offset. IsNotThere name file offset files) Anything a);
  done = λ q. Maps region text p q;
  says = λ q. line name (codes "MAPPED");
}
