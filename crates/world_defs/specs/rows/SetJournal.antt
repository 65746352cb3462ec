-- SET JOURNAL: the region's later generations keep before-images, or don't (GT.M: MUPIP SET -JOURNAL=[NO]BEFORE_IMAGES -REGION).
use Rattle.std.specs.Prelude.{◌≡◌, ℕ, Bool, List, ◌∷◌, ◌++◌, codes, Option, Some, None}
use Rattle.disk_defs.specs.Disk.{Files}
use Rattle.journal_defs.specs.Instance.{InstanceRecord, regions, site_name}
use Rattle.command_defs.specs.Commands.{Name}
use Rattle.command_defs.specs.Parts.{mode_word}
use Rattle.site_defs.specs.Contents.{Contents, Standing, same_name}
use Rattle.site_defs.specs.Lists.{first_where}
use Rattle.site_defs.specs.Limits.{region_number}
use Rattle.site_defs.specs.Opening.{with_mode, MaySetMode, MaySetModeLeft}
use Rattle.world_defs.specs.World.{Down, Place, IfKnown, IfShown}
use Rattle.world_defs.specs.Answers.{Cause, NoRegion, line}
use Rattle.world_defs.specs.Shown.{ByRecords, ByAnswer, Anything}
use Rattle.world_defs.specs.Changes.{Alters, KeptUnknown}
use Rattle.world_defs.specs.Without.{IsWithoutNeed}
use Rattle.world_defs.specs.Row.{Row, writing, refused_with, in_state, why_not_down, where_known}
use Rattle.world_defs.specs.rows.Map.{no_region_at, IsNotThere}

-- why the mode of a region isn't set, by a site's records
abbrev pub unset_by : Name → List InstanceRecord → Option Cause
unset_by region rs = no_region_at region (first_where (λ r. same_name r.name region) (regions rs))

abbrev pub unset : Name → Place → Option Cause
unset region p = where_known p (unset_by region p.now.instance)

-- the instance file is of that site, and has a region of that name
abbrev pub SetBy : Name → Name → Files → Type 0
SetBy region name files = ByRecords (λ rs. (site_name rs ≡ name) × (unset_by region rs ≡ None)) files

-- or it has none
abbrev pub SetRefusedBy : Name → Name → Cause → Files → Type 0
SetRefusedBy region name (NoRegion other) files = ByRecords (λ rs. (site_name rs ≡ name) × (unset_by region rs ≡ Some (NoRegion other))) files
SetRefusedBy region name cause files = Unit {0}

-- with the mode of its region of that name
abbrev pub GainsMode : Name → Bool → Contents → Contents → Type 0
GainsMode region before c o = (number : ℕ) × (region_number region c ≡ Some number) × (o ≡ with_mode number before c)

-- and with what lies behind, which stays
abbrev pub GainsModeLeft : Name → Bool → Standing → Standing → Type 0
GainsModeLeft region before s o = GainsMode region before s.contents o.contents × (o.broken ≡ s.broken)

-- What was read, which is what the files stand for where they are known, has the mode, and so has each outcome. The site isn't opened, so there may be several.
pub record SetsMode (region : Name) (before : Bool) (old new : Place) : Type 0 where
  pub read : Contents
  pub as_before : IfKnown old (read ≡ old.now)
  pub number : ℕ
  pub named : region_number region read ≡ Some number
  -- no journal changes
  pub unneeding : IsWithoutNeed old → IsWithoutNeed new
  pub becomes : Alters Down (with_mode number before read) (GainsMode region before) (GainsModeLeft region before) old new

abbrev pub set_journal : (region : Name) → (before : Bool) → Name → Place → Row
set_journal region before name p = record (writing name (MaySetMode region before) (MaySetModeLeft region before) p) {
  early = refused_with name (in_state why_not_down p.site);
  late = refused_with name (unset region p);
  may_refuse = λ r q. (r ≡ record { site = name; cause = NoRegion region }) × KeptUnknown p q;
  by_bytes = λ a. IfShown p (λ files. ByAnswer (SetBy region name files) (λ r. SetRefusedBy region name r.cause files) (λ file offset. IsNotThere name file offset files) Anything a);
  done = λ q. SetsMode region before p q;
  says = λ q. line name (codes "JOURNAL " ++ region ++ 32 ∷ mode_word before);
}
