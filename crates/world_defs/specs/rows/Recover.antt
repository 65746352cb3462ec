-- RECOVER BACKWARD: the site is opened and closed again (GT.M: MUPIP JOURNAL -RECOVER -BACKWARD).
-- RECOVER FORWARD: and its blocks are made anew from all entries (GT.M: MUPIP JOURNAL -RECOVER -FORWARD).
use Rattle.std.specs.Prelude.{◌≡◌, ◌⊎◌, ◌<◌, ◌≤◌, List, ◌++◌, ℕ, Bool, true, false, Option, codes, length, [], ◌∷◌}
use Rattle.std.specs.Fmt.{decimal}
use Rattle.disk_defs.specs.Disk.{Files}
use Rattle.journal_defs.specs.Instance.{generation}
use Rattle.command_defs.specs.Commands.{Name}
use Rattle.site_defs.specs.Contents.{Contents}
use Rattle.site_defs.specs.Forward.{recovered_as, MayRecoverAs, MayRecoverAsLeft}
use Rattle.site_defs.specs.Limits.{LAST_GENERATION}
use Rattle.site_defs.specs.Outside.{IsOutsideSite}
use Rattle.site_defs.specs.OutsideBlocks.{IsOutsideOpening}
use Rattle.world_defs.specs.World.{Down, Place, IfKnown, IfShown}
use Rattle.world_defs.specs.Answers.{Cause, GenLimit, NeedForward, line}
use Rattle.world_defs.specs.Shown.{ByRecords, BySequence, ByAnswer, Anything}
use Rattle.world_defs.specs.Changes.{Becomes, KeptUnknown}
use Rattle.world_defs.specs.Without.{IsFirstWithout, NoneIsWithout, IsWithoutNeed, MayNeedForward}
use Rattle.world_defs.specs.Row.{Row, writing, first, refused_with, in_state, why_not_down, where_known}
use Rattle.world_defs.specs.rows.Start.{generation_limit, need_forward}

-- what was read, and what was broken behind it, which is so where the files are known, is opened and closed
pub record Recovers (anew : Bool) (old new : Place) : Type 0 where
  pub read : Contents
  pub broken : List ℕ
  pub as_before : IfKnown old (read ≡ old.now)
  pub as_left : IfKnown old (broken ≡ old.left.broken)
  -- the bytes stand for these records of the instance file, and for a sequence of that length
  pub bytes : IfShown old (BySequence (λ u seq. (read.instance ≡ u.instance) × (length read.sequence ≡ length seq)))
  pub becomes : Becomes Down (recovered_as anew broken read) old new
  -- and no region needs forward recovery any more
  pub unneeding : IsWithoutNeed new

-- the bytes are a site's that has a generation left, and unless the blocks are made anew no region needs that
abbrev pub RecoveredBy : (anew : Bool) → Files → Type 0
RecoveredBy true files = BySequence (λ u seq. generation u.instance < LAST_GENERATION) files
RecoveredBy false files = BySequence (λ u seq. (generation u.instance < LAST_GENERATION) × NoneIsWithout u (length seq)) files

-- the bytes are past that limit, or a region does
abbrev pub RecoveryRefusedBy : Cause → Files → Type 0
RecoveryRefusedBy GenLimit files = ByRecords (λ rs. LAST_GENERATION ≤ generation rs) files
RecoveryRefusedBy (NeedForward region) files = BySequence (λ u seq. (g : ℕ) × IsFirstWithout region g u (length seq)) files
RecoveryRefusedBy cause files = Unit {0}

-- the site can't be recovered, by what stands at this place; what is made anew isn't read
abbrev pub IsUnrecovered : (anew : Bool) → ℕ → ℕ → Files → Type 0
IsUnrecovered true file offset files = IsOutsideSite files file offset
IsUnrecovered false file offset files = IsOutsideOpening files file offset

-- the limit of generations, and unless the blocks are made anew what must be there for the regions to go back to their epochs
abbrev pub unrecovered : (anew : Bool) → Contents → Option Cause
unrecovered true c = generation_limit c
unrecovered false c = first (generation_limit c ∷ need_forward c ∷ [])

-- where the files aren't known the limit may refuse it; where contents don't tell whether a region needs forward recovery, that may, unless the blocks are made anew
abbrev pub RecoveryMayRefuse : (anew : Bool) → Cause → Place → Place → Type 0
RecoveryMayRefuse true cause old new = (cause ≡ GenLimit) × KeptUnknown old new
RecoveryMayRefuse false cause old new = ((cause ≡ GenLimit) × KeptUnknown old new) ⊎ MayNeedForward cause old new

abbrev pub recover : (anew : Bool) → Name → Place → Row
recover anew name p = record (writing name (MayRecoverAs anew p.left.broken) (MayRecoverAsLeft anew) p) {
  early = refused_with name (in_state why_not_down p.site);
  late = refused_with name (where_known p (unrecovered anew p.now));
  may_refuse = λ r q. (r.site ≡ name) × RecoveryMayRefuse anew r.cause p q;
  by_bytes = λ a. IfShown p (λ files. ByAnswer (RecoveredBy anew files) (λ r. RecoveryRefusedBy r.cause files) (λ file offset. IsUnrecovered anew file offset files) Anything a);
  done = λ q. Recovers anew p q;
  says = λ q. line name (codes "RECOVERED " ++ decimal (length q.now.sequence));
}
