-- CREATE: an empty site that is down.
use Rattle.std.specs.Prelude.{◌≡◌, ◌⊎◌, ◌<◌, length, List, [], ◌∷◌, codes, Option, Some, None}
use Rattle.global_defs.specs.Region.{Region}
use Rattle.disk_defs.specs.Disk.{Files}
use Rattle.journal_defs.specs.Instance as records
use Rattle.command_defs.specs.Commands.{Name}
use Rattle.site_defs.specs.Contents.{Contents, Standing, is_made, bare}
use Rattle.world_defs.specs.World.{Down, Place, IfShown, StandAfter}
use Rattle.world_defs.specs.Answers.{Cause, NotEmpty, Answer, line}
use Rattle.world_defs.specs.Shown.{HasNoRecord, ByRecords, IsNoSite, ByAnswer, Anything}
use Rattle.world_defs.specs.Changes.{Stays, Fails, KeptUnknown}
use Rattle.world_defs.specs.Row.{Row, writing, refused_with, caused, where_known}

-- a site that was made, without entries
abbrev pub created : Name → List Region → Contents
created name regions = record { instance = records.Create name regions ∷ []; starts = λ r. []; epochs = λ r. []; texts = []; losts = []; sequence = [] }

-- what making it may leave: what was there, or the empty site
abbrev pub MayMake : Name → List Region → Contents → Contents → Type 0
MayMake name regions c o = (o ≡ c) ⊎ (o ≡ created name regions)

-- with what lies behind it
abbrev pub MayMakeLeft : Name → List Region → Standing → Standing → Type 0
MayMakeLeft name regions s o = (o ≡ s) ⊎ (o ≡ bare (created name regions))

-- a site was made there
abbrev pub not_empty : Place → Option Cause
not_empty p = where_known p (caused (is_made p.now) NotEmpty)

-- the bytes where a site was made, where there is one, and where there is none and it has bytes
abbrev pub CreateBy : Answer → Files → Type 0
CreateBy a files = ByAnswer (HasNoRecord files) (λ r. ByRecords (λ rs. 0 < length rs) files) (λ file offset. IsNoSite file offset files) Anything a

abbrev pub create : List Region → Name → Place → Row
create regions name p = record (writing name (MayMake name regions) (MayMakeLeft name regions) p) {
  late = refused_with name (not_empty p);
  may_refuse = λ r q. (r ≡ record { site = name; cause = NotEmpty }) × KeptUnknown p q;
  by_bytes = λ a. IfShown p (CreateBy a);
  done = λ q. Stays (Some (record { name = name; state = Down })) (created name regions) p q;
  says = λ q. line name (codes "CREATED");
  -- no site comes of a fault
  fault = λ k q. Fails k None (MayMake name regions) (StandAfter (MayMakeLeft name regions)) p q;
}
