-- ATTACH: the site that was found there, of a name that no other one has, is down, and each outcome is of a site with that name.
use Rattle.std.specs.Prelude.{◌≡◌, ◌≢◌, ◌⊎◌, ◌≤◌, ◌<◌, length, List, [], ◌∷◌, codes, Option, Some, None, is_some}
use Rattle.disk_defs.specs.Disk.{Files}
use Rattle.journal_defs.specs.Instance.{InstanceRecord, site_name}
use Rattle.command_defs.specs.Commands.{Name}
use Rattle.world_defs.specs.World.{Down, Place, World, IfKnown, IfShown, EachOutcome, StaysKnown, StandAsBefore, name_on, place_of}
use Rattle.world_defs.specs.Answers.{Refusal, Exists, Empty, line}
use Rattle.world_defs.specs.Shown.{HasNoRecord, ByRecords, IsNoSite, ByAnswer, Anything}
use Rattle.world_defs.specs.Changes.{Fails, KeptUnknown}
use Rattle.world_defs.specs.Row.{Row, reading, refused_with, caused, where_known}

-- the word with which the lines of an attaching begin, where they name no site
abbrev pub ATTACHING : Name
ATTACHING = codes "ATTACH"

-- the site with these records can't be attached: there is none, or there is another one with its name
abbrev pub not_attached : World → List InstanceRecord → Option Refusal
not_attached w [] = refused_with ATTACHING (Some Empty)
not_attached w (r ∷ rs) = refused_with (site_name (r ∷ rs)) (caused (is_some (place_of w (site_name (r ∷ rs)))) Exists)

-- what keeps a disk's site from being attached: there is none, or there is another one with its name
abbrev pub IsNotAttached : World → Refusal → Type 0
IsNotAttached w r = (r ≡ record { site = ATTACHING; cause = Empty }) ⊎ ((r.cause ≡ Exists) × (place_of w r.site ≢ None))

-- the instance file is of a site of that name
abbrev pub IsNamedBy : Name → Files → Type 0
IsNamedBy name files = ByRecords (λ rs. (0 < length rs) × (site_name rs ≡ name)) files

-- the bytes of a disk that isn't attached: of none, or of a site of the name that stands
abbrev pub NotAttachedBy : Refusal → Files → Type 0
NotAttachedBy r files = ((r.cause ≡ Empty) × HasNoRecord files) ⊎ ((r.cause ≡ Exists) × IsNamedBy r.site files)

pub record Attaches (w : World) (old new : Place) : Type 0 where
  pub name : Name
  pub found : IfKnown old (name ≡ site_name old.now.instance)
  pub bytes : IfShown old (IsNamedBy name)
  pub unused : place_of w name ≡ None
  pub site : new.site ≡ Some (record { name = name; state = Down })
  pub now : new.now ≡ old.now
  pub left : new.left ≡ old.left
  pub known : StaysKnown old new
  pub shown : new.shown ≡ old.shown
  pub named : EachOutcome (λ o. site_name o.instance ≡ name) new
  pub faults : old.faults ≤ new.faults
  pub simulated : new.simulated ≡ old.simulated

abbrev pub attach : World → Place → Row
attach w p = record (reading ATTACHING p) {
  late = where_known p (not_attached w p.now.instance);
  may_refuse = λ r q. IsNotAttached w r × KeptUnknown p q;
  by_bytes = λ a. IfShown p (λ files. ByAnswer (Unit {0}) (λ r. NotAttachedBy r files) (λ file offset. IsNoSite file offset files) Anything a);
  done = λ q. Attaches w p q;
  says = λ q. line (name_on q.site) (codes "ATTACHED");
  -- no site comes of a fault
  fault = λ k q. Fails k None (λ c o. o ≡ c) StandAsBefore p q;
}
