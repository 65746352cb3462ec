-- What beginning a reign means at the place of a site that was opened for it.
use Rattle.std.specs.Prelude.{◌≡◌, ◌≤◌, ◌<◌, ℕ, true, List, length, Some, None, Result, IsTrue, IsSome, IfSome}
use Rattle.command_defs.specs.Commands.{Name}
use Rattle.disk_defs.specs.Disk.{View, AtEachMoment, MayFail}
use Rattle.journal_defs.specs.Instance.{InstanceRecord, generation, site_name}
use Rattle.journal_defs.specs.Numbers.{INSTANCE}
use Rattle.journal_defs.specs.Stands.{IsInstance}
use Rattle.site_store.specs.declared.error.SiteError.{SiteError}
use Rattle.site_store.specs.declared.error.SiteError.TheVariants as errors
use Rattle.site_store.specs.Needing.{HaveFirstWithout}
use Rattle.site_store.specs.Opening.{MayBeOpen, MayBeOpenWith}
use Rattle.site_store.specs.Refusing.{IsUnwritten}
use Rattle.site_defs.specs.OutsideBlocks.{IsOutsideOpening}
use Rattle.site_defs.specs.Stands.{IsSite, HasLeft}
use Rattle.site_store.specs.declared.memory.Memory.{Memory}
use Rattle.site_store.specs.Site.{IsOpen, WasOpenedFrom}
use Rattle.site_defs.specs.Lists.{Among}
use Rattle.world_defs.specs.World.{Place, IfShown}
use Rattle.world_defs.specs.Shown.{BySequence}
use Rattle.world_defs.specs.Without.{NoneIsWithout}
use Rattle.site_defs.specs.Contents.{Contents, Leftover}
use Rattle.world_defs.specs.Meaning.{row_at}
use Rattle.world_defs.specs.rows.Start.{generation_limit, need_forward, start}
use Rattle.site_defs.specs.Limits.{LAST_GENERATION}
use Rattle.site_defs.specs.Opening.{opened}
use Rattle.site_runner.specs.Sites.{Down, Site, site_value, IsMade}
use Rattle.gvn_key.specs.declared.bytes.NoMemory.{NoMemory}
use Rattle.site_runner.specs.declared.slot.Slot.{Slot}
use Rattle.site_runner.specs.declared.slot.Slot.TheVariants as slots
use Rattle.site_runner.specs.declared.ending.Ended.{Ended}
use Rattle.site_runner.specs.Executes.{Becomes, Leaves}

-- A site that is down was opened: its place as it was before, and what was read there.
pub record IsOpenedAt (v : View) (s : Site) (o : Memory) (p : Place) : Type 0 where
  pub site : p.site ≡ Some (site_value s)
  pub down : s.state ≡ Down
  pub made : IsTrue p.told → IsMade s.name p
  pub name : site_name o.instance.records ≡ s.name
  pub read : Contents
  pub broken : List ℕ
  pub as_before : IsTrue p.told → read ≡ p.now
  pub as_left : IsTrue p.told → broken ≡ p.left.broken
  pub is_open : IsOpen v p.told (opened broken read) (length read.sequence) o
  -- one of the outcomes was read
  pub outcome : IsTrue p.told → (c : Contents) × Among p.outcomes c × IsOpen v true (opened p.left.broken c) (length c.sequence) o
  -- and one of the standings
  pub standing : IsTrue p.told → IfSome p.standings (λ os. Among os (record { contents = p.now; broken = p.left.broken }))
  pub drawn : IsTrue p.told → generation_limit p.now ≡ None
  -- and as far as contents tell it no region needed forward recovery
  pub forward : IsTrue p.told → need_forward p.now ≡ None
  -- the records that the disk told, of which a generation was left, and the sequence that they stand for, for which no region needs forward recovery
  pub held : IfShown p (BySequence (λ u seq. WasOpenedFrom u seq o × (generation u.instance < LAST_GENERATION) × NoneIsWithout u (length seq)))
  pub faults : p.faults ≤ v.faults
  pub simulated : v.simulated ≡ p.simulated

-- Whatever place the site was opened at, START led from there to such a slot and ended so.
abbrev pub BeginsAt : {D : Type 0} → (D → View) → View → Memory → Site → Slot D × Result Ended NoMemory → List ℕ → List ℕ → Type 0
BeginsAt view v o s left before now = (p : Place) → IsOpenedAt v s o p → Becomes view (start s.name p) p left.0 left.1 before now

-- An opening failed with this error, and left the disk so.
pub record FailsToOpen (v : View) (error : SiteError) (w : View) : Type 0 where
  pub limit : error ≡ errors.GenLimit → IfSome v.content (λ files. (rs : List InstanceRecord) → IsInstance (files INSTANCE) rs → LAST_GENERATION ≤ generation rs)
  pub limit_told : error ≡ errors.GenLimit → IfSome v.content (λ files. (rs : List InstanceRecord) × IsInstance (files INSTANCE) rs × (LAST_GENERATION ≤ generation rs))
  pub unwritten : error ≡ errors.GenLimit → IsUnwritten v w
  pub needs : (region : ℕ) → error ≡ errors.NeedForward region → IfSome v.content (λ files. HaveFirstWithout files region)
  pub needs_unwritten : (region : ℕ) → error ≡ errors.NeedForward region → IsUnwritten v w
  pub place : (file offset : ℕ) → error ≡ errors.NotAFile file offset → IfSome v.content (λ files. IsOutsideOpening files file offset)
  pub outside : (file offset : ℕ) → error ≡ errors.NotAFile file offset → IfSome v.content (λ files. (c : Contents) → IsSite files c → ⊥)
  pub refused : (file offset : ℕ) → error ≡ errors.NotAFile file offset → IfSome v.content (λ _. IsUnwritten v w)
  -- whatever the error is
  pub any_moment : IfSome v.content (λ files. (c : Contents) (left : Leftover) → IsSite files c → HasLeft files c left → AtEachMoment v w (MayBeOpen v left.broken))
  pub left : IfSome v.content (λ files. (c : Contents) → IsSite files c → AtEachMoment v w (MayBeOpenWith v))
  pub still_told : IsSome v.content → IsSome w.content
  pub simulated : w.simulated ≡ v.simulated
  pub faults : MayFail v.faults w.faults (λ fault. error ≡ errors.Failed fault)

-- Whatever disk it was whose opening failed with that error and left this one, START led from its site to such a slot and ended so.
abbrev pub LeavesUnopened : {D : Type 0} → (D → View) → D → SiteError → Name → Slot D × Result Ended NoMemory → List ℕ → List ℕ → Type 0
LeavesUnopened {D} view disk error name left before now = (was : D) → FailsToOpen (view was) error (view disk) → Leaves view (row_at start) (slots.Down was name) left before now
