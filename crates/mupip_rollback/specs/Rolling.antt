-- What a rollback and a recovery leave on a disk.
use Rattle.std.specs.Prelude.{ℕ, Bool, false, List, length, min, IfSome, IsSomeAnd}
use Rattle.disk_defs.specs.Disk.{Files, View, Image, From}
use Rattle.site_defs.specs.Contents.{Contents, Standing, bare}
use Rattle.site_defs.specs.Forward.{MayRecoverAs, MayRecoverAsLeft}
use Rattle.site_defs.specs.Rolling.{MayRollBack, MayRollBackLeft}
use Rattle.site_defs.specs.Stands.{IsSite}
use Rattle.site_defs.specs.Behind.{IsStanding, IsSiteWith}
use Rattle.site_store.specs.Needing.{NoneNeeds}

-- as it reads and in each image a site's files stand for this, nothing lies behind it, and no region needs forward recovery
pub record StandsFor (v : View) (c : Contents) : Type 0 where
  pub reads : IsSomeAnd v.content (λ files. IsSiteWith files (bare c))
  pub images : (f : Files) → Image v f → IsSiteWith f (bare c)
  pub none_needs : IfSome v.content (NoneNeeds (length c.sequence))
  pub none_needs_then : (f : Files) → Image v f → NoneNeeds (length c.sequence) f

-- an image from before the call, whose site may have been rolled back to so many entries, with this text of what is broken
abbrev pub MayBeRolledBack : View → (to : ℕ) → List ℕ → Files → Type 0
MayBeRolledBack old to broken = From (Image old) (λ was now. (c : Contents) → IsSite was c → (o : Contents) × MayRollBack (min to (length c.sequence)) broken c o × IsSite now o)

-- it stands for what a rollback may leave of these contents with what lies behind them
abbrev pub MayStandRolled : ℕ → Standing → Files → Type 0
MayStandRolled t s f = (o : Standing) × MayRollBackLeft t s o × IsStanding f o

-- and with the text of what was broken in that image
abbrev pub MayBeRolledBackWith : View → (to : ℕ) → Files → Type 0
MayBeRolledBackWith old to = From (Image old) (λ was now. (s : Standing) → IsStanding was s → (o : Standing) × MayRollBackLeft (min to (length s.contents.sequence)) s o × IsStanding now o)

-- an image from before the call, whose site may have been opened, or opened and brought to an epoch in some regions: with its regions made anew, or on their
-- blocks
abbrev pub MayBeRecoveredAs : (anew : Bool) → View → List ℕ → Files → Type 0
MayBeRecoveredAs anew old broken = From (Image old) (λ was now. (c : Contents) → IsSite was c → (o : Contents) × MayRecoverAs anew broken c o × IsSite now o)

abbrev pub MayBeRecovered : View → List ℕ → Files → Type 0
MayBeRecovered = MayBeRecoveredAs false

-- with what was broken in that image
abbrev pub MayBeRecoveredWithAs : (anew : Bool) → View → Files → Type 0
MayBeRecoveredWithAs anew old = From (Image old) (λ was now. (s : Standing) → IsStanding was s → (o : Standing) × MayRecoverAsLeft anew s o × IsStanding now o)

abbrev pub MayBeRecoveredWith : View → Files → Type 0
MayBeRecoveredWith = MayBeRecoveredWithAs false
