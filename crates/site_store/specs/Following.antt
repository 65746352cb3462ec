-- A site that follows a primary: the reigns that its next entry is under, and what an entry with its reign makes of the site.
use Rattle.std.specs.Prelude.{◌≡◌, ◌⊎◌, ◌≤◌, ◌<◌, ◌+◌, List, [], ◌∷◌, ◌++◌, length, fold, Option, Some, None, option_map, option_to_list}
use Rattle.std.specs.List.{AllByRecursion}
use Rattle.global_defs.specs.declared.limits.TheConstants.{MOST_REIGNS}
use Rattle.global_defs.specs.Entry.{Reign, Stamp, Transaction, apply}
use Rattle.global_defs.specs.Fields.{IsReign}
use Rattle.global_defs.specs.Prefix.{stamp_at}
use Rattle.gvn_model.specs.Reigns.{reign_value}
use Rattle.journal_defs.specs.Instance as records
use Rattle.journal_defs.specs.Surviving.{reigns}
use Rattle.site_defs.specs.Contents.{Contents}
use Rattle.site_defs.specs.Fronts.{with_sequence}
use Rattle.region_epochs.specs.Taken.{HasSameNodes}
use Rattle.region_store.specs.Joined.{joined}
use Rattle.site_store.specs.Committing.{IsSameIndex}
use Rattle.site_store.specs.Site.{count_of}
use Rattle.site_store.specs.declared.memory.Memory.{Memory}
use Rattle.site_store.specs.declared.site.Site.{Site}

-- the reign that its next entry begins
abbrev pub remembered_of : {D : Type 0} → Site D → Option Reign
remembered_of s = option_map reign_value s.remembered

-- the reigns that the next entry is under: those that survive, and behind them the one that it begins
abbrev pub reigns_next : {D : Type 0} → Site D → List Reign
reigns_next s = reigns s.inner.instance.records ++ option_to_list (remembered_of s)

-- a reign covers its next entry
abbrev pub IsCovered : {D : Type 0} → Site D → Type 0
IsCovered s = (stamp : Stamp) × (stamp_at (count_of s.inner + 1) (reigns_next s) ≡ Some stamp)

-- The reign may come behind those that survive: it begins with the next entry, and none of them begins past the entries that there are.
pub record IsReignToCome (s : Memory) (r : Reign) : Type 0 where
  pub form : IsReign r
  pub start : r.start ≡ count_of s + 1
  pub none_past : AllByRecursion (λ (q : Reign). q.start ≤ count_of s) (reigns s.instance.records)
  pub few : length (reigns s.instance.records) < MOST_REIGNS

-- with a reign of a primary
abbrev pub with_adopted : Reign → Contents → Contents
with_adopted r c = record c { instance = c.instance ++ records.Reigned r ∷ [] }

-- with one where there is one
abbrev pub with_remembered : Option Reign → Contents → Contents
with_remembered None c = c
with_remembered (Some r) c = with_adopted r c

-- with the entry of this transaction, under that stamp, behind the reign that begins with it
abbrev pub with_applied : Option Reign → Stamp → Transaction → Contents → Contents
with_applied reign stamp t c = with_sequence (with_remembered reign c) (c.sequence ++ record { stamp = stamp; transaction = t } ∷ [])

-- as it was, or with the reign
abbrev pub MayHaveReign : Option Reign → Contents → Contents → Type 0
MayHaveReign reign c o = (o ≡ c) ⊎ (o ≡ with_remembered reign c)

-- what doesn't change when an entry of a primary doesn't come, though there may be more room, and more blocks may have images
pub record IsStillSame (old new : Memory) : Type 0 where
  pub records : new.instance.records ≡ old.instance.records
  pub layout : new.layout ≡ old.layout
  pub hardened : new.hardened ≡ old.hardened
  pub stamp : new.stamp ≡ old.stamp
  pub entries : IsSameIndex old.entries new.entries
  pub globals : joined new.globals ≡ joined old.globals
  pub nodes : HasSameNodes old.globals new.globals

-- no entry came
pub record HasStayed {D : Type 0} (old new : Site D) : Type 0 where
  pub count : count_of new.inner ≡ count_of old.inner
  pub reigns_are : reigns new.inner.instance.records ≡ reigns old.inner.instance.records
  pub remembered : remembered_of new ≡ remembered_of old
  pub globals : joined new.inner.globals ≡ joined old.inner.globals

-- the next entry came, behind the reign that begins with it
pub record HasApplied {D : Type 0} (old new : Site D) (t : Transaction) : Type 0 where
  pub count : count_of new.inner ≡ count_of old.inner + 1
  pub reigns_are : reigns new.inner.instance.records ≡ reigns_next old
  pub forgotten : remembered_of new ≡ None
  pub globals : joined new.inner.globals ≡ fold apply (joined old.inner.globals) t.updates
