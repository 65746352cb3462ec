-- What holds of sites, whatever happens to them (GT.M: one history of updates, of which each secondary has a front).
use Rattle.std.specs.Prelude.{◌≡◌, ◌≢◌, ℕ, suc, ◌+◌, ◌<◌, ◌≤◌, List, ◌++◌, length, take, slice_get, Some}
use Rattle.global_defs.specs.declared.limits.TheConstants.{MOST_REIGNS}
use Rattle.global_defs.specs.Entry.{Stamp, Entry, Sequence}
use Rattle.global_defs.specs.Serial.{serial_at}
use Rattle.global_defs.specs.Prefix.{IsPrefix, stamp_at}
use Rattle.global_defs.specs.Extract.{extract, header, entries_text}
use Rattle.global_defs.specs.Rising.{SerialsRise, StartsRise, begun_by}
use Rattle.lineage_defs.specs.Histories.{StampsChange, IsHistory, IsLongestCommon}
use Rattle.lineage_defs.specs.Sites.{Primary, Following, Site, World, hardened_part}
use Rattle.lineage_defs.specs.Events.{Event, Decide, Harden, Send, Receive, Apply, Cut, Crash, Begin, Follow, Roll}

-- Whenever their nth entries have equal stamps, their first n entries are equal. The entry at place i has number i + 1.
abbrev pub Agree : Sequence → Sequence → Type 0
Agree xs ys = (i : ℕ) (x y : Entry) → slice_get xs i ≡ Some x → slice_get ys i ≡ Some y → x.stamp ≡ y.stamp → take (suc i) xs ≡ take (suc i) ys

-- an entry under this name has none but the first cycles
abbrev pub HasCycles : (name : List ℕ) → (most : ℕ) → Sequence → Type 0
HasCycles name most seq = (i : ℕ) (e : Entry) → slice_get seq i ≡ Some e → e.stamp.root ≡ name → e.stamp.cycle ≤ most

-- each entry with the stamp is the entry of its number in the other sequence
abbrev pub IsAmong : Stamp → Sequence → Sequence → Type 0
IsAmong stamp seq all = (i : ℕ) (e : Entry) → slice_get seq i ≡ Some e → e.stamp ≡ stamp → slice_get all i ≡ Some e

-- no updater's entry with the stamp has its next serial, or a later one
abbrev pub ArePast : Stamp → (serials : List ℕ) → Sequence → Type 0
ArePast stamp serials seq = (i : ℕ) (e : Entry) → slice_get seq i ≡ Some e → e.stamp ≡ stamp → e.transaction.origin.serial < serial_at serials e.transaction.origin.updater

-- A primary's reign: under its own name, of a cycle that it has drawn, and the one of each entry to come. Its reigns are in order with
-- that one, and the updaters' next serials are past those of its entries.
pub record IsReigning (stamp : Stamp) (serials : List ℕ) (s : Site) : Type 0 where
  pub root : stamp.root ≡ s.name
  pub cycle : stamp.cycle ≤ s.cycle
  pub coming : (k : ℕ) → length s.sequence < k → stamp_at k s.reigns ≡ Some stamp
  pub starts : StartsRise 0 s.reigns
  pub changes : StampsChange s.reigns
  pub room : length s.reigns ≤ MOST_REIGNS
  pub updaters : length serials ≡ 64
  pub next : ArePast stamp serials s.sequence

-- what holds of a site by itself: its serials, its history, how many reigns it has, and its reign where it is a primary
pub record IsFitSite (s : Site) : Type 0 where
  pub within : s.hardened ≤ length s.sequence
  pub rise : SerialsRise s.sequence
  pub history : IsHistory s.reigns s.sequence
  pub few : length (begun_by (length s.sequence) s.reigns) ≤ MOST_REIGNS
  pub reigning : (stamp : Stamp) (serials : List ℕ) → s.role ≡ Primary stamp serials → IsReigning stamp serials s

-- follower, received, sent and hardened part of the primary, each a prefix of the next
pub record FourPrefixes (follower received sent hardened : Sequence) : Type 0 where
  pub applied : IsPrefix follower received
  pub arrived : IsPrefix received sent
  pub durable : IsPrefix sent hardened

-- the primary of that name, and the session with it
pub record HasPrimary (w : World) (primary : List ℕ) (sent received follower : Sequence) : Type 0 where
  pub place : ℕ
  pub site : Site
  pub there : slice_get w place ≡ Some site
  pub name : site.name ≡ primary
  pub prefixes : FourPrefixes follower received sent (hardened_part site)

-- what holds of all sites together
pub record IsFit (w : World) : Type 0 where
  -- sites of one name stand at one place
  pub apart : (i j : ℕ) (a b : Site) → slice_get w i ≡ Some a → slice_get w j ≡ Some b → a.name ≡ b.name → i ≡ j
  pub each : (i : ℕ) (a : Site) → slice_get w i ≡ Some a → IsFitSite a
  pub agree : (i j : ℕ) (a b : Site) → slice_get w i ≡ Some a → slice_get w j ≡ Some b → Agree a.sequence b.sequence
  pub cycles : (i j : ℕ) (a b : Site) → slice_get w i ≡ Some a → slice_get w j ≡ Some b → HasCycles a.name a.cycle b.sequence
  -- each entry of a primary's reign on another site is the entry of its number in the primary's hardened part
  pub shipped : (i j : ℕ) (a b : Site) (stamp : Stamp) (serials : List ℕ) → slice_get w i ≡ Some a → slice_get w j ≡ Some b → i ≢ j
      → a.role ≡ Primary stamp serials → IsAmong stamp b.sequence (hardened_part a)
  pub sessions : (j : ℕ) (b : Site) (primary : List ℕ) (sent received : Sequence) → slice_get w j ≡ Some b → b.role ≡ Following primary sent received
      → HasPrimary w primary sent received b.sequence

-- After a rollback to t the site at the place has exactly what it shares with the other one, and its lost-transaction file is the extract
-- of exactly the rest.
pub record IsRolledTo (v : World) (i t : ℕ) (old other : Site) : Type 0 where
  pub site : Site
  pub there : slice_get v i ≡ Some site
  pub size : length site.sequence ≡ t
  pub shared : IsLongestCommon site.sequence old.sequence other.sequence
  pub lost : Sequence
  pub all : old.sequence ≡ site.sequence ++ lost
  pub file : extract old.name old.sequence (t + 1) ≡ header old.name (t + 1) ++ entries_text (t + 1) lost

-- no rollback of the site at that place
abbrev pub IsNoRollOf : ℕ → Event → Type 0
IsNoRollOf i (Roll j t) = j ≢ i
IsNoRollOf i (Decide j u) = Unit {0}
IsNoRollOf i (Harden j) = Unit {0}
IsNoRollOf i (Send j) = Unit {0}
IsNoRollOf i (Receive j) = Unit {0}
IsNoRollOf i (Apply j) = Unit {0}
IsNoRollOf i (Cut j) = Unit {0}
IsNoRollOf i (Crash j n) = Unit {0}
IsNoRollOf i (Begin j) = Unit {0}
IsNoRollOf i (Follow j k) = Unit {0}

-- what the site had hardened it still has
pub record IsDurable (v : World) (i : ℕ) (old : Site) : Type 0 where
  pub site : Site
  pub there : slice_get v i ≡ Some site
  pub name : site.name ≡ old.name
  pub still : IsPrefix (hardened_part old) (hardened_part site)
