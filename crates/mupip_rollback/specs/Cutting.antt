-- What both CUTs of a rollback leave of files.
use Rattle.std.specs.Prelude.{◌≡◌, ◌⊎◌, ◌≤◌, ◌<◌, ℕ, suc, List, [], length, take}
use Rattle.disk_defs.specs.Disk.{Files, View, Image, OnFile}
use Rattle.entry_index.specs.Among.{IsIndexOf}
use Rattle.entry_index.specs.Found.{entry_count}
use Rattle.global_defs.specs.Entry.{Sequence, state}
use Rattle.entry_index.specs.Order.{StandUpTo}
use Rattle.journal_defs.specs.Broken.{broken}
use Rattle.journal_defs.specs.Instance.{InstanceRecord, generation, regions}
use Rattle.journal_defs.specs.Numbers.{INSTANCE, lost_file}
use Rattle.journal_defs.specs.Sequence.{Placed, IsSequence}
use Rattle.journal_defs.specs.Surviving.{reigns}
use Rattle.site_defs.specs.Contents.{Contents}
use Rattle.site_defs.specs.Stands.{IsSite}
use Rattle.site_files.specs.Loading.{AreRead, HasCut, MayCutOff, IsNoLonger, last_of, next_broken}
use Rattle.region_store.specs.Joined.{joined}
use Rattle.site_store.specs.Site.{AreOnBlocks, AreSynced}
use Rattle.mupip_rollback.specs.declared.preparing.Kept.{Kept}

-- the lost-transaction file of the next generation
abbrev pub next_lost : List InstanceRecord → ℕ
next_lost rs = lost_file (suc (generation rs))

-- the texts of the next generation are no longer than what is to be written
pub record IsShort (rs : List InstanceRecord) (broken : List ℕ) (files : Files) : Type 0 where
  pub broken_is : length (files (next_broken rs)) ≤ length broken
  pub lost_is : files (next_lost rs) ≡ []

-- the CUT of all entries and what is broken behind them, and this text of those that are to go
abbrev pub HasSetAside : List InstanceRecord → ℕ → (broken lost : List ℕ) → (was now : Files) → Type 0
HasSetAside rs n broken lost was now = (mid : Files) × HasCut rs n broken was mid × OnFile (next_lost rs) (λ a b. b ≡ lost) mid now

-- or a part of both, or of the text
abbrev pub MaySetAside : List InstanceRecord → ℕ → (broken lost : List ℕ) → (was now : Files) → Type 0
MaySetAside rs n broken lost was now = MayCutOff rs n broken was now ⊎ ((mid : Files) × HasCut rs n broken was mid × OnFile (next_lost rs) (IsNoLonger lost) mid now)

-- the files that this changes
abbrev pub AreSetAside : List InstanceRecord → ℕ → Type 0
AreSetAside rs f = (f ≡ INSTANCE) ⊎ (f ≡ next_broken rs) ⊎ (f ≡ next_lost rs)

-- A site that was cut off behind all entries, of which the first few are kept, each at its places: each image stands for these contents, and nothing is
-- broken behind them.
pub record IsCutOff (v : View) (rs : List InstanceRecord) (c : Contents) (kept : Kept) : Type 0 where
  pub journal : ℕ → List Placed
  pub seq : Sequence
  pub sequence : IsSequence (record { instance = rs; journal = journal }) seq
  pub none : broken (record { instance = rs; journal = journal }) (length seq) ≡ []
  pub most : entry_count kept.entries ≤ length seq
  pub reads : (f : Files) → Image v f → AreRead rs (last_of kept.last_began.items) journal f
  pub stands : (f : Files) → Image v f → IsSite f c
  pub indexed : IsIndexOf journal (reigns rs) kept.entries (take (entry_count kept.entries) seq)
  pub stand : (f : Files) → Image v f → (r : ℕ) → r < length (regions rs) → StandUpTo f r (generation rs) (journal r)
  pub synced : AreSynced v (length (regions rs))
  pub on : (f : Files) → Image v f → AreOnBlocks f (record { instance = rs; journal = journal }) (entry_count kept.entries) kept.globals
  pub globals : joined kept.globals ≡ state (take (entry_count kept.entries) seq)
