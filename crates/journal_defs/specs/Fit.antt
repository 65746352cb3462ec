-- What holds of each image of fit disks.
use Rattle.std.specs.Prelude.{◌≡◌, ℕ, ◌<◌, ◌≤◌, List, length, take, true}
use Rattle.std.specs.List.{AllByRecursion, fold, flat_map}
use Rattle.std.specs.FinMap as globals
use Rattle.global_defs.specs.declared.limits.TheConstants.{MOST_NODES, MOST_REIGNS}
use Rattle.disk_defs.specs.Disk.{Files}
use Rattle.global_defs.specs.Key.{Key}
use Rattle.global_defs.specs.Entry.{Update, Set, Kill, ZKill, Sequence, apply}
use Rattle.global_defs.specs.Rising.{SerialsRise, begun_by}
use Rattle.journal_defs.specs.Numbers.{database_file}
use Rattle.journal_defs.specs.Directory.{Pattern, region_of, patterns}
use Rattle.journal_defs.specs.Journal.{JournalRecord, Pini, Epoch, Pblk, Tcom}
use Rattle.journal_defs.specs.Instance.{InstanceRecord, regions}
use Rattle.journal_defs.specs.Surviving.{survives, reigns}
use Rattle.journal_defs.specs.Sequence.{Records, IsSequence}
use Rattle.journal_defs.specs.Epochs.{block_of}
use Rattle.journal_defs.specs.Sound.{AreSoundFor, BlocksGrow}
use Rattle.journal_defs.specs.Stands.{AreRecords}
use Rattle.journal_defs.specs.Clean.{AreClean}

abbrev pub key_of : Update → Key
key_of (Set key value) = key
key_of (Kill key) = key
key_of (ZKill key) = key

-- an update is made in the region of its name
abbrev pub region_of_update : List Pattern → Update → ℕ
region_of_update patterns u = region_of patterns (key_of u).name

-- each item of a surviving TCOM stands in the region of its name
abbrev pub IsAtHome : List InstanceRecord → ℕ → ℕ → JournalRecord → Type 0
IsAtHome instance r g (Tcom x) = survives instance g x.number ≡ true → AllByRecursion (λ i. region_of_update (patterns instance) i.update ≡ r) x.items
IsAtHome instance r g (Pini s) = Unit {0}
IsAtHome instance r g (Epoch m) = Unit {0}
IsAtHome instance r g (Pblk b) = Unit {0}

-- after each update of each entry at most 100,000 nodes stand
abbrev pub HasFewNodes : Sequence → Type 0
HasFewNodes seq = (k : ℕ) → globals.len (fold apply globals.empty (take k (flat_map (λ e. e.transaction.updates) seq))) ≤ MOST_NODES

-- few surviving reigns have begun by the length
abbrev pub HasFewReigns : ℕ → List InstanceRecord → Type 0
HasFewReigns length_of instance = length (begun_by length_of (reigns instance)) ≤ MOST_REIGNS

-- The files are an image that stands for this sequence, by these records, is clean, and is sound for every t up to its length.
-- This holds at each moment of each call.
pub record IsSoundImage (files : Files) (s : Records) (seq : Sequence) : Type 0 where
  pub held : AreRecords files s
  pub sequence : IsSequence s seq
  pub clean : AreClean files s (length seq)
  pub sound : (t : ℕ) → t ≤ length seq → AreSoundFor s (λ r. block_of (files (database_file r))) seq t
  pub grow : (r : ℕ) → r < length (regions s.instance) → BlocksGrow s.instance (length seq) (s.journal r)
  pub at_home : (r : ℕ) → r < length (regions s.instance) → AllByRecursion (λ p. IsAtHome s.instance r p.generation p.what) (s.journal r)
  pub few_nodes : HasFewNodes seq

-- The files are an image of fit disks.
pub record IsFitImage (files : Files) (s : Records) (seq : Sequence) : Type 0 where
  pub image : IsSoundImage files s seq
  pub serials : SerialsRise seq
  pub few_reigns : HasFewReigns (length seq) s.instance
