-- The files of a site as it is opened: they are read, what is broken is written down, and the next generation is drawn and begins in each
-- region.
use Rattle.std.specs.Prelude.{◌≡◌, ◌≢◌, ◌⊎◌, ℕ, suc, ◌+◌, ◌≤◌, ◌<◌, ◌++◌, Bool, false, List, [], ◌∷◌, length, get_or, nat_lt, ◌&&◌, if◌then◌else◌, max, Option, Some, None}
use Rattle.std.specs.List.{AllByRecursion}
use Rattle.global_defs.specs.declared.limits.TheConstants.{MOST_GENERATIONS, MOST_REGIONS}
use Rattle.disk_defs.specs.Disk.{Files, View, IsDurable}
use Rattle.disk_defs.specs.Gates.{records}
use Rattle.journal_defs.specs.Numbers.{INSTANCE, journal_file, broken_file}
use Rattle.journal_defs.specs.Instance.{InstanceRecord, Cut, IsInForm, generation, regions}
use Rattle.journal_defs.specs.Journal.{JournalRecord, IsJournalBody}
use Rattle.journal_defs.specs.Directory.{Pattern, patterns}
use Rattle.journal_defs.specs.Sequence.{Placed, Records}
use Rattle.journal_defs.specs.Stands.{IsInstance, IsJournal, Holds, in_generation}
use Rattle.journal_defs.specs.Growth.{with_record, with_more}
use Rattle.site_defs.specs.Outside.{HaveDirectory}
use Rattle.site_defs.specs.Forward.{begun_mode}
use Rattle.global_dir.specs.Directory.{Mapping}
use Rattle.instance_file.specs.Order.{AreInOrder}
use Rattle.jnl_file.specs.Begin.{pini}
use Rattle.jnl_file.specs.Generations.{AreDurable}

-- the last generation that began in a region, by a list of them
abbrev pub last_of : List ℕ → ℕ → ℕ
last_of lasts r = get_or lasts r 0

-- the directory of these records, or that there is none
abbrev pub IsDirectory : List InstanceRecord → Option Mapping → Type 0
IsDirectory rs None = HaveDirectory rs → ⊥
IsDirectory rs (Some d) = (1 ≤ length (regions rs)) × (length (regions rs) ≤ MOST_REGIONS) × (d ≡ record { regions = length (regions rs); patterns = patterns rs })

-- The records of an instance file by which a site may be opened: they are a site's, each MAP names a region of it, and a generation is
-- left. `last` has for each region the last generation that began.
pub record MayBeOpened (rs : List InstanceRecord) (last : ℕ → ℕ) : Type 0 where
  pub order : AreInOrder rs
  pub form : AllByRecursion IsInForm rs
  pub some : 0 < length rs
  pub some_region : 1 ≤ length (regions rs)
  pub few_regions : length (regions rs) ≤ MOST_REGIONS
  pub mapped : AllByRecursion (λ (p : Pattern). p.region < length (regions rs)) (patterns rs)
  pub room : generation rs < MOST_GENERATIONS
  pub earlier : (r : ℕ) → last r ≤ generation rs

-- What the files hold: these records, and no open record in the next journals.
pub record AreRead (rs : List InstanceRecord) (last : ℕ → ℕ) (journal : ℕ → List Placed) (files : Files) : Type 0 where
  pub instance : IsInstance (files INSTANCE) rs
  pub older : (r : ℕ) → r < length (regions rs) → IsJournal files r (generation rs) (last r) (journal r)
  pub no_more : (r : ℕ) → length (regions rs) ≤ r → journal r ≡ []
  pub next : (r : ℕ) → r < length (regions rs) → records (files (journal_file (suc (generation rs)) r)) ≡ Some []

-- and all these files are on the disk for good
pub record WasRead (v : View) (rs : List InstanceRecord) (last : ℕ → ℕ) (journal : ℕ → List Placed) (files : Files) : Type 0 where
  pub holds : AreRead rs last journal files
  pub instance : IsDurable v INSTANCE (files INSTANCE)
  pub journals : (r : ℕ) → r < length (regions rs) → AreDurable v r (generation rs) files
  pub next : (r : ℕ) → r < length (regions rs) → IsDurable v (journal_file (suc (generation rs)) r) (files (journal_file (suc (generation rs)) r))

-- the CUT that draws the next generation
abbrev pub next_cut : List InstanceRecord → ℕ → InstanceRecord
next_cut rs n = Cut n (generation rs + 1)

abbrev pub next_journal : List InstanceRecord → ℕ → ℕ
next_journal rs r = journal_file (suc (generation rs)) r

abbrev pub next_broken : List InstanceRecord → ℕ
next_broken rs = broken_file (suc (generation rs))

-- how the next generation begins in a region: in the mode that it has, or, where it's anew, without images
abbrev pub next_pini_as : (anew : Bool) → List InstanceRecord → (ℕ → ℕ) → ℕ → JournalRecord
next_pini_as anew rs last r = pini r (begun_mode anew rs r) (suc (generation rs)) (last r)

abbrev pub next_pini : List InstanceRecord → (ℕ → ℕ) → ℕ → JournalRecord
next_pini = next_pini_as false

-- a file may be as long as it was or as this text, and no longer
abbrev pub IsNoLonger : List ℕ → List ℕ → List ℕ → Type 0
IsNoLonger text was now = length now ≤ max (length was) (length text)

-- the file has this text; without a text it isn't written
abbrev pub IsWritten : List ℕ → List ℕ → List ℕ → Type 0
IsWritten text was now = (now ≡ text) ⊎ ((text ≡ []) × (now ≡ was))

-- the journals of a generation, of the first n regions
abbrev pub AreJournalsOf : (g n : ℕ) → ℕ → Type 0
AreJournalsOf g n f = (r : ℕ) × (r < n) × (f ≡ journal_file g r)

-- none of them has an open record
abbrev pub AreUnbegun : (g n : ℕ) → Files → Type 0
AreUnbegun g n files = (r : ℕ) → r < n → records (files (journal_file g r)) ≡ Some []

-- Of them the first k have this record alone, and the others none. All other files are the same.
pub record HasBegun (g n : ℕ) (first : ℕ → JournalRecord) (k : ℕ) (was now : Files) : Type 0 where
  pub others : (f : ℕ) → (AreJournalsOf g n f → ⊥) → now f ≡ was f
  pub begun : (r : ℕ) → r < n → r < k → Holds IsJournalBody (now (journal_file g r)) (first r ∷ [])
  pub unbegun : (r : ℕ) → r < n → k ≤ r → records (now (journal_file g r)) ≡ Some []

-- how a generation begins in a region by these records, after these generations by region
abbrev pub first_by : (anew : Bool) → List InstanceRecord → (g : ℕ) → List ℕ → ℕ → JournalRecord
first_by anew rs g lasts r = pini r (begun_mode anew rs r) g (last_of lasts r)

-- the instance file and the broken-transaction file of the next generation
abbrev pub AreCut : List InstanceRecord → ℕ → Type 0
AreCut rs f = (f ≡ INSTANCE) ⊎ (f ≡ next_broken rs)

-- the files of the next generation and the instance file
abbrev pub AreNext : List InstanceRecord → ℕ → Type 0
AreNext rs f = (f ≡ INSTANCE) ⊎ (f ≡ next_broken rs) ⊎ ((r : ℕ) × (r < length (regions rs)) × (f ≡ next_journal rs r))

-- Nothing is drawn: the broken-transaction file alone may have changed, and is no longer than it was or than this text.
pub record IsUncut (rs : List InstanceRecord) (broken : List ℕ) (was now : Files) : Type 0 where
  pub others : (f : ℕ) → f ≢ INSTANCE → f ≢ next_broken rs → ((r : ℕ) → r < length (regions rs) → f ≢ next_journal rs r) → now f ≡ was f
  pub instance : IsInstance (now INSTANCE) rs
  pub text : IsNoLonger broken (was (next_broken rs)) (now (next_broken rs))
  pub next : (r : ℕ) → r < length (regions rs) → records (now (next_journal rs r)) ≡ Some []

-- The instance file has the CUT, the broken-transaction file this text, and the next generation has begun in the first k regions. All other
-- files are the same.
pub record HasDrawnAs (anew : Bool) (rs : List InstanceRecord) (n : ℕ) (broken : List ℕ) (last : ℕ → ℕ) (k : ℕ) (was now : Files) : Type 0 where
  pub others : (f : ℕ) → f ≢ INSTANCE → f ≢ next_broken rs → ((r : ℕ) → r < length (regions rs) → f ≢ next_journal rs r) → now f ≡ was f
  pub instance : IsInstance (now INSTANCE) (rs ++ next_cut rs n ∷ [])
  pub text : IsWritten broken (was (next_broken rs)) (now (next_broken rs))
  pub begun : (r : ℕ) → r < length (regions rs) → r < k → Holds IsJournalBody (now (next_journal rs r)) (next_pini_as anew rs last r ∷ [])
  pub unbegun : (r : ℕ) → r < length (regions rs) → k ≤ r → records (now (next_journal rs r)) ≡ Some []

abbrev pub HasDrawn : (rs : List InstanceRecord) → ℕ → (broken : List ℕ) → (last : ℕ → ℕ) → ℕ → (was now : Files) → Type 0
HasDrawn = HasDrawnAs false

-- the CUT and the text alone, whatever generations began before
abbrev pub HasCut : (rs : List InstanceRecord) → ℕ → (broken : List ℕ) → (was now : Files) → Type 0
HasCut rs n broken was now = (last : ℕ → ℕ) → HasDrawn rs n broken last 0 was now

-- one of both
abbrev pub MayCutOff : (rs : List InstanceRecord) → ℕ → (broken : List ℕ) → (was now : Files) → Type 0
MayCutOff rs n broken was now = IsUncut rs broken was now ⊎ HasCut rs n broken was now

-- or the next generation has begun in some number of regions
abbrev pub MayDrawAs : (anew : Bool) → (rs : List InstanceRecord) → ℕ → (broken : List ℕ) → (last : ℕ → ℕ) → (was now : Files) → Type 0
MayDrawAs anew rs n broken last was now = IsUncut rs broken was now ⊎ ((k : ℕ) × HasDrawnAs anew rs n broken last k was now)

abbrev pub MayDraw : (rs : List InstanceRecord) → ℕ → (broken : List ℕ) → (last : ℕ → ℕ) → (was now : Files) → Type 0
MayDraw = MayDrawAs false

-- how the next generation begins in the first k of the regions, as records of region r
abbrev pub starts_in_as : (anew : Bool) → List InstanceRecord → (last : ℕ → ℕ) → ℕ → ℕ → List Placed
starts_in_as anew rs last k r = if nat_lt r k && nat_lt r (length (regions rs)) then in_generation (suc (generation rs)) (next_pini_as anew rs last r) ∷ [] else []

abbrev pub starts_in : List InstanceRecord → (last : ℕ → ℕ) → ℕ → ℕ → List Placed
starts_in = starts_in_as false

-- the records of a site after a CUT to so many entries drew the next generation, which has begun in the first k regions
abbrev pub drawn_records_as : (anew : Bool) → Records → ℕ → (last : ℕ → ℕ) → ℕ → Records
drawn_records_as anew s n last k = with_more (with_record s (next_cut s.instance n)) (starts_in_as anew s.instance last k)

abbrev pub drawn_records : Records → ℕ → (last : ℕ → ℕ) → ℕ → Records
drawn_records = drawn_records_as false
