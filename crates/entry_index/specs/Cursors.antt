-- A region's journals on the way through them: up to where they are read, and what is kept of their records.
use Rattle.std.specs.Prelude.{◌≡◌, ℕ, suc, ◌+◌, ◌-◌, ◌*◌, ◌^◌, ◌<◌, ◌≤◌, Bool, true, false, List, [], ◌∷◌, ◌++◌, length, get_or, Option, Some, None, IfSome}
use Rattle.std.specs.List.{AllByRecursion}
use Rattle.global_defs.specs.declared.limits.TheConstants.{MOST_GENERATIONS, MOST_REGIONS}
use Rattle.disk_defs.specs.Disk.{Files}
use Rattle.global_defs.specs.Entry.{Sequence}
use Rattle.journal_defs.specs.Instance.{InstanceRecord}
use Rattle.journal_defs.specs.Numbers.{journal_file}
use Rattle.journal_defs.specs.Sequence.{Placed, Records, part_in, part_of, entry, EntriesFrom}
use Rattle.journal_defs.specs.Stands.{IsJournal}
use Rattle.journal_defs.specs.Surviving.{reigns}
use Rattle.jnl_file.specs.Newer.{Reached}
use Rattle.mupip_recover.specs.Cuts.{AreCuts}
use Rattle.mupip_recover.specs.Stamps.{AreStarts}
use Rattle.mupip_recover.specs.declared.cuts.Cuts.{Cuts}
use Rattle.entry_index.specs.Among.{IsIndexOf}
use Rattle.entry_index.specs.Indexes.{Indexes}
use Rattle.entry_index.specs.Order.{bytes_in}
use Rattle.entry_index.specs.Parts.{InFiles}
use Rattle.entry_index.specs.Pieces.{IsPieceOf}
use Rattle.entry_index.specs.Places.{IsSignOf, AreSignsOf}
use Rattle.entry_index.specs.Signs.{if_numbered, IsSign}
use Rattle.entry_index.specs.Thinned.{part_generation, IsThinned}
use Rattle.entry_index.specs.declared.index.EntryIndex.{EntryIndex}
use Rattle.entry_index.specs.declared.placed.PlacedSign.{PlacedSign}
use Rattle.entry_index.specs.declared.sign.Sign.{Sign}
use Rattle.entry_index.specs.declared.sign.Sign.TheVariants.{Pini, Epoch, Pblk, Tcom}
use Rattle.entry_index.specs.declared.signed_part.PartSign.{PartSign}
use Rattle.entry_index.specs.declared.reader.Reader.{Reader}
use Rattle.entry_index.specs.declared.reader.Step.{Step}
use Rattle.entry_index.specs.declared.reader.Step.TheVariants.{Read, Turned, NoRecord}
use Rattle.entry_index.specs.declared.kept.Kept.{Kept}
use Rattle.entry_index.specs.declared.kept.EpochSign.{EpochSign}
use Rattle.entry_index.specs.declared.cursor.Cursor.{Cursor}

-- the sign that says what this one says of a part
abbrev pub placed_by : PartSign → PlacedSign
placed_by s = record { generation = s.place.generation; offset = s.place.offset; sign = Tcom s.number s.mask s.origin s.count s.span }

-- it stands in a generation that there may be
abbrev pub IsDrawn : Placed → Type 0
IsDrawn x = (1 ≤ x.generation) × (x.generation ≤ MOST_GENERATIONS)

-- What holds of a reader, whatever the files.
pub record IsSound (p : Reader) : Type 0 where
  pub region : p.region < MOST_REGIONS
  pub last : p.last ≤ MOST_GENERATIONS
  pub first : 1 ≤ p.generation
  pub most : p.generation ≤ p.last + 1
  pub began : p.began ≤ p.last
  pub file : p.generation ≤ p.last → p.pieces.file ≡ journal_file p.generation p.region

-- These records stand up to the reader's place: those of the generations before, and those before it in the journal at hand.
pub record IsAt (files : Files) (p : Reader) (journal : List Placed) : Type 0 where
  pub before : ℕ
  pub next : p.generation ≡ suc before
  pub older : List Placed
  pub older_is : IsJournal files p.region before p.previous older
  pub reached : Reached p.region p.generation p.previous (files (journal_file p.generation p.region)) p.at older journal p.began
  -- past the last generation nothing is read
  pub past : p.last < p.generation → (journal ≡ older) × (p.began ≡ p.previous) × (before ≡ p.last)

-- how much there is to read at most
abbrev pub left : Reader → ℕ
left p = (p.last + 1 - p.generation) * 2 ^ 64 + (2 ^ 64 - 1 - p.at)

-- A record's sign, and the record is the next one; or the journal ended there.
pub record IsNextRecord (files : Files) (region : ℕ) (new : Reader) (journal : List Placed) (placed : PlacedSign) : Type 0 where
  pub what : Placed
  pub drawn : IsDrawn what
  pub sign : IsSignOf files region placed what
  pub offset : placed.offset ≡ bytes_in placed.generation journal
  pub at : IsAt files new (journal ++ what ∷ [])

abbrev pub Stepped : Files → ℕ → Reader → List Placed → Step → Type 0
Stepped files region new journal (Read placed) = IsNextRecord files region new journal placed
Stepped files region new journal Turned = IsAt files new journal
Stepped files region new journal NoRecord = Unit {0}

-- the generation of the part that is the last of these records, or else of the one before them
abbrev pub behind_of : Option ℕ → List Placed → Option ℕ
behind_of behind [] = behind
behind_of behind (p ∷ ps) = behind_of (part_generation p.generation p.what) ps

-- a sign stays that stands before a floor: of a PINI
abbrev pub stays_by : Sign → Bool
stays_by (Pini region before generation previous) = true
stays_by (Tcom n mask origin count span) = false
stays_by (Epoch closing n blocks) = false
stays_by (Pblk block) = false

-- the epoch that a sign is of
abbrev pub epoch_said : ℕ → Sign → Option EpochSign
epoch_said g (Epoch closing n blocks) = Some (record { generation = g; number = n })
epoch_said g (Pini region before generation previous) = None
epoch_said g (Pblk block) = None
epoch_said g (Tcom n mask origin count span) = None

-- the last of these signs is that of this epoch
pub record EndsWith (signs : List PlacedSign) (e : EpochSign) : Type 0 where
  pub before : List PlacedSign
  pub last : PlacedSign
  pub whole : signs ≡ before ++ last ∷ []
  pub said : epoch_said last.generation last.sign ≡ Some e

-- Of these records of a region those signs are kept that are to be, once n entries are told.
pub record Keeps (files : Files) (instance : List InstanceRecord) (lowest region n : ℕ) (k : Kept) (before : List Placed) : Type 0 where
  pub kept : List Placed
  pub are : AreSignsOf files region k.signs.items kept
  pub drawn : AllByRecursion IsDrawn kept
  pub thinned : IsThinned instance lowest n None before kept
  pub behind : 1 ≤ k.behind → behind_of None before ≡ Some k.behind

-- The last of these records is the part with this sign, past the first n entries.
pub record IsWaiting (files : Files) (region n : ℕ) (s : PartSign) (before journal : List Placed) : Type 0 where
  pub what : Placed
  pub drawn : IsDrawn what
  pub whole : journal ≡ before ++ what ∷ []
  pub sign : IsSignOf files region (placed_by s) what
  pub offset : s.place.offset ≡ bytes_in s.place.generation before
  pub late : n < s.number

-- the records before what waits
abbrev pub Waits : Files → (region n : ℕ) → Option PartSign → (before journal : List Placed) → Type 0
Waits files region n None before journal = journal ≡ before
Waits files region n (Some s) before journal = IsWaiting files region n s before journal

-- These records of the region are read, and those of the first n entries are settled.
pub record IsOnWay (files : Files) (instance : List InstanceRecord) (lowest n : ℕ) (c : Cursor) (journal : List Placed) : Type 0 where
  pub at : IsAt files c.reader journal
  pub before : List Placed
  pub waits : Waits files c.reader.region n c.waiting before journal
  pub keeps : Keeps files instance lowest c.reader.region n c.kept before

-- what waits is the surviving part of each entry past the first n, where these records have one
abbrev pub IsTold : Files → List InstanceRecord → (n : ℕ) → Cursor → List Placed → Type 0
IsTold files instance n c journal = (m : ℕ) → n < m → IsSign files c.reader.region m (if_numbered m c.waiting) (part_of instance m journal)

-- the record is no surviving part of an entry up to this one
abbrev pub IsPast : List InstanceRecord → (low : ℕ) → Placed → Type 0
IsPast instance low x = (m : ℕ) → m ≤ low → part_in instance m x.generation x.what ≡ None

-- records behind, without a surviving part of an entry up to this one
pub record Grows (instance : List InstanceRecord) (low : ℕ) (old new : List Placed) : Type 0 where
  pub rest : List Placed
  pub whole : new ≡ old ++ rest
  pub none : (m : ℕ) → m ≤ low → part_of instance m rest ≡ None

-- A record more was taken in: it waits, or it's kept, or dropped.
pub record Takes (files : Files) (instance : List InstanceRecord) (lowest n low : ℕ) (new : Cursor) (journal : List Placed) (x : Placed) : Type 0 where
  pub before : List Placed
  pub waits : Waits files new.reader.region n new.waiting before (journal ++ x ∷ [])
  pub keeps : Keeps files instance lowest new.reader.region n new.kept before
  pub past : IsPast instance low x
  pub told : (m : ℕ) → IsSign files new.reader.region m (if_numbered m new.waiting) (part_in instance m x.generation x.what)

-- the same of the next record, or it's as before
pub record ReadsOn (files : Files) (instance : List InstanceRecord) (lowest n low : ℕ) (old new : Cursor) (journal : List Placed) : Type 0 where
  pub now : List Placed
  pub on_way : IsOnWay files instance lowest n new now
  pub grows : Grows instance low journal now
  pub told : IsTold files instance n old journal → IsTold files instance n new now

-- all is read, and nothing waits
pub record IsDone (c : Cursor) : Type 0 where
  pub all : c.reader.last < c.reader.generation
  pub none : c.waiting ≡ None

-- Records more of a region were read, and perhaps kept.
pub record ReadsOut (files : Files) (instance : List InstanceRecord) (lowest n low : ℕ) (new : Cursor) (journal : List Placed) : Type 0 where
  pub now : List Placed
  pub on_way : IsOnWay files instance lowest n new now
  pub grows : Grows instance low journal now

-- the same once n entries are told, whose parts aren't past `low`
abbrev pub ReadsOnBy : Cuts → ℕ → Cursor → Cursor → Files → Type 0
ReadsOnBy cuts low old new files = (instance : List InstanceRecord) → AreCuts instance cuts → (lowest n : ℕ) → n ≤ low → low ≤ n + 1 → (journal : List Placed) → IsOnWay files instance lowest n old journal → ReadsOn files instance lowest n low old new journal

-- the same once so many entries are told, for a lowest target
abbrev pub ReadsOnFor : Cuts → (lowest n : ℕ) → Cursor → Cursor → Files → Type 0
ReadsOnFor cuts lowest n old new files = (instance : List InstanceRecord) → AreCuts instance cuts → (journal : List Placed) → IsOnWay files instance lowest n old journal → IsTold files instance n old journal → ReadsOn files instance lowest n n old new journal

abbrev pub ReadsOutBy : Cuts → ℕ → Cursor → Cursor → Files → Type 0
ReadsOutBy cuts low old new files = (instance : List InstanceRecord) → AreCuts instance cuts → (lowest n : ℕ) → n ≤ low → low ≤ n + 1 → (journal : List Placed) → IsOnWay files instance lowest n old journal → ReadsOut files instance lowest n low new journal

-- what waited of entry n + 1 is settled
pub record Settles (files : Files) (n : ℕ) (old new : Cursor) : Type 0 where
  pub on_way : (instance : List InstanceRecord) (lowest : ℕ) (journal : List Placed) → IsOnWay files instance lowest n old journal → IsOnWay files instance lowest (n + 1) new journal
  pub told : (instance : List InstanceRecord) (journal : List Placed) → IsTold files instance n old journal → IsTold files instance (n + 1) new journal

-- the same region's journals, up to the same generation
pub record IsSameRegion (old new : Reader) : Type 0 where
  pub region : new.region ≡ old.region
  pub last : new.last ≡ old.last

-- What a call needs of a cursor.
pub record IsReady (content : Option Files) (region last : ℕ) (p : Reader) : Type 0 where
  pub sound : IsSound p
  pub region_is : p.region ≡ region
  pub last_is : p.last ≡ last
  pub told : IfSome content (IsPieceOf p.pieces)

abbrev pub AreReady : Option Files → ℕ → List Cursor → Type 0
AreReady content last cs = (r : ℕ) (d : Cursor) → r < length cs → IsReady content r last (get_or cs r d).reader

-- These records of all regions are read; other regions have none.
pub record AreOnWay (files : Files) (instance : List InstanceRecord) (lowest n : ℕ) (cs : List Cursor) (journal : ℕ → List Placed) : Type 0 where
  pub each : (r : ℕ) (d : Cursor) → r < length cs → IsOnWay files instance lowest n (get_or cs r d) (journal r)
  pub no_more : (r : ℕ) → length cs ≤ r → journal r ≡ []

abbrev pub AreTold : Files → List InstanceRecord → (n : ℕ) → List Cursor → (ℕ → List Placed) → Type 0
AreTold files instance n cs journal = (r : ℕ) (d : Cursor) → r < length cs → IsTold files instance n (get_or cs r d) (journal r)

-- all regions are read on
pub record AllReadOn (files : Files) (instance : List InstanceRecord) (lowest n low : ℕ) (old new : List Cursor) (journal : ℕ → List Placed) : Type 0 where
  pub now : ℕ → List Placed
  pub on_way : AreOnWay files instance lowest n new now
  pub grows : (r : ℕ) → Grows instance low (journal r) (now r)
  pub told : AreTold files instance n old journal → AreTold files instance n new now

pub record AllReadOut (files : Files) (instance : List InstanceRecord) (lowest n low : ℕ) (new : List Cursor) (journal : ℕ → List Placed) : Type 0 where
  pub now : ℕ → List Placed
  pub on_way : AreOnWay files instance lowest n new now
  pub grows : (r : ℕ) → Grows instance low (journal r) (now r)

abbrev pub AllReadOnFor : Cuts → (lowest n : ℕ) → List Cursor → List Cursor → Files → Type 0
AllReadOnFor cuts lowest n old new files = (instance : List InstanceRecord) → AreCuts instance cuts → (journal : ℕ → List Placed) → AreOnWay files instance lowest n old journal → AreTold files instance n old journal → AllReadOn files instance lowest n n old new journal

abbrev pub AllReadOutBy : Cuts → ℕ → List Cursor → List Cursor → Files → Type 0
AllReadOutBy cuts low old new files = (instance : List InstanceRecord) → AreCuts instance cuts → (lowest n : ℕ) → n ≤ low → low ≤ n + 1 → (journal : ℕ → List Placed) → AreOnWay files instance lowest n old journal → AllReadOut files instance lowest n low new journal

-- in all regions what waited of entry n + 1 is settled
pub record AllSettle (files : Files) (n : ℕ) (old new : List Cursor) : Type 0 where
  pub on_way : (instance : List InstanceRecord) (lowest : ℕ) (journal : ℕ → List Placed) → AreOnWay files instance lowest n old journal → AreOnWay files instance lowest (n + 1) new journal
  pub told : (instance : List InstanceRecord) (journal : ℕ → List Placed) → AreTold files instance n old journal → AreTold files instance (n + 1) new journal

-- The first entries of these records, by their places in the files and among the records.
pub record IsBuilt (files : Files) (s : Records) (index : EntryIndex) (rows : ℕ) : Type 0 where
  pub seq : Sequence
  pub long : length seq ≡ rows
  pub each : EntriesFrom (entry s) 1 seq
  pub indexed : Indexes (InFiles files) (reigns s.instance) index seq
  pub among : IsIndexOf s.journal (reigns s.instance) index seq

-- So many entries are told of what is read, and the next one isn't there.
pub record AreAdded (files : Files) (instance : List InstanceRecord) (lowest n : ℕ) (cs : List Cursor) (index : EntryIndex) : Type 0 where
  pub journal : ℕ → List Placed
  pub on_way : AreOnWay files instance lowest n cs journal
  pub built : IsBuilt files (record { instance = instance; journal = journal }) index n
  pub ended : entry (record { instance = instance; journal = journal }) (suc n) ≡ None

-- So many entries are told of what is read, whose parts are settled.
pub record HaveAdded (files : Files) (instance : List InstanceRecord) (lowest n : ℕ) (cs : List Cursor) (index : EntryIndex) : Type 0 where
  pub journal : ℕ → List Placed
  pub on_way : AreOnWay files instance lowest n cs journal
  pub told : AreTold files instance n cs journal
  pub built : IsBuilt files (record { instance = instance; journal = journal }) index n

-- what holds where nothing was read yet by these cursors
abbrev pub FromStart : Cuts → List ℕ → (lowest : ℕ) → List Cursor → (Files → List InstanceRecord → Type 0) → Files → Type 0
FromStart cuts starts lowest cs P files = (instance : List InstanceRecord) → AreCuts instance cuts → AreStarts (reigns instance) starts → (journal : ℕ → List Placed) → AreOnWay files instance lowest 0 cs journal → AreTold files instance 0 cs journal → P files instance
