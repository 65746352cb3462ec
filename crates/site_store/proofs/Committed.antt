-- An entry is prepared, and then appended.
use Rattle.std.proofs.Common.{◌≡◌, inl, inr, ◌≤◌, ◌<◌, ◌+◌, ◌-◌, ℕ, suc, Bool, true, List, [], ◌∷◌, ◌++◌, length, map, take, drop, Some, None, refl, sym, ◌∙◌, ap, subst, arith, append-nil, length-append}
use Rattle.std.specs.Prelude.{Option, IfSome, IsSomeAnd, fold, slice_get}
use Rattle.std.specs.List.{flat_map}
use Rattle.std.specs.FinMap as globals
use Rattle.std.proofs.lemmas.Bool.{cases_lt}
use Rattle.std.proofs.lemmas.Option.{slice_get_within}
use Rattle.std.proofs.lemmas.List.{take-append-le, drop-append-le, length-drop}
use Rattle.std.proofs.lemmas.List.Concat.{flat_map-append}
use Rattle.std.proofs.lemmas.List.Sums.{fold-append}
use Rattle.std.proofs.Math.Seq.{take-append-add}
use Rattle.global_defs.specs.declared.limits.TheConstants.{MOST_NODES, MOST_REGIONS, NUMBERS_END}
use Rattle.disk_defs.specs.Disk.{Files, View, Image, IsLawful, AtEachMoment}
use Rattle.disk_defs.specs.Frames.{OnlyIn, OthersStay}
use Rattle.disk_defs.proofs.Frames.{others_same}
use Rattle.disk_defs.proofs.Moments.{weaker, then_more, holds_now, started}
use Rattle.global_defs.specs.Entry.{Update, Entry, Sequence, Stamp, Transaction, apply, state}
use Rattle.global_defs.specs.Prefix.{stamp_at}
use Rattle.gvn_model.specs.declared.entry.Transaction as code
use Rattle.gvn_model.specs.declared.reign.Stamp as code_stamp
use Rattle.gvn_model.specs.Entries.{transaction_value}
use Rattle.gvn_model.specs.Reigns.{stamp_value}
use Rattle.journal_defs.specs.Numbers.{INSTANCE, journal_file, database_file}
use Rattle.journal_defs.specs.Journal.{JournalRecord, Part}
use Rattle.journal_defs.specs.Instance.{InstanceRecord, generation, regions}
use Rattle.journal_defs.specs.Directory.{Pattern, patterns}
use Rattle.journal_defs.specs.Surviving.{reigns}
use Rattle.journal_defs.specs.Sequence.{Records, entry_with}
use Rattle.journal_defs.specs.Growth.{AreEntries, AreNumbered, with_more}
use Rattle.journal_defs.specs.Epochs.{chosen, block_of}
use Rattle.journal_defs.specs.Stands.{in_generation}
use Rattle.journal_defs.specs.Split.{split, mask_of, IsSplit}
use Rattle.journal_defs.specs.Fit.{IsSoundImage, HasFewNodes, region_of_update}
use Rattle.journal_laws.proofs.Appending.{journal_same}
use Rattle.journal_laws.proofs.ImageSteps.{all_both}
use Rattle.instance_file.specs.declared.instance.Instance.{Instance}
use Rattle.instance_file.specs.Instance as instances
use Rattle.jnl_file.specs.Journal as journals
use Rattle.global_dir.specs.Directory.{Mapping}
use Rattle.tp_commit.specs.Parts.{PartRecords, recorded}
use Rattle.region_journals.specs.declared.journals.RegionJournal.{RegionJournal}
use Rattle.region_journals.specs.Fronts.{IsNewestFile, HasFirst}
use Rattle.region_journals.specs.declared.journals.RegionJournals.{RegionJournals}
use Rattle.region_journals.specs.Journals.{AreReady, KeepsJournals, ArePrepared, part_in, listed}
use Rattle.block_laws.specs.Several.{MayAppendAll}
use Rattle.site_defs.specs.Contents.{Contents, NO_LEFTOVER}
use Rattle.site_defs.specs.Behind.{parts_of_each}
use Rattle.site_defs.specs.Fronts.{with_sequence}
use Rattle.site_defs.specs.Stands.{IsSite, HasLeft}
use Rattle.site_store.specs.declared.memory.Memory.{Memory}
use Rattle.site_store.specs.declared.layout.Layout.{Layout}
use Rattle.site_store.specs.Finding.{HasLayout}
use Rattle.region_store.specs.Joined.{joined, AreChanged}
use Rattle.site_store.specs.Site.{Remembers, IsReady, AreHeld, Keeps, IsOpen, HasReign, HasRoomFor, AreOnBlocks, with_entry, count_of}
use Rattle.site_store.proofs.OnBlocks.{on_same, on_more, part_plain}
use Rattle.site_store.proofs.Waiting as waiting
use Rattle.site_store.proofs.HeldRegions.{held_stays, held_changed, no_journal, synced_stays}
use Rattle.site_store.specs.Committing.{IsSameSite, IsSameMemory, IsOwnJournal, ArePartsOf, parts_of, AddsPlaces, IsSameIndex}
use Rattle.site_store.proofs.Frames as frames
use Rattle.site_store.proofs.Remembered.{remembered_length, globals_more}
use Rattle.site_store.proofs.Standing.{reads_of, reads_so, told_of, still, keeps_images}
use Rattle.site_store.proofs.Entries as entries
use Rattle.site_store.proofs.Emptied.{none_left}
use Rattle.site_store.proofs.Places.{counts_places, same_self, same_count}
use Rattle.site_store.proofs.Indexing.{stand_same}
use Rattle.site_store.proofs.Indexed.{index_entered}
use Rattle.site_store.proofs.OpenedTo.{one_image}
use Rattle.journal_laws.proofs.Merging as merging
use Rattle.site_store.proofs.Newest as newest
use Rattle.site_store.proofs.Parts.{parts_more}
use Rattle.entry_index.specs.Found.{IsWhole}

-- the parts that were appended are those of the transaction
pub parts_appended : (v : View) (s : Memory) (t : Transaction) (parts : PartRecords) (before js : List RegionJournal) (hard waiting : ℕ → List JournalRecord) → length js ≡ length before → length before ≤ MOST_REGIONS
    → ArePartsOf s t parts → KeepsJournals v hard (λ r. waiting r ++ listed (part_in parts r)) js → KeepsJournals v hard (λ r. waiting r ++ listed (recorded (parts_of s t r))) js
parts_appended v s t parts before js hard waiting many few are keeps = record {
  has = λ r x there. subst (λ (o : Option JournalRecord). journals.HasRecords v x.journal (record { hard = hard r; opening = []; closed = waiting r ++ listed o })) (is r x there) (keeps.has r x there);
  none_waits = λ r x there none. subst (λ (o : Option JournalRecord). waiting r ++ listed o ≡ []) (is r x there) (keeps.none_waits r x there none);
}
  where
    is : (r : ℕ) (x : RegionJournal) → slice_get js r ≡ Some x → part_in parts r ≡ recorded (parts_of s t r)
    is r x there = let low = slice_get_within js r x there in are.each r (omega (arith, low, many, few))

-- the instance file isn't a journal's
pub no_instance : (g n : ℕ) → IsNewestFile g n INSTANCE → ⊥
no_instance g n i = absurd (omega (arith, i.is))

-- What preparing an entry leaves: no image is new, and of the site only its journals have more room.
pub record Prepares (v w : View) (old mid : Memory) : Type 0 where
  pub ready : IsReady v old
  pub ready_after : IsReady w mid
  pub state : (hard waiting : ℕ → List JournalRecord) → KeepsJournals v hard waiting old.journals.journals.items → KeepsJournals w hard waiting mid.journals.journals.items
  pub same : IsSameSite old mid
  pub entries : IsSameIndex old.entries mid.entries
  pub changed : AreChanged old.globals mid.globals
  pub moments : AtEachMoment v w (Image v)
  pub stays : OthersStay (IsOwnJournal old) v w

-- a prepared site with the places that it had before
abbrev pub with_places : Memory → Memory → Memory
with_places old mid = record { instance = mid.instance; layout = mid.layout; journals = mid.journals; entries = old.entries; globals = mid.globals; hardened = mid.hardened; stamp = mid.stamp }

ready_before : (v w : View) (old mid : Memory) → IsReady v old → IsReady w mid → mid.instance ≡ old.instance → IsReady w (with_places old mid)
ready_before v w old mid before ready same = record {
  instance = ready.instance;
  layout = ready.layout;
  journals = ready.journals;
  each_region = ready.each_region;
  regions = ready.regions;
  few = before.few;
  whole = before.whole;
  some_place = before.some_place;
  each_place = before.each_place ∙ ap (λ (i : Instance). length (regions i.records)) (sym same);
}

pub prepares_of : (v w : View) (old mid : Memory) → IsReady v old → IsReady w mid
    → ((hard waiting : ℕ → List JournalRecord) → KeepsJournals v hard waiting old.journals.journals.items → KeepsJournals w hard waiting mid.journals.journals.items)
    → IsSameSite old mid → AreChanged old.globals mid.globals → AtEachMoment v w (Image v) → OthersStay (IsOwnJournal old) v w → Prepares v w old (with_places old mid)
prepares_of v w old mid before ready state same changed moments stays = record {
  ready = before;
  ready_after = ready_before v w old mid before ready same.instance;
  state = state;
  same = record { instance = same.instance; layout = same.layout; hardened = same.hardened; stamp = same.stamp };
  entries = same_self old.entries;
  changed = changed;
  moments = moments;
  stays = stays;
}

pub keeps_prepared : (v w : View) (c : Contents) (h : ℕ) (old mid : Memory) → Prepares v w old mid → IsLawful w → Keeps v c h old → Keeps w c h mid
keeps_prepared v w c h old mid p lawful k =
    keeps_images v w c h old mid k lawful (still v w (IsOwnJournal old) p.stays (told_of v c h old k)) (λ f now. holds_now v w (Image v) lawful p.moments f now)
    (subst (λ (i : Instance). instances.HasRecords w i c.instance) (sym p.same.instance)
    (frames.records_stay v w (IsOwnJournal old) old.instance p.stays (no_instance (generation old.instance.records) (length (regions old.instance.records))) c.instance k.instance_file))
    (p.state k.newer k.waits k.journal_files) p.changed p.entries

pub open_prepared : (v w : View) (told : Bool) (c : Contents) (h : ℕ) (old mid : Memory) → Prepares v w old mid → IsSameMemory old mid → IsLawful w → IsOpen v told c h old → IsOpen w told c h mid
open_prepared v w told c h old mid p same lawful is = record {
  remembered = record {
    instance = ap (λ (i : Instance). i.records) same.same.instance ∙ is.remembered.instance;
    count = same_count old.entries mid.entries same.entries ∙ is.remembered.count;
    globals = same.globals ∙ is.remembered.globals;
    hardened = same.same.hardened ∙ is.remembered.hardened;
  };
  kept = λ known. keeps_prepared v w c h old mid p lawful (is.kept known);
}

pub prepare_moments : (v w : View) (c : Contents) (h : ℕ) (old : Memory) → AtEachMoment v w (Image v) → IsOpen v true c h old → AtEachMoment v w (λ f. IsSite f (with_sequence c (take h c.sequence)))
prepare_moments v w c h old run is = weaker v w (Image v) (λ f. IsSite f (with_sequence c (take h c.sequence))) (λ f was. (is.kept refl).images f was) run

-- each moment of an append to these journals
abbrev pub AppendMoments : View → View → List RegionJournal → Type 0
AppendMoments w x js = (g : ℕ) (hard waiting : ℕ → List JournalRecord) → AreReady w g js → KeepsJournals w hard waiting js → AtEachMoment w x (OnlyIn w (IsNewestFile g (length js)) (HasFirst g (length js) hard waiting (λ r. 0)))

own_records : (v w : View) (c : Contents) (h : ℕ) (old mid : Memory) → Prepares v w old mid → Remembers c h old → mid.instance.records ≡ c.instance
own_records v w c h old mid p m = ap (λ (i : Instance). i.records) p.same.instance ∙ m.instance

pub append_run : (w x : View) (c : Contents) (h : ℕ) (mid : Memory) (k : Keeps w c h mid) → IsReady w mid → mid.instance.records ≡ c.instance → AppendMoments w x mid.journals.journals.items
    → AtEachMoment w x (OnlyIn w (IsNewestFile (suc k.g) (length (regions c.instance))) (HasFirst (suc k.g) (length (regions c.instance)) k.newer k.waits (λ r. 0)))
append_run w x c h mid k ready own run =
    subst (λ (n : ℕ). AtEachMoment w x (OnlyIn w (IsNewestFile (suc k.g) n) (HasFirst (suc k.g) n k.newer k.waits (λ r. 0)))) (newest.count w c h mid k ready own)
    (run (suc k.g) k.newer k.waits (newest.are_ready w c h mid k ready own) k.journal_files)

pub append_moments : (w x : View) (c : Contents) (h : ℕ) (mid : Memory) → Keeps w c h mid → IsReady w mid → mid.instance.records ≡ c.instance → AppendMoments w x mid.journals.journals.items → AtEachMoment w x (λ f. IsSite f (with_sequence c (take h c.sequence)))
append_moments w x c h mid k ready own run =
    weaker w x (OnlyIn w (IsNewestFile (suc k.g) (length (regions c.instance))) (HasFirst (suc k.g) (length (regions c.instance)) k.newer k.waits (λ r. 0))) (λ f. IsSite f (with_sequence c (take h c.sequence)))
    (λ f q. newest.none_site w c h mid k ready own q.others.0 f q.others.1 q.others.2 q.here) (append_run w x c h mid k ready own run)

-- through both
pub commit_moments : (v w x : View) (c : Contents) (h : ℕ) (old mid : Memory) → IsLawful w → Prepares v w old mid → AppendMoments w x mid.journals.journals.items → IsOpen v true c h old → AtEachMoment v x (λ f. IsSite f (with_sequence c (take h c.sequence)))
commit_moments v w x c h old mid lawful p run is =
    then_more v w x (λ f. IsSite f (with_sequence c (take h c.sequence))) (λ f. IsSite f (with_sequence c (take h c.sequence))) (prepare_moments v w c h old p.moments is)
    (append_moments w x c h mid (keeps_prepared v w c h old mid p lawful (is.kept refl)) p.ready_after (own_records v w c h old mid p is.remembered) run) (λ f q. q)

-- and nothing lies behind the hardened entries
abbrev IsBare : Contents → ℕ → Files → Type 0
IsBare c h f = HasLeft f (with_sequence c (take h c.sequence)) NO_LEFTOVER

pub prepare_bare : (v w : View) (c : Contents) (h : ℕ) (old : Memory) → AtEachMoment v w (Image v) → IsOpen v true c h old → AtEachMoment v w (IsBare c h)
prepare_bare v w c h old run is = weaker v w (Image v) (IsBare c h) (λ f was. none_left v c h old f (is.kept refl) was) run

pub append_bare : (w x : View) (c : Contents) (h : ℕ) (mid : Memory) → Keeps w c h mid → IsReady w mid → mid.instance.records ≡ c.instance → AppendMoments w x mid.journals.journals.items → AtEachMoment w x (IsBare c h)
append_bare w x c h mid k ready own run =
    weaker w x (OnlyIn w (IsNewestFile (suc k.g) (length (regions c.instance))) (HasFirst (suc k.g) (length (regions c.instance)) k.newer k.waits (λ r. 0))) (IsBare c h)
    (λ f q. newest.none_behind w c h mid k ready own q.others.0 f q.others.1 q.others.2 q.here) (append_run w x c h mid k ready own run)

pub commit_bare : (v w x : View) (c : Contents) (h : ℕ) (old mid : Memory) → IsLawful w → Prepares v w old mid → AppendMoments w x mid.journals.journals.items → IsOpen v true c h old → AtEachMoment v x (IsBare c h)
commit_bare v w x c h old mid lawful p run is =
    then_more v w x (IsBare c h) (IsBare c h) (prepare_bare v w c h old p.moments is)
    (append_bare w x c h mid (keeps_prepared v w c h old mid p lawful (is.kept refl)) p.ready_after (own_records v w c h old mid p is.remembered) run) (λ f q. q)

pub quiet_bare : (v : View) (c : Contents) (h : ℕ) (old : Memory) → IsOpen v true c h old → AtEachMoment v v (IsBare c h)
quiet_bare v c h old is = started v (IsBare c h) (λ f now. none_left v c h old f (is.kept refl) now)

pub commit_stands : (v x : View) (c : Contents) (h : ℕ) → IsLawful x → AtEachMoment v x (λ f. IsSite f (with_sequence c (take h c.sequence))) → IfSome x.content (λ f. IsSite f (with_sequence c (take h c.sequence)))
commit_stands v x c h lawful run = reads_of x (λ f. IsSite f (with_sequence c (take h c.sequence))) lawful (holds_now v x (λ f. IsSite f (with_sequence c (take h c.sequence))) lawful run)

-- after it
few_longer : (seq : Sequence) (e : Entry) → HasFewNodes seq → HasRoomFor (state seq) e.transaction.updates → HasFewNodes (seq ++ e ∷ [])
few_longer seq e few room k = subst (λ (l : List Update). globals.len (fold apply globals.empty (take k l)) ≤ MOST_NODES) (sym all) (elim (cases_lt (length us) k) [
  | inr low ↦ subst (λ (l : List Update). globals.len (fold apply globals.empty l) ≤ MOST_NODES) (sym (take-append-le k us e.transaction.updates low)) (few k)
  | inl past ↦
      let place : k ≡ length us + (k - length us) = omega (arith, past) in
      let front : take k (us ++ e.transaction.updates) ≡ us ++ take (k - length us) e.transaction.updates = ap (λ (n : ℕ). take n (us ++ e.transaction.updates)) place ∙ take-append-add us e.transaction.updates (k - length us) in
      subst (λ g. globals.len g ≤ MOST_NODES) (sym (ap (fold apply globals.empty) front ∙ fold-append apply globals.empty us (take (k - length us) e.transaction.updates))) (room (k - length us) (omega (arith, past)))
])
  where
    us : List Update
    us = flat_map (λ (d : Entry). d.transaction.updates) seq

    all : flat_map (λ (d : Entry). d.transaction.updates) (seq ++ e ∷ []) ≡ us ++ e.transaction.updates
    all = flat_map-append (λ (d : Entry). d.transaction.updates) seq (e ∷ []) ∙ ap (λ (l : List Update). us ++ l) (append-nil e.transaction.updates)

-- What has been done to a site that has one entry more.
pub record Committed (v w x : View) (old mid new : Memory) (t : code.Transaction) (parts : PartRecords) : Type 0 where
  pub prepares : Prepares v w old mid
  -- under this stamp
  pub stamp : Stamp
  pub under : stamp_at (count_of old + 1) (reigns old.instance.records) ≡ Some stamp
  pub adds : AddsPlaces parts mid.journals.journals.items mid.entries new.entries
  pub made : joined new.globals ≡ fold apply (joined old.globals) t.updates
  pub are_parts : ArePartsOf old (transaction_value t) parts
  pub room : HasRoomFor (joined old.globals) t.updates
  pub journals : (g : ℕ) → AreReady w g mid.journals.journals.items → AreReady x g new.journals.journals.items
  pub state : (hard waiting : ℕ → List JournalRecord) → KeepsJournals w hard waiting mid.journals.journals.items → KeepsJournals x hard (λ r. waiting r ++ listed (part_in parts r)) new.journals.journals.items
  pub count : length new.journals.journals.items ≡ length mid.journals.journals.items
  pub moments : AppendMoments w x mid.journals.journals.items
  pub stays : (g : ℕ) → AreReady w g mid.journals.journals.items → OthersStay (IsNewestFile g (length mid.journals.journals.items)) w x
  pub instance : new.instance ≡ mid.instance
  pub layout : new.layout ≡ mid.layout
  pub globals : new.globals ≡ mid.globals
  pub hardened : new.hardened ≡ mid.hardened

abbrev pub entry_for : Stamp → code.Transaction → Entry
entry_for stamp t = record { stamp = stamp; transaction = transaction_value t }

abbrev pub longer : Contents → Entry → Contents
longer c e = with_sequence c (c.sequence ++ e ∷ [])

-- its number, and its stamp
number_of : (c : Contents) (h : ℕ) (s : Memory) → Remembers c h s → h ≤ length c.sequence → count_of s + 1 ≡ h + length (drop h c.sequence) + 1
number_of c h s m low = let count = remembered_length c h s m in let rest = length-drop h c.sequence in omega (arith, count, rest, low)

pub stamp_of : (c : Contents) (h : ℕ) (s : Memory) (stamp : Stamp) → Remembers c h s → stamp_at (count_of s + 1) (reigns s.instance.records) ≡ Some stamp → stamp_at (count_of s + 1) (reigns c.instance) ≡ Some stamp
stamp_of c h s stamp m under = subst (λ (l : List InstanceRecord). stamp_at (count_of s + 1) (reigns l) ≡ Some stamp) m.instance under

pub stamp_in : (c : Contents) (h : ℕ) (s : Memory) (stamp : Stamp) → Remembers c h s → stamp_at (count_of s + 1) (reigns c.instance) ≡ Some stamp → stamp_at (count_of s + 1) (reigns s.instance.records) ≡ Some stamp
stamp_in c h s stamp m under = subst (λ (l : List InstanceRecord). stamp_at (count_of s + 1) (reigns l) ≡ Some stamp) (sym m.instance) under

-- that of the site's own reign
pub own_stamp : (c : Contents) (h : ℕ) (s : Memory) (r : HasReign s) → Remembers c h s → stamp_at (count_of s + 1) (reigns c.instance) ≡ Some (stamp_value r.stamp)
own_stamp c h s r m = stamp_of c h s (stamp_value r.stamp) m (r.covers (count_of s + 1) (omega arith))

-- the entry
abbrev pub entry_of : {v w x : View} {old mid new : Memory} {t : code.Transaction} {parts : PartRecords} → Committed v w x old mid new t parts → Entry
entry_of {t = t} p = entry_for p.stamp t

remembers_longer : (v w x : View) (c : Contents) (h : ℕ) (old mid new : Memory) (t : code.Transaction) (parts : PartRecords) (p : Committed v w x old mid new t parts) → Remembers c h old → Remembers (longer c (entry_of p)) h new
remembers_longer v w x c h old mid new t parts p m =
    record {
      instance = ap (λ (i : Instance). i.records) (p.instance ∙ p.prepares.same.instance) ∙ m.instance;
      count = counts_places parts mid.journals.journals.items mid.entries new.entries p.prepares.ready_after.some_place p.prepares.ready_after.whole p.adds
          ∙ ap (λ (k : ℕ). k + 1) (same_count old.entries mid.entries p.prepares.entries) ∙ ap (λ (k : ℕ). k + 1) m.count ∙ sym (length-append c.sequence (entry_of p ∷ []));
      globals = globals_more (joined old.globals) (joined new.globals) c.sequence (entry_of p) m.globals p.made;
      hardened = p.hardened ∙ p.prepares.same.hardened ∙ m.hardened;
    }

-- its directory is that of the instance file
directory_of : (v : View) (c : Contents) (h : ℕ) (s : Memory) → IsReady v s → Remembers c h s → s.layout.directory.patterns ≡ patterns c.instance
directory_of v c h s ready m = ap (λ (d : Mapping). d.patterns) ready.layout.directory ∙ ap patterns m.instance

-- the parts by the patterns of the contents
abbrev region_in : Contents → Update → ℕ
region_in c = region_of_update (patterns c.instance)

abbrev own_parts : Contents → Memory → Transaction → ℕ → Option Part
own_parts c s t = split (region_in c) (count_of s + 1) (mask_of (region_in c) t.updates) t

record AreOwn (c : Contents) (s : Memory) (t : Transaction) (parts : PartRecords) : Type 0 where
  each : (r : ℕ) → r < MOST_REGIONS → part_in parts r ≡ recorded (own_parts c s t r)
  is_split : IsSplit (region_in c) (mask_of (region_in c) t.updates) t
  no_other : (r : ℕ) → length (regions c.instance) ≤ r → own_parts c s t r ≡ None

are_own : (v : View) (c : Contents) (h : ℕ) (s : Memory) (t : Transaction) (parts : PartRecords) → IsReady v s → Remembers c h s → ArePartsOf s t parts → AreOwn c s t parts
are_own v c h s t parts ready m are =
    let same = directory_of v c h s ready m in
    let count : s.layout.directory.regions ≡ length (regions c.instance) = ap (λ (d : Mapping). d.regions) ready.layout.directory ∙ ap (λ (l : List InstanceRecord). length (regions l)) m.instance in
    record {
      each = λ r low. subst (λ (ps : List Pattern). part_in parts r ≡ recorded (split (region_of_update ps) (count_of s + 1) (mask_of (region_of_update ps) t.updates) t r)) same (are.each r low);
      is_split = subst (λ (ps : List Pattern). IsSplit (region_of_update ps) (mask_of (region_of_update ps) t.updates) t) same are.is_split;
      no_other = λ r past. subst (λ (ps : List Pattern). split (region_of_update ps) (count_of s + 1) (mask_of (region_of_update ps) t.updates) t r ≡ None) same (are.no_other r (omega (arith, past, count)));
    }

-- the records that wait then
waits_longer : (x : View) (hard waits : ℕ → List JournalRecord) (part : ℕ → Option Part) (parts : PartRecords) (js : List RegionJournal) → length js ≤ MOST_REGIONS → ((r : ℕ) → r < MOST_REGIONS → part_in parts r ≡ recorded (part r))
    → KeepsJournals x hard (λ r. waits r ++ listed (part_in parts r)) js → KeepsJournals x hard (λ r. waits r ++ listed (recorded (part r))) js
waits_longer x hard waits part parts js few each kept = record {
  has = λ r y is. subst (λ (l : List JournalRecord). journals.HasRecords x y.journal (record { hard = hard r; opening = []; closed = l })) (sym (more r y is)) (kept.has r y is);
  none_waits = λ r y is none. more r y is ∙ kept.none_waits r y is none;
}
  where
    more : (r : ℕ) (y : RegionJournal) → slice_get js r ≡ Some y → waits r ++ listed (recorded (part r)) ≡ waits r ++ listed (part_in parts r)
    more r y is = ap (λ (o : Option JournalRecord). waits r ++ listed o) (sym (each r (let there = slice_get_within js r y is in omega (arith, there, few))))

pub instance_kept : (w x : View) (mid new : Memory) (g n : ℕ) (rs : List InstanceRecord) → OthersStay (IsNewestFile g n) w x → new.instance ≡ mid.instance → instances.HasRecords w mid.instance rs → instances.HasRecords x new.instance rs
instance_kept w x mid new g n rs stays same has =
    subst (λ (i : Instance). instances.HasRecords x i rs) (sym same) (frames.records_stay w x (IsNewestFile g n) mid.instance stays (no_instance g n) rs has)

keeps_longer : (v w x : View) (c : Contents) (h : ℕ) (old mid new : Memory) (t : code.Transaction) (parts : PartRecords) (p : Committed v w x old mid new t parts) → Keeps v c h old → Remembers c h old → IsLawful w → IsLawful x → Keeps x (longer c (entry_of p)) h new
keeps_longer v w x c h old mid new t parts p before m lawful lawful_after =
    let e = entry_of p in
    let k = keeps_prepared v w c h old mid p.prepares lawful before in
    let ready = p.prepares.ready_after in
    let own : mid.instance.records ≡ c.instance = own_records v w c h old mid p.prepares m in
    let are = are_own v c h old (transaction_value t) parts p.prepares.ready m p.are_parts in
    let part : (ℕ → Option Part) = own_parts c old (transaction_value t) in
    let under : stamp_at (count_of old + 1) (reigns c.instance) ≡ Some p.stamp = stamp_of c h old p.stamp m p.under in
    let last : count_of old + 1 ≡ suc (length c.sequence) = (let count = m.count in omega (arith, count)) in
    let in_newest = append_run w x c h mid k ready own p.moments in
    let q = holds_now w x (OnlyIn w (IsNewestFile (suc k.g) (length (regions c.instance))) (HasFirst (suc k.g) (length (regions c.instance)) k.newer k.waits (λ r. 0))) lawful_after in_newest in
    let stays = p.stays (suc k.g) (newest.are_ready w c h mid k ready own) in
    let few = newest.few w c h mid k ready own in
    let site : (f : Files) → Image x f → IsSite f (with_sequence c (take h c.sequence)) = λ f now. newest.none_site w c h mid k ready own (q f now).others.0 f (q f now).others.1 (q f now).others.2 (q f now).here in
    let many : length (regions k.records.instance) ≡ length (regions c.instance) = ap (λ (l : List InstanceRecord). length (regions l)) k.newest.instance in
    let front : take h c.sequence ≡ take h (c.sequence ++ e ∷ []) = sym (take-append-le h c.sequence (e ∷ []) k.count) in
    record {
      count = let size = length-append c.sequence (e ∷ []) in let low = k.count in omega (arith, size, low);
      few_nodes = few_longer c.sequence e k.few_nodes (subst (λ g. HasRoomFor g t.updates) m.globals p.room);
      reads = subst (λ (seq : Sequence). IsSomeAnd x.content (λ files. IsSite files (with_sequence c seq))) front
          (reads_so x (λ files. IsSite files (with_sequence c (take h c.sequence))) lawful_after (still w x (IsNewestFile (suc k.g) (length mid.journals.journals.items)) stays (told_of w c h mid k)) site);
      images = λ f now. subst (λ (seq : Sequence). IsSite f (with_sequence c seq)) front (site f now);
      records = k.records;
      g = k.g;
      last = k.last;
      older = k.older;
      newer = k.newer;
      waits = λ r. k.waits r ++ listed (recorded (part r));
      newest = record { generation = k.newest.generation; not_last = k.newest.not_last; instance = k.newest.instance; whole = k.newest.whole; begins = k.newest.begins; begun = k.newest.begun };
      sound = λ f now. subst (IsSoundImage f k.records) front (subst (λ (u : Records). IsSoundImage f u (take h c.sequence)) (sym (newest.is_base w c h mid k ready own))
          (newest.none_image w c h mid k ready own (q f now).others.0 f (q f now).others.1 (q f now).others.2 (q f now).here));
      older_files = λ f now r here.
          journal_same (q f now).others.0 f r k.g (k.last r) (k.older r) (λ n le. (q f now).others.2 (journal_file n r) (λ i. omega (arith, i.is, i.inside, le, here, few))) (k.older_files (q f now).others.0 (q f now).others.1 r here);
      older_stand = λ f now r here.
          stand_same (q f now).others.0 f r k.g (k.older r) (λ n le. (q f now).others.2 (journal_file n r) (λ i. omega (arith, i.is, i.inside, le, here, few))) (k.older_stand (q f now).others.0 (q f now).others.1 r here);
      none_past = k.none_past;
      blocks = λ f now. subst (AreOnBlocks f (with_more k.records (λ r. map (in_generation (suc k.g)) (k.waits r ++ listed (recorded (part r))))) h) (sym p.globals)
          (on_same (q f now).others.0 f (with_more k.records (λ r. map (in_generation (suc k.g)) (k.waits r ++ listed (recorded (part r))))) h mid.globals (λ r here. (q f now).others.2 (database_file r) (λ i. omega (arith, i.is, i.inside, here, few, many)))
          (on_more (q f now).others.0 (with_more k.records (λ r. map (in_generation (suc k.g)) (k.waits r))) (with_more k.records (λ r. map (in_generation (suc k.g)) (k.waits r ++ listed (recorded (part r))))) h mid.globals
          (λ r. map (in_generation (suc k.g)) (listed (recorded (part r)))) refl (λ r here. waiting.more_behind (suc k.g) (k.records.journal r) (k.waits r) (listed (recorded (part r)))) (λ r here. part_plain k.records.instance h (suc k.g) (part r))
          (k.blocks (q f now).others.0 (q f now).others.1)));
      databases = synced_stays w x (IsNewestFile (suc k.g) (length (regions c.instance))) (length (regions c.instance)) (λ f now. (q f now).others) (no_journal (suc k.g) (length (regions c.instance)) (length (regions c.instance)) few) k.databases;
      no_epoch_past = k.no_epoch_past;
      waiting = k.waiting ++ part ∷ [];
      are_waiting = subst (AreEntries c.instance (suc k.g) h (k.waiting ++ part ∷ [])) (sym (drop-append-le h c.sequence (e ∷ []) k.count))
          (entries.entries_more c.instance (suc k.g) h (count_of old + 1) k.waiting (drop h c.sequence) (region_in c) (mask_of (region_in c) t.updates) (transaction_value t) p.stamp k.are_waiting
          (number_of c h old m k.count) (let same = k.newest.generation in omega (arith, same)) are.is_split under);
      are_parts = ap (λ (l : List (ℕ → Option Part)). l ++ part ∷ []) k.are_parts
          ∙ sym (parts_more (patterns c.instance) h (count_of old + 1) (drop h c.sequence) e (number_of c h old m k.count))
          ∙ ap (parts_of_each (patterns c.instance) h) (sym (drop-append-le h c.sequence (e ∷ []) k.count));
      in_regions = all_both (λ (part : ℕ → Option Part). (r : ℕ) → length (regions c.instance) ≤ r → part r ≡ None) k.waiting (part ∷ []) k.in_regions (are.no_other, tt);
      are_waits = waiting.part_waits c.instance (suc k.g) k.waiting k.waits part k.are_waits are.no_other
          (λ r here. waiting.home_listed c.instance (suc k.g) r (count_of old + 1) (mask_of (region_in c) t.updates) (transaction_value t) (part r) refl);
      may_append = λ f now r here.
          let e = chosen c.instance h (k.records.journal r) in
          let d = (q f now).others in
          let same : f (database_file r) ≡ d.0 (database_file r) = d.2 (database_file r) (λ i. omega (arith, i.is, i.inside, here, few)) in
          waiting.may_both e (block_of (f (database_file r))) (suc k.g) (k.waits r) (listed (recorded (part r)))
          (subst (λ (bytes : List ℕ). MayAppendAll e (block_of bytes) (map (in_generation (suc k.g)) (k.waits r))) (sym same) (k.may_append d.0 d.1 r here))
          (waiting.may_part e (block_of (f (database_file r))) (suc k.g) (part r));
      indexed =
          let image = one_image w w.content (λ files. IsSite files (with_sequence c (take h c.sequence))) k.reads lawful.as_read in
          let mask = mask_of (region_in c) t.updates in
          index_entered w c h mid k ready own image.0 image.1 new.entries parts part e p.adds are.each are.no_other
          (subst (λ (n : ℕ). AreNumbered n part) last (merging.numbers (region_in c) (count_of old + 1) mask (transaction_value t)))
          (subst (λ (n : ℕ). entry_with part (stamp_at n (reigns c.instance)) ≡ Some e) last (entries.split_entry (reigns c.instance) (count_of old + 1) (region_in c) mask (transaction_value t) p.stamp are.is_split under));
      instance_file = instance_kept w x mid new (suc k.g) (length mid.journals.journals.items) c.instance stays p.instance k.instance_file;
      journal_files = waits_longer x k.newer k.waits part parts new.journals.journals.items (let size = p.count in let low = ready.journals.few in omega (arith, size, low)) are.each (p.state k.newer k.waits k.journal_files);
    }

pub with_entry_is : (o : Option code_stamp.Stamp) (stamp : code_stamp.Stamp) (t : Transaction) (c : Contents) → o ≡ Some stamp → with_entry o t c ≡ longer c (record { stamp = stamp_value stamp; transaction = t })
with_entry_is o stamp t c is = ap (λ (y : Option code_stamp.Stamp). with_entry y t c) is

pub open_longer : (v w x : View) (told : Bool) (c : Contents) (h : ℕ) (old mid new : Memory) (t : code.Transaction) (parts : PartRecords) (p : Committed v w x old mid new t parts) → IsLawful w → IsLawful x → IsOpen v told c h old
    → IsOpen x told (longer c (entry_of p)) h new
open_longer v w x told c h old mid new t parts p lawful lawful_after is = record {
  remembered = remembers_longer v w x c h old mid new t parts p is.remembered;
  kept = λ known. keeps_longer v w x c h old mid new t parts p (is.kept known) is.remembered lawful lawful_after;
}

-- open for calls, and under its reign
pub ready_by : (w x : View) (mid new : Memory) → IsReady w mid → ((g : ℕ) → AreReady w g mid.journals.journals.items → AreReady x g new.journals.journals.items) → length new.journals.journals.items ≡ length mid.journals.journals.items
    → ((g : ℕ) → AreReady w g mid.journals.journals.items → OthersStay (IsNewestFile g (length mid.journals.journals.items)) w x) → new.instance ≡ mid.instance → new.layout ≡ mid.layout
    → AreHeld w (length (regions mid.instance.records)) new.globals → count_of new < NUMBERS_END → IsWhole new.entries → new.entries.regions ≡ mid.entries.regions → IsReady x new
ready_by w x mid new ready journals count stays instance layout held few whole wide =
    let g = generation mid.instance.records in
    let many = length (regions mid.instance.records) in
    let low = ready.journals.few in
    let same = ready.each_region in
    record {
      instance = subst (λ (i : Instance). instances.IsReady x i) (sym instance) (frames.ready_stays w x (IsNewestFile g (length mid.journals.journals.items)) mid.instance (stays g ready.journals) (no_instance g (length mid.journals.journals.items)) ready.instance);
      layout = subst (λ (i : Instance). HasLayout i.records new.layout) (sym instance) (subst (HasLayout mid.instance.records) (sym layout) ready.layout);
      journals = subst (λ (i : Instance). AreReady x (generation i.records) new.journals.journals.items) (sym instance) (journals g ready.journals);
      each_region = count ∙ ready.each_region ∙ ap (λ (i : Instance). length (regions i.records)) (sym instance);
      regions = subst (λ (i : Instance). AreHeld x (length (regions i.records)) new.globals) (sym instance)
          (held_stays w x (IsNewestFile g (length mid.journals.journals.items)) many new.globals (stays g ready.journals) (no_journal g (length mid.journals.journals.items) many (omega (arith, low, same))) held);
      few = few;
      whole = whole;
      some_place = subst (λ (n : ℕ). 1 ≤ n) (sym wide) ready.some_place;
      each_place = wide ∙ ready.each_place ∙ ap (λ (i : Instance). length (regions i.records)) (sym instance);
    }

pub ready_after : (w x : View) (mid new : Memory) → IsReady w mid → ((g : ℕ) → AreReady w g mid.journals.journals.items → AreReady x g new.journals.journals.items) → length new.journals.journals.items ≡ length mid.journals.journals.items
    → ((g : ℕ) → AreReady w g mid.journals.journals.items → OthersStay (IsNewestFile g (length mid.journals.journals.items)) w x) → new.instance ≡ mid.instance → new.layout ≡ mid.layout
    → AreChanged mid.globals new.globals → count_of new < NUMBERS_END → IsWhole new.entries → new.entries.regions ≡ mid.entries.regions → IsReady x new
ready_after w x mid new ready journals count stays instance layout changed few whole wide =
    ready_by w x mid new ready journals count stays instance layout (held_changed w (length (regions mid.instance.records)) mid.globals new.globals changed ready.regions) few whole wide

pub reign_stays : (old new : Memory) → HasReign old → new.instance ≡ old.instance → new.stamp ≡ old.stamp → count_of old ≤ count_of new → HasReign new
reign_stays old new r instance stamp more = record {
  stamp = r.stamp;
  is = stamp ∙ r.is;
  covers = λ n past. subst (λ (i : Instance). stamp_at n (reigns i.records) ≡ Some (stamp_value r.stamp)) (sym instance) (r.covers n (omega (arith, past, more)));
}

-- the frame of preparing
pub own_stays : (v w : View) (s : Memory) → IsReady v s → ((g : ℕ) → AreReady v g s.journals.journals.items → OthersStay (IsNewestFile g (length s.journals.journals.items)) v w) → OthersStay (IsOwnJournal s) v w
own_stays v w s ready stays = subst (λ (n : ℕ). OthersStay (IsNewestFile (generation s.instance.records) n) v w) ready.each_region (stays (generation s.instance.records) ready.journals)

-- open for calls, with what is prepared
pub ready_prepared : (v w : View) (old new : Memory) (js : RegionJournals) → IsReady v old → ((g : ℕ) → AreReady v g old.journals.journals.items → AreReady w g js.journals.items) → length js.journals.items ≡ length old.journals.journals.items
    → ((g : ℕ) → AreReady v g old.journals.journals.items → OthersStay (IsNewestFile g (length old.journals.journals.items)) v w) → new.journals ≡ js → new.instance ≡ old.instance → new.layout ≡ old.layout
    → AreChanged old.globals new.globals → count_of new < NUMBERS_END → IsWhole new.entries → new.entries.regions ≡ old.entries.regions → IsReady w new
ready_prepared v w old new js ready journals count stays is instance layout changed few whole wide =
    ready_after v w old new ready (subst (λ (k : RegionJournals). (g : ℕ) → AreReady v g old.journals.journals.items → AreReady w g k.journals.items) (sym is) journals)
    (ap (λ (k : RegionJournals). length k.journals.items) is ∙ count) stays instance layout changed few whole wide

pub state_prepared : (w : View) (hard waiting : ℕ → List JournalRecord) (new : Memory) (js : RegionJournals) → new.journals ≡ js → KeepsJournals w hard waiting js.journals.items → KeepsJournals w hard waiting new.journals.journals.items
state_prepared w hard waiting new js is keeps = subst (λ (k : RegionJournals). KeepsJournals w hard waiting k.journals.items) (sym is) keeps

pub still_prepared : (parts : PartRecords) (new : Memory) (js : RegionJournals) → new.journals ≡ js → ArePrepared parts js.journals.items → ArePrepared parts new.journals.journals.items
still_prepared parts new js is prepared = subst (λ (k : RegionJournals). ArePrepared parts k.journals.items) (sym is) prepared

-- An entry that is in memory, whose journals are as they were: nothing was done on the disk.
module _ (v : View) (old new : Memory) (ready : IsReady v old) (journals : new.journals ≡ old.journals) (same : IsSameSite old new) (changed : AreChanged old.globals new.globals) where
  pub ready_entered : count_of new < NUMBERS_END → IsWhole new.entries → new.entries.regions ≡ old.entries.regions → IsReady v new
  ready_entered few whole wide =
      ready_prepared v v old new old.journals ready (λ g r. r) refl (λ g r. others_same (IsNewestFile g (length old.journals.journals.items)) v) journals same.instance same.layout changed few whole wide

  pub state_entered : (hard waiting : ℕ → List JournalRecord) → KeepsJournals v hard waiting old.journals.journals.items → KeepsJournals v hard waiting new.journals.journals.items
  state_entered hard waiting keeps = subst (λ (k : RegionJournals). KeepsJournals v hard waiting k.journals.items) (sym journals) keeps

  pub entering : IsReady v new → Prepares v v old (with_places old new)
  entering now = prepares_of v v old new ready now state_entered same changed (started v (Image v) (λ f now. now)) (others_same (IsOwnJournal old) v)

-- the parts of a transaction are those of another site with the same layout and as many entries
pub parts_same : (s u : Memory) (t : Transaction) → u.layout ≡ s.layout → count_of u ≡ count_of s → parts_of u t ≡ parts_of s t
parts_same s u t layout count =
    ap (λ (l : Layout). split (region_of_update l.directory.patterns) (count_of u + 1) (mask_of (region_of_update l.directory.patterns) t.updates) t) layout
    ∙ ap (λ (n : ℕ). split (region_of_update s.layout.directory.patterns) (n + 1) (mask_of (region_of_update s.layout.directory.patterns) t.updates) t) count

pub appended_as : (x : View) (old mid new : Memory) (t : Transaction) (hard waiting : ℕ → List JournalRecord) → mid.layout ≡ old.layout → count_of mid ≡ count_of old
    → KeepsJournals x hard (λ r. waiting r ++ listed (recorded (parts_of mid t r))) new.journals.journals.items → KeepsJournals x hard (λ r. waiting r ++ listed (recorded (parts_of old t r))) new.journals.journals.items
appended_as x old mid new t hard waiting layout count keeps =
    subst (λ (f : ℕ → Option Part). KeepsJournals x hard (λ r. waiting r ++ listed (recorded (f r))) new.journals.journals.items) (parts_same old mid t layout count) keeps
