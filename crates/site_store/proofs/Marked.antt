-- A site that is brought to an epoch.
use Rattle.std.proofs.Common.{◌≡◌, ◌⊎◌, inl, inr, ℕ, suc, ◌≤◌, ◌<◌, Bool, true, List, [], ◌++◌, length, map, take, None, Some, refl, sym, ◌∙◌, ap, subst, arith, append-nil}
use Rattle.std.specs.Prelude.{◌==◌, ◌&&◌, false, nat_lt, IfSome}
use Rattle.std.specs.FinMap as globals
use Rattle.std.proofs.lemmas.Bool.{cases_lt}
use Rattle.std.proofs.lemmas.Bool.Decides.{nat_tests}
use Rattle.std.proofs.Math.Path.{fun_ext}
use Rattle.std.proofs.Math.Seq.{take-length, drop-length}
use Rattle.global_defs.specs.declared.limits.TheConstants.{MOST_REGIONS, NUMBERS_END}
use Rattle.disk_defs.specs.Disk.{Files, View, Image, IsLawful, AtEachMoment}
use Rattle.disk_defs.specs.Frames.{OthersStay, OnlyIn}
use Rattle.disk_defs.proofs.Moments.{weaker, holds_now}
use Rattle.global_defs.specs.Entry.{Globals, Sequence, state}
use Rattle.journal_defs.specs.Numbers.{INSTANCE, journal_file}
use Rattle.journal_defs.specs.Journal.{JournalRecord}
use Rattle.journal_defs.specs.Instance.{InstanceRecord, generation, regions}
use Rattle.journal_defs.specs.Directory.{Pattern, patterns, region_of}
use Rattle.journal_defs.specs.Sequence.{Placed, Records}
use Rattle.journal_defs.specs.Stands.{in_generation}
use Rattle.journal_defs.specs.Growth.{AreEntries, with_more}
use Rattle.journal_defs.specs.Epochs.{chosen, first_without}
use Rattle.journal_defs.specs.Sound.{region_state, NoEpochPast}
use Rattle.journal_defs.specs.Fit.{IsSoundImage}
use Rattle.journal_laws.proofs.Appending.{journal_same}
use Rattle.journal_laws.proofs.Readings.{records_one}
use Rattle.instance_file.specs.declared.instance.Instance.{Instance}
use Rattle.instance_file.specs.Instance as instances
use Rattle.region_journals.specs.declared.journals.RegionJournal.{RegionJournal}
use Rattle.region_journals.specs.Journals.{AreReady, KeepsJournals}
use Rattle.region_epochs.specs.Files.{IsEpochFile}
use Rattle.region_epochs.specs.Kept.{IsEpochFront, Images, WithEpoch, HasMore, IsStillSound, IsTogether, EachIsSound, IsRegionKept, IsKept}
use Rattle.region_epochs.specs.Taken.{IsTaken, HasSameNodes, mark_of}
use Rattle.block_laws.specs.Fronts as fronts
use Rattle.region_store.specs.Region.{Standing}
use Rattle.region_store.specs.Joined.{Joined, AreJoined, region_at}
use Rattle.region_store.proofs.Lists.{there}
use Rattle.region_store.proofs.Making.{region_there}
use Rattle.region_store.proofs.Parts.{part_at, joined_is}
use Rattle.site_defs.specs.Contents as site
use Rattle.site_defs.specs.Contents.{Contents, bare}
use Rattle.site_defs.specs.Epochs.{marked, with_epochs, MayMark, MayMarkLeft}
use Rattle.site_defs.specs.Fronts.{with_sequence}
use Rattle.site_defs.specs.Stands.{IsSite}
use Rattle.site_defs.specs.Behind.{IsSiteWith}
use Rattle.site_store.specs.declared.memory.Memory.{Memory}
use Rattle.site_store.specs.Needing.{without_behind, NoneNeeds}
use Rattle.site_store.specs.Site.{Remembers, AreHeld, IsReady, AreOnBlocks, Keeps, IsOpen, IsSettled, count_of}
use Rattle.site_store.proofs.Frames as frames
use Rattle.site_store.proofs.Standing.{reads_of, reads_so, told_of, still, read_image}
use Rattle.site_store.proofs.Waiting as waiting
use Rattle.site_store.proofs.Newest as newest
use Rattle.site_store.proofs.Parts.{no_entry_no_part}
use Rattle.site_store.proofs.OnBlocks.{on_same}
use Rattle.site_store.proofs.Fronted as fronted
use Rattle.site_store.proofs.Fronted.{has_epoch, one_if}
use Rattle.site_store.specs.Finding.{HasLayout}
use Rattle.block_laws.specs.Nodes.{union}
use Rattle.entry_index.specs.Found.{entry_count, IsWhole}
use Rattle.entry_index.specs.Among.{IsIndexOf}
use Rattle.entry_index.specs.declared.index.EntryIndex.{EntryIndex}
use Rattle.entry_index.proofs.AmongLaws.{index_behind}
use Rattle.journal_defs.specs.Surviving.{reigns}
use Rattle.site_store.proofs.Indexing.{stand_same}
use Rattle.region_epochs.proofs.Fronts.{with_none}
use Rattle.block_laws.proofs.Waiting.{begins_more}

-- what an epoch may change is no instance file, no text and no older journal
away_instance : (g n : ℕ) → IsEpochFile g n INSTANCE → ⊥
away_instance g n i = elim i [ inl j ↦ (let at = j.is in omega (arith, at)) | inr d ↦ (let at = d.is in omega (arith, at)) ]

-- the parts of a state by two equal states
same_part : (ps qs : List Pattern) (r : ℕ) (g h : Globals) → ps ≡ qs → g ≡ h → globals.retain_keys g (λ k. region_of ps k.name == r) ≡ globals.retain_keys h (λ k. region_of qs k.name == r)
same_part ps qs r g h p e = λ i. globals.retain_keys (e i) (λ k. region_of (p i) k.name == r)

-- the journals and regions of a site that is open for calls
pub together_of : (v : View) (s : Memory) → IsReady v s → IsTogether v (generation s.instance.records) s.journals.journals.items s.globals
together_of v s ready =
    let count = ready.regions.count in
    record {
      ready = ready.journals;
      count = ready.each_region ∙ sym ready.regions.count;
      files = λ r here. ready.regions.files r (omega (arith, here, count));
      held = λ r here. ready.regions.held r (omega (arith, here, count));
    }

-- Before: an open site, all of whose entries are hardened, and in whose journals nothing waits.
module _ (v : View) (c : Contents) (s : Memory) (k : Keeps v c (length c.sequence) s) (none : (r : ℕ) → k.waits r ≡ []) (m : Remembers c (length c.sequence) s) (ready : IsReady v s) (are : AreJoined s.globals) (lawful : IsLawful v) where
  own : s.instance.records ≡ c.instance
  own = m.instance

  pub site_now : (f : Files) → Image v f → IsSite f c
  site_now f now = subst (λ (seq : Sequence). IsSite f (with_sequence c seq)) (take-length c.sequence) (k.images f now)

  many : length (regions k.records.instance) ≡ length (regions c.instance)
  many = ap (λ (l : List InstanceRecord). length (regions l)) k.newest.instance

  pub sound : (f : Files) → Image v f → IsSoundImage f k.records c.sequence
  sound f now = subst (IsSoundImage f k.records) (take-length c.sequence) (k.sound f now)

  nothing_waits : k.waits ≡ (λ r. [])
  nothing_waits = fun_ext none

  pub on_now : (f : Files) → Image v f → AreOnBlocks f k.records (length c.sequence) s.globals
  on_now f now =
      subst (λ (u : Records). AreOnBlocks f u (length c.sequence) s.globals)
      (ap (λ (waits : ℕ → List JournalRecord). with_more k.records (λ r. map (in_generation (suc k.g)) (waits r))) nothing_waits ∙ with_none k.records) (k.blocks f now)

  -- the files as they read are an image
  read : (files : Files) × (v.content ≡ Some files) × Image v files
  read = read_image v lawful (told_of v c (length c.sequence) s k)

  each_sound : EachIsSound v k.records c.sequence k.g k.newer
  each_sound = record {
    images = sound;
    newest = λ f now. subst (λ (u : Records). fronts.AreNewest f u k.g k.newer) (sym (newest.is_base v c (length c.sequence) s k ready own)) (newest.are_newest v c (length c.sequence) s k ready own f now);
    none_past = k.none_past;
    no_epoch_past = λ r here. subst (λ (l : List InstanceRecord). NoEpochPast (length c.sequence) l (k.records.journal r)) (sym k.newest.instance) (let same = many in k.no_epoch_past r (omega (arith, here, same)));
  }

  pub patterns_are : s.globals.patterns ≡ patterns k.records.instance
  patterns_are = (on_now read.0 read.2).patterns

  part : (r : ℕ) → r < length s.globals.regions → (region_at s.globals r).globals ≡ region_state (patterns k.records.instance) r c.sequence
  part r low =
      let x = there s.globals.regions r low in
      ap (λ (y : Standing). y.globals) (region_there s.globals r x.0 x.1) ∙ part_at s.globals are r x.0 x.1
      ∙ same_part s.globals.patterns (patterns k.records.instance) r (state are.entries) (state c.sequence) patterns_are (sym (joined_is s.globals are) ∙ m.globals)

  pub is_kept : IsKept v k.records c.sequence k.g k.newer s.journals.journals.items s.globals
  is_kept = record {
    files = read.0;
    told = read.1;
    sound = each_sound;
    ready = newest.are_ready v c (length c.sequence) s k ready own;
    journals = subst (λ (waits : ℕ → List JournalRecord). KeepsJournals v k.newer waits s.journals.journals.items) nothing_waits k.journal_files;
    as_many_journals = newest.count v c (length c.sequence) s k ready own ∙ sym many;
    as_many_regions = ready.regions.count ∙ ap (λ (l : List InstanceRecord). length (regions l)) (own ∙ sym k.newest.instance);
    each = λ r here.
        let same = many in
        let on = (on_now read.0 read.2).each r here in
        record {
          file = on.file;
          part = part r (let count = (on_now read.0 read.2).count in omega (arith, here, count));
          durable = λ d now. k.databases read.0 d read.2 now r (omega (arith, here, same));
          held = on.held;
          holds = on.holds;
        };
  }

-- At each moment of an epoch.
abbrev pub EpochMoments : View → View → Memory → Type 0
EpochMoments v w s = (u : Records) (seq : Sequence) (g : ℕ) (newer : ℕ → List JournalRecord) → IsKept v u seq g newer s.journals.journals.items s.globals
    → length seq ≡ count_of s → AtEachMoment v w (OnlyIn v (IsEpochFile (suc g) (length s.journals.journals.items)) (IsStillSound u seq (suc g)))

-- And behind it.
abbrev pub EpochTaken : View → View → Bool → Memory → Memory → Type 0
EpochTaken v w closing s new = (u : Records) (seq : Sequence) (g : ℕ) (newer : ℕ → List JournalRecord) → IsKept v u seq g newer s.journals.journals.items s.globals
    → length seq ≡ count_of s → IsTaken w closing u seq g newer new.journals.journals.items new.globals

module _ (v w : View) (c : Contents) (s : Memory) (k : Keeps v c (length c.sequence) s) (none : (r : ℕ) → k.waits r ≡ []) (mine : Remembers c (length c.sequence) s) (ready : IsReady v s) (are : AreJoined s.globals) (lawful : IsLawful v) (lawful_after : IsLawful w) where
  few : length s.journals.journals.items ≤ MOST_REGIONS
  few = ready.journals.few

  count : length c.sequence ≡ count_of s
  count = sym mine.count

  abbrev F : ℕ → Type 0
  F = IsEpochFile (suc k.g) (length s.journals.journals.items)

  abbrev Still : Files → Type 0
  Still = OnlyIn v F (IsStillSound k.records c.sequence (suc k.g))

  at_most : (f : Files) → Still f → ((x : Contents) × MayMark c x × IsSite f x) × ((x : site.Standing) × MayMarkLeft (bare c) x × IsSiteWith f x)
  at_most f q =
      let d = q.others.0 in
      let was = q.others.1 in
      let is = site_now v c s k none mine ready are lawful d was in
      let held = (sound v c s k none mine ready are lawful d was).held in (
        fronted.may_mark d f c k.records q.here.0 k.g (length s.journals.journals.items) is held k.newest.instance k.newest.generation k.newest.not_last q.here.2 few q.others.2 q.here.1,
        fronted.may_mark_left d f c k.records q.here.0 k.g (length s.journals.journals.items) is held k.newest.instance k.newest.generation k.newest.not_last q.here.2 few q.others.2 q.here.1 k.none_past,
      )

  module _ (run : EpochMoments v w s) where
    moments : AtEachMoment v w Still
    moments = run k.records c.sequence k.g k.newer (is_kept v c s k none mine ready are lawful) count

    pub marks_moments : AtEachMoment v w (λ f. (x : Contents) × MayMark c x × IsSite f x)
    marks_moments = weaker v w Still (λ f. (x : Contents) × MayMark c x × IsSite f x) (λ f q. (at_most f q).0) moments

    pub marks_left : AtEachMoment v w (λ f. (x : site.Standing) × MayMarkLeft (bare c) x × IsSiteWith f x)
    marks_left = weaker v w Still (λ f. (x : site.Standing) × MayMarkLeft (bare c) x × IsSiteWith f x) (λ f q. (at_most f q).1) moments

    pub marks_stands : IfSome w.content (λ f. (x : Contents) × MayMark c x × IsSite f x)
    marks_stands = reads_of w (λ f. (x : Contents) × MayMark c x × IsSite f x) lawful_after (holds_now v w (λ f. (x : Contents) × MayMark c x × IsSite f x) lawful_after marks_moments)

  -- Once all regions have their epochs.
  module _ (closing : Bool) (new : Memory) (t : IsTaken w closing k.records c.sequence k.g k.newer new.journals.journals.items new.globals) (stays : OthersStay F v w) (same : HasSameNodes s.globals new.globals) (instance : new.instance ≡ s.instance) (entries : new.entries ≡ s.entries) where
    abbrev here_too : (r : ℕ) → Type 0
    here_too r = r < length (regions c.instance)

    counted : length (regions k.records.instance) ≡ length (regions c.instance)
    counted = ap (λ (l : List InstanceRecord). length (regions l)) k.newest.instance

    by_place : (r : ℕ) → (r < length (regions k.records.instance)) ⊎ (length (regions k.records.instance) ≤ r) → IsEpochFront (length c.sequence) (t.more.more r)
    by_place r (inl here) = WithEpoch (t.ends r here).0 (mark_of closing (length c.sequence) new.globals r) refl (t.ends r here).1
    by_place r (inr past) = Images [] (t.more.no_others r past)

    more : HasMore (length c.sequence) (suc k.g) k.records t.records
    more = record { instance = t.more.instance; more = t.more.more; journal = t.more.journal; each = λ r. by_place r (cases_lt r (length (regions k.records.instance))); no_others = t.more.no_others }

    in_each : (r : ℕ) (x : (r < length (regions k.records.instance)) ⊎ (length (regions k.records.instance) ≤ r))
        → has_epoch (length c.sequence) (t.more.more r) (by_place r x) && nat_lt r (length (regions c.instance)) ≡ true && nat_lt r (length (regions c.instance))
    unfolding by_place
    in_each r (inl here) = refl
    in_each r (inr past) = let same = counted in sym (ltb-false r past same)
      where
        ltb-false : (r : ℕ) → length (regions k.records.instance) ≤ r → length (regions k.records.instance) ≡ length (regions c.instance) → nat_lt r (length (regions c.instance)) ≡ false
        ltb-false r past same = grind (arith, nat_tests, past, same)

    all_taken : with_epochs (λ r. has_epoch (length c.sequence) (t.more.more r) (by_place r (cases_lt r (length (regions k.records.instance))))) c ≡ marked c
    all_taken =
        let each = fun_ext (λ r. ap (λ (b : Bool). c.epochs r ++ one_if b (generation c.instance) (length c.sequence)) (in_each r (cases_lt r (length (regions k.records.instance))))) in
        λ i. record { instance = c.instance; starts = c.starts; epochs = each i; texts = c.texts; losts = c.losts; sequence = c.sequence }

    marked_now : (f : Files) → Image w f → IsSite f (with_sequence (marked c) (take (length c.sequence) c.sequence))
    unfolding by_place more
    marked_now f now =
        let from = stays.images f now in
        subst (λ (seq : Sequence). IsSite f (with_sequence (marked c) seq)) (sym (take-length c.sequence))
        (subst (IsSite f) all_taken
        (fronted.site_marked from.0 f c k.records t.records k.g (length s.journals.journals.items) (site_now v c s k none mine ready are lawful from.0 from.1) (sound v c s k none mine ready are lawful from.0 from.1).held
        k.newest.instance k.newest.generation k.newest.not_last more few from.2 (t.kept.sound.images f now)))

    instance_is : t.records.instance ≡ c.instance
    instance_is = t.more.instance ∙ k.newest.instance

    count_is : length (regions t.records.instance) ≡ length (regions c.instance)
    count_is = ap (λ (l : List InstanceRecord). length (regions l)) instance_is

    region_kept : (r : ℕ) → r < length (regions c.instance) → IsRegionKept w t.kept.files t.records c.sequence r (region_at new.globals r)
    region_kept r here = let e = count_is in t.kept.each r (omega (arith, here, e))

    on_all : (f : Files) → Image w f → AreOnBlocks f t.records (length c.sequence) new.globals
    on_all f now = on_same t.kept.files f t.records (length c.sequence) new.globals (λ r low. let e = count_is in (region_kept r (omega (arith, low, e))).durable f now) (record {
      patterns = same.patterns ∙ patterns_are v c s k none mine ready are lawful ∙ ap patterns (sym t.more.instance);
      count = t.kept.as_many_regions;
      each = λ r low. let e = t.kept.each r low in record { file = e.file; held = e.held; holds = e.holds };
    })

    older_journal : (h r m : ℕ) → h ≤ k.g → r < length (regions c.instance) → length s.journals.journals.items ≡ length (regions c.instance) → F (journal_file h r) → ⊥
    older_journal h r m le here size i = let low = few in elim i [
      | inl j ↦ (let at = j.is in let inside = j.inside in omega (arith, at, inside, le, here, low, size))
      | inr d ↦ (let at = d.is in let inside = d.inside in omega (arith, at, inside, low))
    ]

    -- nothing waits, so images and marks stand right behind the records
    marks_behind : (r : ℕ) → t.records.journal r ++ [] ≡ (k.records.journal r ++ map (in_generation (suc k.g)) (k.waits r)) ++ map (in_generation (suc k.g)) (t.more.more r)
    marks_behind r =
        append-nil (t.records.journal r) ∙ t.more.journal r
        ∙ ap (λ (l : List Placed). l ++ map (in_generation (suc k.g)) (t.more.more r))
        (sym (append-nil (k.records.journal r)) ∙ ap (λ (l : List JournalRecord). k.records.journal r ++ map (in_generation (suc k.g)) l) (sym (none r)))

    pub keeps_taken : Keeps w (marked c) (length c.sequence) new
    keeps_taken = record {
      count = omega arith;
      few_nodes = k.few_nodes;
      reads = reads_so w (λ files. IsSite files (with_sequence (marked c) (take (length c.sequence) c.sequence))) lawful_after (still v w F stays (told_of v c (length c.sequence) s k)) marked_now;
      images = marked_now;
      records = t.records;
      g = k.g;
      last = k.last;
      older = k.older;
      newer = λ r. k.newer r ++ t.more.more r;
      waits = λ r. [];
      newest = record {
        generation = k.newest.generation;
        not_last = k.newest.not_last;
        instance = instance_is;
        whole = λ r here. t.more.journal r ∙ waiting.whole_more (suc k.g) (k.records.journal r) (k.older r) (k.newer r) (t.more.more r) (k.newest.whole r here);
        begins = λ r here. begins_more r (suc k.g) (k.last r) (k.newer r) (t.more.more r) (k.newest.begun r here) (k.newest.begins r here) (fronted.front_no_pini (length c.sequence) (t.more.more r) (t.more.each r));
        begun = λ r here. waiting.begun_more (k.newer r) (t.more.more r) (k.newest.begun r here);
      };
      sound = λ f now. subst (IsSoundImage f t.records) (sym (take-length c.sequence)) (t.kept.sound.images f now);
      older_files = λ f now r here.
          let from = stays.images f now in
          journal_same from.0 f r k.g (k.last r) (k.older r) (λ h le. from.2 (journal_file h r) (older_journal h r 0 le here (ready.each_region ∙ ap (λ (l : List InstanceRecord). length (regions l)) mine.instance))) (k.older_files from.0 from.1 r here);
      older_stand = λ f now r here.
          let from = stays.images f now in
          stand_same from.0 f r k.g (k.older r) (λ h le. from.2 (journal_file h r) (older_journal h r 0 le here (ready.each_region ∙ ap (λ (l : List InstanceRecord). length (regions l)) mine.instance))) (k.older_stand from.0 from.1 r here);
      none_past = t.kept.sound.none_past;
      blocks = λ f now. subst (λ (u : Records). AreOnBlocks f u (length c.sequence) new.globals) (sym (with_none t.records)) (on_all f now);
      databases = λ f d i j r here. (region_kept r here).durable d j ∙ sym ((region_kept r here).durable f i);
      no_epoch_past = λ r here. let e = count_is in subst (λ (l : List InstanceRecord). NoEpochPast (length c.sequence) l (t.records.journal r)) instance_is (t.kept.sound.no_epoch_past r (omega (arith, here, e)));
      waiting = [];
      are_waiting = subst (AreEntries c.instance (suc k.g) (length c.sequence) []) (sym (drop-length c.sequence)) tt;
      are_parts = no_entry_no_part (patterns c.instance) c.sequence;
      in_regions = tt;
      indexed = subst (λ (i : EntryIndex). IsIndexOf (λ r. t.records.journal r ++ []) (reigns c.instance) i c.sequence) (sym entries)
          (index_behind (λ r. k.records.journal r ++ map (in_generation (suc k.g)) (k.waits r)) (λ r. t.records.journal r ++ []) (reigns c.instance) s.entries c.sequence (λ r low. (map (in_generation (suc k.g)) (t.more.more r), marks_behind r)) k.indexed);
      are_waits = waiting.none_wait c.instance (suc k.g);
      may_append = λ f now r here. tt;
      instance_file = subst (λ (i : Instance). instances.HasRecords w i c.instance) (sym instance) (frames.records_stay v w F s.instance stays (away_instance (suc k.g) (length s.journals.journals.items)) c.instance k.instance_file);
      journal_files = record { has = λ r y is. t.kept.journals.has r y is; none_waits = λ r y is none. refl };
    }

-- no record stands behind the EPOCHs, so no region needs forward recovery
pub none_needs : (w : View) (closing : Bool) (s : Records) (seq : Sequence) (g : ℕ) (newer : ℕ → List JournalRecord) (js : List RegionJournal) (j : Joined) → IsTaken w closing s seq g newer js j → (f : Files) → Image w f → NoneNeeds (length seq) f
none_needs w closing s seq g newer js j t f now u held r here =
    let one : t.records ≡ u = records_one f t.records u (t.kept.sound.images f now).held held in
    let size : length (regions u.instance) ≡ length (regions s.instance) = ap (λ (x : Records). length (regions x.instance)) (sym one) ∙ ap (λ (l : List InstanceRecord). length (regions l)) t.more.instance in
    subst (λ (x : Records). without_behind x (length seq) r ≡ None) one
    (ap (λ (l : List InstanceRecord). first_without (t.records.journal r) (chosen l (length seq) (t.records.journal r))) t.more.instance
    ∙ ap (first_without (t.records.journal r)) (t.chosen_each r (omega (arith, here, size))))

pub open_taken : (v w : View) (told closing : Bool) (c : Contents) (s new : Memory) → IsReady v s → AreJoined s.globals → IsLawful v → IsLawful w → EpochTaken v w closing s new
    → ((g : ℕ) → AreReady v g s.journals.journals.items → OthersStay (IsEpochFile g (length s.journals.journals.items)) v w) → HasSameNodes s.globals new.globals
    → new.instance ≡ s.instance → new.entries ≡ s.entries → new.hardened ≡ s.hardened → IsSettled v told c s → IsOpen w told (marked c) (length c.sequence) new
open_taken v w told closing c s new ready are lawful lawful_after taken stays same instance entries hardened o =
    let m = o.is.remembered in
    record {
      remembered = record {
        instance = ap (λ (i : Instance). i.records) instance ∙ m.instance;
        count = ap entry_count entries ∙ m.count;
        globals = ap union same.parts ∙ m.globals;
        hardened = hardened ∙ m.hardened;
      };
      kept = λ known.
          let k = o.is.kept known in
          let none = o.none_waits known in
          keeps_taken v w c s k none m ready are lawful lawful_after closing new (taken k.records c.sequence k.g k.newer (is_kept v c s k none m ready are lawful) (sym m.count))
          (stays (suc k.g) (newest.are_ready v c (length c.sequence) s k ready m.instance)) same instance entries;
    }

pub ready_taken : (v w : View) (s new : Memory) → IsReady v s → ((g : ℕ) → AreReady v g s.journals.journals.items → OthersStay (IsEpochFile g (length s.journals.journals.items)) v w)
    → ((g : ℕ) → IsTogether v g s.journals.journals.items s.globals → IsTogether w g new.journals.journals.items new.globals) → length new.journals.journals.items ≡ length s.journals.journals.items → HasSameNodes s.globals new.globals
    → new.instance ≡ s.instance → new.layout ≡ s.layout → new.entries ≡ s.entries → IsReady w new
ready_taken v w s new ready stays together count same instance layout entries =
    let g = generation s.instance.records in
    let many = length (regions s.instance.records) in
    let t = together g (together_of v s ready) in
    let regions_are = same.count ∙ ready.regions.count in
    record {
      instance = subst (λ (i : Instance). instances.IsReady w i) (sym instance) (frames.ready_stays v w (IsEpochFile g (length s.journals.journals.items)) s.instance (stays g ready.journals) (away_instance g (length s.journals.journals.items)) ready.instance);
      layout = subst (λ (i : Instance). HasLayout i.records new.layout) (sym instance) (subst (HasLayout s.instance.records) (sym layout) ready.layout);
      journals = subst (λ (i : Instance). AreReady w (generation i.records) new.journals.journals.items) (sym instance) t.ready;
      each_region = count ∙ ready.each_region ∙ ap (λ (i : Instance). length (regions i.records)) (sym instance);
      regions = subst (λ (i : Instance). AreHeld w (length (regions i.records)) new.globals) (sym instance) (record {
        count = regions_are;
        files = λ r here. t.files r (omega (arith, here, regions_are));
        held = λ r here. t.held r (omega (arith, here, regions_are));
      });
      few = subst (λ (i : EntryIndex). entry_count i < NUMBERS_END) (sym entries) ready.few;
      whole = subst IsWhole (sym entries) ready.whole;
      some_place = subst (λ (i : EntryIndex). 1 ≤ i.regions) (sym entries) ready.some_place;
      each_place = ap (λ (i : EntryIndex). i.regions) entries ∙ ready.each_place ∙ ap (λ (i : Instance). length (regions i.records)) (sym instance);
    }
