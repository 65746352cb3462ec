-- A reign of a primary begins behind all entries, those that are hardened and those that wait.
use Rattle.std.proofs.Common.{◌≡◌, ◌⊎◌, inl, inr, ◌≤◌, ◌<◌, ◌+◌, ℕ, suc, Bool, true, List, [], ◌∷◌, ◌++◌, length, map, take, drop, refl, sym, ◌∙◌, ap, subst, arith}
use Rattle.std.specs.Prelude.{Option}
use Rattle.std.specs.List.{AllByRecursion}
use Rattle.std.proofs.lemmas.List.{length-take-le, length-drop}
use Rattle.std.proofs.lemmas.List.Folds.{list_all-append}
use Rattle.std.proofs.lemmas.Bool.Decides.{nat_tests}
use Rattle.disk_defs.specs.Disk.{Files, View, Image, IsLawful, AtEachMoment}
use Rattle.disk_defs.specs.Frames.{Only, OnlyOn, SameOutside, OthersStay}
use Rattle.disk_defs.proofs.Moments.{weaker}
use Rattle.global_defs.specs.Entry.{Sequence, Reign}
use Rattle.global_defs.specs.Prefix.{stamp_at}
use Rattle.journal_defs.specs.Numbers.{INSTANCE, journal_file, database_file, lost_file, broken_file}
use Rattle.journal_defs.specs.Journal.{JournalRecord, Pini, Epoch, Pblk, Tcom, Part}
use Rattle.journal_defs.specs.Instance.{InstanceRecord, Reigned, generation, regions}
use Rattle.journal_defs.specs.Directory.{Pattern, patterns}
use Rattle.journal_defs.specs.Surviving.{survives, spares, reigns}
use Rattle.journal_defs.specs.Sequence.{Placed, Records, entry_with}
use Rattle.journal_defs.specs.Stands.{IsInstance, in_generation}
use Rattle.journal_defs.specs.Epochs.{Chosen, chosen, block_of}
use Rattle.journal_defs.specs.Growth.{NonePast, with_record, with_more, AreEntries}
use Rattle.journal_defs.specs.Fit.{IsSoundImage, IsAtHome, region_of_update}
use Rattle.journal_laws.proofs.Runs as runs
use Rattle.journal_laws.proofs.Later as later
use Rattle.journal_laws.proofs.Appending.{journal_same}
use Rattle.block_laws.specs.Several.{MayAppendAll}
use Rattle.mupip_recover.specs.Minima.{minima}
use Rattle.mupip_recover.specs.Stamps.{AreStarts}
use Rattle.mupip_recover.proofs.StampLaws.{starts_more}
use Rattle.instance_file.specs.Instance as instances
use Rattle.region_journals.specs.declared.journals.RegionJournals.{RegionJournals}
use Rattle.region_journals.specs.Fronts.{AreInside}
use Rattle.region_journals.specs.Journals.{KeepsJournals}
use Rattle.site_defs.specs.Contents.{Contents, is_made, bare}
use Rattle.site_defs.specs.Behind.{IsSiteWith, parts_of_each}
use Rattle.site_defs.specs.Fronts.{with_sequence}
use Rattle.site_defs.specs.Stands.{texts_of, losts_of, IsSite}
use Rattle.region_store.specs.Joined.{joined}
use Rattle.entry_index.specs.declared.index.EntryIndex.{EntryIndex}
use Rattle.entry_index.specs.Found.{entry_count}
use Rattle.entry_index.specs.Among.{IsIndexOf}
use Rattle.site_store.specs.declared.memory.Memory.{Memory}
use Rattle.site_store.specs.Site.{Remembers, IsReady, AreWaiting, Keeps, IsOpen, AreOnBlocks, count_of}
use Rattle.site_store.specs.Following.{IsReignToCome, with_adopted}
use Rattle.site_store.proofs.OnBlocks.{on_same, on_chosen}
use Rattle.site_store.proofs.HeldRegions.{no_instance_file, synced_stays}
use Rattle.site_store.proofs.Standing.{reads_so, told_of, still}
use Rattle.site_store.proofs.Images.{same_image, reign_image, generation_kept, patterns_kept, regions_kept, AreOf, are_of, site_of, is_created, texts_same, losts_same, left_nothing}
use Rattle.site_store.proofs.Frames as frames
use Rattle.site_store.proofs.Indexing.{index_begun, stand_same, stamp_later}
use Rattle.site_store.proofs.Remembered.{remembered_length}
use Rattle.site_store.proofs.Begun.{all_past, not_past, journals_away, instance_in}

-- ---- what waits is as it was

survives_kept : (rs : List InstanceRecord) (x : Reign) (g n : ℕ) → survives (rs ++ Reigned x ∷ []) g n ≡ survives rs g n
survives_kept rs x g n = list_all-append (spares g n) rs (Reigned x ∷ []) ∙ runs.and_true (survives rs g n) (spares g n (Reigned x)) refl

home_kept : (rs : List InstanceRecord) (x : Reign) (r g : ℕ) (what : JournalRecord) → IsAtHome rs r g what → IsAtHome (rs ++ Reigned x ∷ []) r g what
home_kept rs x r g (Tcom p) at = λ lives.
    subst (λ (ps : List Pattern). AllByRecursion (λ i. region_of_update ps i.update ≡ r) p.items) (sym (patterns_kept rs x)) (at (sym (survives_kept rs x g p.number) ∙ lives))
home_kept rs x r g (Pini s) at = tt
home_kept rs x r g (Epoch m) at = tt
home_kept rs x r g (Pblk b) at = tt

all_home : (rs : List InstanceRecord) (x : Reign) (r g : ℕ) (ws : List JournalRecord) → AllByRecursion (λ w. IsAtHome rs r g w) ws → AllByRecursion (λ w. IsAtHome (rs ++ Reigned x ∷ []) r g w) ws
all_home rs x r g [] all = tt
all_home rs x r g (w ∷ ws) all = (home_kept rs x r g w all.0, all_home rs x r g ws all.1)

waits_kept : (rs : List InstanceRecord) (x : Reign) (g : ℕ) (ps : List (ℕ → Option Part)) (waits : ℕ → List JournalRecord) → 0 < length rs → AreWaiting rs g ps waits → AreWaiting (rs ++ Reigned x ∷ []) g ps waits
waits_kept rs x g ps waits some are =
    let count : length (regions (rs ++ Reigned x ∷ [])) ≡ length (regions rs) = ap length (regions_kept rs x some) in
    record {
      parts_are = are.parts_are;
      others = are.others;
      inside = λ r past. are.inside r (subst (λ (n : ℕ). n ≤ r) count past);
      at_home = λ r here. all_home rs x r g (waits r) (are.at_home r (subst (λ (n : ℕ). r < n) count here));
    }

-- no entry is under a reign that begins behind them
entries_kept : (rs : List InstanceRecord) (x : Reign) (g n : ℕ) (ps : List (ℕ → Option Part)) (es : Sequence) → n + length es < x.start → AreEntries rs g n ps es → AreEntries (rs ++ Reigned x ∷ []) g n ps es
entries_kept rs x g n [] [] late are = tt
entries_kept rs x g n [] (e ∷ es) late are = absurd are
entries_kept rs x g n (p ∷ ps) [] late are = absurd are
entries_kept rs x g n (p ∷ ps) (e ∷ es) late are =
    let stamps : stamp_at (n + 1) (reigns (rs ++ Reigned x ∷ [])) ≡ stamp_at (n + 1) (reigns rs) = ap (stamp_at (n + 1)) (runs.reigns-more rs x) ∙ stamp_later (n + 1) (reigns rs) x (omega (arith, late)) in
    (are.0, are.1, survives_kept rs x g (n + 1) ∙ are.2, ap (entry_with p) stamps ∙ are.3, entries_kept rs x g (n + 1) ps es (omega (arith, late)) are.4)

-- ---- the images

are_adopted : (d f : Files) (y : Contents) (s : Records) (x : Reign) → SameOutside (Only INSTANCE) d f → AreOf d y s → AreOf f (with_adopted x y) (with_record s (Reigned x))
are_adopted d f y s x same of =
    let created = is_created y of.made in
    record {
      made = by_list y.instance of.made;
      mapped = subst (λ (n : ℕ). AllByRecursion (λ (p : Pattern). p.region < n) (patterns (y.instance ++ Reigned x ∷ []))) (sym (ap length (regions_kept y.instance x created)))
          (subst (λ (l : List Pattern). AllByRecursion (λ (p : Pattern). p.region < length (regions y.instance)) l) (sym (patterns_kept y.instance x)) of.mapped);
      instance = ap (λ (l : List InstanceRecord). l ++ Reigned x ∷ []) of.instance;
      starts = of.starts;
      epochs = of.epochs;
      texts = of.texts ∙ sym (texts_same d f (generation y.instance) (λ g low. same (broken_file g) (λ e. omega (arith, e)))) ∙ ap (texts_of f) (sym (generation_kept y.instance x));
      losts = of.losts ∙ sym (losts_same d f (generation y.instance) (λ g low. same (lost_file g) (λ e. omega (arith, e)))) ∙ ap (losts_of f) (sym (generation_kept y.instance x));
    }
  where
    by_list : (rs : List InstanceRecord) → is_made (record { instance = rs; starts = y.starts; epochs = y.epochs; texts = y.texts; losts = y.losts; sequence = y.sequence }) ≡ true
        → is_made (record { instance = rs ++ Reigned x ∷ []; starts = y.starts; epochs = y.epochs; texts = y.texts; losts = y.losts; sequence = y.sequence }) ≡ true
    by_list [] made = refl
    by_list (r ∷ rs) made = grind (arith, nat_tests)

-- the hardened entries
abbrev pub front : Contents → ℕ → Contents
front c h = with_sequence c (take h c.sequence)

-- the images of a site, and those whose instance file has the reign
module _ (v : View) (c : Contents) (h : ℕ) (s : Memory) (k : Keeps v c h s) (x : Reign) (behind : length c.sequence < x.start) (past : AllByRecursion (λ (q : Reign). q.start < x.start) (reigns c.instance)) where
  few : length (take h c.sequence) ≡ h
  few = length-take-le h c.sequence k.count

  none_past : NonePast (length (take h c.sequence)) k.records
  none_past = subst (λ (n : ℕ). NonePast n k.records) (sym few) k.none_past

  one_of : (f : Files) → Image v f → AreOf f (front c h) k.records
  one_of f now = are_of f (front c h) k.records (k.images f now) (k.sound f now).held

  pub has_created : (f : Files) → Image v f → 0 < length c.instance
  has_created f now = is_created (front c h) (one_of f now).made

  pub sound_adopted : (d f : Files) → Image v d → SameOutside (Only INSTANCE) d f → IsInstance (f INSTANCE) (c.instance ++ Reigned x ∷ []) → IsSoundImage f (with_record k.records (Reigned x)) (take h c.sequence)
  sound_adopted d f was same now =
      let own : k.records.instance ≡ c.instance = k.newest.instance in
      let size = few in
      let low = k.count in
      reign_image d f k.records (take h c.sequence) x (k.sound d was) none_past
      (subst (λ (l : List InstanceRecord). 0 < length l) (sym own) (has_created d was)) (omega (arith, size, low, behind))
      (subst (λ (l : List InstanceRecord). AllByRecursion (λ (q : Reign). q.start < x.start) (reigns l)) (sym own) past) same
      (subst (λ (l : List InstanceRecord). IsInstance (f INSTANCE) (l ++ Reigned x ∷ [])) (sym own) now)

  pub site_adopted : (d f : Files) → Image v d → SameOutside (Only INSTANCE) d f → IsInstance (f INSTANCE) (c.instance ++ Reigned x ∷ []) → IsSite f (with_adopted x (front c h))
  site_adopted d f was same now =
      site_of f (with_adopted x (front c h)) (with_record k.records (Reigned x)) (are_adopted d f (front c h) k.records x same (one_of d was)) (sound_adopted d f was same now)

  still_one : (d f : Files) → Image v d → SameOutside (Only INSTANCE) d f → AreOf f (front c h) k.records
  still_one d f was same =
      let of = one_of d was in
      record {
        made = of.made;
        mapped = of.mapped;
        instance = of.instance;
        starts = of.starts;
        epochs = of.epochs;
        texts = of.texts ∙ sym (texts_same d f (generation c.instance) (λ g low. same (broken_file g) (λ e. omega (arith, e))));
        losts = of.losts ∙ sym (losts_same d f (generation c.instance) (λ g low. same (lost_file g) (λ e. omega (arith, e))));
      }

  kept : (d f : Files) → Image v d → SameOutside (Only INSTANCE) d f → IsInstance (f INSTANCE) c.instance → IsSoundImage f k.records (take h c.sequence)
  kept d f was same now = same_image d f k.records (take h c.sequence) (k.sound d was) none_past same (subst (λ (l : List InstanceRecord). IsInstance (f INSTANCE) l) (sym k.newest.instance) now)

  -- at each moment of an append to the instance file
  pub adopting : (w : View) → AtEachMoment v w (OnlyOn v INSTANCE (instances.StandsWith c.instance (Reigned x))) → AtEachMoment v w (λ f. IsSiteWith f (bare (front c h)) ⊎ IsSiteWith f (bare (with_adopted x (front c h))))
  adopting w run = weaker v w (OnlyOn v INSTANCE (instances.StandsWith c.instance (Reigned x))) (λ f. IsSiteWith f (bare (front c h)) ⊎ IsSiteWith f (bare (with_adopted x (front c h)))) (λ f q. elim q.here [
    | inl same ↦
        let sound = kept q.others.0 f q.others.1 q.others.2 same in
        inl (record {
          site = site_of f (front c h) k.records (still_one q.others.0 f q.others.1 q.others.2) sound;
          left = left_nothing f (front c h) k.records sound.held sound.clean none_past k.newest.instance;
        })
    | inr more ↦
        let sound = sound_adopted q.others.0 f q.others.1 q.others.2 more in
        inr (record {
          site = site_adopted q.others.0 f q.others.1 q.others.2 more;
          left = left_nothing f (with_adopted x (front c h)) (with_record k.records (Reigned x)) sound.held sound.clean
              (λ n r late. runs.part_of-sparing k.records.instance (Reigned x) n (k.records.journal r) (λ g m. refl) ∙ none_past n r late)
              (ap (λ (l : List InstanceRecord). l ++ Reigned x ∷ []) k.newest.instance);
        })
  ]) run

-- ---- a site with the reign

module _ (v w : View) (c : Contents) (h : ℕ) (old new : Memory) (k : Keeps v c h old) (x : Reign) (behind : length c.sequence < x.start) (past : AllByRecursion (λ (q : Reign). q.start < x.start) (reigns c.instance)) (lawful : IsLawful w)
    (stays : OthersStay (Only INSTANCE) v w) (away : frames.AreAway (Only INSTANCE) old.journals.journals.items) (created : 0 < length c.instance) (has : instances.HasRecords w new.instance (c.instance ++ Reigned x ∷ []))
    (journals : new.journals ≡ old.journals) (entries : new.entries ≡ old.entries) (globals : new.globals ≡ old.globals) where
  now_adopted : (f : Files) → Image w f → IsInstance (f INSTANCE) (c.instance ++ Reigned x ∷ [])
  now_adopted f now = instance_in w new.instance (c.instance ++ Reigned x ∷ []) has f now

  site : (f : Files) → Image w f → IsSite f (with_sequence (with_adopted x c) (take h c.sequence))
  site f now = let from = stays.images f now in site_adopted v c h old k x behind past from.0 f from.1 from.2 (now_adopted f now)

  count : length (regions (c.instance ++ Reigned x ∷ [])) ≡ length (regions c.instance)
  count = ap length (regions_kept c.instance x created)

  here : (r : ℕ) → r < length (regions (c.instance ++ Reigned x ∷ [])) → r < length (regions c.instance)
  here r low = let same = count in omega (arith, low, same)

  abbrev waits_in : ℕ → List Placed
  waits_in r = map (in_generation (suc k.g)) (k.waits r)

  -- the regions' blocks are still those of the epochs, since no REIGN drops one
  on_adopted : (f : Files) → Image w f → AreOnBlocks f (with_more (with_record k.records (Reigned x)) waits_in) h new.globals
  on_adopted f now =
      let from = stays.images f now in
      let same : length (regions (k.records.instance ++ Reigned x ∷ [])) ≡ length (regions k.records.instance) =
      ap (λ (l : List InstanceRecord). length (regions (l ++ Reigned x ∷ []))) k.newest.instance ∙ count ∙ ap (λ (l : List InstanceRecord). length (regions l)) (sym k.newest.instance) in
      subst (AreOnBlocks f (with_more (with_record k.records (Reigned x)) waits_in) h) (sym globals)
      (on_same from.0 f (with_more (with_record k.records (Reigned x)) waits_in) h old.globals (λ r low. from.2 (database_file r) (λ e. omega (arith, e)))
      (on_chosen from.0 (with_more k.records waits_in) (with_more (with_record k.records (Reigned x)) waits_in) h h old.globals same (patterns_kept k.records.instance x)
      (λ r low. (refl, later.other_instance k.records.instance (Reigned x) h (k.records.journal r ++ waits_in r) (λ g m. refl))) (k.blocks from.0 from.1)))

  keeps_adopted : Keeps w (with_adopted x c) h new
  keeps_adopted = record {
    count = k.count;
    few_nodes = k.few_nodes;
    reads = reads_so w (λ files. IsSite files (with_sequence (with_adopted x c) (take h c.sequence))) lawful (still v w (Only INSTANCE) stays (told_of v c h old k)) site;
    images = site;
    records = with_record k.records (Reigned x);
    g = k.g;
    last = k.last;
    older = k.older;
    newer = k.newer;
    waits = k.waits;
    newest = record {
      generation = generation_kept c.instance x ∙ k.newest.generation;
      not_last = k.newest.not_last;
      instance = ap (λ (l : List InstanceRecord). l ++ Reigned x ∷ []) k.newest.instance;
      whole = λ r low. k.newest.whole r (here r low);
      begins = λ r low. k.newest.begins r (here r low);
      begun = λ r low. k.newest.begun r (here r low);
    };
    sound = λ f now. let from = stays.images f now in sound_adopted v c h old k x behind past from.0 f from.1 from.2 (now_adopted f now);
    older_files = λ f now r low. let from = stays.images f now in journal_same from.0 f r k.g (k.last r) (k.older r) (λ g le. from.2 (journal_file g r) (λ e. omega (arith, e))) (k.older_files from.0 from.1 r (here r low));
    older_stand = λ f now r low. let from = stays.images f now in stand_same from.0 f r k.g (k.older r) (λ g le. from.2 (journal_file g r) (λ e. omega (arith, e))) (k.older_stand from.0 from.1 r (here r low));
    none_past = λ n r more. runs.part_of-sparing k.records.instance (Reigned x) n (k.records.journal r) (λ g m. refl) ∙ k.none_past n r more;
    blocks = on_adopted;
    databases = λ f d i j r low. synced_stays v w (Only INSTANCE) (length (regions c.instance)) stays.images (no_instance_file (length (regions c.instance))) k.databases f d i j r (here r low);
    no_epoch_past = λ r low. later.none_past_instance c.instance (Reigned x) h (k.records.journal r) (λ g m. refl) (k.no_epoch_past r (here r low));
    waiting = k.waiting;
    are_waiting = entries_kept c.instance x (suc k.g) h k.waiting (drop h c.sequence) (let rest = length-drop h c.sequence in let low = k.count in omega (arith, rest, low, behind)) k.are_waiting;
    are_parts = k.are_parts ∙ ap (λ (ps : List Pattern). parts_of_each ps h (drop h c.sequence)) (sym (patterns_kept c.instance x));
    in_regions = subst (λ (n : ℕ). AreInside n k.waiting) (sym count) k.in_regions;
    indexed = subst (λ (i : EntryIndex). IsIndexOf (λ r. k.records.journal r ++ map (in_generation (suc k.g)) (k.waits r)) (reigns (c.instance ++ Reigned x ∷ [])) i c.sequence) (sym entries)
        (index_begun (λ r. k.records.journal r ++ map (in_generation (suc k.g)) (k.waits r)) c.instance x old.entries c.sequence behind k.indexed);
    are_waits = waits_kept c.instance x (suc k.g) k.waiting k.waits created k.are_waits;
    may_append = λ f now r low.
        let from = stays.images f now in
        let same : f (database_file r) ≡ from.0 (database_file r) = from.2 (database_file r) (λ e. omega (arith, e)) in
        subst (λ (e : Chosen). MayAppendAll e (block_of (f (database_file r))) (waits_in r)) (sym (later.other_instance c.instance (Reigned x) h (k.records.journal r) (λ g m. refl)))
        (subst (λ (bytes : List ℕ). MayAppendAll (chosen c.instance h (k.records.journal r)) (block_of bytes) (waits_in r)) (sym same) (k.may_append from.0 from.1 r (here r low)));
    instance_file = has;
    journal_files = subst (λ (js : RegionJournals). KeepsJournals w k.newer k.waits js.journals.items) (sym journals)
        (frames.journals_keep v w (Only INSTANCE) old.journals.journals.items stays away k.newer k.waits k.journal_files);
  }

-- a site has an instance record
some_record : (rs : List InstanceRecord) → 1 ≤ length (regions rs) → 0 < length rs
some_record [] some = absurd (omega (arith, some))
some_record (r ∷ rs) some = omega arith

pub has_record : (v : View) (s : Memory) → IsReady v s → 0 < length s.instance.records
has_record v s ready = some_record s.instance.records (subst (λ (n : ℕ). 1 ≤ n) ready.each_place ready.some_place)

-- all reigns begin before this one
before_in : (c : Contents) (h : ℕ) (s : Memory) (x : Reign) → Remembers c h s → IsReignToCome s x → AllByRecursion (λ (q : Reign). q.start < x.start) (reigns c.instance)
before_in c h s x m come =
    let start = come.start in
    subst (λ (l : List InstanceRecord). AllByRecursion (λ (q : Reign). q.start < x.start) (reigns l)) m.instance (all_past (count_of s) x.start (reigns s.instance.records) come.none_past (omega (arith, start)))

behind_all : (c : Contents) (h : ℕ) (s : Memory) (x : Reign) → Remembers c h s → IsReignToCome s x → length c.sequence < x.start
behind_all c h s x m come = let count = remembered_length c h s m in let start = come.start in omega (arith, count, start)

-- Putting the reign on the disk touches no journal.
pub journals_adopted : (v w : View) (s : Memory) → IsReady v s → OthersStay (Only INSTANCE) v w → (hard waiting : ℕ → List JournalRecord) → KeepsJournals v hard waiting s.journals.journals.items → KeepsJournals w hard waiting s.journals.journals.items
journals_adopted v w s ready stays hard waiting keeps = frames.journals_keep v w (Only INSTANCE) s.journals.journals.items stays (journals_away v s ready) hard waiting keeps

-- what putting the reign on the disk has done
pub record Adopts (v w : View) (old new : Memory) (x : Reign) : Type 0 where
  pub ready : IsReady v old
  pub to_come : IsReignToCome old x
  pub stays : OthersStay (Only INSTANCE) v w
  pub state : (rs : List InstanceRecord) → instances.HasRecords v old.instance rs → instances.HasRecords w new.instance (rs ++ Reigned x ∷ [])
  pub records : new.instance.records ≡ old.instance.records ++ Reigned x ∷ []

pub open_adopted : (v w : View) (told : Bool) (c : Contents) (h : ℕ) (old new : Memory) (x : Reign) → IsLawful w → Adopts v w old new x → new.entries ≡ old.entries → new.globals ≡ old.globals → new.hardened ≡ old.hardened → new.journals ≡ old.journals
    → IsOpen v told c h old → IsOpen w told (with_adopted x c) h new
open_adopted v w told c h old new x lawful b entries changed hardened journals is =
    let m = is.remembered in
    record {
      remembered = record {
        instance = b.records ∙ ap (λ (l : List InstanceRecord). l ++ Reigned x ∷ []) m.instance;
        count = ap entry_count entries ∙ m.count;
        globals = ap joined changed ∙ m.globals;
        hardened = hardened ∙ m.hardened;
      };
      kept = λ t.
          let k = is.kept t in
          keeps_adopted v w c h old new k x (behind_all c h old x m b.to_come) (before_in c h old x m b.to_come) lawful b.stays (journals_away v old b.ready)
          (subst (λ (l : List InstanceRecord). 0 < length l) m.instance (has_record v old b.ready)) (b.state c.instance k.instance_file) journals entries changed;
    }

-- at each moment of it
pub left_adopted : (v w : View) (c : Contents) (h : ℕ) (old : Memory) (x : Reign) → IsReignToCome old x
    → ((rs : List InstanceRecord) → instances.HasRecords v old.instance rs → AtEachMoment v w (OnlyOn v INSTANCE (instances.StandsWith rs (Reigned x))))
    → IsOpen v true c h old → AtEachMoment v w (λ f. IsSiteWith f (bare (front c h)) ⊎ IsSiteWith f (bare (with_adopted x (front c h))))
left_adopted v w c h old x come run is =
    let k = is.kept refl in
    adopting v c h old k x (behind_all c h old x is.remembered come) (before_in c h old x is.remembered come) w (run c.instance k.instance_file)

pub moments_adopted : (v w : View) (c : Contents) (h : ℕ) (old : Memory) (x : Reign) → IsReignToCome old x
    → ((rs : List InstanceRecord) → instances.HasRecords v old.instance rs → AtEachMoment v w (OnlyOn v INSTANCE (instances.StandsWith rs (Reigned x))))
    → IsOpen v true c h old → AtEachMoment v w (λ f. IsSite f (front c h) ⊎ IsSite f (with_adopted x (front c h)))
moments_adopted v w c h old x come run is = weaker v w (λ f. IsSiteWith f (bare (front c h)) ⊎ IsSiteWith f (bare (with_adopted x (front c h)))) (λ f. IsSite f (front c h) ⊎ IsSite f (with_adopted x (front c h))) (λ f q. elim q [
  | inl stays ↦ inl stays.site
  | inr more ↦ inr more.site
]) (left_adopted v w c h old x come run is)

-- the starts of a site's reigns
pub starts_adopted : (old new : Memory) (x : Reign) (was now : List ℕ) → IsReignToCome old x → AreStarts (reigns old.instance.records) was → now ≡ was ++ x.start ∷ [] → new.instance.records ≡ old.instance.records ++ Reigned x ∷ []
    → AreStarts (reigns new.instance.records) now
starts_adopted old new x was now come are starts records =
    let start = come.start in
    starts ∙ starts_more (reigns old.instance.records) x was (not_past (count_of old) x.start (reigns old.instance.records) come.none_past (omega (arith, start))) are
    ∙ ap (λ (l : List Reign). minima (map (λ (q : Reign). q.start) l)) (sym (runs.reigns-more old.instance.records x) ∙ sym (ap reigns records))
