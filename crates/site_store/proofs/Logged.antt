-- Images of blocks wait besides, and nothing else of a site is new.
use Rattle.std.proofs.Common.{◌≡◌, ◌≢◌, ◌⊎◌, inl, inr, ◌≤◌, ◌<◌, ◌+◌, ◌==◌, ℕ, suc, Bool, true, false, List, [], ◌∷◌, ◌++◌, length, map, take, Some, None, refl, sym, ◌∙◌, ap, subst, arith, append-nil, append_assoc}
use Rattle.std.specs.Prelude.{Option, IfSome, IsSomeAnd, slice_get, if◌then◌else◌}
use Rattle.std.proofs.Math.Path.{fun_ext}
use Rattle.std.proofs.lemmas.Bool.{cases_lt, cases_eq}
use Rattle.std.proofs.lemmas.Bool.Decides.{nat_tests}
use Rattle.std.proofs.lemmas.List.{map-append, get_or_past}
use Rattle.global_defs.specs.declared.limits.TheConstants.{MOST_REGIONS, NUMBERS_END}
use Rattle.disk_defs.specs.Disk.{Files, View, Image, IsLawful}
use Rattle.disk_defs.specs.Frames.{OnlyIn, OthersStay}
use Rattle.disk_defs.proofs.Frames.{others_then}
use Rattle.disk_defs.proofs.Moments.{started, then_more, holds_now}
use Rattle.disk_defs.proofs.Told.{both_weak}
use Rattle.global_defs.specs.Entry.{Globals, Transaction}
use Rattle.journal_defs.specs.Numbers.{journal_file, database_file}
use Rattle.journal_defs.specs.Journal.{JournalRecord, Pblk, Part, Before}
use Rattle.journal_defs.specs.Instance.{InstanceRecord, generation, regions}
use Rattle.journal_defs.specs.Surviving.{reigns}
use Rattle.journal_defs.specs.Sequence.{Placed, Records}
use Rattle.journal_defs.specs.Epochs.{Chosen, chosen, block_of, NeedsForward}
use Rattle.journal_defs.specs.Stands.{in_generation}
use Rattle.journal_defs.specs.Growth.{with_more}
use Rattle.journal_defs.specs.Fit.{IsSoundImage, region_of_update}
use Rattle.journal_defs.specs.Split.{split, mask_of}
use Rattle.journal_laws.proofs.Appending.{journal_same}
use Rattle.journal_laws.proofs.EveryTarget.{eq_self as eq_same}
use Rattle.block_laws.specs.Nodes.{union}
use Rattle.block_laws.specs.Several.{MayAppendAll, logged_all}
use Rattle.block_laws.proofs.Appends.{chosen_all}
use Rattle.before_image.specs.Images.{is_free, with_image, placed_images}
use Rattle.instance_file.specs.declared.instance.Instance.{Instance}
use Rattle.jnl_file.specs.Journal as journals
use Rattle.region_store.specs.Region.{Standing, HoldsRegion, IsHeld, with_marks}
use Rattle.region_journals.specs.Fronts.{IsNewestFile, HasFirst}
use Rattle.region_journals.specs.Journals.{AreReady, KeepsJournals, listed}
use Rattle.tp_commit.specs.Parts.{recorded}
use Rattle.region_journals.specs.Logging.{in_region}
use Rattle.region_journals.proofs.Turns.{found}
use Rattle.region_epochs.specs.Kept.{image_records, image_needed}
use Rattle.region_epochs.specs.Taken.{HasSameNodes}
use Rattle.entry_index.specs.declared.index.EntryIndex.{EntryIndex}
use Rattle.entry_index.specs.Found.{entry_count, IsWhole}
use Rattle.entry_index.specs.Among.{IsIndexOf}
use Rattle.entry_index.proofs.AmongLaws.{index_behind}
use Rattle.region_store.specs.Joined.{IsSameElsewhere, region_at, no_region}
use Rattle.region_store.proofs.Lists.{there}
use Rattle.region_store.proofs.Making.{region_there}
use Rattle.site_defs.specs.Contents.{Contents, NO_LEFTOVER}
use Rattle.site_defs.specs.Fronts.{with_sequence}
use Rattle.site_defs.specs.Stands.{IsSite, HasLeft}
use Rattle.site_store.specs.declared.memory.Memory.{Memory}
use Rattle.site_store.specs.Committing.{IsSameSite, IsOwnJournal, HasLogged, AreLoggingMoments, Appends, AppendsPart, region_by, parts_of}
use Rattle.site_store.specs.declared.layout.Layout.{Layout}
use Rattle.site_store.specs.Site.{IsReady, AreHeld, AreOnBlocks, IsOnBlocks, Keeps, IsOpen}
use Rattle.site_store.proofs.Committed as committed
use Rattle.site_store.proofs.Committed.{AppendMoments}
use Rattle.site_store.proofs.HeldRegions.{no_journal, synced_stays, nodes_then}
use Rattle.site_store.proofs.Indexing.{stand_same}
use Rattle.site_store.proofs.Newest as newest
use Rattle.site_store.proofs.Standing.{reads_so, told_of, still, read_image}
use Rattle.site_store.proofs.Waiting as waiting
use Rattle.site_store.proofs.Waiting.{AreAsOn}
use Rattle.region_epochs.proofs.Blocks.{needs_more, placed_same}
use Rattle.region_epochs.proofs.Lifts.{none_yet as nodes_kept}

-- ---- what logging images makes of a site

-- of one region, by the bytes of its database file
pub record IsLogged (bytes : List ℕ) (is : List Before) (x y : Standing) : Type 0 where
  pub file : y.file ≡ x.file
  pub as_on : AreAsOn bytes is
  pub holds : (e : Chosen) (g : ℕ) → HoldsRegion e bytes x → HoldsRegion (logged_all e (map (in_generation g) (image_records is))) bytes y

-- of each, by the files as they read
pub record HasImages (v w : View) (old new : Memory) (files : Files) : Type 0 where
  pub images : ℕ → List Before
  pub no_others : (r : ℕ) → length old.globals.regions ≤ r → images r ≡ []
  pub each : (r : ℕ) → r < length old.globals.regions → IsLogged (files (region_at old.globals r).file) (images r) (region_at old.globals r) (region_at new.globals r)
  pub state : (hard waits : ℕ → List JournalRecord) → KeepsJournals v hard waits old.journals.journals.items → KeepsJournals w hard (λ r. waits r ++ image_records (images r)) new.journals.journals.items

pub record Logs (v w : View) (old new : Memory) : Type 0 where
  pub ready : IsReady v old
  pub journals : (g : ℕ) → AreReady v g old.journals.journals.items → AreReady w g new.journals.journals.items
  pub count : length new.journals.journals.items ≡ length old.journals.journals.items
  pub moments : AppendMoments v w old.journals.journals.items
  pub stays : (g : ℕ) → AreReady v g old.journals.journals.items → OthersStay (IsNewestFile g (length old.journals.journals.items)) v w
  pub same : IsSameSite old new
  pub entries : new.entries ≡ old.entries
  pub nodes : HasSameNodes old.globals new.globals
  pub images : IfSome v.content (HasImages v w old new)

-- it's open for calls
held_logged : (v w : View) (old new : Memory) → Logs v w old new → AreHeld v (length (regions old.instance.records)) new.globals
held_logged v w old new p =
    let many = p.ready.regions.count in
    record {
      count = p.nodes.count ∙ p.ready.regions.count;
      files = λ r here. p.nodes.files r ∙ p.ready.regions.files r here;
      held = λ r here. both_weak v.content (HasImages v w old new) (IsHeld (region_at old.globals r)) (IsHeld (region_at new.globals r)) p.images (p.ready.regions.held r here) (λ files has was.
          let one = has.each r (omega (arith, here, many)) in
          let e = logged_all was.0 (map (in_generation 0) (image_records (has.images r))) in
          (e, subst (λ (f : ℕ). HoldsRegion e (files f) (region_at new.globals r)) (sym one.file) (one.holds was.0 0 was.1)));
    }

pub ready_logged : (v w : View) (old new : Memory) → Logs v w old new → IsReady w new
ready_logged v w old new p =
    committed.ready_by v w old new p.ready p.journals p.count p.stays p.same.instance p.same.layout (held_logged v w old new p)
    (subst (λ (i : EntryIndex). entry_count i < NUMBERS_END) (sym p.entries) p.ready.few) (subst IsWhole (sym p.entries) p.ready.whole) (ap (λ (i : EntryIndex). i.regions) p.entries)

-- one region behind its images, where its file has the same bytes
region_logged : (d f files : Files) (s u : Records) (n g r : ℕ) (is : List Before) (x y : Standing) → IsOnBlocks d s n r x → IsLogged (files x.file) is x y → u.instance ≡ s.instance → u.journal r ≡ s.journal r ++ map (in_generation g) (image_records is)
    → d (database_file r) ≡ files (database_file r) → f (database_file r) ≡ files (database_file r) → IsOnBlocks f u n r y
region_logged d f files s u n g r is x y on one instance journal was now =
    let own : y.file ≡ database_file r = one.file ∙ on.file in
    let before : d x.file ≡ files x.file = ap d on.file ∙ was ∙ sym (ap files on.file) in
    let after : files x.file ≡ f y.file = ap files on.file ∙ sym now ∙ sym (ap f own) in
    let e = logged_all on.held.0 (map (in_generation 0) (image_records is)) in
    record {
      file = own;
      held = (e, subst (λ (bytes : List ℕ). HoldsRegion e bytes y) after (one.holds on.held.0 0 (subst (λ (bytes : List ℕ). HoldsRegion on.held.0 bytes x) before on.held.1)));
      holds = subst (λ (l : List Placed). NeedsForward u.instance n l ⊎ HoldsRegion (chosen u.instance n l) (f (database_file r)) y) (sym journal)
          (subst (λ (i : List InstanceRecord). NeedsForward i n (s.journal r ++ map (in_generation g) (image_records is)) ⊎ HoldsRegion (chosen i n (s.journal r ++ map (in_generation g) (image_records is))) (f (database_file r)) y) (sym instance)
          (elim on.holds [
            | inl needs ↦ inl (needs_more s.instance n g (s.journal r) is needs)
            | inr holds ↦ inr (on_epoch holds)
          ]));
    }
  where
    on_epoch : HoldsRegion (chosen s.instance n (s.journal r)) (d (database_file r)) x → HoldsRegion (chosen s.instance n (s.journal r ++ map (in_generation g) (image_records is))) (f (database_file r)) y
    on_epoch h =
        let e = chosen s.instance n (s.journal r) in
        let l = logged_all e (map (in_generation g) (image_records is)) in
        subst (λ (c : Chosen). HoldsRegion c (f (database_file r)) y)
        (sym (chosen_all s.instance n (s.journal r) e (block_of (files x.file)) (map (in_generation g) (image_records is)) (waiting.may_images e (files x.file) g is one.as_on)))
        (subst (λ (bytes : List ℕ). HoldsRegion l bytes y) (ap files on.file ∙ sym now)
        (one.holds e g (subst (λ (bytes : List ℕ). HoldsRegion e bytes x) (was ∙ sym (ap files on.file)) h)))

-- and on the disk it is as it was, with these images waiting
module _ (v w : View) (c : Contents) (h : ℕ) (old new : Memory) (p : Logs v w old new) (lawful : IsLawful w) (k : Keeps v c h old) (own : old.instance.records ≡ c.instance) (files : Files) (now : Image v files) (has : HasImages v w old new files) where
  n : ℕ
  n = length (regions c.instance)

  few : length (regions c.instance) ≤ MOST_REGIONS
  few = newest.few v c h old k p.ready own

  stays : OthersStay (IsNewestFile (suc k.g) (length old.journals.journals.items)) v w
  stays = p.stays (suc k.g) (newest.are_ready v c h old k p.ready own)

  in_newest : (f : Files) → Image w f → OnlyIn v (IsNewestFile (suc k.g) (length (regions c.instance))) (HasFirst (suc k.g) (length (regions c.instance)) k.newer k.waits (λ r. 0)) f
  in_newest = holds_now v w (OnlyIn v (IsNewestFile (suc k.g) (length (regions c.instance))) (HasFirst (suc k.g) (length (regions c.instance)) k.newer k.waits (λ r. 0))) lawful (committed.append_run v w c h old k p.ready own p.moments)

  site : (f : Files) → Image w f → IsSite f (with_sequence c (take h c.sequence))
  site f is = let q = in_newest f is in newest.none_site v c h old k p.ready own q.others.0 f q.others.1 q.others.2 q.here

  older_same : (f : Files) (is : Image w f) (r : ℕ) → r < length (regions c.instance) → (g : ℕ) → g ≤ k.g → f (journal_file g r) ≡ (in_newest f is).others.0 (journal_file g r)
  older_same f is r here g le = let low = few in (in_newest f is).others.2 (journal_file g r) (λ i. omega (arith, i.is, i.inside, le, here, low))

  database_same : (f : Files) (is : Image w f) (r : ℕ) → r < length (regions c.instance) → f (database_file r) ≡ (in_newest f is).others.0 (database_file r)
  database_same f is r here = let low = few in (in_newest f is).others.2 (database_file r) (λ i. omega (arith, i.is, i.inside, here, low))

  as_read : (f : Files) → Image w f → (r : ℕ) → r < length (regions c.instance) → f (database_file r) ≡ files (database_file r)
  as_read f is r here = database_same f is r here ∙ k.databases files (in_newest f is).others.0 now (in_newest f is).others.1 r here

  many : length old.globals.regions ≡ length (regions c.instance)
  many = p.ready.regions.count ∙ ap (λ (l : List InstanceRecord). length (regions l)) own

  abbrev all_waits : ℕ → List JournalRecord
  all_waits r = k.waits r ++ image_records (has.images r)

  abbrev before : Records
  before = with_more k.records (λ r. map (in_generation (suc k.g)) (k.waits r))

  abbrev after : Records
  after = with_more k.records (λ r. map (in_generation (suc k.g)) (all_waits r))

  on_logged : (f : Files) → Image w f → AreOnBlocks f after h new.globals
  on_logged f is =
      let d = (in_newest f is).others in
      let on = k.blocks d.0 d.1 in
      let same : length (regions k.records.instance) ≡ length (regions c.instance) = ap (λ (l : List InstanceRecord). length (regions l)) k.newest.instance in
      record {
        patterns = p.nodes.patterns ∙ on.patterns;
        count = p.nodes.count ∙ on.count;
        each = λ r low.
            let count = many in
            let here : r < length (regions c.instance) = omega (arith, low, same) in
            region_logged d.0 f files before after h (suc k.g) r (has.images r) (region_at old.globals r) (region_at new.globals r) (on.each r low) (has.each r (omega (arith, here, count))) refl
            (waiting.more_behind (suc k.g) (k.records.journal r) (k.waits r) (image_records (has.images r))) (k.databases files d.0 now d.1 r here) (as_read f is r here);
      }

  may_append : (f : Files) → Image w f → (r : ℕ) → r < length (regions c.instance) → MayAppendAll (chosen c.instance h (k.records.journal r)) (block_of (f (database_file r))) (map (in_generation (suc k.g)) (all_waits r))
  may_append f is r here =
      let d = (in_newest f is).others in
      let e = chosen c.instance h (k.records.journal r) in
      let count = many in
      let one = has.each r (omega (arith, here, count)) in
      let file : (region_at old.globals r).file ≡ database_file r = p.ready.regions.files r (omega (arith, here, count, p.ready.regions.count)) in
      waiting.may_both e (block_of (f (database_file r))) (suc k.g) (k.waits r) (image_records (has.images r))
      (subst (λ (bytes : List ℕ). MayAppendAll e (block_of bytes) (map (in_generation (suc k.g)) (k.waits r))) (sym (database_same f is r here)) (k.may_append d.0 d.1 r here))
      (waiting.may_images e (f (database_file r)) (suc k.g) (has.images r) (subst (λ (bytes : List ℕ). AreAsOn bytes (has.images r)) (ap files file ∙ sym (as_read f is r here)) one.as_on))

  keeps_logged : Keeps w c h new
  keeps_logged = record {
    count = k.count;
    few_nodes = k.few_nodes;
    reads = reads_so w (λ f. IsSite f (with_sequence c (take h c.sequence))) lawful (still v w (IsNewestFile (suc k.g) (length old.journals.journals.items)) stays (told_of v c h old k)) site;
    images = site;
    records = k.records;
    g = k.g;
    last = k.last;
    older = k.older;
    newer = k.newer;
    waits = all_waits;
    newest = k.newest;
    sound = λ f is.
        let q = in_newest f is in
        subst (λ (u : Records). IsSoundImage f u (take h c.sequence)) (sym (newest.is_base v c h old k p.ready own)) (newest.none_image v c h old k p.ready own q.others.0 f q.others.1 q.others.2 q.here);
    older_files = λ f is r here. let d = (in_newest f is).others in journal_same d.0 f r k.g (k.last r) (k.older r) (older_same f is r here) (k.older_files d.0 d.1 r here);
    older_stand = λ f is r here. let d = (in_newest f is).others in stand_same d.0 f r k.g (k.older r) (older_same f is r here) (k.older_stand d.0 d.1 r here);
    none_past = k.none_past;
    blocks = on_logged;
    databases = (let low = few in synced_stays v w (IsNewestFile (suc k.g) (length (regions c.instance))) (length (regions c.instance)) (λ f is. (in_newest f is).others) (no_journal (suc k.g) (length (regions c.instance)) (length (regions c.instance)) low) k.databases);
    no_epoch_past = k.no_epoch_past;
    waiting = k.waiting;
    are_waiting = k.are_waiting;
    are_parts = k.are_parts;
    in_regions = k.in_regions;
    are_waits = waiting.images_wait c.instance (suc k.g) k.waiting k.waits has.images k.are_waits (λ r past. has.no_others r (let count = many in omega (arith, past, count)));
    may_append = may_append;
    indexed = subst (λ (i : EntryIndex). IsIndexOf (λ r. k.records.journal r ++ map (in_generation (suc k.g)) (all_waits r)) (reigns c.instance) i c.sequence) (sym p.entries)
        (index_behind (λ r. k.records.journal r ++ map (in_generation (suc k.g)) (k.waits r)) (λ r. k.records.journal r ++ map (in_generation (suc k.g)) (all_waits r)) (reigns c.instance) old.entries c.sequence
        (λ r low. (map (in_generation (suc k.g)) (image_records (has.images r)), waiting.more_behind (suc k.g) (k.records.journal r) (k.waits r) (image_records (has.images r)))) k.indexed);
    instance_file = committed.instance_kept v w old new (suc k.g) (length old.journals.journals.items) c.instance stays p.same.instance k.instance_file;
    journal_files = has.state k.newer k.waits k.journal_files;
  }

open_logged : (v w : View) (told : Bool) (c : Contents) (h : ℕ) (old new : Memory) → Logs v w old new → IsLawful v → IsLawful w → IsOpen v told c h old → IsOpen w told c h new
open_logged v w told c h old new p before lawful is = record {
  remembered = record {
    instance = ap (λ (i : Instance). i.records) p.same.instance ∙ is.remembered.instance;
    count = ap entry_count p.entries ∙ is.remembered.count;
    globals = ap (λ (gs : List Globals). union gs) p.nodes.parts ∙ is.remembered.globals;
    hardened = p.same.hardened ∙ is.remembered.hardened;
  };
  kept = λ known.
      let k = is.kept known in
      let read = read_image v before (told_of v c h old k) in
      keeps_logged v w c h old new p lawful k is.remembered.instance read.0 read.2 (subst (λ (o : Option Files). IfSome o (HasImages v w old new)) read.1 p.images);
}

-- the images wait, where there is a journal
waits_logged : (v w : View) (old new : Memory) → Logs v w old new → 0 < length old.journals.journals.items → (hard waits : ℕ → List JournalRecord) → KeepsJournals v hard waits old.journals.journals.items
    → (images : ℕ → List Before) × KeepsJournals w hard (λ r. waits r ++ image_records (images r)) new.journals.journals.items
waits_logged v w old new p some hard waits keeps = by_content v.content p.images (keeps.has 0 x.0 x.1)
  where
    x : (x : _) × (slice_get old.journals.journals.items 0 ≡ Some x)
    x = found old.journals.journals.items 0 some

    by_content : (o : Option Files) → IfSome o (HasImages v w old new) → IsSomeAnd o (journals.HoldsRecords v x.0.journal (record { hard = hard 0; opening = []; closed = waits 0 }))
        → (images : ℕ → List Before) × KeepsJournals w hard (λ r. waits r ++ image_records (images r)) new.journals.journals.items
    by_content None has held = absurd held
    by_content (Some files) has held = (has.images, has.state hard waits keeps)

pub has_logged : (v w : View) (old new : Memory) → Logs v w old new → 0 < length old.globals.regions → IsLawful v → IsLawful w → HasLogged v w old new
has_logged v w old new p some before lawful = record {
  ready = ready_logged v w old new p;
  same = p.same;
  entries = p.entries;
  globals = ap (λ (gs : List Globals). union gs) p.nodes.parts;
  nodes = p.nodes;
  waits = waits_logged v w old new p (let many = p.ready.regions.count in let size = p.ready.each_region in omega (arith, some, many, size));
  stays_open = λ told c h is. open_logged v w told c h old new p before lawful is;
}

pub logging_moments : (v w : View) (old : Memory) → IsReady v old → AppendMoments v w old.journals.journals.items → AreLoggingMoments v w old
logging_moments v w old ready run = record {
  any_moment = λ c h is. committed.append_moments v w c h old (is.kept refl) ready is.remembered.instance run;
  bare = λ c h is. committed.append_bare v w c h old (is.kept refl) ready is.remembered.instance run;
}

-- ---- one after another

none_more : (waits : ℕ → List JournalRecord) → (λ (r : ℕ). waits r ++ image_records []) ≡ waits
none_more waits = fun_ext (λ r. append-nil (waits r))

pub logged_none : (u : View) (s : Memory) → IsReady u s → HasLogged u u s s
logged_none u s ready = record {
  ready = ready;
  same = record { instance = refl; layout = refl; hardened = refl; stamp = refl };
  entries = refl;
  globals = refl;
  nodes = nodes_kept s.globals;
  waits = λ hard waits keeps. (λ r. [], subst (λ (l : ℕ → List JournalRecord). KeepsJournals u hard l s.journals.journals.items) (sym (none_more waits)) keeps);
  stays_open = λ told c h is. is;
}

pub same_then : (a b c : Memory) → IsSameSite a b → IsSameSite b c → IsSameSite a c
same_then a b c first second = record {
  instance = second.instance ∙ first.instance;
  layout = second.layout ∙ first.layout;
  hardened = second.hardened ∙ first.hardened;
  stamp = second.stamp ∙ first.stamp;
}

abbrev with_images : (ℕ → List JournalRecord) → (ℕ → List Before) → ℕ → List JournalRecord
with_images before is r = before r ++ image_records (is r)

images_then : (before : ℕ → List JournalRecord) (is js : ℕ → List Before) → with_images (with_images before is) js ≡ with_images before (λ r. is r ++ js r)
images_then before is js = fun_ext (λ r. append_assoc (before r) (image_records (is r)) (image_records (js r)) ∙ ap (λ (l : List JournalRecord). before r ++ l) (sym (map-append (λ i. Pblk i) (is r) (js r))))

pub logged_then : (u v w : View) (a b c : Memory) → HasLogged u v a b → HasLogged v w b c → HasLogged u w a c
logged_then u v w a b c first second = record {
  ready = second.ready;
  same = same_then a b c first.same second.same;
  entries = second.entries ∙ first.entries;
  globals = second.globals ∙ first.globals;
  nodes = nodes_then a.globals b.globals c.globals first.nodes second.nodes;
  waits = λ hard waits keeps.
      let one = first.waits hard waits keeps in
      let two = second.waits hard (λ r. waits r ++ image_records (one.0 r)) one.1 in
      (λ r. one.0 r ++ two.0 r, subst (λ (l : ℕ → List JournalRecord). KeepsJournals w hard l c.journals.journals.items) (images_then waits one.0 two.0) two.1);
  stays_open = λ told x h is. second.stays_open told x h (first.stays_open told x h is);
}

pub moments_none : (u : View) (s : Memory) → AreLoggingMoments u u s
moments_none u s = record {
  any_moment = λ c h is. started u (λ f. IsSite f (with_sequence c (take h c.sequence))) (λ f now. (is.kept refl).images f now);
  bare = λ c h is. committed.quiet_bare u c h s is;
}

pub moments_then : (u v w : View) (a b : Memory) → AreLoggingMoments u v a → HasLogged u v a b → AreLoggingMoments v w b → AreLoggingMoments u w a
moments_then u v w a b first logged second = record {
  any_moment = λ c h is.
      then_more u v w (λ f. IsSite f (with_sequence c (take h c.sequence))) (λ f. IsSite f (with_sequence c (take h c.sequence))) (first.any_moment c h is) (second.any_moment c h (logged.stays_open true c h is)) (λ f q. q);
  bare = λ c h is.
      then_more u v w (λ f. HasLeft f (with_sequence c (take h c.sequence)) NO_LEFTOVER) (λ f. HasLeft f (with_sequence c (take h c.sequence)) NO_LEFTOVER) (first.bare c h is) (second.bare c h (logged.stays_open true c h is)) (λ f q. q);
}

pub frame_then : (u v w : View) (a b : Memory) → IsSameSite a b → OthersStay (IsOwnJournal a) u v → OthersStay (IsOwnJournal b) v w → OthersStay (IsOwnJournal a) u w
frame_then u v w a b same first second =
    others_then (IsOwnJournal a) u v w first
    (subst (λ (i : Instance). OthersStay (IsNewestFile (generation i.records) (length (regions i.records))) v w) same.instance second)

-- a part behind the images
parts_same : (a b : Memory) (t : Transaction) → b.layout ≡ a.layout → b.entries ≡ a.entries → parts_of b t ≡ parts_of a t
parts_same a b t layout entries =
    ap (λ (l : Layout). split (region_of_update l.directory.patterns) (entry_count b.entries + 1) (mask_of (region_of_update l.directory.patterns) t.updates) t) layout
    ∙ ap (λ (i : EntryIndex). split (region_by a) (entry_count i + 1) (mask_of (region_by a) t.updates) t) entries

abbrev with_part : (ℕ → List JournalRecord) → (ℕ → Option Part) → ℕ → List JournalRecord
with_part before part r = before r ++ listed (recorded (part r))

part_then : (before : ℕ → List JournalRecord) (is : ℕ → List Before) (part other : ℕ → Option Part) → part ≡ other
    → (r : ℕ) → with_part (with_images before is) part r ≡ before r ++ (image_records (is r) ++ listed (recorded (other r)))
part_then before is part other same r =
    append_assoc (before r) (image_records (is r)) (listed (recorded (part r))) ∙ ap (λ (p : ℕ → Option Part). before r ++ (image_records (is r) ++ listed (recorded (p r)))) same

pub appends_then : (u v w : View) (a b c : Memory) (t : Transaction) → HasLogged u v a b → AppendsPart v w b c t → Appends u w a c t
appends_then u v w a b c t logged part hard waits keeps =
    let one = logged.waits hard waits keeps in (
      one.0,
      subst (λ (l : ℕ → List JournalRecord). KeepsJournals w hard l c.journals.journals.items) (fun_ext (part_then waits one.0 (parts_of b t) (parts_of a t) (parts_same a b t logged.same.layout logged.entries)))
          (part hard (with_images waits one.0) one.1),
    )

-- ---- by what the image of one block leaves

eq_other : (r n : ℕ) → r ≢ n → (r == n) ≡ false
eq_other r n other = grind (arith, nat_tests, other)

as_first : (bytes : List ℕ) (b : ℕ) (free : Bool) → AreAsOn bytes (if free then [] else record { block = b; bytes = block_of bytes b } ∷ [])
as_first bytes b true = tt
as_first bytes b false = (refl, tt)

none_logged : (bytes : List ℕ) (x y : Standing) → y ≡ x → IsLogged bytes [] x y
none_logged bytes x y same = subst (λ (z : Standing). IsLogged bytes [] x z) (sym same) (record {
  file = refl;
  as_on = tt;
  holds = λ e g h. subst (λ (d : Chosen). HoldsRegion d bytes x) (sym (ap (λ (l : List Placed). record { number = e.number; blocks = e.blocks; after = l }) (append-nil e.after))) h;
})

in_one : (b : Bool) (is : List Before) → (if b then image_records is else []) ≡ image_records (if b then is else [])
in_one true is = refl
in_one false is = refl

module _ (v w : View) (old new : Memory) (ready : IsReady v old) (journals : (g : ℕ) → AreReady v g old.journals.journals.items → AreReady w g new.journals.journals.items)
    (count : length new.journals.journals.items ≡ length old.journals.journals.items) (moments : AppendMoments v w old.journals.journals.items)
    (stays : (g : ℕ) → AreReady v g old.journals.journals.items → OthersStay (IsNewestFile g (length old.journals.journals.items)) v w) (same : IsSameSite old new) (entries : new.entries ≡ old.entries) where
  -- without memory there is none
  pub logs_none : ((hard waits : ℕ → List JournalRecord) → KeepsJournals v hard waits old.journals.journals.items → KeepsJournals w hard waits new.journals.journals.items) → new.globals ≡ old.globals → Logs v w old new
  logs_none state globals = record {
    ready = ready;
    journals = journals;
    count = count;
    moments = moments;
    stays = stays;
    same = same;
    entries = entries;
    nodes = subst (HasSameNodes old.globals) (sym globals) (nodes_kept old.globals);
    images = always v.content (λ files. record {
      images = λ r. [];
      no_others = λ r past. refl;
      each = λ r here. none_logged (files (region_at old.globals r).file) (region_at old.globals r) (region_at new.globals r) (ap (λ j. region_at j r) globals);
      state = λ hard waits keeps. subst (λ (l : ℕ → List JournalRecord). KeepsJournals w hard l new.journals.journals.items) (sym (none_more waits)) (state hard waits keeps);
    });
  }
    where
      always : (o : Option Files) → ((f : Files) → HasImages v w old new f) → IfSome o (HasImages v w old new)
      always None all = tt
      always (Some f) all = all f

  -- and else that of one block, as it stands on the file
  module _ (number block : ℕ) (inside : number < length old.globals.regions)
      (marks : region_at new.globals number ≡ with_marks (region_at old.globals number) (with_image (region_at old.globals number).imaged block)) (elsewhere : IsSameElsewhere number old.globals new.globals) where
    other_same : (r : ℕ) → r ≢ number → r < length old.globals.regions → region_at new.globals r ≡ region_at old.globals r
    other_same r other low =
        let x = there old.globals.regions r low in
        region_there new.globals r x.0 (elsewhere.others r other ∙ x.1) ∙ sym (region_there old.globals r x.0 x.1)

    nodes : HasSameNodes old.globals new.globals
    nodes = record {
      patterns = elsewhere.patterns;
      count = elsewhere.count;
      parts = elsewhere.parts;
      files = λ r. elim (cases_lt r (length old.globals.regions)) [
        | inl low ↦ elim (cases_eq r number) [
          | inl e ↦ subst (λ (q : ℕ). (region_at new.globals q).file ≡ (region_at old.globals q).file) (sym e) (ap (λ (z : Standing). z.file) marks)
          | inr other ↦ ap (λ (z : Standing). z.file) (other_same r other low)
        ]
        | inr past ↦
            let size = elsewhere.count in
            ap (λ (z : Standing). z.file) (get_or_past new.globals.regions r no_region (omega (arith, past, size)) ∙ sym (get_or_past old.globals.regions r no_region past))
      ];
    }

    abbrev needed : Files → ℕ → List Before
    needed files r = if r == number then image_needed old.globals files number block else []

    abbrev LogsState : Files → Type 0
    LogsState files = (hard waits : ℕ → List JournalRecord) → KeepsJournals v hard waits old.journals.journals.items
        → KeepsJournals w hard (λ r. waits r ++ in_region number (image_records (image_needed old.globals files number block)) r) new.journals.journals.items

    abbrev LogsHolds : Files → Type 0
    LogsHolds files = (e : Chosen) (g : ℕ) → HoldsRegion e (files (region_at old.globals number).file) (region_at old.globals number)
        → HoldsRegion (logged_all e (placed_images g (image_needed old.globals files number block))) (files (region_at old.globals number).file) (region_at new.globals number)

    here_logged : (files : Files) → LogsHolds files → IsLogged (files (region_at old.globals number).file) (needed files number) (region_at old.globals number) (region_at new.globals number)
    here_logged files holds =
        let bytes = files (region_at old.globals number).file in
        subst (λ (b : Bool). IsLogged bytes (if b then image_needed old.globals files number block else []) (region_at old.globals number) (region_at new.globals number)) (sym (eq_same number)) (record {
          file = ap (λ (z : Standing). z.file) marks;
          as_on = as_first bytes block (is_free (region_at old.globals number).imaged block);
          holds = λ e g h. subst (λ (l : List Placed). HoldsRegion (logged_all e l) bytes (region_at new.globals number)) (placed_same g (image_needed old.globals files number block)) (holds e g h);
        })

    each_logged : (files : Files) → LogsHolds files → (r : ℕ) → r < length old.globals.regions → IsLogged (files (region_at old.globals r).file) (needed files r) (region_at old.globals r) (region_at new.globals r)
    each_logged files holds r low = elim (cases_eq r number) [
      | inl e ↦ subst (λ (q : ℕ). IsLogged (files (region_at old.globals q).file) (needed files q) (region_at old.globals q) (region_at new.globals q)) (sym e) (here_logged files holds)
      | inr other ↦
          subst (λ (b : Bool). IsLogged (files (region_at old.globals r).file) (if b then image_needed old.globals files number block else []) (region_at old.globals r) (region_at new.globals r)) (sym (eq_other r number other))
          (none_logged (files (region_at old.globals r).file) (region_at old.globals r) (region_at new.globals r) (other_same r other low))
    ]

    has_images : (files : Files) → LogsState files → LogsHolds files → HasImages v w old new files
    has_images files state holds = record {
      images = needed files;
      no_others = λ r past. ap (λ (b : Bool). if b then image_needed old.globals files number block else []) (eq_other r number (λ e. omega (arith, e, past, inside)));
      each = each_logged files holds;
      state = λ hard waits keeps. subst (λ (l : ℕ → List JournalRecord). KeepsJournals w hard l new.journals.journals.items)
          (fun_ext (λ r. ap (λ (l : List JournalRecord). waits r ++ l) (in_one (r == number) (image_needed old.globals files number block)))) (state hard waits keeps);
    }

    pub logs_one : IfSome v.content LogsState → IfSome v.content LogsHolds → Logs v w old new
    logs_one state holds = record {
      ready = ready;
      journals = journals;
      count = count;
      moments = moments;
      stays = stays;
      same = same;
      entries = entries;
      nodes = nodes;
      images = both_weak v.content LogsState LogsHolds (HasImages v w old new) state holds has_images;
    }
