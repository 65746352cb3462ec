-- The entries that wait are hardened.
use Rattle.std.proofs.Common.{◌≡◌, ◌≤◌, ◌<◌, ℕ, suc, Bool, true, List, [], ◌++◌, length, map, take, drop, filter, refl, sym, ◌∙◌, ap, subst, arith, append-nil}
use Rattle.std.specs.Prelude.{Option, IfSome}
use Rattle.std.proofs.Math.Seq.{take-length, drop-length}
use Rattle.global_defs.specs.declared.limits.TheConstants.{MOST_REGIONS, NUMBERS_END}
use Rattle.disk_defs.specs.Disk.{Files, View, Image, IsLawful, AtEachMoment}
use Rattle.disk_defs.specs.Frames.{SameOutside, OnlyIn, OthersStay}
use Rattle.disk_defs.proofs.Moments.{weaker, holds_now}
use Rattle.global_defs.specs.Entry.{Sequence}
use Rattle.journal_defs.specs.Numbers.{journal_file, database_file}
use Rattle.journal_defs.specs.Journal.{JournalRecord, Part, IsJournalBody}
use Rattle.journal_defs.specs.Instance.{InstanceRecord, regions}
use Rattle.journal_defs.specs.Directory.{patterns}
use Rattle.journal_defs.specs.Sequence.{Records}
use Rattle.journal_defs.specs.Stands.{Holds, in_generation}
use Rattle.journal_defs.specs.Growth.{NonePast, AreEntries, tcoms, with_more}
use Rattle.journal_defs.specs.Epochs.{chosen, block_of}
use Rattle.journal_defs.specs.Sound.{NoEpochPast}
use Rattle.journal_defs.specs.Fit.{IsSoundImage}
use Rattle.journal_laws.proofs.Appending.{journal_same}
use Rattle.block_laws.specs.Several.{is_tcom}
use Rattle.block_laws.proofs.Appends.{none_past_all, none_past_greater}
use Rattle.block_laws.proofs.Together as together
use Rattle.instance_file.specs.declared.instance.Instance.{Instance}
use Rattle.region_journals.specs.declared.journals.RegionJournal.{RegionJournal}
use Rattle.region_journals.specs.Fronts.{IsNewestFile, HasFirst}
use Rattle.region_journals.specs.Journals.{AreReady, KeepsJournals}
use Rattle.region_journals.proofs.Turns.{found}
use Rattle.site_defs.specs.Contents.{Contents, Standing, bare}
use Rattle.site_defs.specs.Behind.{IsFrontLeft, IsSiteWith}
use Rattle.site_defs.specs.Fronts.{with_sequence, IsFrontOf}
use Rattle.site_defs.specs.Stands.{IsSite}
use Rattle.site_store.specs.declared.memory.Memory.{Memory}
use Rattle.region_store.specs.Joined.{joined}
use Rattle.site_store.specs.Site.{Remembers, IsReady, Keeps, IsOpen, IsSettled, AreOnBlocks, count_of}
use Rattle.site_store.proofs.Remembered.{remembered_length}
use Rattle.entry_index.specs.declared.index.EntryIndex.{EntryIndex}
use Rattle.entry_index.specs.Found.{entry_count, IsWhole}
use Rattle.entry_index.specs.Among.{IsIndexOf}
use Rattle.entry_index.proofs.AmongLaws.{index_behind}
use Rattle.site_store.proofs.Indexing.{stand_same}
use Rattle.site_store.proofs.Standing.{reads_of, reads_so, told_of, still, read_image}
use Rattle.site_store.proofs.Begun.{none_waiting}
use Rattle.site_store.proofs.Images.{site_of, left_nothing}
use Rattle.site_store.proofs.Committed.{instance_kept, ready_after}
use Rattle.site_store.proofs.Waiting as waiting
use Rattle.site_store.proofs.Newest as newest
use Rattle.site_store.proofs.HeldRegions.{changed_not, no_journal, synced_stays}
use Rattle.site_store.proofs.OnBlocks.{on_same, on_chosen}
use Rattle.site_store.proofs.Parts.{no_entry_no_part}
use Rattle.journal_defs.specs.Surviving.{reigns}
use Rattle.block_laws.proofs.Waiting.{begins_more}
use Rattle.region_epochs.proofs.Fronts.{with_none}

-- each moment of a hardening of these journals
abbrev pub HardenMoments : View → View → List RegionJournal → Type 0
HardenMoments v w js = (g : ℕ) (hard waiting : ℕ → List JournalRecord) → AreReady v g js → KeepsJournals v hard waiting js → AtEachMoment v w (OnlyIn v (IsNewestFile g (length js)) (λ c. (kept : ℕ → ℕ) × HasFirst g (length js) hard waiting kept c))

harden_run : (v w : View) (c : Contents) (h : ℕ) (s : Memory) (k : Keeps v c h s) → IsReady v s → s.instance.records ≡ c.instance → HardenMoments v w s.journals.journals.items
    → AtEachMoment v w (OnlyIn v (IsNewestFile (suc k.g) (length (regions c.instance))) (λ f. (kept : ℕ → ℕ) × HasFirst (suc k.g) (length (regions c.instance)) k.newer k.waits kept f))
harden_run v w c h s k ready own run =
    subst (λ (n : ℕ). AtEachMoment v w (OnlyIn v (IsNewestFile (suc k.g) n) (λ f. (kept : ℕ → ℕ) × HasFirst (suc k.g) n k.newer k.waits kept f))) (newest.count v c h s k ready own)
    (run (suc k.g) k.newer k.waits (newest.are_ready v c h s k ready own) k.journal_files)

pub harden_moments : (v w : View) (c : Contents) (h : ℕ) (s : Memory) → IsReady v s → HardenMoments v w s.journals.journals.items → IsOpen v true c h s → AtEachMoment v w (λ f. (o : Contents) × IsFrontOf c.sequence h c o × IsSite f o)
harden_moments v w c h s ready run is =
    let k = is.kept refl in
    weaker v w (OnlyIn v (IsNewestFile (suc k.g) (length (regions c.instance))) (λ f. (kept : ℕ → ℕ) × HasFirst (suc k.g) (length (regions c.instance)) k.newer k.waits kept f)) (λ f. (o : Contents) × IsFrontOf c.sequence h c o × IsSite f o)
    (λ f q. newest.front_site v c h s k ready is.remembered.instance q.others.0 f q.here.0 q.others.1 q.others.2 q.here.1)
    (harden_run v w c h s k ready is.remembered.instance run)

-- with the parts that came past it
pub harden_left : (v w : View) (c : Contents) (h : ℕ) (s : Memory) → IsReady v s → HardenMoments v w s.journals.journals.items → IsOpen v true c h s → AtEachMoment v w (λ f. (o : Standing) × IsFrontLeft c.sequence h c o × IsSiteWith f o)
harden_left v w c h s ready run is =
    let k = is.kept refl in
    weaker v w (OnlyIn v (IsNewestFile (suc k.g) (length (regions c.instance))) (λ f. (kept : ℕ → ℕ) × HasFirst (suc k.g) (length (regions c.instance)) k.newer k.waits kept f)) (λ f. (o : Standing) × IsFrontLeft c.sequence h c o × IsSiteWith f o)
    (λ f q. newest.front_left v c h s k ready is.remembered.instance q.others.0 f q.here.0 q.others.1 q.others.2 q.here.1)
    (harden_run v w c h s k ready is.remembered.instance run)

pub harden_stands : (v w : View) (c : Contents) (h : ℕ) → IsLawful w → AtEachMoment v w (λ f. (o : Contents) × IsFrontOf c.sequence h c o × IsSite f o) → IfSome w.content (λ f. (o : Contents) × IsFrontOf c.sequence h c o × IsSite f o)
harden_stands v w c h lawful run = reads_of w (λ f. (o : Contents) × IsFrontOf c.sequence h c o × IsSite f o) lawful (holds_now v w (λ f. (o : Contents) × IsFrontOf c.sequence h c o × IsSite f o) lawful run)

-- What waits of a site whose entries are all hardened holds no part, so that wherever a crash cuts it nothing lies behind them.
module _ (v : View) (c : Contents) (s : Memory) (k : Keeps v c (length c.sequence) s) (ready : IsReady v s) (own : s.instance.records ≡ c.instance) where
  no_part : (r : ℕ) → filter is_tcom (k.waits r) ≡ []
  no_part r = k.are_waits.parts_are r ∙ ap (λ (ps : List (ℕ → Option Part)). tcoms ps r) (none_waiting c.instance (suc k.g) (length c.sequence) k.waiting (drop (length c.sequence) c.sequence) (drop-length c.sequence) k.are_waiting)

  none_past_first : (kept : ℕ → ℕ) → NonePast (length c.sequence) (newest.with_first v c (length c.sequence) s k ready own kept)
  none_past_first kept =
      subst (λ (seq : Sequence). NonePast (length seq) (newest.with_first v c (length c.sequence) s k ready own kept)) (append-nil c.sequence)
      (together.none_past (newest.base v c (length c.sequence) s k ready own) c.sequence (suc k.g) [] [] (λ r. map (in_generation (suc k.g)) (take (kept r) (k.waits r)))
      (subst (λ (u : Records). NonePast (length c.sequence) u) (newest.is_base v c (length c.sequence) s k ready own) k.none_past) tt
      (λ r. together.waiting (suc k.g) [] r (take (kept r) (k.waits r)) (waiting.no_first_part (kept r) (k.waits r) (no_part r))))

  settled_site : (d f : Files) (kept : ℕ → ℕ) → Image v d → SameOutside (IsNewestFile (suc k.g) (length (regions c.instance))) d f → HasFirst (suc k.g) (length (regions c.instance)) k.newer k.waits kept f → IsSiteWith f (bare c)
  settled_site d f kept was same first =
      let found = newest.front_image v c (length c.sequence) s k ready own d f kept was same first in
      let all : found.0 ≡ length c.sequence = (let least = found.1 in let most = found.2 in omega (arith, least, most)) in
      let sound : IsSoundImage f (newest.with_first v c (length c.sequence) s k ready own kept) c.sequence =
      subst (IsSoundImage f (newest.with_first v c (length c.sequence) s k ready own kept)) (ap (λ (n : ℕ). take n c.sequence) all ∙ take-length c.sequence) found.3 in
      record {
        site = site_of f c (newest.with_first v c (length c.sequence) s k ready own kept) (newest.of_first v c (length c.sequence) s k ready own d f kept c.sequence was same) sound;
        left = left_nothing f c (newest.with_first v c (length c.sequence) s k ready own kept) sound.held sound.clean (none_past_first kept) refl;
      }

-- After it: what has been done to a site whose entries were hardened.
pub record Hardens (v w : View) (old new : Memory) : Type 0 where
  pub ready : IsReady v old
  pub journals : (g : ℕ) → AreReady v g old.journals.journals.items → AreReady w g new.journals.journals.items
  pub state : (hard waiting : ℕ → List JournalRecord) → KeepsJournals v hard waiting old.journals.journals.items → KeepsJournals w (λ r. hard r ++ waiting r) (λ r. []) new.journals.journals.items
  pub count : length new.journals.journals.items ≡ length old.journals.journals.items
  pub stays : (g : ℕ) → AreReady v g old.journals.journals.items → OthersStay (IsNewestFile g (length old.journals.journals.items)) v w
  pub instance : new.instance ≡ old.instance
  pub layout : new.layout ≡ old.layout
  pub entries : new.entries ≡ old.entries
  pub globals : new.globals ≡ old.globals

pub ready_hardened : (v w : View) (old new : Memory) → Hardens v w old new → IsReady w new
ready_hardened v w old new p =
    ready_after v w old new p.ready p.journals p.count p.stays p.instance p.layout (changed_not old.globals new.globals p.globals)
    (subst (λ (i : EntryIndex). entry_count i < NUMBERS_END) (sym p.entries) p.ready.few) (subst IsWhole (sym p.entries) p.ready.whole) (ap (λ (i : EntryIndex). i.regions) p.entries)

module _ (v w : View) (c : Contents) (h : ℕ) (old new : Memory) (p : Hardens v w old new) (lawful : IsLawful w) (k : Keeps v c h old) (m : Remembers c h old) where
  own : old.instance.records ≡ c.instance
  own = m.instance

  size : length old.journals.journals.items ≡ length (regions c.instance)
  size = newest.count v c h old k p.ready own

  few : length (regions c.instance) ≤ MOST_REGIONS
  few = newest.few v c h old k p.ready own

  stays : OthersStay (IsNewestFile (suc k.g) (length old.journals.journals.items)) v w
  stays = p.stays (suc k.g) (newest.are_ready v c h old k p.ready own)

  journals : AreReady w (suc k.g) new.journals.journals.items
  journals = p.journals (suc k.g) (newest.are_ready v c h old k p.ready own)

  abbrev newer : ℕ → List JournalRecord
  newer r = k.newer r ++ k.waits r

  state : KeepsJournals w newer (λ r. []) new.journals.journals.items
  state = p.state k.newer k.waits k.journal_files

  region_held : (f : Files) → Image w f → (r : ℕ) → r < length (regions c.instance) → Holds IsJournalBody (f (journal_file (suc k.g) r)) (newer r)
  region_held f now r here =
      let same = size in
      let count = p.count in
      let at = found new.journals.journals.items r (omega (arith, here, same, count)) in
      subst (λ (x : ℕ). Holds IsJournalBody (f x) (newer r)) (journals.each r at.0 at.1).of.file
      (newest.stands_hard (newer r) (f at.0.journal.gated.file) (newest.stands_in w at.0.journal (record { hard = newer r; opening = []; closed = [] }) (state.has r at.0 at.1) f now))

  first : (f : Files) → Image w f → HasFirst (suc k.g) (length (regions c.instance)) k.newer k.waits (newest.every v c h old k p.ready own) f
  first f now = record { each = λ r here. subst (λ (l : List JournalRecord). Holds IsJournalBody (f (journal_file (suc k.g) r)) (k.newer r ++ l)) (sym (take-length (k.waits r))) (region_held f now r here) }

  outside : (f : Files) (now : Image w f) → SameOutside (IsNewestFile (suc k.g) (length (regions c.instance))) (stays.images f now).0 f
  outside f now = subst (λ (n : ℕ). SameOutside (IsNewestFile (suc k.g) n) (stays.images f now).0 f) size (stays.images f now).2

  abbrev all : Records
  all = newest.all_of v c h old k p.ready own

  sound : (f : Files) → Image w f → IsSoundImage f all c.sequence
  sound f now = newest.all_image v c h old k p.ready own (stays.images f now).0 f (stays.images f now).1 (outside f now) (first f now)

  site : (f : Files) → Image w f → IsSite f (with_sequence c (take (length c.sequence) c.sequence))
  site f now = newest.all_site v c h old k p.ready own (stays.images f now).0 f (stays.images f now).1 (outside f now) (first f now)

  -- no epoch stands among the records that waited
  none_past_later : (r : ℕ) → r < length (regions c.instance) → NoEpochPast h c.instance (all.journal r)
  none_past_later r here =
      let now = read_image w lawful (still v w (IsNewestFile (suc k.g) (length old.journals.journals.items)) stays (told_of v c h old k)) in
      let d = stays.images now.0 now.2 in
      none_past_all c.instance h (k.records.journal r) (block_of (d.0 (database_file r))) (map (in_generation (suc k.g)) (k.waits r)) (k.no_epoch_past r here) (k.may_append d.0 d.1 r here)

  -- the regions' blocks are still those of the epochs
  on_all : (f : Files) → Image w f → AreOnBlocks f all (length c.sequence) new.globals
  on_all f now =
      let from = stays.images f now in
      let low = few in
      let same : length (regions c.instance) ≡ length (regions k.records.instance) = ap (λ (l : List InstanceRecord). length (regions l)) (sym k.newest.instance) in
      subst (AreOnBlocks f all (length c.sequence)) (sym p.globals)
      (on_same from.0 f all (length c.sequence) old.globals (λ r here. outside f now (database_file r) (λ i. omega (arith, i.is, i.inside, here, low)))
      (on_chosen from.0 (with_more k.records (λ r. map (in_generation (suc k.g)) (k.waits r))) all h (length c.sequence) old.globals same (ap patterns (sym k.newest.instance))
      (λ r here. (refl, none_past_later r (omega (arith, here, same)) (length c.sequence) k.count ∙ ap (λ (l : List InstanceRecord). chosen l h (all.journal r)) (sym k.newest.instance)))
      (k.blocks from.0 from.1)))

  pub keeps_hardened : Keeps w c (length c.sequence) new
  keeps_hardened = record {
    count = omega arith;
    few_nodes = k.few_nodes;
    reads = reads_so w (λ files. IsSite files (with_sequence c (take (length c.sequence) c.sequence))) lawful (still v w (IsNewestFile (suc k.g) (length old.journals.journals.items)) stays (told_of v c h old k)) site;
    images = site;
    records = all;
    g = k.g;
    last = k.last;
    older = k.older;
    newer = newer;
    newest = record {
      generation = k.newest.generation;
      not_last = k.newest.not_last;
      instance = refl;
      whole = λ r here. waiting.whole_more (suc k.g) (k.records.journal r) (k.older r) (k.newer r) (k.waits r) (k.newest.whole r here);
      begins = λ r here. begins_more r (suc k.g) (k.last r) (k.newer r) (k.waits r) (k.newest.begun r here) (k.newest.begins r here) (waiting.no_pini (k.waits r) (k.are_waits.others r));
      begun = λ r here. waiting.begun_more (k.newer r) (k.waits r) (k.newest.begun r here);
    };
    sound = λ f now. subst (IsSoundImage f all) (sym (take-length c.sequence)) (sound f now);
    older_files = λ f now r here.
        let low = few in
        journal_same (stays.images f now).0 f r k.g (k.last r) (k.older r) (λ n le. outside f now (journal_file n r) (λ i. omega (arith, i.is, i.inside, le, here, low))) (k.older_files (stays.images f now).0 (stays.images f now).1 r here);
    older_stand = λ f now r here.
        let low = few in
        stand_same (stays.images f now).0 f r k.g (k.older r) (λ n le. outside f now (journal_file n r) (λ i. omega (arith, i.is, i.inside, le, here, low))) (k.older_stand (stays.images f now).0 (stays.images f now).1 r here);
    none_past = newest.none_past_whole v c h old k p.ready own;
    blocks = λ f now. subst (λ (u : Records). AreOnBlocks f u (length c.sequence) new.globals) (sym (with_none all)) (on_all f now);
    databases = (let low = few in synced_stays v w (IsNewestFile (suc k.g) (length old.journals.journals.items)) (length (regions c.instance)) stays.images (no_journal (suc k.g) (length old.journals.journals.items) (length (regions c.instance)) low) k.databases);
    no_epoch_past = λ r here. none_past_greater c.instance h (length c.sequence) (all.journal r) k.count (none_past_later r here);
    waits = λ r. [];
    waiting = [];
    are_waiting = subst (AreEntries c.instance (suc k.g) (length c.sequence) []) (sym (drop-length c.sequence)) tt;
    are_parts = no_entry_no_part (patterns c.instance) c.sequence;
    in_regions = tt;
    indexed = subst (λ (i : EntryIndex). IsIndexOf (λ r. all.journal r ++ []) (reigns c.instance) i c.sequence) (sym p.entries)
        (index_behind (λ r. k.records.journal r ++ map (in_generation (suc k.g)) (k.waits r)) (λ r. all.journal r ++ []) (reigns c.instance) old.entries c.sequence (λ r low. ([], refl)) k.indexed);
    are_waits = waiting.none_wait c.instance (suc k.g);
    may_append = λ f now r here. tt;
    instance_file = instance_kept v w old new (suc k.g) (length old.journals.journals.items) c.instance stays p.instance k.instance_file;
    journal_files = record { has = λ r y is. state.has r y is; none_waits = λ r y is none. refl };
  }

  pub none_waits_then : (r : ℕ) → keeps_hardened.waits r ≡ []
  unfolding keeps_hardened
  none_waits_then r = refl

pub open_hardened : (v w : View) (told : Bool) (c : Contents) (h : ℕ) (old new : Memory) → Hardens v w old new → new.hardened ≡ count_of old → IsLawful w → IsOpen v told c h old → IsOpen w told c (length c.sequence) new
open_hardened v w told c h old new p hardened lawful is = record {
  remembered = record {
    instance = ap (λ (i : Instance). i.records) p.instance ∙ is.remembered.instance;
    count = ap entry_count p.entries ∙ is.remembered.count;
    globals = ap joined p.globals ∙ is.remembered.globals;
    hardened = hardened ∙ remembered_length c h old is.remembered;
  };
  kept = λ known. keeps_hardened v w c h old new p lawful (is.kept known) is.remembered;
}

-- where all entries were hardened, nothing but what waited is new
pub open_settled : (v w : View) (told : Bool) (c : Contents) (old new : Memory) → Hardens v w old new → new.hardened ≡ old.hardened → IsLawful w → IsOpen v told c (length c.sequence) old → IsSettled w told c new
open_settled v w told c old new p hardened lawful is = record {
  is = record {
    remembered = record {
      instance = ap (λ (i : Instance). i.records) p.instance ∙ is.remembered.instance;
      count = ap entry_count p.entries ∙ is.remembered.count;
      globals = ap joined p.globals ∙ is.remembered.globals;
      hardened = hardened ∙ is.remembered.hardened;
    };
    kept = λ known. keeps_hardened v w c (length c.sequence) old new p lawful (is.kept known) is.remembered;
  };
  none_waits = λ known r. none_waits_then v w c (length c.sequence) old new p lawful (is.kept known) is.remembered r;
}

-- and at each moment of that all of it stands, with nothing behind
pub settle_left : (v w : View) (c : Contents) (old : Memory) → IsReady v old → HardenMoments v w old.journals.journals.items → IsOpen v true c (length c.sequence) old → AtEachMoment v w (λ f. IsSiteWith f (bare c))
settle_left v w c old ready run is =
    let k = is.kept refl in
    weaker v w (OnlyIn v (IsNewestFile (suc k.g) (length (regions c.instance))) (λ f. (kept : ℕ → ℕ) × HasFirst (suc k.g) (length (regions c.instance)) k.newer k.waits kept f)) (λ f. IsSiteWith f (bare c))
    (λ f q. settled_site v c old k ready is.remembered.instance q.others.0 f q.here.0 q.others.1 q.others.2 q.here.1)
    (harden_run v w c (length c.sequence) old k ready is.remembered.instance run)
