-- Images of an open site whose newest journals have the first few of the records that wait.
use Rattle.std.proofs.Common.{◌≡◌, ◌≤◌, ◌<◌, ◌+◌, ◌-◌, ℕ, zero, suc, List, [], ◌++◌, length, map, take, drop, Some, None, refl, sym, ◌∙◌, ap, subst, arith, append-nil}
use Rattle.std.specs.Prelude.{Option, IsSomeAnd}
use Rattle.std.specs.List.{filter_map}
use Rattle.std.proofs.Math.Path.{fun_ext}
use Rattle.std.proofs.Math.Seq.{take-length}
use Rattle.std.proofs.lemmas.List.{take-append-drop, length-take-le}
use Rattle.std.proofs.lemmas.List.Elements.{filter_map-append}
use Rattle.global_defs.specs.declared.limits.TheConstants.{MOST_REGIONS}
use Rattle.disk_defs.specs.Disk.{Files, View, Image}
use Rattle.disk_defs.specs.Frames.{SameOutside}
use Rattle.global_defs.specs.Entry.{Sequence}
use Rattle.journal_defs.specs.Numbers.{journal_file, lost_file, broken_file, database_file}
use Rattle.journal_defs.specs.Journal.{JournalRecord, Part, IsJournalBody}
use Rattle.journal_defs.specs.Instance.{InstanceRecord, generation, regions, site_name}
use Rattle.journal_defs.specs.Directory.{patterns}
use Rattle.journal_defs.specs.Broken.{broken, broken_text}
use Rattle.journal_defs.specs.Sequence.{Placed, Records, IsSequence, entry}
use Rattle.journal_defs.specs.Epochs.{chosen, block_of}
use Rattle.journal_defs.specs.Stands.{Holds, in_generation}
use Rattle.journal_defs.specs.Growth.{NonePast, AreEntries, appended, with_more}
use Rattle.journal_defs.specs.Sound.{NoEpochPast}
use Rattle.journal_defs.specs.Fit.{IsSoundImage, HasFewNodes}
use Rattle.journal_laws.proofs.Hardening as laws
use Rattle.journal_laws.proofs.Runs as runs
use Rattle.block_laws.specs.Fronts as fronts
use Rattle.block_laws.specs.Several.{MayAppendAll}
use Rattle.block_laws.proofs.Together as together
use Rattle.block_laws.proofs.Waiting as front
use Rattle.jnl_file.specs.Records.{Recorded, StandsRecords}
use Rattle.jnl_file.specs.Journal as journals
use Rattle.jnl_file.specs.declared.journal.Journal.{Journal}
use Rattle.region_journals.specs.Fronts.{IsNewestFile, HasFirst}
use Rattle.region_journals.specs.Journals.{AreReady}
use Rattle.region_journals.proofs.Turns.{found}
use Rattle.site_defs.specs.Contents.{Contents, Standing, NO_LEFTOVER}
use Rattle.site_defs.specs.Behind.{left_of, text_left, AreKept, IsFrontLeft, IsSiteWith}
use Rattle.site_defs.specs.Fronts.{with_sequence, IsFrontOf}
use Rattle.site_defs.specs.Stands.{start_in, epoch_in, IsSite, HasLeft}
use Rattle.site_store.specs.declared.memory.Memory.{Memory}
use Rattle.site_store.specs.Site.{IsReady, Keeps}
use Rattle.site_store.proofs.Emptied.{none_left}
use Rattle.site_store.proofs.Images.{AreOf, are_of, site_of, texts_same, losts_same, torn_same, left_nothing}
use Rattle.site_store.proofs.Parts.{broken_first, parts_taken, lacks_one}
use Rattle.site_store.proofs.Waiting as waiting
use Rattle.site_store.proofs.Waiting.{parts_kept}
use Rattle.region_epochs.proofs.Fronts.{with_none as none_more}

-- an image has the hardened records
none_taken : {X : Type 0} (m : ℕ) → take {A = X} m [] ≡ []
none_taken zero = refl
none_taken (suc m) = refl

pub stands_hard : (rs : List JournalRecord) (file : List ℕ) → StandsRecords rs [] file → Holds IsJournalBody file rs
stands_hard rs file stands = subst (λ (l : List JournalRecord). Holds IsJournalBody file l) (ap (λ (l : List JournalRecord). rs ++ l) (none_taken stands.0) ∙ append-nil rs) stands.2

pub stands_in : (v : View) (j : Journal) (s : Recorded) → journals.HasRecords v j s → (f : Files) → Image v f → StandsRecords s.hard s.opening (f j.gated.file)
stands_in v j s has f now = among v.content has
  where
    among : (o : Option Files) → IsSomeAnd o (journals.HoldsRecords v j s) → StandsRecords s.hard s.opening (f j.gated.file)
    among None h = absurd h
    among (Some a) h = h.stands f now

-- none of the records that wait, and all of them
none_first : (s : Records) (g : ℕ) (waits : ℕ → List JournalRecord) → with_more s (λ r. map (in_generation g) (take 0 (waits r))) ≡ s
none_first s g waits = none_more s

all_first : (s : Records) (g : ℕ) (waits : ℕ → List JournalRecord) → with_more s (λ r. map (in_generation g) (take (length (waits r)) (waits r))) ≡ with_more s (λ r. map (in_generation g) (waits r))
all_first s g waits = ap (with_more s) (fun_ext (λ r. ap (map (in_generation g)) (take-length (waits r))))

-- the words of the laws
outside : (g n : ℕ) (d f : Files) → SameOutside (IsNewestFile g n) d f → SameOutside (fronts.IsNewestFile g n) d f
outside g n d f same file out = same file (λ is. out (record { region = is.region; inside = is.inside; is = is.is }))

first_few : (g n : ℕ) (hard waits : ℕ → List JournalRecord) (kept : ℕ → ℕ) (f : Files) → HasFirst g n hard waits kept f → fronts.HasFirst g n hard waits kept f
first_few g n hard waits kept f first = record { each = first.each }

module _ (v : View) (c : Contents) (h : ℕ) (s : Memory) (k : Keeps v c h s) (ready : IsReady v s) (own : s.instance.records ≡ c.instance) where
  -- the hardened records
  abbrev pub base : Records
  base = record { instance = c.instance; journal = k.records.journal }

  pub is_base : k.records ≡ base
  is_base = ap (λ (l : List InstanceRecord). record { instance = l; journal = k.records.journal }) k.newest.instance

  sound_base : (d : Files) → Image v d → IsSoundImage d base (take h c.sequence)
  sound_base d was = subst (λ (u : Records). IsSoundImage d u (take h c.sequence)) is_base (k.sound d was)

  size : length (take h c.sequence) ≡ h
  size = length-take-le h c.sequence k.count

  pub count : length s.journals.journals.items ≡ length (regions c.instance)
  count = ready.each_region ∙ ap (λ (l : List InstanceRecord). length (regions l)) own

  pub few : length (regions c.instance) ≤ MOST_REGIONS
  few = let low = ready.journals.few in let same = count in omega (arith, low, same)

  newest_is : generation s.instance.records ≡ suc k.g
  newest_is = ap generation own ∙ k.newest.generation

  pub are_ready : AreReady v (suc k.g) s.journals.journals.items
  are_ready = subst (λ (g : ℕ). AreReady v g s.journals.journals.items) newest_is ready.journals

  region_held : (d : Files) → Image v d → (r : ℕ) → r < length (regions c.instance) → Holds IsJournalBody (d (journal_file (suc k.g) r)) (k.newer r)
  region_held d was r here =
      let same = count in
      let at = found s.journals.journals.items r (omega (arith, here, same)) in
      let has = k.journal_files.has r at.0 at.1 in
      subst (λ (x : ℕ). Holds IsJournalBody (d x) (k.newer r)) (are_ready.each r at.0 at.1).of.file
      (stands_hard (k.newer r) (d at.0.journal.gated.file) (stands_in v at.0.journal (record { hard = k.newer r; opening = []; closed = k.waits r }) has d was))

  pub are_newest : (d : Files) → Image v d → fronts.AreNewest d base k.g k.newer
  are_newest d was = record { generation = k.newest.generation; held = region_held d was; begun = k.newest.begun }

  none_past : NonePast (length (take h c.sequence)) base
  none_past = subst (λ (n : ℕ). NonePast n base) (sym size) (subst (λ (u : Records). NonePast h u) is_base k.none_past)

  epochs : (r : ℕ) → r < length (regions c.instance) → NoEpochPast (length (take h c.sequence)) c.instance (k.records.journal r)
  epochs r here = subst (λ (n : ℕ). NoEpochPast n c.instance (k.records.journal r)) (sym size) (k.no_epoch_past r here)

  entries : AreEntries c.instance (suc k.g) (length (take h c.sequence)) k.waiting (drop h c.sequence)
  entries = subst (λ (n : ℕ). AreEntries c.instance (suc k.g) n k.waiting (drop h c.sequence)) (sym size) k.are_waiting

  whole : take h c.sequence ++ drop h c.sequence ≡ c.sequence
  whole = take-append-drop h c.sequence

  -- what waits of a region, in its generation
  abbrev pub waits_in : ℕ → List Placed
  waits_in r = map (in_generation (suc k.g)) (k.waits r)

  -- with the first few of those that wait
  abbrev pub with_first : (ℕ → ℕ) → Records
  with_first kept = with_more base (λ r. map (in_generation (suc k.g)) (take (kept r) (k.waits r)))

  -- with all of them
  abbrev pub all_of : Records
  all_of = with_more base waits_in

  abbrev InNewest : Files → Files → Type 0
  InNewest d f = SameOutside (IsNewestFile (suc k.g) (length (regions c.instance))) d f

  abbrev HasKept : (ℕ → ℕ) → Files → Type 0
  HasKept kept f = HasFirst (suc k.g) (length (regions c.instance)) k.newer k.waits kept f

  all_run : (d : Files) → Image v d → IsSequence all_of c.sequence
  all_run d was = subst (IsSequence all_of) whole (together.whole base (take h c.sequence) (suc k.g) k.waiting (drop h c.sequence) waits_in (sound_base d was).sequence none_past entries
      (λ r. together.waiting (suc k.g) k.waiting r (k.waits r) (k.are_waits.parts_are r)))

  pub none_past_whole : NonePast (length c.sequence) all_of
  none_past_whole = subst (λ (seq : Sequence). NonePast (length seq) all_of) whole (together.none_past base (take h c.sequence) (suc k.g) k.waiting (drop h c.sequence) waits_in none_past entries
      (λ r. together.waiting (suc k.g) k.waiting r (k.waits r) (k.are_waits.parts_are r)))

  -- and with the parts alone
  parts_run : (d : Files) → Image v d → IsSequence (with_more base (appended (suc k.g) k.waiting)) c.sequence
  parts_run d was = subst (IsSequence (with_more base (appended (suc k.g) k.waiting))) whole (laws.all base (take h c.sequence) (suc k.g) k.waiting (drop h c.sequence) (sound_base d was).sequence none_past entries)

  pub front_image : (d f : Files) (kept : ℕ → ℕ) → Image v d → InNewest d f → HasKept kept f → (j : ℕ) × (h ≤ j) × (j ≤ length c.sequence) × IsSoundImage f (with_first kept) (take j c.sequence)
  front_image d f kept was same first =
      let found = front.entries d f base (take h c.sequence) k.g k.newer k.waits k.waiting (drop h c.sequence) kept (sound_base d was) (are_newest d was) none_past
      (λ r here. waiting.no_pini (k.waits r) (k.are_waits.others r)) k.are_waits.inside (outside (suc k.g) (length (regions c.instance)) d f same)
      (first_few (suc k.g) (length (regions c.instance)) k.newer k.waits kept f first) epochs entries (subst HasFewNodes (sym whole) k.few_nodes) k.are_waits.parts_are
      (λ r here. subst (λ (n : ℕ). MayAppendAll (chosen c.instance n (k.records.journal r)) (block_of (d (database_file r))) (map (in_generation (suc k.g)) (k.waits r))) (sym size) (k.may_append d was r here))
      k.are_waits.at_home in
      let least = found.1 in
      let most = found.2 in
      let low = size in
      let total : length (take h c.sequence ++ drop h c.sequence) ≡ length c.sequence = ap length whole in
      (found.0, omega (arith, least, low), omega (arith, most, total), subst (λ (l : Sequence). IsSoundImage f (with_first kept) (take found.0 l)) whole found.3)

  -- it's the site with that front
  pub of_first : (d f : Files) (kept : ℕ → ℕ) (seq : Sequence) → Image v d → InNewest d f → AreOf f (with_sequence c seq) (with_first kept)
  of_first d f kept seq was same =
      let of = are_of d (with_sequence c (take h c.sequence)) base (k.images d was) (sound_base d was).held in
      let newest = k.newest.generation in
      let low = k.newest.not_last in
      let some = few in
      record {
        made = of.made;
        mapped = of.mapped;
        instance = refl;
        starts = λ r. of.starts r ∙ sym (filter_map-append (λ (p : Placed). start_in p.what) (k.records.journal r) (map (in_generation (suc k.g)) (take (kept r) (k.waits r)))
            ∙ ap (λ l. filter_map (λ (p : Placed). start_in p.what) (k.records.journal r) ++ l) (waiting.no_starts (suc k.g) (kept r) (k.waits r) (k.are_waits.others r)) ∙ append-nil (filter_map (λ (p : Placed). start_in p.what) (k.records.journal r)));
        epochs = λ r. of.epochs r ∙ sym (filter_map-append (λ (p : Placed). epoch_in p.generation p.what) (k.records.journal r) (map (in_generation (suc k.g)) (take (kept r) (k.waits r)))
            ∙ ap (λ l. filter_map (λ (p : Placed). epoch_in p.generation p.what) (k.records.journal r) ++ l) (waiting.no_epochs (suc k.g) (kept r) (k.waits r) (k.are_waits.others r)) ∙ append-nil (filter_map (λ (p : Placed). epoch_in p.generation p.what) (k.records.journal r)));
        texts = of.texts ∙ sym (texts_same d f (generation c.instance) (λ g below. same (broken_file g) (λ i. omega (arith, i.is, i.inside, newest, low, some, below))));
        losts = of.losts ∙ sym (losts_same d f (generation c.instance) (λ g below. same (lost_file g) (λ i. omega (arith, i.is, i.inside, newest, low, some, below))));
      }

  pub front_site : (d f : Files) (kept : ℕ → ℕ) → Image v d → InNewest d f → HasKept kept f → (o : Contents) × IsFrontOf c.sequence h c o × IsSite f o
  front_site d f kept was same first =
      let found = front_image d f kept was same first in (
        with_sequence c (take found.0 c.sequence),
        record { count = found.0; least = found.1; most = found.2; is = refl },
        site_of f (with_sequence c (take found.0 c.sequence)) (with_first kept) (of_first d f kept (take found.0 c.sequence) was same) found.3,
      )

  -- and what lies behind it are the parts that came past it
  pub front_left : (d f : Files) (kept : ℕ → ℕ) → Image v d → InNewest d f → HasKept kept f → (o : Standing) × IsFrontLeft c.sequence h c o × IsSiteWith f o
  front_left d f kept was same first =
      let found = front_image d f kept was same first in
      let seq : Sequence = take found.0 c.sequence in
      let long : length seq ≡ found.0 = length-take-le found.0 c.sequence found.2 in
      let least = found.1 in
      let newest = k.newest.generation in
      let low = k.newest.not_last in
      let some = few in
      let parts : (ℕ → ℕ) = λ r. parts_kept (kept r) (k.waits r) in
      let here : text_left c c.sequence h parts (length seq) ≡ broken_text (site_name c.instance) (length seq) (broken (with_first kept) (length seq)) =
      ap (broken_text (site_name c.instance) (length seq))
      (ap (λ (ps : List (ℕ → Option Part)). left_of c.instance ps parts (length seq)) (sym k.are_parts)
      ∙ sym (broken_first base (suc k.g) h (length seq) k.waiting parts (subst (λ (n : ℕ). NonePast n base) size none_past) (omega (arith, long, least)) (omega (arith, newest)))
      ∙ waiting.broken_same base (length seq) (λ r. take (parts r) (appended (suc k.g) k.waiting r)) (λ r. map (in_generation (suc k.g)) (take (kept r) (k.waits r)))
      (λ r. sym (waiting.past_first (suc k.g) k.waiting r (k.waits r) (k.are_waits.parts_are r) c.instance (length seq) (kept r)))) in
      let ended : entry (with_more base (λ r. take (parts r) (appended (suc k.g) k.waiting r))) (suc (length seq)) ≡ None =
      waiting.entry_same base (suc (length seq)) (λ r. take (parts r) (appended (suc k.g) k.waiting r)) (λ r. map (in_generation (suc k.g)) (take (kept r) (k.waits r)))
      (λ r. sym (waiting.part_first (suc k.g) k.waiting r (k.waits r) (k.are_waits.parts_are r) c.instance (suc (length seq)) (kept r)))
      ∙ found.3.sequence.ended in (
        record { contents = with_sequence c seq; broken = text_left c c.sequence h parts (length seq) },
        record {
          front = record { count = found.0; least = found.1; most = found.2; is = refl };
          kept = parts;
          broken = refl;
          lacks = λ less has. lacks_one base (suc k.g) h (length seq) (length (regions c.instance)) k.waiting (drop h c.sequence) c.sequence parts k.are_waiting (parts_run d was) ended (omega (arith, long, least)) less k.in_regions
              (subst (λ (ps : List (ℕ → Option Part)). AreKept (length (regions c.instance)) ps parts) (parts_taken (patterns c.instance) h (length seq + 1 - h) (drop h c.sequence) ∙ ap (take (length seq + 1 - h)) (sym k.are_parts)) has);
        },
        record {
          site = site_of f (with_sequence c seq) (with_first kept) (of_first d f kept seq was same) found.3;
          left = record {
            records = with_first kept;
            held = found.3.held;
            broken = here;
            torn = (none_left v c h s d k was).torn ∙ torn_same d f (generation c.instance) (λ next. same (broken_file (suc (generation c.instance))) (λ i. omega (arith, i.is, i.inside, newest, low, some)));
          };
        },
      )

  -- with none of those that wait
  pub none_image : (d f : Files) → Image v d → InNewest d f → HasKept (λ r. 0) f → IsSoundImage f base (take h c.sequence)
  none_image d f was same first =
      let found = front_image d f (λ r. 0) was same first in
      let sound : IsSoundImage f base (take found.0 c.sequence) = subst (λ (u : Records). IsSoundImage f u (take found.0 c.sequence)) (none_first base (suc k.g) k.waits) found.3 in
      subst (IsSoundImage f base) (runs.one base (take found.0 c.sequence) (take h c.sequence) sound.sequence (sound_base d was).sequence) sound

  pub none_site : (d f : Files) → Image v d → InNewest d f → HasKept (λ r. 0) f → IsSite f (with_sequence c (take h c.sequence))
  none_site d f was same first =
      site_of f (with_sequence c (take h c.sequence)) base (subst (AreOf f (with_sequence c (take h c.sequence))) (none_first base (suc k.g) k.waits) (of_first d f (λ r. 0) (take h c.sequence) was same)) (none_image d f was same first)

  -- and nothing lies behind it
  pub none_behind : (d f : Files) → Image v d → InNewest d f → HasKept (λ r. 0) f → HasLeft f (with_sequence c (take h c.sequence)) NO_LEFTOVER
  none_behind d f was same first =
      let sound = none_image d f was same first in
      left_nothing f (with_sequence c (take h c.sequence)) base sound.held sound.clean none_past refl

  abbrev pub every : ℕ → ℕ
  every r = length (k.waits r)

  pub all_image : (d f : Files) → Image v d → InNewest d f → HasKept every f → IsSoundImage f all_of c.sequence
  all_image d f was same first =
      let found = front_image d f every was same first in
      let sound : IsSoundImage f all_of (take found.0 c.sequence) = subst (λ (u : Records). IsSoundImage f u (take found.0 c.sequence)) (all_first base (suc k.g) k.waits) found.3 in
      let longest = all_run d was in
      subst (IsSoundImage f all_of) (runs.one all_of (take found.0 c.sequence) c.sequence sound.sequence longest) sound

  pub all_site : (d f : Files) → Image v d → InNewest d f → HasKept every f → IsSite f (with_sequence c (take (length c.sequence) c.sequence))
  all_site d f was same first =
      subst (λ (seq : Sequence). IsSite f (with_sequence c seq)) (sym (take-length c.sequence))
      (site_of f c all_of (subst (AreOf f c) (all_first base (suc k.g) k.waits) (of_first d f every c.sequence was same)) (all_image d f was same first))
