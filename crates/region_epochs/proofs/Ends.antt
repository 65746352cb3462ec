-- A site whose journals gain an EPOCH of each region.
use Rattle.std.proofs.Common.{◌≡◌, ◌⊎◌, inl, inr, ◌≤◌, ◌<◌, ℕ, suc, Bool, true, false, nat_lt, List, [], ◌∷◌, ◌++◌, length, map, Some, None, Option, option_map, refl, sym, ◌∙◌, ap, subst, arith}
use Rattle.std.specs.Prelude.{IfSome, slice_get, if◌then◌else◌}
use Rattle.std.proofs.Math.Path.{fun_ext}
use Rattle.std.proofs.lemmas.Bool.{cases_lt}
use Rattle.std.proofs.lemmas.Bool.Decides.{nat_tests}
use Rattle.std.proofs.lemmas.Option.{slice_get-map}
use Rattle.global_defs.specs.declared.limits.TheConstants.{MOST_REGIONS}
use Rattle.disk_defs.specs.Disk.{Files, View, Image, IsLawful, IsDurable, AtEachMoment}
use Rattle.disk_defs.specs.Frames.{SameOutside, OnlyIn, OthersStay}
use Rattle.disk_defs.proofs.Frames.{durable_stays, others_then}
use Rattle.disk_defs.proofs.Told.{reads_after}
use Rattle.global_defs.specs.Entry.{Sequence}
use Rattle.journal_defs.specs.Numbers.{database_file}
use Rattle.journal_defs.specs.Journal.{JournalRecord, Epoch, Mark}
use Rattle.journal_defs.specs.Instance.{regions, generation}
use Rattle.journal_defs.specs.Directory.{patterns}
use Rattle.journal_defs.specs.Sequence.{Records}
use Rattle.journal_defs.specs.Epochs.{Chosen, chosen, image_state, block_of, NeedsForward}
use Rattle.journal_defs.specs.Undo.{fresh}
use Rattle.journal_defs.specs.Sound.{Restores, region_state}
use Rattle.journal_defs.specs.Stands.{in_generation}
use Rattle.journal_defs.specs.Growth.{with_more}
use Rattle.journal_laws.proofs.Targets.{new_epoch}
use Rattle.block_laws.specs.Several.{marks_in, epoch_of}
use Rattle.block_laws.proofs.Appends.{survives_newest}
use Rattle.jnl_record.specs.declared.record.JnlRecord.{JnlRecord}
use Rattle.jnl_record.specs.Values.{record_value}
use Rattle.region_store.specs.Region.{Standing, HoldsRegion, IsHeld, IsFlushed}
use Rattle.region_journals.specs.declared.journals.RegionJournal.{RegionJournal}
use Rattle.region_journals.specs.Fronts.{IsNewestFile, HasFirst}
use Rattle.region_journals.specs.Journals.{AreReady, KeepsJournals, listed}
use Rattle.region_journals.proofs.Turns.{found}
use Rattle.region_store.specs.Joined.{Joined, region_at}
use Rattle.region_epochs.specs.declared.flushing.Flushed.{Flushed}
use Rattle.region_epochs.specs.Flushed.{AreEpochs, AreRestored, one_each}
use Rattle.region_epochs.specs.Kept.{EachIsSound, IsKept, IsStillSound, IsRegionKept, IsEpochFront, Images, WithEpoch}
use Rattle.region_epochs.specs.Taken.{IsTaken, mark_of}
use Rattle.region_epochs.proofs.Epochs.{IsBegun, none_waits_past}
use Rattle.region_epochs.proofs.Sites as sites
use Rattle.region_epochs.proofs.Logs.{FirstMoments, HardMoments, JournalsStay, first_moments, first_after, still_durable, told_then, apart, chain, all_there}

-- ---- the marks of the regions

-- the mark of each of the first n regions
abbrev pub marks_of : ℕ → (ℕ → Mark) → ℕ → Option Mark
marks_of n m r = if nat_lt r n then Some (m r) else None

mark_below : (n : ℕ) (m : ℕ → Mark) (r : ℕ) → r < n → marks_of n m r ≡ Some (m r)
mark_below n m r low = ap (λ (b : Bool). if b then Some (m r) else None) yes
  where
    yes : nat_lt r n ≡ true
    yes = grind (arith, nat_tests, low)

mark_past : (n : ℕ) (m : ℕ → Mark) (r : ℕ) → n ≤ r → marks_of n m r ≡ None
mark_past n m r far = ap (λ (b : Bool). if b then Some (m r) else None) isnt
  where
    isnt : nat_lt r n ≡ false
    isnt = grind (arith, nat_tests, far)

some_mark : (a b : Mark) → Some a ≡ Some b → a ≡ b
some_mark a b e = cc

mark_is : (n : ℕ) (m : ℕ → Mark) (r : ℕ) (x : Mark) → marks_of n m r ≡ Some x → x ≡ m r
mark_is n m r x is = elim (cases_lt r n) [
  | inl low ↦ sym (some_mark (m r) x (sym (mark_below n m r low) ∙ is))
  | inr far ↦ let gone : None ≡ Some x = sym (mark_past n m r far) ∙ is in cc
]

none_past : (n : ℕ) (m : ℕ → Mark) (r : ℕ) → n ≤ r → marks_in (marks_of n m) r ≡ []
none_past n m r far = ap epoch_of (mark_past n m r far)

one_below : (n : ℕ) (m : ℕ → Mark) (r : ℕ) → r < n → marks_in (marks_of n m) r ≡ Epoch (m r) ∷ []
one_below n m r low = ap epoch_of (mark_below n m r low)

-- what waits is the EPOCHs of these
waits : (n : ℕ) (m : ℕ → Mark) (rs : List JnlRecord) → length rs ≡ n → ((r : ℕ) (x : JnlRecord) → slice_get rs r ≡ Some x → record_value x ≡ Epoch (m r)) → one_each rs ≡ marks_in (marks_of n m)
waits n m rs count are = fun_ext (λ r. elim (cases_lt r n) [
  | inl low ↦
      let x = found rs r (omega (arith, low, count)) in
      ap listed (slice_get-map record_value rs r ∙ ap (option_map record_value) x.1) ∙ ap (λ (w : JournalRecord). w ∷ []) (are r x.0 x.1) ∙ sym (one_below n m r low)
  | inr far ↦ none_waits_past rs r (omega (arith, far, count)) ∙ sym (none_past n m r far)
])

fronts : (n count : ℕ) (m : ℕ → Mark) → ((r : ℕ) → (m r).number ≡ n) → (r : ℕ) → IsEpochFront n (marks_in (marks_of count m) r)
fronts n count m numbers r = elim (cases_lt r count) [
  | inl low ↦ WithEpoch [] (m r) (numbers r) (one_below count m r low)
  | inr far ↦ Images [] (none_past count m r far)
]

-- ---- the call

module _ (u v w : View) (closing : Bool) (s : Records) (seq : Sequence) (g : ℕ) (newer : ℕ → List JournalRecord) (js ks : List RegionJournal) (j : Joined) (k : IsKept u s seq g newer js j)
    (earlier : IsLawful u) (lawful : IsLawful v) (run : FirstMoments u v js) (frame : JournalsStay u v js) (count : length ks ≡ length js) (ready : (h : ℕ) → AreReady u h js → AreReady v h ks)
    (made : Flushed) (epochs : AreEpochs closing (length seq) j made) (restored : IfSome u.content (AreRestored j))
    (state : (hard : ℕ → List JournalRecord) → KeepsJournals u hard (λ r. []) js → KeepsJournals v hard (one_each made.epochs.items) ks) where
  same_wait : one_each made.epochs.items ≡ marks_in (marks_of (length (regions s.instance)) (mark_of closing (length seq) j))
  same_wait = waits (length (regions s.instance)) (mark_of closing (length seq) j) made.epochs.items (epochs.as_many_epochs ∙ k.as_many_regions) epochs.epoch

  keeps : KeepsJournals v newer (marks_in (marks_of (length (regions s.instance)) (mark_of closing (length seq) j))) ks
  keeps = subst (λ (waiting : ℕ → List JournalRecord). KeepsJournals v newer waiting ks) same_wait (state newer k.journals)

  as_many : length ks ≡ length (regions s.instance)
  as_many = count ∙ k.as_many_journals

  generation_is : generation s.instance ≡ suc g
  generation_is =
      let now : Image u k.files = subst (λ (o : Option Files). IfSome o (λ files. Image u files)) k.told earlier.as_read in
      (k.sound.newest k.files now).generation

  durable : (r : ℕ) → r < length (regions s.instance) → IsDurable v (database_file r) (k.files (database_file r))
  durable = still_durable u v s seq g newer js j k run frame

  sound : EachIsSound v s seq g newer
  sound = first_after u v s seq g newer js j k run lawful

  numbers : (r : ℕ) (m : Mark) → marks_of (length (regions s.instance)) (mark_of closing (length seq) j) r ≡ Some m → m.number ≡ length seq
  numbers r m is = ap (λ (x : Mark). x.number) (mark_is (length (regions s.instance)) (mark_of closing (length seq) j) r m is)

  fewer : (r : ℕ) (m : Mark) → m ≡ mark_of closing (length seq) j r → NeedsForward s.instance (length seq) (s.journal r) ⊎ HoldsRegion (chosen s.instance (length seq) (s.journal r)) (k.files (database_file r)) (region_at j r)
      → NeedsForward s.instance (length seq) (s.journal r) ⊎ ((chosen s.instance (length seq) (s.journal r)).blocks ≤ m.blocks)
  fewer r m is (inl needs) = inl needs
  fewer r m is (inr h) = inr (let few = h.blocks in let same = ap (λ (x : Mark). x.blocks) is in omega (arith, few, same))

  may : (r : ℕ) (m : Mark) → marks_of (length (regions s.instance)) (mark_of closing (length seq) j) r ≡ Some m → r < length (regions s.instance)
      → Restores (image_state (fresh m) (block_of (k.files (database_file r)))) (region_state (patterns s.instance) r seq)
      × (NeedsForward s.instance (length seq) (s.journal r) ⊎ ((chosen s.instance (length seq) (s.journal r)).blocks ≤ m.blocks))
  may r m is low =
      let at = mark_is (length (regions s.instance)) (mark_of closing (length seq) j) r m is in
      let here : AreRestored j k.files = subst (λ (o : Option Files). IfSome o (AreRestored j)) k.told restored in
      let many = k.as_many_regions in (
        subst (Restores (image_state (fresh m) (block_of (k.files (database_file r))))) (k.each r low).part (here.each r m (omega (arith, low, many)) (ap (λ (x : Mark). x.blocks) at)),
        fewer r m at (k.each r low).holds,
      )

  pub epoch_moments : HardMoments v w ks → AtEachMoment u w (OnlyIn u (IsNewestFile (suc g) (length js)) (IsStillSound s seq (suc g)))
  epoch_moments hardens = chain u v w (IsNewestFile (suc g) (length js)) (IsStillSound s seq (suc g)) lawful (first_moments u v s seq g newer js j k run)
      (subst (λ (n : ℕ). AtEachMoment v w (OnlyIn v (IsNewestFile (suc g) n) (IsStillSound s seq (suc g)))) (sym k.as_many_journals)
      (sites.marked v w s seq g newer sound k.files (marks_of (length (regions s.instance)) (mark_of closing (length seq) j)) generation_is durable
      (none_past (length (regions s.instance)) (mark_of closing (length seq) j)) numbers may
      (subst (λ (n : ℕ). AtEachMoment v w (OnlyIn v (IsNewestFile (suc g) n) (λ c. (kept : ℕ → ℕ) × HasFirst (suc g) n newer (marks_in (marks_of (length (regions s.instance)) (mark_of closing (length seq) j))) kept c))) as_many
      (hardens (suc g) newer (marks_in (marks_of (length (regions s.instance)) (mark_of closing (length seq) j))) (ready (suc g) k.ready) keeps))))

  -- ---- and then the regions count anew

  module _ (ls : List RegionJournal) (i : Joined) (later : IsLawful w) (frame_then : JournalsStay v w ks) (count_then : length ls ≡ length ks) (ready_then : (h : ℕ) → AreReady v h ks → AreReady w h ls)
      (state_then : (hard waiting : ℕ → List JournalRecord) → KeepsJournals v hard waiting ks → KeepsJournals w (λ r. hard r ++ waiting r) (λ r. []) ls)
      (same_many : length i.regions ≡ length j.regions) (begun : (r : ℕ) → r < length j.regions → IsBegun (region_at j r) (region_at i r)) (flushed : (r : ℕ) → r < length j.regions → IsFlushed (region_at j r)) where
    frame_here : OthersStay (IsNewestFile (suc g) (length (regions s.instance))) v w
    frame_here = subst (λ (n : ℕ). OthersStay (IsNewestFile (suc g) n) v w) as_many (frame_then (suc g) (ready (suc g) k.ready))

    all_frame : OthersStay (IsNewestFile (suc g) (length (regions s.instance))) u w
    all_frame = others_then (IsNewestFile (suc g) (length (regions s.instance))) u v w (subst (λ (n : ℕ). OthersStay (IsNewestFile (suc g) n) u v) k.as_many_journals (frame (suc g) k.ready)) frame_here

    keeps_then : KeepsJournals w (λ r. newer r ++ marks_in (marks_of (length (regions s.instance)) (mark_of closing (length seq) j)) r) (λ r. []) ls
    keeps_then = state_then newer (marks_in (marks_of (length (regions s.instance)) (mark_of closing (length seq) j))) keeps

    as_many_then : length ls ≡ length (regions s.instance)
    as_many_then = count_then ∙ as_many

    few : length (regions s.instance) ≤ MOST_REGIONS
    few = let few = k.ready.few in let many = k.as_many_journals in omega (arith, few, many)

    inside : (r : ℕ) → r < length (regions s.instance) → r < length j.regions
    inside r low = let many = k.as_many_regions in omega (arith, low, many)

    -- the EPOCH of a region by the region as it is then
    same_mark : (r : ℕ) → r < length (regions s.instance) → mark_of closing (length seq) j r ≡ mark_of closing (length seq) i r
    same_mark r low = ap (λ (x : Standing). record { closing = closing; number = length seq; blocks = length x.pool.leaves }) (sym (begun r (inside r low)).is)

    chosen_is : (r : ℕ) → r < length (regions s.instance) → chosen s.instance (length seq) (s.journal r ++ map (in_generation (suc g)) (marks_in (marks_of (length (regions s.instance)) (mark_of closing (length seq) j)) r))
        ≡ fresh (mark_of closing (length seq) j r)
    chosen_is r low =
        ap (λ (l : List JournalRecord). chosen s.instance (length seq) (s.journal r ++ map (in_generation (suc g)) l)) (one_below (length (regions s.instance)) (mark_of closing (length seq) j) r low)
        ∙ new_epoch s.instance (length seq) (suc g) (s.journal r) (mark_of closing (length seq) j r) (survives_newest s.instance (suc g) (length seq) (let is = generation_is in omega (arith, is))) (omega arith)

    region_kept : (r : ℕ) (now : Files) → r < length (regions s.instance) → now (database_file r) ≡ k.files (database_file r)
        → IsRegionKept w now (with_more s (λ r. map (in_generation (suc g)) (marks_in (marks_of (length (regions s.instance)) (mark_of closing (length seq) j)) r))) seq r (region_at i r)
    region_kept r now low same =
        let was = k.each r low in
        let b = begun r (inside r low) in
        let file : (region_at i r).file ≡ database_file r = ap (λ (x : Standing). x.file) b.is ∙ was.file in
        let h : HoldsRegion (fresh (mark_of closing (length seq) j r)) (now (database_file r)) (region_at i r) =
        b.holds was.held.0 (now (database_file r)) (mark_of closing (length seq) j r) refl
        (subst (λ (bytes : List ℕ). HoldsRegion was.held.0 bytes (region_at j r)) (ap k.files was.file ∙ sym same) was.held.1) in
        record {
          file = file;
          part = ap (λ (x : Standing). x.globals) b.is ∙ was.part;
          durable = subst (IsDurable w (database_file r)) (sym same)
              (durable_stays (IsNewestFile (suc g) (length (regions s.instance))) u w (database_file r) (k.files (database_file r)) all_frame (apart (suc g) (length (regions s.instance)) r few low) was.durable);
          held = (fresh (mark_of closing (length seq) j r), subst (λ (bytes : List ℕ). HoldsRegion (fresh (mark_of closing (length seq) j r)) bytes (region_at i r)) (ap now (sym file)) h);
          holds = inr (subst (λ (e : Chosen). HoldsRegion e (now (database_file r)) (region_at i r)) (sym (chosen_is r low)) h);
        }

    pub is_taken : IsTaken w closing s seq g newer ls i
    is_taken =
        let told = told_then u.content w.content (SameOutside (IsNewestFile (suc g) (length (regions s.instance)))) k.files all_frame.content k.told in
        record {
          records = with_more s (λ r. map (in_generation (suc g)) (marks_in (marks_of (length (regions s.instance)) (mark_of closing (length seq) j)) r));
          more = record {
            instance = refl;
            more = λ r. marks_in (marks_of (length (regions s.instance)) (mark_of closing (length seq) j)) r;
            journal = λ r. refl;
            each = fronts (length seq) (length (regions s.instance)) (mark_of closing (length seq) j) (λ r. refl);
            no_others = none_past (length (regions s.instance)) (mark_of closing (length seq) j);
          };
          kept = record {
            files = told.0;
            told = told.1;
            sound = sites.marked_after v w s seq g newer sound k.files (marks_of (length (regions s.instance)) (mark_of closing (length seq) j)) generation_is durable
                (none_past (length (regions s.instance)) (mark_of closing (length seq) j)) numbers may frame_here
                (λ r low. (mark_of closing (length seq) j r, mark_below (length (regions s.instance)) (mark_of closing (length seq) j) r low))
                (λ f now. subst (λ (n : ℕ). HasFirst (suc g) n (λ r. newer r ++ marks_in (marks_of (length (regions s.instance)) (mark_of closing (length seq) j)) r) (λ r. []) (λ r. 0) f) as_many_then
                (all_there w (suc g) ls (λ r. newer r ++ marks_in (marks_of (length (regions s.instance)) (mark_of closing (length seq) j)) r) later (ready_then (suc g) (ready (suc g) k.ready)) keeps_then f now));
            ready = ready_then (suc g) (ready (suc g) k.ready);
            journals = keeps_then;
            as_many_journals = as_many_then;
            as_many_regions = same_many ∙ k.as_many_regions;
            each = λ r low. region_kept r told.0 low (told.2 (database_file r) (apart (suc g) (length (regions s.instance)) r few low));
          };
          ends = λ r low. ([], one_below (length (regions s.instance)) (mark_of closing (length seq) j) r low ∙ ap (λ (m : Mark). Epoch m ∷ []) (same_mark r low));
          chosen_each = λ r low. chosen_is r low ∙ ap fresh (same_mark r low);
          flushed_each = λ r low. subst IsFlushed (sym (begun r (inside r low)).is) (flushed r (inside r low));
        }

-- a region that counts anew is still held
pub held_begun : (u w : View) (g n r : ℕ) (x y : Standing) → OthersStay (IsNewestFile g n) u w → n ≤ MOST_REGIONS → r < n → x.file ≡ database_file r → IsBegun x y → IfSome u.content (IsHeld x) → IfSome w.content (IsHeld y)
held_begun u w g n r x y frame few low file begun held =
    reads_after u.content w.content (SameOutside (IsNewestFile g n)) (IsHeld x) (IsHeld y) frame.content held
    (λ a b h same.
    let m : Mark = record { closing = false; number = 0; blocks = length x.pool.leaves } in (
      fresh m,
      subst (λ (z : Standing). HoldsRegion (fresh m) (b z.file) y) (sym begun.is)
          (begun.holds h.0 (b x.file) m refl (subst (λ (bytes : List ℕ). HoldsRegion h.0 bytes x) (sym (ap b file ∙ same (database_file r) (apart g n r few low) ∙ ap a (sym file))) h.1)),
    ))

-- the same records
pub state_as : (u v : View) (js ks : List RegionJournal) (rs qs : List JnlRecord) → rs ≡ qs → ((hard : ℕ → List JournalRecord) → KeepsJournals u hard (λ r. []) js → KeepsJournals v hard (one_each rs) ks)
    → (hard : ℕ → List JournalRecord) → KeepsJournals u hard (λ r. []) js → KeepsJournals v hard (one_each qs) ks
state_as u v js ks rs qs same state hard keeps = subst (λ (l : List JnlRecord). KeepsJournals v hard (one_each l) ks) same (state hard keeps)
