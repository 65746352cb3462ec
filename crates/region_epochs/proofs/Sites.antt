-- The images of a site through the steps of an epoch: each stands for the same sequence.
use Rattle.std.proofs.Common.{◌≡◌, ◌≢◌, ◌⊎◌, ◌≤◌, ◌<◌, ℕ, suc, List, [], ◌∷◌, ◌++◌, length, map, take, filter, Some, None, refl, sym, ◌∙◌, ap, subst, arith, append-nil}
use Rattle.std.specs.Prelude.{Option}
use Rattle.std.proofs.Math.Seq.{take-length}
use Rattle.global_defs.specs.declared.limits.TheConstants.{MOST_REGIONS}
use Rattle.disk_defs.specs.Disk.{Files, View, Image, From, IsLawful, IsDurable, AtEachMoment}
use Rattle.disk_defs.specs.Frames.{SameOutside, OnlyIn, OthersStay}
use Rattle.disk_defs.proofs.Moments.{weaker, holds_now}
use Rattle.global_defs.specs.Entry.{Sequence}
use Rattle.journal_defs.specs.Numbers.{database_file, journal_file}
use Rattle.journal_defs.specs.Journal.{JournalRecord, Mark, Before, IsJournalBody}
use Rattle.journal_defs.specs.Instance.{regions, generation}
use Rattle.journal_defs.specs.Directory.{patterns}
use Rattle.journal_defs.specs.Sequence.{Placed, Records}
use Rattle.journal_defs.specs.Epochs.{chosen, image_state, block_of, NeedsForward}
use Rattle.journal_defs.specs.Undo.{fresh}
use Rattle.journal_defs.specs.Stands.{Holds, in_generation}
use Rattle.journal_defs.specs.Growth.{NonePast, with_more}
use Rattle.journal_defs.specs.Sound.{Restores, region_state, NoEpochPast}
use Rattle.journal_defs.specs.Fit.{IsSoundImage}
use Rattle.journal_laws.proofs.EveryTarget.{none_past_epoch}
use Rattle.block_laws.specs.Several.{MayAppendAll, MayChange, is_tcom, marks_in, epoch_of}
use Rattle.block_laws.proofs.Together as together
use Rattle.block_laws.proofs.Appends.{none_past_all, survives_newest}
use Rattle.block_laws.proofs.Writing as writing
use Rattle.region_store.specs.Region.{IsCutShort}
use Rattle.region_journals.specs.Fronts.{IsNewestFile, HasFirst}
use Rattle.region_store.specs.Joined.{Joined, region_at}
use Rattle.region_epochs.specs.Files.{IsDatabaseFile}
use Rattle.region_epochs.specs.Flushed.{AreCutShort}
use Rattle.region_epochs.specs.Kept.{image_records, EachIsSound, IsStillSound}
use Rattle.region_epochs.proofs.Fronts.{same_again, with_images, with_epochs, still_newest, more_images, more_epochs, no_more, no_tcoms}
use Rattle.block_laws.proofs.Waiting.{others_same as same_more}

-- no entry came
none_past_more : (s : Records) (seq : Sequence) (g : ℕ) (more : ℕ → List JournalRecord) → NonePast (length seq) s → ((r : ℕ) → filter is_tcom (more r) ≡ []) → NonePast (length seq) (with_more s (λ r. map (in_generation g) (more r)))
none_past_more s seq g more none plain =
    subst (λ (l : Sequence). NonePast (length l) (with_more s (λ r. map (in_generation g) (more r)))) (append-nil seq)
    (together.none_past s seq g [] [] (λ r. map (in_generation g) (more r)) none tt (λ r. together.waiting g [] r (more r) (plain r)))

begun_more : (l k : List JournalRecord) → l ≢ [] → l ++ k ≢ []
begun_more [] k some e = some refl
begun_more (x ∷ l) k some e = cc

no_tcoms_marked : (o : Option Mark) → filter is_tcom (epoch_of o) ≡ []
no_tcoms_marked None = refl
no_tcoms_marked (Some m) = refl

-- the first few, where all are there
all_first : (g n : ℕ) (hard waiting more : ℕ → List JournalRecord) (f : Files) → HasFirst g n (λ r. hard r ++ waiting r) more (λ r. 0) f → HasFirst g n hard waiting (λ r. length (waiting r)) f
all_first g n hard waiting more f first = record {
  each = λ r low. subst (λ (l : List JournalRecord). Holds IsJournalBody (f (journal_file g r)) l) (append-nil (hard r ++ waiting r) ∙ ap (λ (l : List JournalRecord). hard r ++ l) (sym (take-length (waiting r)))) (first.each r low);
}

plain_first : (g n : ℕ) (hard more : ℕ → List JournalRecord) (f : Files) → HasFirst g n hard more (λ r. 0) f → (r : ℕ) → r < n → Holds IsJournalBody (f (journal_file g r)) (hard r)
plain_first g n hard more f first r low = subst (λ (l : List JournalRecord). Holds IsJournalBody (f (journal_file g r)) l) (append-nil (hard r)) (first.each r low)

module _ (u v : View) (s : Records) (seq : Sequence) (g : ℕ) (newer : ℕ → List JournalRecord) (sound : EachIsSound u s seq g newer) where
  -- ---- nothing came for good yet

  calm_image : (more : ℕ → List JournalRecord) (c : Files) → OnlyIn u (IsNewestFile (suc g) (length (regions s.instance))) (HasFirst (suc g) (length (regions s.instance)) newer more (λ r. 0)) c → IsSoundImage c s seq
  calm_image more c only = same_again only.others.0 c s seq g newer (sound.images only.others.0 only.others.1) (sound.newest only.others.0 only.others.1) sound.none_past only.others.2 more only.here

  pub calm : (more : ℕ → List JournalRecord) → AtEachMoment u v (OnlyIn u (IsNewestFile (suc g) (length (regions s.instance))) (HasFirst (suc g) (length (regions s.instance)) newer more (λ r. 0)))
      → AtEachMoment u v (OnlyIn u (IsNewestFile (suc g) (length (regions s.instance))) (IsStillSound s seq (suc g)))
  calm more run = weaker u v (OnlyIn u (IsNewestFile (suc g) (length (regions s.instance))) (HasFirst (suc g) (length (regions s.instance)) newer more (λ r. 0)))
      (OnlyIn u (IsNewestFile (suc g) (length (regions s.instance))) (IsStillSound s seq (suc g)))
      (λ c only. record { here = (s, calm_image more c only, no_more (length seq) (suc g) s); others = only.others }) run

  pub calm_after : (more : ℕ → List JournalRecord) → IsLawful v → AtEachMoment u v (OnlyIn u (IsNewestFile (suc g) (length (regions s.instance))) (HasFirst (suc g) (length (regions s.instance)) newer more (λ r. 0)))
      → EachIsSound v s seq g newer
  calm_after more lawful run =
      let now = holds_now u v (OnlyIn u (IsNewestFile (suc g) (length (regions s.instance))) (HasFirst (suc g) (length (regions s.instance)) newer more (λ r. 0))) lawful run in
      record {
        images = λ f is. calm_image more f (now f is);
        newest = λ f is. let only = now f is in still_newest only.others.0 f s seq g newer (sound.images only.others.0 only.others.1) (sound.newest only.others.0 only.others.1) sound.none_past only.others.2
            (plain_first (suc g) (length (regions s.instance)) newer more f only.here);
        none_past = sound.none_past;
        no_epoch_past = sound.no_epoch_past;
      }

  -- ---- images are put on the disk for good

  module _ (files : Files) (is : ℕ → List Before)
      (durable : (r : ℕ) → r < length (regions s.instance) → IsDurable u (database_file r) (files (database_file r)))
      (inside : (r : ℕ) → length (regions s.instance) ≤ r → image_records (is r) ≡ [])
      (may : (r : ℕ) → r < length (regions s.instance) → MayAppendAll (chosen s.instance (length seq) (s.journal r)) (block_of (files (database_file r))) (map (in_generation (suc g)) (image_records (is r)))) where
    may_at : (d : Files) → Image u d → (r : ℕ) → r < length (regions s.instance) → MayAppendAll (chosen s.instance (length seq) (s.journal r)) (block_of (d (database_file r))) (map (in_generation (suc g)) (image_records (is r)))
    may_at d now r low = subst (λ (bytes : List ℕ). MayAppendAll (chosen s.instance (length seq) (s.journal r)) (block_of bytes) (map (in_generation (suc g)) (image_records (is r)))) (sym (durable r low d now)) (may r low)

    imaged_image : (kept : ℕ → ℕ) (d c : Files) → Image u d → SameOutside (IsNewestFile (suc g) (length (regions s.instance))) d c
        → HasFirst (suc g) (length (regions s.instance)) newer (λ r. image_records (is r)) kept c → IsSoundImage c (with_more s (λ r. map (in_generation (suc g)) (take (kept r) (image_records (is r))))) seq
    imaged_image kept d c now same first =
        with_images d c s seq g newer (sound.images d now) (sound.newest d now) sound.none_past same is kept inside sound.no_epoch_past (may_at d now) first

    pub imaged : AtEachMoment u v (OnlyIn u (IsNewestFile (suc g) (length (regions s.instance))) (λ c. (kept : ℕ → ℕ) × HasFirst (suc g) (length (regions s.instance)) newer (λ r. image_records (is r)) kept c))
        → AtEachMoment u v (OnlyIn u (IsNewestFile (suc g) (length (regions s.instance))) (IsStillSound s seq (suc g)))
    imaged run = weaker u v (OnlyIn u (IsNewestFile (suc g) (length (regions s.instance))) (λ c. (kept : ℕ → ℕ) × HasFirst (suc g) (length (regions s.instance)) newer (λ r. image_records (is r)) kept c))
        (OnlyIn u (IsNewestFile (suc g) (length (regions s.instance))) (IsStillSound s seq (suc g)))
        (λ c only. record {
          here = (
            with_more s (λ r. map (in_generation (suc g)) (take (only.here.0 r) (image_records (is r)))),
            imaged_image only.here.0 only.others.0 c only.others.1 only.others.2 only.here.1,
            more_images (length seq) (suc g) s is only.here.0 inside,
          );
          others = only.others;
        }) run

    pub imaged_after : OthersStay (IsNewestFile (suc g) (length (regions s.instance))) u v
        → ((f : Files) → Image v f → HasFirst (suc g) (length (regions s.instance)) (λ r. newer r ++ image_records (is r)) (λ r. []) (λ r. 0) f)
        → EachIsSound v (with_more s (λ r. map (in_generation (suc g)) (image_records (is r)))) seq g (λ r. newer r ++ image_records (is r))
    imaged_after frame first = record {
      images = λ f now.
          let from = frame.images f now in
          subst (λ (t : Records). IsSoundImage f t seq)
          (same_more s (λ r. map (in_generation (suc g)) (take (length (image_records (is r))) (image_records (is r)))) (λ r. map (in_generation (suc g)) (image_records (is r)))
          (λ r. ap (map (in_generation (suc g))) (take-length (image_records (is r)))))
          (imaged_image (λ r. length (image_records (is r))) from.0 f from.1 from.2 (all_first (suc g) (length (regions s.instance)) newer (λ r. image_records (is r)) (λ r. []) f (first f now)));
      newest = λ f now.
          let from = frame.images f now in
          let was = sound.newest from.0 from.1 in
          record {
            generation = was.generation;
            held = plain_first (suc g) (length (regions s.instance)) (λ r. newer r ++ image_records (is r)) (λ r. []) f (first f now);
            begun = λ r low. begun_more (newer r) (image_records (is r)) (was.begun r low);
          };
      none_past = none_past_more s seq (suc g) (λ r. image_records (is r)) sound.none_past (λ r. no_tcoms (is r));
      no_epoch_past = λ r low. none_past_all s.instance (length seq) (s.journal r) (block_of (files (database_file r))) (map (in_generation (suc g)) (image_records (is r))) (sound.no_epoch_past r low) (may r low);
    }

  -- ---- blocks are written

  module _ (j : Joined) (few : length (regions s.instance) ≤ MOST_REGIONS) (as_many : length j.regions ≡ length (regions s.instance))
      (may : (r : ℕ) → r < length (regions s.instance) → (d c : List ℕ) → IsCutShort (region_at j r) d c → NeedsForward s.instance (length seq) (s.journal r) ⊎ MayChange (chosen s.instance (length seq) (s.journal r)) (block_of d) (block_of c)) where
    cut_image : (d c : Files) → Image u d → AreCutShort j d c → IsSoundImage c s seq
    cut_image d c now cut = writing.image d c s seq (sound.images d now) few
        (λ f out. cut.others f (λ is. out is.region (let low = is.inside in omega (arith, low, as_many)) is.is))
        (λ r low. may r low (d (database_file r)) (c (database_file r)) (cut.each r (omega (arith, low, as_many))))

    cut_outside : (d c : Files) → AreCutShort j d c → SameOutside (IsDatabaseFile (length j.regions)) d c
    cut_outside d c cut = cut.others

    pub cut_moments : AtEachMoment u v (From (Image u) (AreCutShort j)) → AtEachMoment u v (OnlyIn u (IsDatabaseFile (length j.regions)) (IsStillSound s seq (suc g)))
    cut_moments run = weaker u v (From (Image u) (AreCutShort j)) (OnlyIn u (IsDatabaseFile (length j.regions)) (IsStillSound s seq (suc g)))
        (λ c from. record { here = (s, cut_image from.0 c from.1 from.2, no_more (length seq) (suc g) s); others = (from.0, from.1, cut_outside from.0 c from.2) }) run

    pub cut_after : IsLawful v → AtEachMoment u v (From (Image u) (AreCutShort j)) → EachIsSound v s seq g newer
    cut_after lawful run =
        let now = holds_now u v (From (Image u) (AreCutShort j)) lawful run in
        record {
          images = λ f is. let from = now f is in cut_image from.0 f from.1 from.2;
          newest = λ f is.
              let from = now f is in
              let was = sound.newest from.0 from.1 in
              let outside = cut_outside from.0 f from.2 in
              record {
                generation = was.generation;
                held = λ r low. subst (λ (bytes : List ℕ). Holds IsJournalBody bytes (newer r)) (sym (outside (journal_file (suc g) r) (λ is. let file = is.is in let inside = is.inside in omega (arith, file, inside, as_many, few)))) (was.held r low);
                begun = was.begun;
              };
          none_past = sound.none_past;
          no_epoch_past = sound.no_epoch_past;
        }

  -- ---- EPOCHs are put on the disk for good

  module _ (files : Files) (marks : ℕ → Option Mark) (generation_is : generation s.instance ≡ suc g)
      (durable : (r : ℕ) → r < length (regions s.instance) → IsDurable u (database_file r) (files (database_file r)))
      (inside : (r : ℕ) → length (regions s.instance) ≤ r → marks_in marks r ≡ [])
      (numbers : (r : ℕ) (m : Mark) → marks r ≡ Some m → m.number ≡ length seq)
      (may : (r : ℕ) (m : Mark) → marks r ≡ Some m → r < length (regions s.instance) → Restores (image_state (fresh m) (block_of (files (database_file r)))) (region_state (patterns s.instance) r seq)
      × (NeedsForward s.instance (length seq) (s.journal r) ⊎ ((chosen s.instance (length seq) (s.journal r)).blocks ≤ m.blocks))) where
    epoch_image : (kept : ℕ → ℕ) (d c : Files) → Image u d → SameOutside (IsNewestFile (suc g) (length (regions s.instance))) d c
        → HasFirst (suc g) (length (regions s.instance)) newer (marks_in marks) kept c → IsSoundImage c (with_more s (λ r. map (in_generation (suc g)) (take (kept r) (marks_in marks r)))) seq
    epoch_image kept d c now same first =
        with_epochs d c s seq g newer (sound.images d now) (sound.newest d now) sound.none_past same marks kept inside
        (λ r m is low.
        let there = may r m is low in (
          numbers r m is,
          survives_newest s.instance (suc g) m.number (omega (arith, generation_is)),
          subst (λ (bytes : List ℕ). Restores (image_state (fresh m) (block_of bytes)) (region_state (patterns s.instance) r seq)) (sym (durable r low d now)) there.0,
          there.1,
        )) first

    pub marked : AtEachMoment u v (OnlyIn u (IsNewestFile (suc g) (length (regions s.instance))) (λ c. (kept : ℕ → ℕ) × HasFirst (suc g) (length (regions s.instance)) newer (marks_in marks) kept c))
        → AtEachMoment u v (OnlyIn u (IsNewestFile (suc g) (length (regions s.instance))) (IsStillSound s seq (suc g)))
    marked run = weaker u v (OnlyIn u (IsNewestFile (suc g) (length (regions s.instance))) (λ c. (kept : ℕ → ℕ) × HasFirst (suc g) (length (regions s.instance)) newer (marks_in marks) kept c))
        (OnlyIn u (IsNewestFile (suc g) (length (regions s.instance))) (IsStillSound s seq (suc g)))
        (λ c only. record {
          here = (
            with_more s (λ r. map (in_generation (suc g)) (take (only.here.0 r) (marks_in marks r))),
            epoch_image only.here.0 only.others.0 c only.others.1 only.others.2 only.here.1,
            more_epochs (length seq) (suc g) s marks only.here.0 inside numbers,
          );
          others = only.others;
        }) run

    pub marked_after : OthersStay (IsNewestFile (suc g) (length (regions s.instance))) u v → ((r : ℕ) → r < length (regions s.instance) → (m : Mark) × (marks r ≡ Some m))
        → ((f : Files) → Image v f → HasFirst (suc g) (length (regions s.instance)) (λ r. newer r ++ marks_in marks r) (λ r. []) (λ r. 0) f)
        → EachIsSound v (with_more s (λ r. map (in_generation (suc g)) (marks_in marks r))) seq g (λ r. newer r ++ marks_in marks r)
    marked_after frame each first = record {
      images = λ f now.
          let from = frame.images f now in
          subst (λ (t : Records). IsSoundImage f t seq)
          (same_more s (λ r. map (in_generation (suc g)) (take (length (marks_in marks r)) (marks_in marks r))) (λ r. map (in_generation (suc g)) (marks_in marks r))
          (λ r. ap (map (in_generation (suc g))) (take-length (marks_in marks r))))
          (epoch_image (λ r. length (marks_in marks r)) from.0 f from.1 from.2 (all_first (suc g) (length (regions s.instance)) newer (marks_in marks) (λ r. []) f (first f now)));
      newest = λ f now.
          let from = frame.images f now in
          let was = sound.newest from.0 from.1 in
          record {
            generation = was.generation;
            held = plain_first (suc g) (length (regions s.instance)) (λ r. newer r ++ marks_in marks r) (λ r. []) f (first f now);
            begun = λ r low. begun_more (newer r) (marks_in marks r) (was.begun r low);
          };
      none_past = none_past_more s seq (suc g) (marks_in marks) sound.none_past (λ r. no_tcoms_marked (marks r));
      no_epoch_past = λ r low.
          let m = each r low in
          subst (λ (l : List Placed). NoEpochPast (length seq) s.instance (s.journal r ++ l)) (ap (λ (o : Option Mark). map (in_generation (suc g)) (epoch_of o)) (sym m.1))
          (none_past_epoch s.instance (length seq) (suc g) (s.journal r) m.0 (numbers r m.0 m.1) (survives_newest s.instance (suc g) m.0.number (omega (arith, generation_is))));
    }
