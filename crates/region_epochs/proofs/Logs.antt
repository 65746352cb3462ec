-- A site whose journals gain the images that its regions need.
use Rattle.std.proofs.Common.{◌≡◌, ◌≤◌, ◌<◌, ℕ, suc, List, [], ◌++◌, length, map, Some, None, Option, refl, sym, ◌∙◌, ap, subst, arith}
use Rattle.std.specs.Prelude.{IfSome}
use Rattle.global_defs.specs.declared.limits.TheConstants.{MOST_REGIONS}
use Rattle.disk_defs.specs.Disk.{Files, View, Image, IsLawful, IsDurable, AtEachMoment, ReadsAfter}
use Rattle.disk_defs.specs.Frames.{SameOutside, OnlyIn, OthersStay}
use Rattle.disk_defs.proofs.Frames.{durable_stays, others_then}
use Rattle.disk_defs.proofs.Told.{reads_after}
use Rattle.disk_defs.proofs.Moments.{holds_now, only_then}
use Rattle.global_defs.specs.Entry.{Sequence}
use Rattle.journal_defs.specs.Numbers.{database_file}
use Rattle.journal_defs.specs.Journal.{JournalRecord, Before}
use Rattle.journal_defs.specs.Instance.{regions}
use Rattle.journal_defs.specs.Sequence.{Placed, Records}
use Rattle.journal_defs.specs.Epochs.{chosen, block_of}
use Rattle.journal_defs.specs.Stands.{in_generation}
use Rattle.journal_defs.specs.Growth.{with_more}
use Rattle.block_laws.specs.Several.{MayAppendAll}
use Rattle.region_store.specs.Region.{Standing, IsHeld, changed_images}
use Rattle.region_journals.specs.declared.journals.RegionJournal.{RegionJournal}
use Rattle.region_journals.specs.Fronts.{IsNewestFile, HasFirst}
use Rattle.region_journals.specs.Journals.{AreReady, KeepsJournals}
use Rattle.region_store.specs.Joined.{Joined, region_at}
use Rattle.region_epochs.specs.Kept.{image_records, images_in, EachIsSound, IsKept, IsStillSound, Images}
use Rattle.region_epochs.specs.Taken.{IsImaged}
use Rattle.region_epochs.proofs.Reading.{begins}
use Rattle.region_epochs.proofs.Sites as sites
use Rattle.region_epochs.proofs.Blocks.{may_append, no_images_past, KeepsMarks, held_marked, region_marked}

-- each moment of calls that append, where nothing waited
abbrev pub FirstMoments : View → View → List RegionJournal → Type 0
FirstMoments u v js = (g : ℕ) (hard : ℕ → List JournalRecord) → AreReady u g js → KeepsJournals u hard (λ r. []) js → AtEachMoment u v (OnlyIn u (IsNewestFile g (length js)) (HasFirst g (length js) hard (λ r. []) (λ r. 0)))

-- and of a hardening
abbrev pub HardMoments : View → View → List RegionJournal → Type 0
HardMoments u v js = (g : ℕ) (hard waiting : ℕ → List JournalRecord) → AreReady u g js → KeepsJournals u hard waiting js
    → AtEachMoment u v (OnlyIn u (IsNewestFile g (length js)) (λ c. (kept : ℕ → ℕ) × HasFirst g (length js) hard waiting kept c))

abbrev pub JournalsStay : View → View → List RegionJournal → Type 0
JournalsStay u v js = (g : ℕ) → AreReady u g js → OthersStay (IsNewestFile g (length js)) u v

-- what a disk that tells reads as afterwards
pub told_then : (o n : Option Files) (P : Files → Files → Type 0) (files : Files) → ReadsAfter P o n → o ≡ Some files → (now : Files) × (n ≡ Some now) × P files now
told_then o n P files after is = there n (subst (λ (x : Option Files). ReadsAfter P x n) is after)
  where
    there : (n : Option Files) → ReadsAfter P (Some files) n → (now : Files) × (n ≡ Some now) × P files now
    there None gone = absurd gone
    there (Some now) here = (now, refl, here)

-- no journal is a database file
pub apart : (g n r : ℕ) → n ≤ MOST_REGIONS → r < n → IsNewestFile g n (database_file r) → ⊥
apart g n r few low is = let file = is.is in omega (arith, file, low, few)

-- one phase more
pub chain : (u v w : View) (F : ℕ → Type 0) (P : Files → Type 0) → IsLawful v → AtEachMoment u v (OnlyIn u F P) → AtEachMoment v w (OnlyIn v F P) → AtEachMoment u w (OnlyIn u F P)
chain u v w F P lawful so_far call = only_then u v w F F P P lawful (λ f is. is) so_far call (λ d c was have same here. here)

-- what the journals have for good is in each image
pub all_there : (v : View) (g : ℕ) (js : List RegionJournal) (hard : ℕ → List JournalRecord) → IsLawful v → AreReady v g js → KeepsJournals v hard (λ r. []) js → (f : Files) → Image v f → HasFirst g (length js) hard (λ r. []) (λ r. 0) f
all_there v g js hard lawful ready keeps f now =
    (holds_now v v (OnlyIn v (IsNewestFile g (length js)) (HasFirst g (length js) hard (λ r. []) (λ r. 0))) lawful (begins v g js hard (λ r. []) ready keeps) f now).here

-- ---- records are appended, and none is there for good yet

module _ (u v : View) (s : Records) (seq : Sequence) (g : ℕ) (newer : ℕ → List JournalRecord) (js : List RegionJournal) (j : Joined) (k : IsKept u s seq g newer js j) (run : FirstMoments u v js) where
  run_here : AtEachMoment u v (OnlyIn u (IsNewestFile (suc g) (length (regions s.instance))) (HasFirst (suc g) (length (regions s.instance)) newer (λ r. []) (λ r. 0)))
  run_here = subst (λ (n : ℕ). AtEachMoment u v (OnlyIn u (IsNewestFile (suc g) n) (HasFirst (suc g) n newer (λ r. []) (λ r. 0)))) k.as_many_journals (run (suc g) newer k.ready k.journals)

  pub first_moments : AtEachMoment u v (OnlyIn u (IsNewestFile (suc g) (length js)) (IsStillSound s seq (suc g)))
  first_moments = subst (λ (n : ℕ). AtEachMoment u v (OnlyIn u (IsNewestFile (suc g) n) (IsStillSound s seq (suc g)))) (sym k.as_many_journals) (sites.calm u v s seq g newer k.sound (λ r. []) run_here)

  pub first_after : IsLawful v → EachIsSound v s seq g newer
  first_after lawful = sites.calm_after u v s seq g newer k.sound (λ r. []) lawful run_here

  -- a region's file is still on the disk for good
  pub still_durable : JournalsStay u v js → (r : ℕ) → r < length (regions s.instance) → IsDurable v (database_file r) (k.files (database_file r))
  still_durable frame r low =
      let count = k.as_many_journals in
      durable_stays (IsNewestFile (suc g) (length js)) u v (database_file r) (k.files (database_file r)) (frame (suc g) k.ready)
      (apart (suc g) (length js) r k.ready.few (omega (arith, low, count))) (k.each r low).durable

-- ---- images are appended, and hardened

module _ (u v w : View) (s : Records) (seq : Sequence) (g : ℕ) (newer : ℕ → List JournalRecord) (js ks : List RegionJournal) (j : Joined) (k : IsKept u s seq g newer js j)
    (lawful : IsLawful v) (run : FirstMoments u v js) (frame : JournalsStay u v js) (count : length ks ≡ length js) (ready : (h : ℕ) → AreReady u h js → AreReady v h ks)
    (state : IfSome u.content (λ files. (hard : ℕ → List JournalRecord) → KeepsJournals u hard (λ r. []) js → KeepsJournals v hard (images_in j files) ks)) where
  keeps : KeepsJournals v newer (images_in j k.files) ks
  keeps = (subst (λ (o : Option Files). IfSome o (λ files. (hard : ℕ → List JournalRecord) → KeepsJournals u hard (λ r. []) js → KeepsJournals v hard (images_in j files) ks)) k.told state) newer k.journals

  as_many : length ks ≡ length (regions s.instance)
  as_many = count ∙ k.as_many_journals

  none_past : (r : ℕ) → length (regions s.instance) ≤ r → image_records (changed_images (region_at j r) (k.files (region_at j r).file)) ≡ []
  none_past r past = no_images_past j k.files r (let many = k.as_many_regions in omega (arith, past, many))

  may : (r : ℕ) → r < length (regions s.instance) → MayAppendAll (chosen s.instance (length seq) (s.journal r)) (block_of (k.files (database_file r))) (map (in_generation (suc g)) (image_records (changed_images (region_at j r) (k.files (region_at j r).file))))
  may r low = subst (λ (f : ℕ). MayAppendAll (chosen s.instance (length seq) (s.journal r)) (block_of (k.files f)) (map (in_generation (suc g)) (image_records (changed_images (region_at j r) (k.files (region_at j r).file))))) (k.each r low).file
      (may_append (chosen s.instance (length seq) (s.journal r)) (k.files (region_at j r).file) (suc g) (region_at j r))

  durable : (r : ℕ) → r < length (regions s.instance) → IsDurable v (database_file r) (k.files (database_file r))
  durable = still_durable u v s seq g newer js j k run frame

  sound : EachIsSound v s seq g newer
  sound = first_after u v s seq g newer js j k run lawful

  pub image_moments : HardMoments v w ks → AtEachMoment u w (OnlyIn u (IsNewestFile (suc g) (length js)) (IsStillSound s seq (suc g)))
  image_moments hardens = chain u v w (IsNewestFile (suc g) (length js)) (IsStillSound s seq (suc g)) lawful (first_moments u v s seq g newer js j k run)
      (subst (λ (n : ℕ). AtEachMoment v w (OnlyIn v (IsNewestFile (suc g) n) (IsStillSound s seq (suc g)))) (sym k.as_many_journals)
      (sites.imaged v w s seq g newer sound k.files (λ r. changed_images (region_at j r) (k.files (region_at j r).file)) durable none_past may
      (subst (λ (n : ℕ). AtEachMoment v w (OnlyIn v (IsNewestFile (suc g) n) (λ c. (kept : ℕ → ℕ) × HasFirst (suc g) n newer (λ r. image_records (changed_images (region_at j r) (k.files (region_at j r).file))) kept c))) as_many
      (hardens (suc g) newer (images_in j k.files) (ready (suc g) k.ready) keeps))))

  -- ---- and then their regions keep that

  module _ (ls : List RegionJournal) (i : Joined) (later : IsLawful w) (frame_then : JournalsStay v w ks) (count_then : length ls ≡ length ks) (ready_then : (h : ℕ) → AreReady v h ks → AreReady w h ls)
      (state_then : (hard waiting : ℕ → List JournalRecord) → KeepsJournals v hard waiting ks → KeepsJournals w (λ r. hard r ++ waiting r) (λ r. []) ls)
      (same_many : length i.regions ≡ length j.regions) (marks : (r : ℕ) → r < length j.regions → KeepsMarks (region_at j r) (region_at i r)) where
    frame_here : OthersStay (IsNewestFile (suc g) (length (regions s.instance))) v w
    frame_here = subst (λ (n : ℕ). OthersStay (IsNewestFile (suc g) n) v w) as_many (frame_then (suc g) (ready (suc g) k.ready))

    keeps_then : KeepsJournals w (λ r. newer r ++ image_records (changed_images (region_at j r) (k.files (region_at j r).file))) (λ r. []) ls
    keeps_then = state_then newer (images_in j k.files) keeps

    as_many_then : length ls ≡ length (regions s.instance)
    as_many_then = count_then ∙ as_many

    all_frame : OthersStay (IsNewestFile (suc g) (length (regions s.instance))) u w
    all_frame = others_then (IsNewestFile (suc g) (length (regions s.instance))) u v w (subst (λ (n : ℕ). OthersStay (IsNewestFile (suc g) n) u v) k.as_many_journals (frame (suc g) k.ready)) frame_here

    few : length (regions s.instance) ≤ MOST_REGIONS
    few = let few = k.ready.few in let many = k.as_many_journals in omega (arith, few, many)

    pub is_imaged : IsImaged w s seq g newer ls i
    is_imaged =
        let told = told_then u.content w.content (SameOutside (IsNewestFile (suc g) (length (regions s.instance)))) k.files all_frame.content k.told in
        let more : ℕ → List Placed = λ r. map (in_generation (suc g)) (image_records (changed_images (region_at j r) (k.files (region_at j r).file))) in
        record {
          records = with_more s (λ r. map (in_generation (suc g)) (image_records (changed_images (region_at j r) (k.files (region_at j r).file))));
          more = record {
            instance = refl;
            more = λ r. image_records (changed_images (region_at j r) (k.files (region_at j r).file));
            journal = λ r. refl;
            each = λ r. Images (changed_images (region_at j r) (k.files (region_at j r).file)) refl;
            no_others = none_past;
          };
          images = λ r. (changed_images (region_at j r) (k.files (region_at j r).file), refl);
          kept = record {
            files = told.0;
            told = told.1;
            sound = sites.imaged_after v w s seq g newer sound k.files (λ r. changed_images (region_at j r) (k.files (region_at j r).file)) durable none_past may frame_here
                (λ f now. subst (λ (n : ℕ). HasFirst (suc g) n (λ r. newer r ++ image_records (changed_images (region_at j r) (k.files (region_at j r).file))) (λ r. []) (λ r. 0) f) as_many_then
                (all_there w (suc g) ls (λ r. newer r ++ image_records (changed_images (region_at j r) (k.files (region_at j r).file))) later (ready_then (suc g) (ready (suc g) k.ready)) keeps_then f now));
            ready = ready_then (suc g) (ready (suc g) k.ready);
            journals = keeps_then;
            as_many_journals = as_many_then;
            as_many_regions = same_many ∙ k.as_many_regions;
            each = λ r low.
                let many = k.as_many_regions in
                region_marked u w s seq (suc g) r (region_at j r) (region_at i r) k.files told.0 more (marks r (omega (arith, low, many))) (k.each r low) refl
                (told.2 (database_file r) (apart (suc g) (length (regions s.instance)) r few low))
                (durable_stays (IsNewestFile (suc g) (length (regions s.instance))) u w (database_file r) (k.files (database_file r)) all_frame (apart (suc g) (length (regions s.instance)) r few low) (k.each r low).durable);
          };
        }

-- a region whose marks were kept is still held
pub held_after : (u w : View) (g n r : ℕ) (x y : Standing) → OthersStay (IsNewestFile g n) u w → n ≤ MOST_REGIONS → r < n → x.file ≡ database_file r → KeepsMarks x y → IfSome u.content (IsHeld x) → IfSome w.content (IsHeld y)
held_after u w g n r x y frame few low file marks held =
    reads_after u.content w.content (SameOutside (IsNewestFile g n)) (IsHeld x) (IsHeld y) frame.content held
    (λ a b h same. held_marked x y a b marks (ap b file ∙ same (database_file r) (apart g n r few low) ∙ ap a (sym file)) h)
