-- Images of a site whose newest journals gain images of blocks, or EPOCHs.
use Rattle.std.proofs.Common.{◌≡◌, ◌⊎◌, ◌≤◌, ◌<◌, ℕ, zero, suc, true, List, [], ◌∷◌, ◌++◌, length, map, take, filter, Some, None, refl, sym, ◌∙◌, ap, subst, append-nil, append_assoc, take_all}
use Rattle.std.specs.Prelude.{Option}
use Rattle.std.specs.List.{AllByRecursion}
use Rattle.std.proofs.Math.Path.{fun_ext}
use Rattle.std.proofs.lemmas.List.{take-map, map-append}
use Rattle.disk_defs.specs.Disk.{Files}
use Rattle.disk_defs.specs.Frames.{SameOutside}
use Rattle.global_defs.specs.Entry.{Sequence}
use Rattle.journal_defs.specs.Numbers.{database_file, journal_file}
use Rattle.journal_defs.specs.Journal.{JournalRecord, Epoch, Pblk, Mark, Before, IsJournalBody, IsNoPini}
use Rattle.journal_defs.specs.Instance.{InstanceRecord, regions}
use Rattle.journal_defs.specs.Directory.{patterns}
use Rattle.journal_defs.specs.Surviving.{survives}
use Rattle.journal_defs.specs.Sequence.{Placed, Records}
use Rattle.journal_defs.specs.Epochs.{chosen, image_state, block_of, NeedsForward}
use Rattle.journal_defs.specs.Undo.{fresh}
use Rattle.journal_defs.specs.Stands.{Holds, in_generation}
use Rattle.journal_defs.specs.Growth.{NonePast, with_more}
use Rattle.journal_defs.specs.Sound.{Restores, region_state, NoEpochPast}
use Rattle.journal_defs.specs.Fit.{IsSoundImage, HasFewNodes, IsAtHome}
use Rattle.block_laws.specs.Fronts as laws
use Rattle.block_laws.specs.Fronts.{AreNewest}
use Rattle.block_laws.specs.Several.{MayAppendAll, is_tcom, marks_in, epoch_of}
use Rattle.block_laws.proofs.Waiting as waiting
use Rattle.region_journals.specs.Fronts.{IsNewestFile, HasFirst}
use Rattle.region_epochs.specs.Kept.{image_records, IsEpochFront, Images, WithEpoch, HasMore}
use Rattle.block_laws.proofs.Waiting.{none_taken}

-- the words of the laws
outside : (g n : ℕ) (d f : Files) → SameOutside (IsNewestFile g n) d f → SameOutside (laws.IsNewestFile g n) d f
outside g n d f same file out = same file (λ is. out (record { region = is.region; inside = is.inside; is = is.is }))

first_few : (g n : ℕ) (hard waiting : ℕ → List JournalRecord) (kept : ℕ → ℕ) (f : Files) → HasFirst g n hard waiting kept f → laws.HasFirst g n hard waiting kept f
first_few g n hard waiting kept f first = record { each = first.each }

-- ---- records that are spelled otherwise

pub with_none : (s : Records) → with_more s (λ r. []) ≡ s
with_none s = ap (λ (j : ℕ → List Placed). record { instance = s.instance; journal = j }) (fun_ext (λ r. append-nil (s.journal r)))

-- ---- images alone

pub no_pini : (is : List Before) → AllByRecursion IsNoPini (image_records is)
no_pini [] = tt
no_pini (i ∷ is) = (tt, no_pini is)

pub no_tcoms : (is : List Before) → filter is_tcom (image_records is) ≡ []
no_tcoms [] = refl
no_tcoms (i ∷ is) = no_tcoms is

at_home : (instance : List InstanceRecord) (r g : ℕ) (is : List Before) → AllByRecursion (λ x. IsAtHome instance r g x) (image_records is)
at_home instance r g [] = tt
at_home instance r g (i ∷ is) = (tt, at_home instance r g is)

-- ---- one image

module _ (d f : Files) (s : Records) (seq : Sequence) (g : ℕ) (newer : ℕ → List JournalRecord)
    (image : IsSoundImage d s seq) (newest : AreNewest d s g newer) (none : NonePast (length seq) s)
    (same : SameOutside (IsNewestFile (suc g) (length (regions s.instance))) d f) where
  -- no record is there besides
  pub same_again : (more : ℕ → List JournalRecord) → HasFirst (suc g) (length (regions s.instance)) newer more (λ r. 0) f → IsSoundImage f s seq
  same_again more first = subst (λ (t : Records). IsSoundImage f t seq) (with_none s)
      (waiting.epochs d f s seq g newer (λ r. None) (λ r. 0) image newest none (λ r past. refl) (outside (suc g) (length (regions s.instance)) d f same)
      (record { each = λ r low. first.each r low }) (λ r m is low. let gone : None ≡ Some m = is in cc))

  -- with the first few of the images
  pub with_images : (is : ℕ → List Before) (kept : ℕ → ℕ) → ((r : ℕ) → length (regions s.instance) ≤ r → image_records (is r) ≡ [])
      → ((r : ℕ) → r < length (regions s.instance) → NoEpochPast (length seq) s.instance (s.journal r))
      → ((r : ℕ) → r < length (regions s.instance) → MayAppendAll (chosen s.instance (length seq) (s.journal r)) (block_of (d (database_file r))) (map (in_generation (suc g)) (image_records (is r))))
      → HasFirst (suc g) (length (regions s.instance)) newer (λ r. image_records (is r)) kept f
      → IsSoundImage f (with_more s (λ r. map (in_generation (suc g)) (take (kept r) (image_records (is r))))) seq
  with_images is kept inside epochs may first =
      let t : Records = with_more s (λ r. map (in_generation (suc g)) (take (kept r) (image_records (is r)))) in
      let front = waiting.entries d f s seq g newer (λ r. image_records (is r)) [] [] kept image newest none (λ r low. no_pini (is r)) inside
      (outside (suc g) (length (regions s.instance)) d f same) (first_few (suc g) (length (regions s.instance)) newer (λ r. image_records (is r)) kept f first)
      epochs tt (subst HasFewNodes (sym (append-nil seq)) image.few_nodes) (λ r. no_tcoms (is r)) may (λ r low. at_home s.instance r (suc g) (is r)) in
      subst (λ (l : Sequence). IsSoundImage f t l) (ap (take front.0) (append-nil seq) ∙ take_all front.0 seq front.1) front.3

  -- with EPOCHs in some regions
  pub with_epochs : (marks : ℕ → Option Mark) (kept : ℕ → ℕ) → ((r : ℕ) → length (regions s.instance) ≤ r → marks_in marks r ≡ [])
      → ((r : ℕ) (m : Mark) → marks r ≡ Some m → r < length (regions s.instance) → (m.number ≡ length seq) × (survives s.instance (suc g) m.number ≡ true)
      × Restores (image_state (fresh m) (block_of (d (database_file r)))) (region_state (patterns s.instance) r seq)
      × (NeedsForward s.instance (length seq) (s.journal r) ⊎ ((chosen s.instance (length seq) (s.journal r)).blocks ≤ m.blocks)))
      → HasFirst (suc g) (length (regions s.instance)) newer (marks_in marks) kept f
      → IsSoundImage f (with_more s (λ r. map (in_generation (suc g)) (take (kept r) (marks_in marks r)))) seq
  with_epochs marks kept inside may first =
      waiting.epochs d f s seq g newer marks kept image newest none inside (outside (suc g) (length (regions s.instance)) d f same)
      (first_few (suc g) (length (regions s.instance)) newer (marks_in marks) kept f first) may

  -- the newest journals' records
  pub still_newest : ((r : ℕ) → r < length (regions s.instance) → Holds IsJournalBody (f (journal_file (suc g) r)) (newer r)) → AreNewest f s g newer
  still_newest holds = record { generation = newest.generation; held = holds; begun = newest.begun }

-- ---- the records with these more

images_taken : (k : ℕ) (is : List Before) → take k (image_records is) ≡ image_records (take k is)
images_taken k is = take-map (λ i. Pblk i) k is

none_of : (k : ℕ) (l : List JournalRecord) → l ≡ [] → take k l ≡ []
none_of k l is = ap (take k) is ∙ none_taken k

pub more_images : (n g : ℕ) (s : Records) (is : ℕ → List Before) (kept : ℕ → ℕ) → ((r : ℕ) → length (regions s.instance) ≤ r → image_records (is r) ≡ [])
    → HasMore n g s (with_more s (λ r. map (in_generation g) (take (kept r) (image_records (is r)))))
more_images n g s is kept inside = record {
  instance = refl;
  more = λ r. take (kept r) (image_records (is r));
  journal = λ r. refl;
  each = λ r. Images (take (kept r) (is r)) (images_taken (kept r) (is r));
  no_others = λ r past. none_of (kept r) (image_records (is r)) (inside r past);
}

marks_front : (n k : ℕ) (o : Option Mark) → ((m : Mark) → o ≡ Some m → m.number ≡ n) → IsEpochFront n (take k (epoch_of o))
marks_front n zero o are = Images [] refl
marks_front n (suc k) None are = Images [] refl
marks_front n (suc zero) (Some m) are = WithEpoch [] m (are m refl) refl
marks_front n (suc (suc k)) (Some m) are = WithEpoch [] m (are m refl) refl

pub more_epochs : (n g : ℕ) (s : Records) (marks : ℕ → Option Mark) (kept : ℕ → ℕ) → ((r : ℕ) → length (regions s.instance) ≤ r → marks_in marks r ≡ [])
    → ((r : ℕ) (m : Mark) → marks r ≡ Some m → m.number ≡ n) → HasMore n g s (with_more s (λ r. map (in_generation g) (take (kept r) (marks_in marks r))))
more_epochs n g s marks kept inside are = record {
  instance = refl;
  more = λ r. take (kept r) (marks_in marks r);
  journal = λ r. refl;
  each = λ r. marks_front n (kept r) (marks r) (are r);
  no_others = λ r past. none_of (kept r) (marks_in marks r) (inside r past);
}

pub no_more : (n g : ℕ) (s : Records) → HasMore n g s s
no_more n g s = record {
  instance = refl;
  more = λ r. [];
  journal = λ r. sym (append-nil (s.journal r));
  each = λ r. Images [] refl;
  no_others = λ r past. refl;
}

-- images, and then more
pub images_append : (is js : List Before) → image_records is ++ image_records js ≡ image_records (is ++ js)
images_append is js = sym (map-append (λ i. Pblk i) is js)

pub front_behind : (n : ℕ) (is : List Before) (l k : List JournalRecord) → l ≡ image_records is → IsEpochFront n k → IsEpochFront n (l ++ k)
front_behind n is l k first (Images js are) = Images (is ++ js) (ap (λ (x : List JournalRecord). x ++ k) first ∙ ap (λ (x : List JournalRecord). image_records is ++ x) are ∙ images_append is js)
front_behind n is l k first (WithEpoch js m number are) =
    WithEpoch (is ++ js) m number (ap (λ (x : List JournalRecord). x ++ k) first ∙ ap (λ (x : List JournalRecord). image_records is ++ x) are
    ∙ sym (append_assoc (image_records is) (image_records js) (Epoch m ∷ [])) ∙ ap (λ (x : List JournalRecord). x ++ Epoch m ∷ []) (images_append is js))

abbrev pub more_then : (n g : ℕ) (s t u : Records) (first : HasMore n g s t) → ((r : ℕ) → (is : List Before) × (first.more r ≡ image_records is)) → HasMore n g t u → HasMore n g s u
more_then n g s t u first images second = record {
  instance = second.instance ∙ first.instance;
  more = λ r. first.more r ++ second.more r;
  journal = λ r. second.journal r ∙ ap (λ (l : List Placed). l ++ map (in_generation g) (second.more r)) (first.journal r)
      ∙ append_assoc (s.journal r) (map (in_generation g) (first.more r)) (map (in_generation g) (second.more r))
      ∙ ap (λ (l : List Placed). s.journal r ++ l) (sym (map-append (in_generation g) (first.more r) (second.more r)));
  each = λ r. front_behind n (images r).0 (first.more r) (second.more r) (images r).1 (second.each r);
  no_others = λ r past.
      ap (λ (l : List JournalRecord). l ++ second.more r) (first.no_others r past)
      ∙ second.no_others r (subst (λ (i : List InstanceRecord). length (regions i) ≤ r) (sym first.instance) past);
}
