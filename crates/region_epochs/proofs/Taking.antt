-- The steps of an epoch, one after another.
use Rattle.std.proofs.Common.{◌≡◌, ◌⊎◌, inl, inr, ◌≤◌, ◌<◌, ℕ, suc, Bool, false, List, [], ◌∷◌, ◌++◌, length, replicate, Some, Option, sym, ◌∙◌, ap, subst, arith, append_assoc}
use Rattle.std.specs.Prelude.{IfSome}
use Rattle.std.proofs.Math.Path.{fun_ext}
use Rattle.std.proofs.lemmas.Option.{slice_get_within}
use Rattle.global_defs.specs.declared.limits.TheConstants.{MOST_REGIONS}
use Rattle.disk_defs.specs.Disk.{Files, View, Image, From, IsLawful, IsDurable, AtEachMoment}
use Rattle.disk_defs.specs.Frames.{IsWithin, SameOutside, OnlyIn, OthersStay}
use Rattle.disk_defs.proofs.Moments.{only_weaker, only_wider}
use Rattle.global_defs.specs.Entry.{Sequence}
use Rattle.journal_defs.specs.Numbers.{database_file, journal_file}
use Rattle.journal_defs.specs.Journal as journal
use Rattle.journal_defs.specs.Journal.{JournalRecord, Epoch, Mark, Before}
use Rattle.journal_defs.specs.Instance.{InstanceRecord, regions}
use Rattle.journal_defs.specs.Sequence.{Records}
use Rattle.journal_defs.specs.Epochs.{Chosen, chosen, block_of, NeedsForward}
use Rattle.block_laws.specs.Several.{MayChange}
use Rattle.region_store.specs.Region.{Standing, HoldsRegion, IsHeld, IsCutShort, flushed}
use Rattle.region_journals.specs.declared.journals.RegionJournal.{RegionJournal}
use Rattle.region_journals.specs.Fronts.{IsNewestFile}
use Rattle.region_store.specs.Joined.{Joined, region_at}
use Rattle.region_epochs.specs.declared.flushing.Flushed.{Flushed}
use Rattle.region_epochs.specs.Files.{IsDatabaseFile, IsEpochFile}
use Rattle.region_epochs.specs.Flushed.{AreEpochs, AreCutShort}
use Rattle.region_epochs.specs.Kept.{image_records, IsKept, IsTogether, IsStillSound, IsRegionKept}
use Rattle.region_epochs.specs.Taken.{IsImaged, IsTaken, HasSameNodes, mark_of}
use Rattle.region_epochs.proofs.Reading.{ready_beside, keeps_beside}
use Rattle.region_epochs.proofs.Fronts.{more_then, images_append}
use Rattle.region_epochs.proofs.Sites as sites
use Rattle.region_epochs.proofs.Logs.{told_then}

-- ---- the regions are written out

-- no database file is a journal
no_journal : (n g r : ℕ) → n ≤ MOST_REGIONS → IsDatabaseFile n (journal_file g r) → ⊥
no_journal n g r few is = let file = is.is in let low = is.inside in omega (arith, file, low, few)

pub together_written : (v w : View) (g : ℕ) (js : List RegionJournal) (i j : Joined) → OthersStay (IsDatabaseFile (length i.regions)) v w → HasSameNodes i j → ((r : ℕ) → r < length i.regions → IfSome w.content (IsHeld (region_at j r)))
    → IsTogether v g js i → IsTogether w g js j
together_written v w g js i j frame same held t =
    let count = same.count in
    let many = t.count in
    let few = t.ready.few in
    record {
      ready = ready_beside (IsDatabaseFile (length i.regions)) v w g js frame t.ready (λ r. no_journal (length i.regions) g r (omega (arith, many, few)));
      count = t.count ∙ sym same.count;
      files = λ r low. same.files r ∙ t.files r (omega (arith, low, count));
      held = λ r low. held r (omega (arith, low, count));
    }

-- the EPOCHs by the regions as they are then
pub epochs_written : (closing : Bool) (number : ℕ) (i j : Joined) (made : Flushed) → HasSameNodes i j → ((r : ℕ) → r < length i.regions → region_at j r ≡ flushed (region_at i r)) → AreEpochs closing number i made → AreEpochs closing number j made
epochs_written closing number i j made same wrote are = record {
  as_many_epochs = are.as_many_epochs ∙ sym same.count;
  as_many_images = are.as_many_images ∙ sym same.count;
  may_be = are.may_be;
  epoch = λ r what is.
      let low = slice_get_within made.epochs.items r what is in
      let many = are.as_many_epochs in
      are.epoch r what is ∙ ap (λ (x : Standing). journal.Epoch (record { closing = closing; number = number; blocks = length x.pool.leaves })) (sym (wrote r (omega (arith, low, many))));
  none = λ r images is.
      let low = slice_get_within made.images.items r images is in
      let many = are.as_many_images in
      are.none r images is ∙ ap (λ (x : Standing). replicate (length x.pool.leaves) false) (sym (wrote r (omega (arith, low, many))));
}

module _ (v w : View) (s : Records) (seq : Sequence) (g : ℕ) (newer : ℕ → List JournalRecord) (js : List RegionJournal) (i : Joined) (k : IsKept v s seq g newer js i) (run : AtEachMoment v w (From (Image v) (AreCutShort i))) where
  few : length (regions s.instance) ≤ MOST_REGIONS
  few = let few = k.ready.few in let many = k.as_many_journals in omega (arith, few, many)

  may : (r : ℕ) → r < length (regions s.instance) → (d c : List ℕ) → IsCutShort (region_at i r) d c → NeedsForward s.instance (length seq) (s.journal r) ⊎ MayChange (chosen s.instance (length seq) (s.journal r)) (block_of d) (block_of c)
  may r low d c cut = elim (k.each r low).holds [ inl needs ↦ inl needs | inr h ↦ inr (cut.may (chosen s.instance (length seq) (s.journal r)) h.knows) ]

  pub written_moments : AtEachMoment v w (OnlyIn v (IsDatabaseFile (length i.regions)) (IsStillSound s seq (suc g)))
  written_moments = sites.cut_moments v w s seq g newer k.sound i few k.as_many_regions may run

  module _ (j : Joined) (lawful : IsLawful w) (frame : OthersStay (IsDatabaseFile (length i.regions)) v w) (same : HasSameNodes i j) (wrote : (r : ℕ) → r < length i.regions → region_at j r ≡ flushed (region_at i r))
      (held : (r : ℕ) → r < length i.regions → IfSome w.content (IsHeld (region_at j r)))
      (holds : (r : ℕ) (e : Chosen) → r < length i.regions → IfSome v.content (λ files. HoldsRegion e (files (database_file r)) (region_at i r)) → IfSome w.content (λ files. HoldsRegion e (files (database_file r)) (region_at j r)))
      (durable : IfSome w.content (λ files. (r : ℕ) → r < length i.regions → IsDurable w (database_file r) (files (database_file r)))) where
    out : (r : ℕ) → IsDatabaseFile (length i.regions) (journal_file (suc g) r) → ⊥
    out r = no_journal (length i.regions) (suc g) r (let few = few in let many = k.as_many_regions in omega (arith, few, many))

    inside : (r : ℕ) → r < length (regions s.instance) → r < length i.regions
    inside r low = let many = k.as_many_regions in omega (arith, low, many)

    region_written : (now : Files) → w.content ≡ Some now → (r : ℕ) → r < length (regions s.instance) → IsRegionKept w now s seq r (region_at j r)
    region_written now told r low =
        let was = k.each r low in
        let wrote_here = wrote r (inside r low) in
        record {
          file = ap (λ (x : Standing). x.file) wrote_here ∙ was.file;
          part = ap (λ (x : Standing). x.globals) wrote_here ∙ was.part;
          durable = (subst (λ (o : Option Files). IfSome o (λ files. (r : ℕ) → r < length i.regions → IsDurable w (database_file r) (files (database_file r)))) told durable) r (inside r low);
          held = subst (λ (o : Option Files). IfSome o (IsHeld (region_at j r))) told (held r (inside r low));
          holds = elim was.holds [
            | inl needs ↦ inl needs
            | inr h ↦ inr (subst (λ (o : Option Files). IfSome o (λ files. HoldsRegion (chosen s.instance (length seq) (s.journal r)) (files (database_file r)) (region_at j r))) told
                (holds r (chosen s.instance (length seq) (s.journal r)) (inside r low)
                (subst (λ (o : Option Files). IfSome o (λ files. HoldsRegion (chosen s.instance (length seq) (s.journal r)) (files (database_file r)) (region_at i r))) (sym k.told) h)))
          ];
        }

    pub kept_written : IsKept w s seq g newer js j
    kept_written =
        let told = told_then v.content w.content (SameOutside (IsDatabaseFile (length i.regions))) k.files frame.content k.told in
        record {
          files = told.0;
          told = told.1;
          sound = sites.cut_after v w s seq g newer k.sound i few k.as_many_regions may lawful run;
          ready = ready_beside (IsDatabaseFile (length i.regions)) v w (suc g) js frame k.ready out;
          journals = keeps_beside (IsDatabaseFile (length i.regions)) v w (suc g) js frame k.ready out newer (λ r. []) k.journals;
          as_many_journals = k.as_many_journals;
          as_many_regions = same.count ∙ k.as_many_regions;
          each = region_written told.0 told.1;
        }

-- ---- from the records before the images on

-- the files of an epoch
pub newest_within : (g m n : ℕ) → m ≡ n → IsWithin (IsNewestFile g m) (IsEpochFile g n)
newest_within g m n is f there = inl (record { region = there.region; inside = let low = there.inside in omega (arith, low, is); is = there.is })

pub database_within : (g m n : ℕ) → m ≡ n → IsWithin (IsDatabaseFile m) (IsEpochFile g n)
database_within g m n is f there = inr (record { region = there.region; inside = let low = there.inside in omega (arith, low, is); is = there.is })

pub wider_moments : (u v : View) (F G : ℕ → Type 0) (s : Records) (seq : Sequence) (g : ℕ) → IsWithin F G → AtEachMoment u v (OnlyIn u F (IsStillSound s seq g)) → AtEachMoment u v (OnlyIn u G (IsStillSound s seq g))
wider_moments u v F G s seq g within run = only_wider u v F G (IsStillSound s seq g) within run

module _ (v : View) (s : Records) (seq : Sequence) (g : ℕ) (newer : ℕ → List JournalRecord) (js : List RegionJournal) (j : Joined) (k : IsImaged v s seq g newer js j) where
  -- each image is one of the records with the images too
  still_before : (f : Files) → IsStillSound k.records seq (suc g) f → IsStillSound s seq (suc g) f
  still_before f is = (is.0, is.1, more_then (length seq) (suc g) s k.records is.0 k.more k.images is.2)

  pub moments_before : (u w : View) (F : ℕ → Type 0) → AtEachMoment u w (OnlyIn u F (IsStillSound k.records seq (suc g))) → AtEachMoment u w (OnlyIn u F (IsStillSound s seq (suc g)))
  moments_before u w F run = only_weaker u w F (IsStillSound k.records seq (suc g)) (IsStillSound s seq (suc g)) still_before run

  -- how many regions there are
  as_many : length (regions k.records.instance) ≡ length (regions s.instance)
  as_many = ap (λ (is : List InstanceRecord). length (regions is)) k.more.instance

  pub taken_before : (w : View) (closing : Bool) (ls : List RegionJournal) (i : Joined) → IsTaken w closing k.records seq g (λ r. newer r ++ k.more.more r) ls i → IsTaken w closing s seq g newer ls i
  taken_before w closing ls i t = record {
    records = t.records;
    more = more_then (length seq) (suc g) s k.records t.records k.more k.images t.more;
    kept = subst (λ (l : ℕ → List JournalRecord). IsKept w t.records seq g l ls i) (fun_ext (λ r. append_assoc (newer r) (k.more.more r) (t.more.more r))) t.kept;
    ends = λ r low.
        let images = k.images r in
        let end = t.ends r (let many = as_many in omega (arith, low, many)) in (
          images.0 ++ end.0,
          ap (λ (l : List JournalRecord). l ++ t.more.more r) images.1 ∙ ap (λ (l : List JournalRecord). image_records images.0 ++ l) end.1
              ∙ sym (append_assoc (image_records images.0) (image_records end.0) (Epoch (mark_of closing (length seq) i r) ∷ []))
              ∙ ap (λ (l : List JournalRecord). l ++ Epoch (mark_of closing (length seq) i r) ∷ []) (images_append images.0 end.0),
        );
    chosen_each = λ r low. ap (λ (is : List InstanceRecord). chosen is (length seq) (t.records.journal r)) (sym k.more.instance) ∙ t.chosen_each r (let many = as_many in omega (arith, low, many));
    flushed_each = λ r low. t.flushed_each r (let many = as_many in omega (arith, low, many));
  }
