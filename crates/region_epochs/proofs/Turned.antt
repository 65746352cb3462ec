-- The images of one region after another, on their way into the journals.
use Rattle.std.proofs.Common.{◌≡◌, ◌≤◌, ◌<◌, ◌+◌, ℕ, Bool, true, false, nat_lt, List, [], ◌++◌, length, Some, None, Option, inl, inr, refl, sym, ◌∙◌, ap, subst, arith, append-nil}
use Rattle.std.specs.Prelude.{IfSome, if◌then◌else◌}
use Rattle.std.proofs.Math.Path.{fun_ext}
use Rattle.std.proofs.lemmas.Bool.{cases_eq, cases_lt}
use Rattle.std.proofs.lemmas.Bool.Decides.{nat_tests}
use Rattle.disk_defs.specs.Disk.{Files, View}
use Rattle.disk_defs.specs.Frames.{SameOutside}
use Rattle.disk_defs.proofs.Told.{reads_after, weaker_told}
use Rattle.journal_defs.specs.Numbers.{database_file}
use Rattle.journal_defs.specs.Journal.{JournalRecord}
use Rattle.region_store.specs.Region.{HoldsRegion, IsHeld, changed_images}
use Rattle.region_journals.specs.declared.journals.RegionJournal.{RegionJournal}
use Rattle.region_journals.specs.Fronts.{IsNewestFile}
use Rattle.region_journals.specs.Journals.{AreReady, KeepsJournals}
use Rattle.region_journals.specs.Logging.{in_region}
use Rattle.region_store.specs.Joined.{Joined, region_at}
use Rattle.region_epochs.specs.Kept.{images_in, image_records}
use Rattle.region_epochs.proofs.Blocks.{no_images_past}
use Rattle.region_epochs.proofs.Logs.{JournalsStay, told_then, apart}
use Rattle.region_journals.proofs.Logged.{here_all, elsewhere_none}

-- what waits in the first k regions
abbrev pub up_to : ℕ → (ℕ → List JournalRecord) → ℕ → List JournalRecord
up_to k f r = if nat_lt r k then f r else []

to_below : (k : ℕ) (f : ℕ → List JournalRecord) (r : ℕ) → r < k → up_to k f r ≡ f r
to_below k f r low = ap (λ (b : Bool). if b then f r else []) yes
  where
    yes : nat_lt r k ≡ true
    yes = grind (arith, nat_tests, low)

to_past : (k : ℕ) (f : ℕ → List JournalRecord) (r : ℕ) → k ≤ r → up_to k f r ≡ []
to_past k f r far = ap (λ (b : Bool). if b then f r else []) isnt
  where
    isnt : nat_lt r k ≡ false
    isnt = grind (arith, nat_tests, far)

pub none_at_first : (f : ℕ → List JournalRecord) → (λ r. []) ≡ up_to 0 f
none_at_first f = fun_ext (λ r. sym (to_past 0 f r (omega arith)))

pub one_more : (k : ℕ) (f : ℕ → List JournalRecord) (rs : List JournalRecord) → rs ≡ f k → (λ r. up_to k f r ++ in_region k rs r) ≡ up_to (k + 1) f
one_more k f rs same = fun_ext (λ r. elim (cases_lt r k) [
  | inl low ↦
      ap (λ (l : List JournalRecord). up_to k f r ++ l) (elsewhere_none k r rs (λ e. omega (arith, e, low))) ∙ append-nil (up_to k f r)
      ∙ to_below k f r low ∙ sym (to_below (k + 1) f r (omega (arith, low)))
  | inr far ↦ elim (cases_eq r k) [
    | inl here ↦ subst (λ (q : ℕ). up_to k f q ++ in_region k rs q ≡ up_to (k + 1) f q) (sym here)
        (ap (λ (l : List JournalRecord). l ++ in_region k rs k) (to_past k f k (omega arith)) ∙ here_all k rs ∙ same ∙ sym (to_below (k + 1) f k (omega arith)))
    | inr other ↦
        ap (λ (l : List JournalRecord). l ++ in_region k rs r) (to_past k f r far) ∙ elsewhere_none k r rs other
        ∙ sym (to_past (k + 1) f r (omega (arith, far, other)))
  ]
])

pub all_of : (k : ℕ) (f : ℕ → List JournalRecord) → ((r : ℕ) → k ≤ r → f r ≡ []) → up_to k f ≡ f
all_of k f none = fun_ext (λ r. elim (cases_lt r k) [
  | inl low ↦ to_below k f r low
  | inr far ↦ to_past k f r far ∙ sym (none r far)
])

-- what the journals have, where the disk tells its files
abbrev pub LoggedTo : View → View → List RegionJournal → List RegionJournal → Joined → ℕ → Files → Type 0
LoggedTo u v old js j k files = (hard : ℕ → List JournalRecord) → KeepsJournals u hard (λ r. []) old → KeepsJournals v hard (up_to k (images_in j files)) js

pub logged_first : (u : View) (old : List RegionJournal) (j : Joined) → IfSome u.content (LoggedTo u u old old j 0)
logged_first u old j = told u.content
  where
    told : (o : Option Files) → IfSome o (LoggedTo u u old old j 0)
    told None = tt
    told (Some files) = λ hard keeps. subst (λ (waiting : ℕ → List JournalRecord). KeepsJournals u hard waiting old) (none_at_first (images_in j files)) keeps

pub logged_all_of : (u v : View) (old js : List RegionJournal) (j : Joined) (k : ℕ) → length j.regions ≤ k → IfSome u.content (LoggedTo u v old js j k)
    → IfSome u.content (λ files. (hard : ℕ → List JournalRecord) → KeepsJournals u hard (λ r. []) old → KeepsJournals v hard (images_in j files) js)
logged_all_of u v old js j k end state =
    weaker_told u.content (LoggedTo u v old js j k) (λ files. (hard : ℕ → List JournalRecord) → KeepsJournals u hard (λ r. []) old → KeepsJournals v hard (images_in j files) js) state
    (λ files to hard keeps. subst (λ (waiting : ℕ → List JournalRecord). KeepsJournals v hard waiting js) (all_of k (images_in j files) (λ r far. no_images_past j files r (omega (arith, end, far)))) (to hard keeps))

module _ (u v w : View) (g : ℕ) (old js ks : List RegionJournal) (j : Joined) (k : ℕ) (ready : AreReady u g old) (frame : JournalsStay u v old) (low : k < length old) (file : (region_at j k).file ≡ database_file k) where
  same_there : (files now : Files) → SameOutside (IsNewestFile g (length old)) files now → now (region_at j k).file ≡ files (region_at j k).file
  same_there files now same = ap now file ∙ same (database_file k) (apart g (length old) k ready.few low) ∙ ap files (sym file)

  pub still_held : IfSome u.content (IsHeld (region_at j k)) → IfSome v.content (IsHeld (region_at j k))
  still_held held = reads_after u.content v.content (SameOutside (IsNewestFile g (length old))) (IsHeld (region_at j k)) (IsHeld (region_at j k)) (frame g ready).content held
      (λ a b h same. (h.0, subst (λ (bytes : List ℕ). HoldsRegion h.0 bytes (region_at j k)) (sym (same_there a b same)) h.1))

  pub logged_more : IfSome u.content (LoggedTo u v old js j k)
      → IfSome v.content (λ files. (hard waiting : ℕ → List JournalRecord) → KeepsJournals v hard waiting js → KeepsJournals w hard (λ r. waiting r ++ in_region k (images_in j files k) r) ks)
      → IfSome u.content (LoggedTo u w old ks j (k + 1))
  logged_more so_far call = told u.content refl so_far
    where
      told : (o : Option Files) → u.content ≡ o → IfSome o (LoggedTo u v old js j k) → IfSome o (LoggedTo u w old ks j (k + 1))
      told None is so_far = tt
      told (Some files) is so_far = λ hard keeps.
          let after = told_then u.content v.content (SameOutside (IsNewestFile g (length old))) files (frame g ready).content is in
          let here : (hard waiting : ℕ → List JournalRecord) → KeepsJournals v hard waiting js → KeepsJournals w hard (λ r. waiting r ++ in_region k (images_in j after.0 k) r) ks =
          subst (λ (o : Option Files). IfSome o (λ files. (hard waiting : ℕ → List JournalRecord) → KeepsJournals v hard waiting js → KeepsJournals w hard (λ r. waiting r ++ in_region k (images_in j files k) r) ks)) after.1 call in
          subst (λ (waiting : ℕ → List JournalRecord). KeepsJournals w hard waiting ks)
          (one_more k (images_in j files) (images_in j after.0 k) (ap (λ (bytes : List ℕ). image_records (changed_images (region_at j k) bytes)) (same_there files after.0 after.2)))
          (here hard (up_to k (images_in j files)) (so_far hard keeps))
