-- The image that one block needs, on its way into its region's journal.
use Rattle.std.proofs.Common.{◌≡◌, ◌≤◌, ◌<◌, ◌==◌, ℕ, Bool, true, false, List, [], ◌∷◌, ◌++◌, length, map, take, get_or, Some, None, Option, Err, IsErrOf, refl, sym, ◌∙◌, ap, subst, arith, append-nil}
use Rattle.std.specs.Prelude.{slice_get, IfSome, IsSomeAnd, if◌then◌else◌}
use Rattle.std.proofs.Math.Path.{fun_ext}
use Rattle.std.proofs.lemmas.List.{length-map}
use Rattle.std.proofs.lemmas.Option.{slice_get-get_or}
use Rattle.disk_defs.specs.Disk.{Files, View}
use Rattle.journal_defs.specs.Journal.{JournalRecord, Before, Pblk}
use Rattle.journal_defs.specs.Epochs.{block_of}
use Rattle.before_image.specs.Images.{is_free}
use Rattle.jnl_file.specs.declared.error.JournalError.{JournalError}
use Rattle.jnl_file.specs.declared.error.JournalError.TheVariants as of_journal
use Rattle.jnl_record.specs.declared.record.JnlRecord.{JnlRecord}
use Rattle.jnl_record.specs.Values.{record_value}
use Rattle.region_journals.specs.declared.journals.RegionJournal.{RegionJournal}
use Rattle.region_journals.specs.Journals.{KeepsJournals}
use Rattle.region_journals.specs.Logging.{in_region}
use Rattle.region_store.specs.Joined.{Joined, region_at}
use Rattle.region_epochs.specs.Errors.{from_journal}
use Rattle.region_epochs.specs.Kept.{image_records, image_needed}
use Rattle.region_epochs.specs.declared.error.EpochError.TheVariants.{NoMemory}

-- the journals had no memory, where the epoch has none
which : (e : JournalError) → from_journal e ≡ NoMemory → e ≡ of_journal.NoMemory
which of_journal.Failed is = absurd (cc is)
which (of_journal.NotARecord offset) is = absurd (cc is)
which of_journal.NoMemory is = refl

pub had_no_memory : {T U : Type 0} (e : JournalError) → IsErrOf {T = T} (Err (from_journal e)) NoMemory → IsErrOf {T = U} (Err e) of_journal.NoMemory
had_no_memory e is = let same : from_journal e ≡ NoMemory = cc is in ap Err (which e same)

-- what is so of any files
pub in_files : (o : Option Files) (P : Files → Type 0) → ((files : Files) → P files) → IfSome o P
in_files None P all = tt
in_files (Some files) P all = all files

-- a region's journal that has records is on a disk that tells its files
told_files : (o : Option Files) (P : Files → Type 0) → IsSomeAnd o P → (files : Files) × (o ≡ Some files)
told_files None P is = absurd is
told_files (Some files) P is = (files, refl)

some_there : (js : List RegionJournal) (n : ℕ) → n < length js → (x : RegionJournal) × (slice_get js n ≡ Some x)
some_there [] n low = absurd (omega (arith, low))
some_there (y ∷ ys) n low = (get_or (y ∷ ys) n y, slice_get-get_or (y ∷ ys) n y low)

files_there : (u : View) (hard waiting : ℕ → List JournalRecord) (js : List RegionJournal) (n : ℕ) → n < length js → KeepsJournals u hard waiting js → (files : Files) × (u.content ≡ Some files)
files_there u hard waiting js n low keeps = let x = some_there js n low in told_files u.content _ (keeps.has n x.0 x.1)

-- a block needs one image at most
one_of : (i : Before) (free : Bool) → length (if free then [] else i ∷ []) ≤ 1
one_of i true = omega arith
one_of i false = omega arith

one_needed : (j : Joined) (files : Files) (n b : ℕ) → length (image_needed j files n b) ≤ 1
one_needed j files n b = one_of (record { block = b; bytes = block_of (files (region_at j n).file) b }) (is_free (region_at j n).imaged b)

one_logged : (o : Option Files) (files : Files) (j : Joined) (n b : ℕ) (log : List Before) → o ≡ Some files → IfSome o (λ files. log ≡ image_needed j files n b) → length log ≤ 1
one_logged o files j n b log is logged =
    subst (λ (l : List Before). length l ≤ 1) (sym (subst (λ (o : Option Files). IfSome o (λ files. log ≡ image_needed j files n b)) is logged)) (one_needed j files n b)

-- so where not all of them were appended, none was
none_either : (l : List JournalRecord) (b : Bool) → (if b then l else l) ≡ l
none_either l true = refl
none_either l false = refl

none_more : (w : View) (hard waiting : ℕ → List JournalRecord) (n : ℕ) (rs : List JournalRecord) (ks : List RegionJournal) → rs ≡ [] → KeepsJournals w hard (λ r. waiting r ++ in_region n rs r) ks → KeepsJournals w hard waiting ks
none_more w hard waiting n rs ks none keeps = subst (λ (more : ℕ → List JournalRecord). KeepsJournals w hard more ks) (fun_ext same) keeps
  where
    same : (r : ℕ) → waiting r ++ in_region n rs r ≡ waiting r
    same r = ap (λ (l : List JournalRecord). waiting r ++ in_region n l r) none ∙ ap (λ (l : List JournalRecord). waiting r ++ l) (none_either [] (r == n)) ∙ append-nil (waiting r)

first_none : (k : ℕ) (rs : List JournalRecord) → k ≡ 0 → take k rs ≡ []
first_none k rs is = ap (λ (i : ℕ). take i rs) is

pub nothing_more : (u w : View) (js ks : List RegionJournal) (j : Joined) (n b k : ℕ) (log : List Before) (rs : List JnlRecord) (hard waiting : ℕ → List JournalRecord)
    → n < length js → IfSome u.content (λ files. log ≡ image_needed j files n b) → map record_value rs ≡ image_records log → k < length rs
    → KeepsJournals u hard waiting js → KeepsJournals w hard (λ r. waiting r ++ in_region n (take k (map record_value rs)) r) ks → KeepsJournals w hard waiting ks
nothing_more u w js ks j n b k log rs hard waiting low logged are fewer keeps call =
    let told = files_there u hard waiting js n low keeps in
    let one = one_logged u.content told.0 j n b log told.1 logged in
    let as_many : length rs ≡ length log = sym (length-map rs record_value) ∙ ap (λ (l : List JournalRecord). length l) are ∙ length-map log (λ (i : Before). Pblk i) in
    none_more w hard waiting n (take k (map record_value rs)) ks (first_none k (map record_value rs) (omega (arith, one, as_many, fewer))) call
