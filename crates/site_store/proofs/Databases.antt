-- Database files that are synced, one after another, and what stays durable.
use Rattle.std.proofs.Common.{◌≡◌, ℕ, ◌+◌, Option, Some, None, IfSome, sym, subst, arith, inl, inr}
use Rattle.std.proofs.lemmas.Bool.{cases_eq}
use Rattle.disk_defs.specs.Disk.{Files, View, Image, IsLawful, IsDurable, AtEachMoment}
use Rattle.disk_defs.proofs.Told.{both_weak, weaker_told, told_at}
use Rattle.journal_defs.specs.Numbers.{database_file}
use Rattle.site_files.proofs.RegionsRead.{durable_kept}
use Rattle.site_store.specs.Opening.{AreTextsDurable, AreDatabasesDurable}
use Rattle.site_store.proofs.Texts.{text_kept}

pub no_database : (o : Option Files) (v : View) → IfSome o (AreDatabasesDurable v 0)
no_database None v = tt
no_database (Some files) v = λ r low. absurd (omega (arith, low))

pub one_more_database : (u v w : View) (n : ℕ) → v.content ≡ u.content → IsLawful w → AtEachMoment v w (Image v) → IfSome u.content (AreDatabasesDurable v n)
    → IfSome v.content (λ files. IsDurable w (database_file n) (files (database_file n))) → IfSome u.content (AreDatabasesDurable w (n + 1))
one_more_database u v w n same lawful run before here =
    let Here = λ (files : Files). IsDurable w (database_file n) (files (database_file n)) in
    both_weak u.content (AreDatabasesDurable v n) Here (AreDatabasesDurable w (n + 1)) before (told_at u.content v.content Here same here)
    (λ files was is r low. elim (cases_eq r n) [
      | inl e ↦ subst (λ (k : ℕ). IsDurable w (database_file k) (files (database_file k))) (sym e) is
      | inr ne ↦ durable_kept v w (database_file r) (files (database_file r)) lawful run (was r (omega (arith, low, ne)))
    ])

-- while the disk is only synced or read
pub databases_still : (o : Option Files) (v w : View) (n : ℕ) → IsLawful w → AtEachMoment v w (Image v) → IfSome o (AreDatabasesDurable v n) → IfSome o (AreDatabasesDurable w n)
databases_still o v w n lawful run was = weaker_told o (AreDatabasesDurable v n) (AreDatabasesDurable w n) was (λ files are r low. durable_kept v w (database_file r) (files (database_file r)) lawful run (are r low))

pub texts_still : (o : Option Files) (v w : View) (n : ℕ) → IsLawful w → AtEachMoment v w (Image v) → IfSome o (AreTextsDurable v n) → IfSome o (AreTextsDurable w n)
texts_still o v w n lawful run was = weaker_told o (AreTextsDurable v n) (AreTextsDurable w n) was (λ files are h least most. text_kept v w h files lawful run (are h least most))
