-- Broken-transaction and lost-transaction files that are synced, one generation after another.
use Rattle.std.proofs.Common.{◌≡◌, ℕ, ◌+◌, Option, Some, None, IfSome, sym, subst, arith, inl, inr}
use Rattle.std.proofs.lemmas.Bool.{cases_eq}
use Rattle.disk_defs.specs.Disk.{Files, View, Image, IsLawful, AtEachMoment}
use Rattle.disk_defs.proofs.Told.{both_weak, told_at}
use Rattle.journal_defs.specs.Numbers.{lost_file, broken_file}
use Rattle.site_files.proofs.RegionsRead.{durable_kept}
use Rattle.site_store.specs.Opening.{AreBothDurable, AreTextsDurable}

pub text_kept : (v w : View) (h : ℕ) (files : Files) → IsLawful w → AtEachMoment v w (Image v) → AreBothDurable v h files → AreBothDurable w h files
text_kept v w h files lawful run was = (durable_kept v w (broken_file h) (files (broken_file h)) lawful run was.0, durable_kept v w (lost_file h) (files (lost_file h)) lawful run was.1)

pub none_durable : (o : Option Files) (v : View) → IfSome o (AreTextsDurable v 0)
none_durable None v = tt
none_durable (Some files) v = λ h least most. absurd (omega (arith, least, most))

pub one_more_durable : (u v w : View) (n : ℕ) → v.content ≡ u.content → IsLawful w → AtEachMoment v w (Image v) → IfSome u.content (AreTextsDurable v n)
    → IfSome v.content (AreBothDurable w (n + 1)) → IfSome u.content (AreTextsDurable w (n + 1))
one_more_durable u v w n same lawful run before here =
    both_weak u.content (AreTextsDurable v n) (AreBothDurable w (n + 1)) (AreTextsDurable w (n + 1)) before (told_at u.content v.content (AreBothDurable w (n + 1)) same here)
    (λ files was is h least most. elim (cases_eq h (n + 1)) [
      | inl e ↦ subst (λ (k : ℕ). AreBothDurable w k files) (sym e) is
      | inr ne ↦ text_kept v w h files lawful run (was h least (omega (arith, most, ne)))
    ])
