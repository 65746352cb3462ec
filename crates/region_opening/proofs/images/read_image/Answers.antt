use Rattle.std.proofs.Common.{rules, ◌≡◌, ◌≤◌, ℕ, IsErrOf, subst, arith}
use Rattle.global_defs.specs.declared.limits.TheConstants.{MOST_GENERATIONS}
use Rattle.disk_defs.proofs.Told.{weaker_told}
use Rattle.jnl_file.proofs.Newer.{all_told}
use Rattle.jnl_file.specs.declared.error.JournalError.TheVariants.{NotARecord}
use Rattle.entry_index.specs.Places.{StandsAt}
use Rattle.jnl_record.specs.Values.{record_value}
use Rattle.journal_defs.specs.Journal.{JournalRecord, Before, Pblk}
use Rattle.journal_defs.specs.Numbers.{journal_file}
use Rattle.region_opening.proofs.images.read_image.Goals as goal

pub returns-then-generation-gt-MOST_GENERATIONS-clause-outside : goal.returns-then-generation-gt-MOST_GENERATIONS-clause-outside
returns-then-generation-gt-MOST_GENERATIONS-clause-outside g c f at failed =
    let a = c.args in
    all_told (g.D.Disk.disk a.disk.now).content (λ files. (i : Before) → StandsAt (files (journal_file a.generation a.region)) a.offset (Pblk i) → a.generation ≤ MOST_GENERATIONS → ⊥) (λ files i stands low. omega (arith, low))

pub returns-then-is_image-clause-image : goal.returns-then-is_image-clause-image
returns-then-is_image-clause-image g c =
    let a = c.args in
    weaker_told (g.D.Disk.disk a.disk.now).content (λ files. (w : JournalRecord) → StandsAt (files c.journal_file-file.result) a.offset w → record_value c.in-Ok.what ≡ w)
    (λ files. (w : JournalRecord) → StandsAt (files (journal_file a.generation a.region)) a.offset w → record_value c.in-Ok.what ≡ w) c.in-Ok.ensures.one
    (λ files one. subst (λ (f : ℕ). (w : JournalRecord) → StandsAt (files f) a.offset w → record_value c.in-Ok.what ≡ w) c.journal_file-file.ensures one)

pub returns-else-is_image-clause-outside : goal.returns-else-is_image-clause-outside
returns-else-is_image-clause-outside g c f at failed =
    let a = c.args in
    weaker_told (g.D.Disk.disk a.disk.now).content (λ files. (w : JournalRecord) → StandsAt (files c.journal_file-file.result) a.offset w → record_value c.in-Ok.what ≡ w)
    (λ files. (i : Before) → StandsAt (files (journal_file a.generation a.region)) a.offset (Pblk i) → a.generation ≤ MOST_GENERATIONS → ⊥) c.in-Ok.ensures.one
    (λ files one i stands low.
    let what : record_value c.in-Ok.what ≡ Pblk i = subst (λ (n : ℕ). (w : JournalRecord) → StandsAt (files n) a.offset w → record_value c.in-Ok.what ≡ w) c.journal_file-file.ensures one (Pblk i) stands in
    let image = c.is_image.ensures.whole i what stands.spelled.form in
    let other = c.if-is_image.false in
    cc)

pub returns-in-Err-NotARecord-clause-outside : goal.returns-in-Err-NotARecord-clause-outside
returns-in-Err-NotARecord-clause-outside g c f at failed =
    let a = c.args in
    let refused : IsErrOf c.read_placed.result (NotARecord at) = search (rules, failed) in
    weaker_told (g.D.Disk.disk a.disk.now).content (λ files. (w : JournalRecord) → StandsAt (files c.journal_file-file.result) a.offset w → ⊥)
    (λ files. (i : Before) → StandsAt (files (journal_file a.generation a.region)) a.offset (Pblk i) → a.generation ≤ MOST_GENERATIONS → ⊥) (c.read_placed.ensures.outside at refused)
    (λ files none i stands low. subst (λ (n : ℕ). (w : JournalRecord) → StandsAt (files n) a.offset w → ⊥) c.journal_file-file.ensures none (Pblk i) stands)
