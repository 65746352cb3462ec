use Rattle.std.proofs.Common.{rules, ◌≡◌, ℕ, ◌≤◌, Option, Some, None, IsErrOf, sym, ◌∙◌, ap, subst, arith}
use Rattle.std.specs.Option.{option_map}
use Rattle.disk_defs.proofs.Told.{weaker_told}
use Rattle.jnl_file.proofs.Newer.{all_told}
use Rattle.jnl_file.specs.declared.error.JournalError.TheVariants.{NotARecord}
use Rattle.entry_index.specs.Places.{StandsAt}
use Rattle.jnl_record.specs.Values.{record_value}
use Rattle.journal_defs.specs.Journal.{JournalRecord, Part}
use Rattle.entry_index.specs.Parts.{InFiles, IsPartAt, part_with, read_value}
use Rattle.entry_index.proofs.ReadParts.{none_at, none_past, is_part, no_part, nothing_there}
use Rattle.entry_index.proofs.reading.read_part.Goals as goal

pub returns-then-generation-eq0-clause-found : goal.returns-then-generation-eq0-clause-found
returns-then-generation-eq0-clause-found g c =
    let a = c.args in
    all_told (g.D.Disk.disk a.disk.now).content (λ files. (x : Option Part) → IsPartAt (InFiles files) a.region a.number a.place x → None ≡ x)
    (λ files x is. none_at files a.region a.number a.place x (omega arith) is)

pub returns-then-generation-gt-MOST_GENERATIONS-clause-outside : goal.returns-then-generation-gt-MOST_GENERATIONS-clause-outside
returns-then-generation-gt-MOST_GENERATIONS-clause-outside g c file offset failed =
    let a = c.args in
    all_told (g.D.Disk.disk a.disk.now).content (λ files. (x : Option Part) → IsPartAt (InFiles files) a.region a.number a.place x → ⊥)
    (λ files x is. none_past files a.region a.number a.place x (omega arith) is)

pub returns-in-Some-clause-found : goal.returns-in-Some-clause-found
returns-in-Some-clause-found g c =
    let a = c.args in
    let file = c.journal_file-file.result in
    let least : 1 ≤ a.place.generation = omega arith in
    let told = option_map read_value (Some c.in-Some.found) in
    let value : told ≡ part_with a.number (record_value c.in-Ok.what) = ap (option_map read_value) (sym c.in-Some.is) ∙ c.part_of.ensures.found in
    weaker_told (g.D.Disk.disk a.disk.now).content (λ files. (other : JournalRecord) → StandsAt (files file) a.place.offset other → record_value c.in-Ok.what ≡ other)
    (λ files. (x : Option Part) → IsPartAt (InFiles files) a.region a.number a.place x → told ≡ x) c.in-Ok.ensures.one
    (λ files one x is. value ∙ is_part files a.region a.number a.place x (record_value c.in-Ok.what) least
    (subst (λ (f : ℕ). (other : JournalRecord) → StandsAt (files f) a.place.offset other → record_value c.in-Ok.what ≡ other) c.journal_file-file.ensures one) is)

pub returns-in-None-clause-outside : goal.returns-in-None-clause-outside
returns-in-None-clause-outside g c file offset failed =
    let a = c.args in
    let at = c.journal_file-file.result in
    let least : 1 ≤ a.place.generation = omega arith in
    let none : None ≡ part_with a.number (record_value c.in-Ok.what) = ap (option_map read_value) (sym c.in-None.is) ∙ c.part_of.ensures.found in
    weaker_told (g.D.Disk.disk a.disk.now).content (λ files. (other : JournalRecord) → StandsAt (files at) a.place.offset other → record_value c.in-Ok.what ≡ other)
    (λ files. (x : Option Part) → IsPartAt (InFiles files) a.region a.number a.place x → ⊥) c.in-Ok.ensures.one
    (λ files one x is. no_part files a.region a.number a.place x (record_value c.in-Ok.what) least
    (subst (λ (f : ℕ). (other : JournalRecord) → StandsAt (files f) a.place.offset other → record_value c.in-Ok.what ≡ other) c.journal_file-file.ensures one) none is)

pub returns-in-Err-clause-outside : goal.returns-in-Err-clause-outside
returns-in-Err-clause-outside g c file offset failed =
    let a = c.args in
    let at = c.journal_file-file.result in
    let least : 1 ≤ a.place.generation = omega arith in
    let refused : IsErrOf c.read_placed.result (NotARecord offset) = search (rules, failed) in
    weaker_told (g.D.Disk.disk a.disk.now).content (λ files. (other : JournalRecord) → StandsAt (files at) a.place.offset other → ⊥)
    (λ files. (x : Option Part) → IsPartAt (InFiles files) a.region a.number a.place x → ⊥) (c.read_placed.ensures.outside offset refused)
    (λ files none x is. nothing_there files a.region a.number a.place x least (subst (λ (f : ℕ). (other : JournalRecord) → StandsAt (files f) a.place.offset other → ⊥) c.journal_file-file.ensures none) is)
