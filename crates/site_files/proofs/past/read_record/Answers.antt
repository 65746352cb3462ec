use Rattle.std.proofs.Common.{◌≡◌, ◌≤◌, ap, arith, Err}
use Rattle.global_defs.specs.declared.limits.TheConstants.{MOST_GENERATIONS}
use Rattle.disk_defs.proofs.Told.{weaker_told}
use Rattle.jnl_file.proofs.Newer.{all_told}
use Rattle.journal_defs.specs.Journal.{JournalRecord}
use Rattle.journal_defs.specs.Sequence.{Placed}
use Rattle.jnl_record.specs.Values.{record_value}
use Rattle.entry_index.specs.Places.{StandsAt, IsSignOf}
use Rattle.site_files.proofs.PastRead.{is_record, nothing_there, refused_there}
use Rattle.site_files.proofs.past.read_record.Goals as goal

pub returns-then-generation-gt-MOST_GENERATIONS-clause-outside : goal.returns-then-generation-gt-MOST_GENERATIONS-clause-outside
returns-then-generation-gt-MOST_GENERATIONS-clause-outside g c file offset failed =
    let a = c.args in
    all_told (g.D.Disk.disk a.disk.now).content (λ files. (p : Placed) → IsSignOf files a.region a.placed.now p → p.generation ≤ MOST_GENERATIONS → ⊥)
    (λ files p is most. let same = is.generation in omega (arith, same, most))

pub returns-in-Ok-clause-found : goal.returns-in-Ok-clause-found
returns-in-Ok-clause-found g c =
    let a = c.args in
    let s = a.placed.now in
    let what = record_value c.in-Ok.what in
    weaker_told (g.D.Disk.disk a.disk.now).content (λ files. (other : JournalRecord) → StandsAt (files c.journal_file-file.result) s.offset other → what ≡ other)
    (λ files. (p : Placed) → IsSignOf files a.region s p → (let made : Placed = record { generation = s.generation; what = what } in made) ≡ p) c.in-Ok.ensures.one
    (λ files one p is. is_record files a.region s p c.journal_file-file.result what c.journal_file-file.ensures one is)

pub returns-in-Err-clause-outside : goal.returns-in-Err-clause-outside
returns-in-Err-clause-outside g c file offset failed =
    let a = c.args in
    let s = a.placed.now in
    let at = c.journal_file-file.result in
    let refused = refused_there c.faults.result at c.in-Err.error c.in_file.result file offset c.in_file.ensures failed in
    weaker_told (g.D.Disk.disk a.disk.now).content (λ files. (other : JournalRecord) → StandsAt (files at) s.offset other → ⊥)
    (λ files. (p : Placed) → IsSignOf files a.region s p → p.generation ≤ MOST_GENERATIONS → ⊥) (c.in-Err.ensures.outside offset (ap Err refused))
    (λ files none p is most. nothing_there files a.region s p at c.journal_file-file.ensures none is)
