use Rattle.std.proofs.Common.{◌≡◌, ◌+◌, ◌<◌, ◌≤◌, ℕ, List, length, take, drop, ap, sym, ◌∙◌, arith}
use Rattle.std.specs.Int.{from_be_bytes, w32}
use Rattle.global_defs.specs.declared.limits.TheConstants.{LONGEST_BODY}
use Rattle.disk_defs.proofs.Told.{told_at, both_weak}
use Rattle.journal_defs.specs.Journal.{JournalRecord}
use Rattle.entry_index.specs.Places.{StandsAt}
use Rattle.entry_index.proofs.Stands.{stands_outside}
use Rattle.entry_index.proofs.placed_record.placed_length.Goals as goal
use Rattle.entry_index.proofs.placed_record.placed_length.Goals.{then-n-eq0-via-then-n-eq0, then-n-eq0-via-else-n-eq0+then-n-gt-LONGEST, then-n-eq0-via-else-n-eq0+else-n-gt-LONGEST+then-size-at-2}
use Rattle.global_defs.proofs.Basics.{ok_of}

pub returns-then-n-eq0-clause-outside : goal.returns-then-n-eq0-clause-outside
returns-then-n-eq0-clause-outside g c offset _ =
    let view = g.D.Disk.disk in
    let o = (view c.args.disk.now).content in
    let file = c.args.file in
    let at = c.args.at in
    let size = c.in-Ok.size in
    let n = c.from-n.result in
    let same : n ≡ c.big_endian.result = c.from-n.ensures in
    let head = c.read_at.new.buf in
    let unfit : 1 ≤ n → n ≤ LONGEST_BODY → size < at + 5 + n = λ low high. elim c.then-n-eq0.branch [
      | then-n-eq0-via-then-n-eq0 w ↦ absurd (omega (arith, low, w.if-n-eq0.true))
      | then-n-eq0-via-else-n-eq0+then-n-gt-LONGEST w ↦ absurd (omega (arith, high, w.if-n-gt-LONGEST.true))
      | then-n-eq0-via-else-n-eq0+else-n-gt-LONGEST+then-size-at-2 w ↦ omega (arith, w.if-size-at-2.true)
    ] in
    let was = ok_of c.read_at.result _ (sym c.is_err.ensures.value ∙ c.if-is_err.false) c.read_at.ensures.bytes in
    let heads = told_at o (view c.len.new.self).content (λ files. head ≡ take 4 (drop (at + 1) (files file))) c.len.ensures.reads.content was in
    both_weak o (λ files. size ≡ length (files file)) (λ files. head ≡ take 4 (drop (at + 1) (files file))) (λ files. (r : JournalRecord) → StandsAt (files file) at r → ⊥) c.in-Ok.ensures.length heads
    (λ files size_is head_is r s. stands_outside (files file) at r s n (same ∙ c.big_endian.ensures.value ∙ ap (λ (l : List ℕ). from_be_bytes w32 l) head_is) (λ low high. omega (arith, unfit low high, size_is)))
