use Rattle.std.proofs.Common.{rules, ◌≡◌, ◌+◌, ℕ, List, take, drop, sym, ◌∙◌, subst}
use Rattle.disk_defs.proofs.Told.{told_at, both_weak, weaker_told}
use Rattle.journal_defs.specs.Journal.{JournalRecord, IsJournalBody}
use Rattle.jnl_record.specs.Values.{record_value}
use Rattle.entry_index.specs.Places.{StandsAt, HasLength}
use Rattle.entry_index.proofs.Stands.{placed_body, stands_placed, one_stands}
use Rattle.entry_index.proofs.placed_record.read_placed.Goals as goal

pub returns-clause-found : goal.returns-clause-found
returns-clause-found g c =
    let view = g.D.Disk.disk in
    let o = (view c.args.disk.now).content in
    let file = c.args.file in
    let at = c.args.at in
    let n = c.in_ok-n.n in
    let r = record_value c.in_ok-record.record in
    let bytes = told_at o (view c.placed_length.new.disk).content (λ files. c.fill.new.into.items ≡ take n (drop (at + 5) (files file))) c.placed_length.ensures.reads.content c.in_ok-fill.ensures.bytes in
    let is = subst (λ (l : List ℕ). IsJournalBody l r) c.deref.ensures.value c.in_ok-record.ensures.found in
    both_weak o (λ files. HasLength (files file) at n) (λ files. c.fill.new.into.items ≡ take n (drop (at + 5) (files file))) (λ files. StandsAt (files file) at r) c.in_ok-n.ensures.found bytes
    (λ files has shown. placed_body (files file) at n has r (subst (λ (l : List ℕ). IsJournalBody l r) shown is))

pub returns-clause-one : goal.returns-clause-one
returns-clause-one g c =
    let o = (g.D.Disk.disk c.args.disk.now).content in
    let r = record_value c.in_ok-record.record in
    weaker_told o (λ files. StandsAt (files c.args.file) c.args.at r) (λ files. (other : JournalRecord) → StandsAt (files c.args.file) c.args.at other → r ≡ other) (returns-clause-found g c)
    (λ files s other t. one_stands (files c.args.file) c.args.at r other s t)

pub returns-in_err-record-clause-outside : goal.returns-in_err-record-clause-outside
returns-in_err-record-clause-outside g c offset is =
    let view = g.D.Disk.disk in
    let o = (view c.args.disk.now).content in
    let file = c.args.file in
    let at = c.args.at in
    let n = c.in_ok-n.n in
    let bytes = told_at o (view c.placed_length.new.disk).content (λ files. c.fill.new.into.items ≡ take n (drop (at + 5) (files file))) c.placed_length.ensures.reads.content c.in_ok-fill.ensures.bytes in
    let refused : (r : JournalRecord) → IsJournalBody c.deref.result.now r → ⊥ = c.decode.ensures.refused at (search (rules, is)) in
    let same : c.deref.result.now ≡ c.fill.new.into.items = c.deref.ensures.value in
    both_weak o (λ files. HasLength (files file) at n) (λ files. c.fill.new.into.items ≡ take n (drop (at + 5) (files file))) (λ files. (r : JournalRecord) → StandsAt (files file) at r → ⊥) c.in_ok-n.ensures.found bytes
    (λ files has shown r stands. refused r (subst (λ (l : List ℕ). IsJournalBody l r) (sym (same ∙ shown)) (stands_placed (files file) at r stands n has)))
