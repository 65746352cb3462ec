use Rattle.std.proofs.Common.{rules, ◌≡◌, ℕ, List, ◌++◌, inr, Option, Some, IfSome, ◌∙◌, sym, ap, subst}
use Rattle.disk_defs.proofs.Told.{weaker_told}
use Rattle.gated_file.specs.Reading.{Finds}
use Rattle.journal_defs.specs.Journal.{JournalRecord, IsJournalBody}
use Rattle.jnl_file.specs.Reading.{IsNoRecord}
use Rattle.jnl_file.proofs.reading.read_record.Goals as goal

pub returns-in_err-record-clause-outside : goal.returns-in_err-record-clause-outside
returns-in_err-record-clause-outside g c is =
    let view = g.D.Disk.disk in
    let file = c.args.gated.now.file in
    let out = c.next_record.new.out in
    let refused : (r : JournalRecord) → IsJournalBody c.as_slice.result.now r → ⊥ = c.decode.ensures.refused c.args.at (search (rules, is)) in
    let found = subst (λ (o : Option ℕ). IfSome (view c.args.disk.now).content (λ files. Finds (files file) c.args.at o c.clear.new.self out)) c.in-Some.is c.in_ok-next.ensures.found in
    weaker_told (view c.args.disk.now).content (λ files. Finds (files file) c.args.at (Some c.in-Some.next) c.clear.new.self out) (λ files. IsNoRecord (files file) c.args.at) found
    (λ files finds.
    let same : c.as_slice.result.now ≡ finds.0 = c.as_slice.ensures ∙ finds.3 ∙ ap (λ (l : List ℕ). l ++ finds.0) c.clear.ensures in
    inr (finds.0, c.in-Some.next, finds.1, λ r is_body. refused r (subst (λ (l : List ℕ). IsJournalBody l r) (sym same) is_body)))
