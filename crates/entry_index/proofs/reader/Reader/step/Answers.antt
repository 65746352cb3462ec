use Rattle.std.proofs.Common.{ℕ, List, Option, None, Some, refl, sym, subst}
use Rattle.disk_defs.proofs.Told.{weaker_told}
use Rattle.journal_defs.specs.Sequence.{Placed}
use Rattle.entry_index.specs.Cursors.{IsAt, Stepped}
use Rattle.entry_index.specs.Pieces.{FindsSign}
use Rattle.entry_index.specs.declared.reader.Reader.{Reader}
use Rattle.entry_index.specs.declared.sign.Sign.{Sign}
use Rattle.entry_index.proofs.Readers.{at_piece}
use Rattle.entry_index.proofs.reader.Reader.step.Goals as goal

pub returns-in-Ok-Some-clause-stepped : goal.returns-in-Ok-Some-clause-stepped
returns-in-Ok-Some-clause-stepped g c =
    let o = (g.D.Disk.disk c.args.disk.now).content in
    let p = c.args.self.now in
    let q : Reader = record p { pieces = c.find_sign.new.pieces } in
    weaker_told o (λ files. FindsSign (files p.pieces.file) p.at c.in-Ok-Some.field-0) (λ files. (journal : List Placed) → IsAt files p journal → Stepped files p.region c.pass.new.self journal c.pass.result) c.in-Ok-Some.ensures.found
    (λ files found journal is.
    let here = subst (λ (f : Option (Sign × ℕ)). FindsSign (files p.pieces.file) p.at f) c.in-Ok-Some.field-0-is found in
    let there = subst (λ (f : ℕ). FindsSign (files f) p.at (Some (c.in-Ok-Some.sign, c.in-Ok-Some.next))) (sym c.find_sign.ensures.same) here in
    c.pass.ensures.stepped files journal (at_piece files p q journal refl is) there)

pub returns-in_ok-turn-in-Ok-None-clause-stepped : goal.returns-in_ok-turn-in-Ok-None-clause-stepped
returns-in_ok-turn-in-Ok-None-clause-stepped g c =
    let o = (g.D.Disk.disk c.args.disk.now).content in
    let p = c.args.self.now in
    let q : Reader = record p { pieces = c.find_sign.new.pieces } in
    weaker_told o (λ files. FindsSign (files p.pieces.file) p.at c.in-Ok-None.field-0) (λ files. (journal : List Placed) → IsAt files p journal → IsAt files c.turn.new.self journal) c.in-Ok-None.ensures.found
    (λ files found journal is.
    let here = subst (λ (f : Option (Sign × ℕ)). FindsSign (files p.pieces.file) p.at f) c.in-Ok-None.field-0-is found in
    let there = subst (λ (f : ℕ). FindsSign (files f) p.at None) (sym c.find_sign.ensures.same) here in
    c.in_ok-turn-in-Ok-None.ensures.turned files journal (at_piece files p q journal refl is) there)
