use Rattle.std.proofs.Common.{◌≡◌, inr, Some, true, false, sym, ◌∙◌, refl, arith}
use Rattle.journal_defs.specs.Surviving.{survives}
use Rattle.entry_index.specs.Cursors.{placed_by}
use Rattle.entry_index.specs.Signs.{part_sign_in}
use Rattle.entry_index.proofs.Cursors.{said_part, takes_lost, takes_part}
use Rattle.entry_index.proofs.cursor.Cursor.take_part.Goals as goal

pub returns-then-not-spare-clause-taken : goal.returns-then-not-spare-clause-taken
returns-then-not-spare-clause-taken c _ files instance cuts lowest n low most journal x drawn sign offset keeps =
    let a = c.args in
    let s = a.part in
    let is : Some s ≡ part_sign_in (placed_by s) = said_part files a.self.now.reader.region s x drawn sign in
    let lost : survives instance s.place.generation s.number ≡ false = sym (c.spare.ensures instance cuts) ∙ c.if-not-spare.true in
    takes_lost files instance lowest n a.low _ journal (placed_by s) x drawn sign s is lost c.requires.none
    (c.in_ok-keep_part.ensures files instance lowest a.self.now.reader.region n journal x (λ _. inr lost) drawn sign keeps)

pub returns-clause-taken : goal.returns-clause-taken
returns-clause-taken c _ files instance cuts lowest n low most journal x drawn sign offset keeps =
    let a = c.args in
    let s = a.part in
    let is : Some s ≡ part_sign_in (placed_by s) = said_part files a.self.now.reader.region s x drawn sign in
    let lives : survives instance s.place.generation s.number ≡ true = sym (c.spare.ensures instance cuts) ∙ c.if-not-spare.false in
    takes_part files instance lowest n a.low _ journal (placed_by s) x drawn sign s is lives refl low (omega (arith, c.if-part-low.false)) offset keeps
