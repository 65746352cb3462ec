use Rattle.std.proofs.Common.{sym, ◌∙◌}
use Rattle.entry_index.proofs.Cursors.{takes_none}
use Rattle.entry_index.proofs.cursor.Cursor.take.Goals as goal

pub returns-in_ok-keep-in-None-clause-taken : goal.returns-in_ok-keep-in-None-clause-taken
returns-in_ok-keep-in-None-clause-taken c _ files instance cuts lowest n low most journal x drawn sign offset keeps =
    let a = c.args in
    takes_none files instance lowest n a.low _ journal a.placed x drawn sign (sym c.in-None.is ∙ c.part_sign.ensures) c.requires.none
    (c.in_ok-keep-in-None.ensures files instance lowest a.self.now.reader.region n journal x drawn sign keeps)
