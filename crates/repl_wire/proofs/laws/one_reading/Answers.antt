use Rattle.std.proofs.Common.{sym, ◌∙◌}
use Rattle.repl_wire.proofs.Feeding.{streams_one, not_both}
use Rattle.repl_wire.proofs.laws.one_reading.Goals as goal

pub returns-clause-one : goal.returns-clause-one
returns-clause-one c = λ bytes fs gs r s a b x y. streams_one fs gs r s a.each b.each (sym a.whole ∙ b.whole) x y

pub returns-clause-apart : goal.returns-clause-apart
returns-clause-apart c = not_both
