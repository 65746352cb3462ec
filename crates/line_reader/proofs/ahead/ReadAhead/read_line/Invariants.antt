use Rattle.std.proofs.Common.{◌≤◌, ◌-◌, length}
use Rattle.line_reader.specs.Lines.{IsPiece, Takes}
use Rattle.line_reader.proofs.ahead.ReadAhead.read_line.Given as goal

abbrev pub invariant-loop-self : goal.invariant-loop-self
invariant-loop-self g l = record {
  within : length l.line.items ≤ 4097;
  piece : IsPiece l.line.items;
  takes : Takes l.fn.self l.self (g.S.Source.left l.fn.script) (g.S.Source.left l.script) l.line.items;
  later : g.S.Source.faults l.fn.script ≤ g.S.Source.faults l.script;
}

abbrev pub decreases-loop-self : goal.decreases-loop-self
decreases-loop-self g l = 4097 - length l.line.items
