use Rattle.std.proofs.Common.{false, Bool, sym, subst, arith}
use Rattle.line_reader.specs.Ahead.{Ahead}
use Rattle.line_reader.specs.Lines.{Moves, Takes}
use Rattle.line_reader.proofs.Pieces.{takes_none, takes_fed, takes_moved, piece_more}
use Rattle.line_reader.proofs.ahead.ReadAhead.read_line.Goals as goal

pub returns-else-is_empty-clause-takes : goal.returns-else-is_empty-clause-takes
returns-else-is_empty-clause-takes g c = (c.loop-self.line.items, takes_none _ _ _ _ _ _ _ c.loop-self.invariant.takes c.fill.ensures.takes, c.loop-self.invariant.within)

pub returns-in-Err-clause-takes : goal.returns-in-Err-clause-takes
returns-in-Err-clause-takes g c = (c.loop-self.line.items, takes_none _ _ _ _ _ _ _ c.loop-self.invariant.takes c.fill.ensures.takes, c.loop-self.invariant.within)

pub returns-in-Ok-true-move_piece-clause-takes : goal.returns-in-Ok-true-move_piece-clause-takes
returns-in-Ok-true-move_piece-clause-takes g c =
    takes_fed _ _ _ c.move_piece.new.self _ _ _ c.loop-self.line.items c.move_piece.new.line.items c.loop-self.invariant.takes c.fill.ensures.takes
    (subst (λ (b : Bool). Moves b c.fill.new.self.bytes c.move_piece.new.self.bytes c.loop-self.line.items c.move_piece.new.line.items) c.in-Ok-true-move_piece.field-0-test c.in-Ok-true-move_piece.ensures.moves) c.move_piece.ensures.room
    (rw c.in-Ok-true-move_piece.field-0-test at c.in-Ok-true-move_piece.ensures.within)

pub loop-self-preserved : goal.loop-self-preserved
loop-self-preserved g c =
    let m : Moves false c.fill.new.self.bytes c.move_piece.new.self.bytes c.loop-self.line.items c.move_piece.new.line.items =
    subst (λ (b : Bool). Moves b c.fill.new.self.bytes c.move_piece.new.self.bytes c.loop-self.line.items c.move_piece.new.line.items) c.in-Ok-false-move_piece.field-0-test c.in-Ok-false-move_piece.ensures.moves in
    let fill_later = c.fill.ensures.cause.later in
    record {
      within = rw c.in-Ok-false-move_piece.field-0-test at c.in-Ok-false-move_piece.ensures.within;
      piece = piece_more false c.fill.new.self.bytes c.move_piece.new.self.bytes c.loop-self.line.items c.move_piece.new.line.items c.loop-self.invariant.piece m;
      takes = takes_moved _ _ _ c.move_piece.new.self _ _ _ c.loop-self.line.items c.move_piece.new.line.items c.loop-self.invariant.takes c.fill.ensures.takes m c.move_piece.ensures.room;
      later = omega (arith, c.loop-self.invariant.later, fill_later);
    }

pub returns-in-Err-move_piece-clause-takes : goal.returns-in-Err-move_piece-clause-takes
returns-in-Err-move_piece-clause-takes g c = (
  c.loop-self.line.items,
  subst (λ (a : Ahead). Takes c.args.self.now a (g.S.Source.left c.args.script.now) (g.S.Source.left c.fill.new.script) c.loop-self.line.items) (sym c.in-Err-move_piece.ensures.err.0)
      (takes_none _ _ _ _ _ _ _ c.loop-self.invariant.takes c.fill.ensures.takes),
  c.loop-self.invariant.within,
)
