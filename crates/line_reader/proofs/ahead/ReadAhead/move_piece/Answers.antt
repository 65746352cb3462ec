use Rattle.std.proofs.Common.{◌≡◌, ◌+◌, ◌≤◌, ◌<◌, true, false, List, ℕ, length, take, drop, sym, ◌∙◌, ap, subst, arith}
use Rattle.std.proofs.lemmas.Grind.{common_steps}
use Rattle.line_reader.specs.Lines.{Moves}
use Rattle.line_reader.proofs.Pieces.{is_piece, is_feed_at, fed, moved}
use Rattle.line_reader.proofs.ahead.ReadAhead.move_piece.Goals as goal

pub returns-in_ok-extend_from_slice-in-Some-clause-moves : goal.returns-in_ok-extend_from_slice-in-Some-clause-moves
returns-in_ok-extend_from_slice-in-Some-clause-moves c =
    let left = c.left-left.result.now in
    let same : left ≡ c.args.self.now.bytes = c.left-left.ensures in
    let line = c.args.line.now.items in
    let most = c.min-most.result in
    let i = c.in-Some.i in
    let within : most ≤ length left = grind (arith, common_steps, c.min-most.ensures, c.len.ensures, ap length same) in
    let rest : c.take.new.self.bytes ≡ drop (i + 1) left = c.take.ensures.bytes ∙ ap (drop (i + 1)) (sym same) in
    subst (λ (b : List ℕ). Moves true b c.take.new.self.bytes line c.extend_from_slice.new.self.items) same
    (subst (λ (b : List ℕ). Moves true left b line c.extend_from_slice.new.self.items) (sym rest)
    (subst (λ (l : List ℕ). Moves true left (drop (i + 1) left) line l) (sym c.in_ok-extend_from_slice-in-Some.ensures.items)
    (fed left line most i within (is_feed_at (take most left) i (sym c.feed_in.ensures.place ∙ c.in-Some.is)))))

pub returns-in_ok-extend_from_slice-in-None-clause-moves : goal.returns-in_ok-extend_from_slice-in-None-clause-moves
returns-in_ok-extend_from_slice-in-None-clause-moves c =
    let left = c.left-left.result.now in
    let same : left ≡ c.args.self.now.bytes = c.left-left.ensures in
    let line = c.args.line.now.items in
    let most = c.min-most.result in
    let within : most ≤ length left = grind (arith, common_steps, c.min-most.ensures, c.len.ensures, ap length same) in
    let some : 0 < most = grind (arith, common_steps, c.min-most.ensures, c.len.ensures, c.requires.some, c.requires.short) in
    let rest : c.take-in-None.new.self.bytes ≡ drop most left = c.take-in-None.ensures.bytes ∙ ap (drop most) (sym same) in
    subst (λ (b : List ℕ). Moves false b c.take-in-None.new.self.bytes line c.extend_from_slice-in-None.new.self.items) same
    (subst (λ (b : List ℕ). Moves false left b line c.extend_from_slice-in-None.new.self.items) (sym rest)
    (subst (λ (l : List ℕ). Moves false left (drop most left) line l) (sym c.in_ok-extend_from_slice-in-None.ensures.items)
    (moved left line most some within (is_piece (take most left) (sym c.feed_in.ensures.place ∙ c.in-None.is)))))
