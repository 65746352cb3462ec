use Rattle.std.proofs.Common.{◌≡◌, ◌-◌, ℕ, List, length, take, drop, sym, ◌∙◌, ap, subst, arith, length-drop}
use Rattle.std.proofs.lemmas.List.{take_all}
use Rattle.journal_defs.specs.Leaves.{spelled_cell}
use Rattle.block_fmt.specs.Read.{BeginWithCell, first_cell}
use Rattle.block_fmt.proofs.reading.next_cell.Goals as goal

tail : (bytes : List ℕ) (at : ℕ) → take (length bytes - at) (drop at bytes) ≡ drop at bytes
tail bytes at = take_all (length bytes - at) (drop at bytes) (omega (arith, length-drop at bytes))

pub is_next-requires-clause-here : goal.is_next-requires-clause-here
is_next-requires-clause-here c = subst BeginWithCell (tail c.args.bytes.now c.args.at) c.in-Some.ensures.cell

pub returns-in_default-clause-none : goal.returns-in_default-clause-none
returns-in_default-clause-none c next = c.in_default.ensures.none (subst BeginWithCell (sym (tail c.args.bytes.now c.args.at)) next.begin)

pub returns-then-is_next-clause-size : goal.returns-then-is_next-clause-size
returns-then-is_next-clause-size c = c.in-Some.ensures.size ∙ ap (λ (l : List ℕ). length (spelled_cell (first_cell l))) (tail c.args.bytes.now c.args.at)

pub returns-then-is_next-clause-within : goal.returns-then-is_next-clause-within
returns-then-is_next-clause-within c =
    let low = c.requires.inside in
    omega (arith, low, c.in-Some.ensures.inside, ap length (tail c.args.bytes.now c.args.at), length-drop c.args.at c.args.bytes.now)
