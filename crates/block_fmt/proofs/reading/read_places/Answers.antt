use Rattle.std.proofs.Common.{◌≡◌, ◌<◌, ◌++◌, ◌∷◌, [], ℕ, List, length, drop, sym, ◌∙◌, ap, subst, arith, rules}
use Rattle.std.specs.declared.cmp.Ordering.TheVariants.{Less}
use Rattle.std.specs.Ordering.{nat_cmp}
use Rattle.std.specs.Cmp.Lexicographic.{slice_cmp}
use Rattle.journal_defs.specs.Leaves.{Cell, spelled_cell}
use Rattle.block_fmt.specs.Read.{first_cell, cells_in, places, AreCells, IsNextCell}
use Rattle.block_fmt.proofs.Walk.{walked_none, next_there, walked_more, walked_some, last_more, places_more, walked_all, ends_there}
use Rattle.block_fmt.proofs.reading.read_places.Goals as goal

pub loop-init : goal.loop-init
loop-init c = record {
  walked = walked_none c.args.bytes.now;
  items = search rules;
  room = omega (arith, c.in_ok-places.ensures.capacity);
  last = λ some. absurd (omega (arith, some));
  told = λ some. absurd (omega (arith, some));
  last_is = λ some. absurd (omega (arith, some));
}

pub loop-preserved : goal.loop-preserved
loop-preserved c =
    let bytes = c.args.bytes.now in
    let n = c.loop.counter in
    let at = c.loop.at in
    let inv = c.loop.invariant in
    let next : IsNextCell bytes c.loop.last at = c.in-Some.ensures.next in
    let size : c.in-Some.size ≡ length (spelled_cell (first_cell (drop at bytes))) = c.in-Some.ensures.size in
    record {
      walked = walked_more bytes n at c.in-Some.size inv.walked next.begin size next.key
          (λ some. let there : 0 < at = walked_some bytes n at inv.walked some in
          subst (λ (d : Cell). slice_cmp nat_cmp d.0 (first_cell (drop at bytes)).0 ≡ Less) (inv.last_is there) (next.past there));
      items = c.in_ok-push.ensures.items ∙ ap (λ (ps : List ℕ). ps ++ at ∷ []) inv.items ∙ sym (places_more bytes n at inv.walked);
      room = let room = inv.room in let more = c.in_ok-push.ensures.capacity in omega (arith, room, more);
      last = λ some. next.begin;
      told = λ some. c.in-Some.ensures.told;
      last_is = λ some. last_more bytes n at inv.walked;
    }

pub returns-in_default-clause-none : goal.returns-in_default-clause-none
returns-in_default-clause-none c are =
    let inv = c.loop.invariant in
    c.in_default.ensures.none
    (next_there c.args.bytes.now c.args.count c.loop.counter c.loop.at c.loop.last inv.walked c.loop-test.true inv.last_is are)

pub returns-then-at-bytes-clause-none : goal.returns-then-at-bytes-clause-none
returns-then-at-bytes-clause-none c are =
    let same : c.args.count ≡ c.loop.counter = omega (arith, c.loop-test.false, c.loop.auto.counter-end) in
    c.if-at-bytes.true (ends_there c.args.bytes.now c.loop.counter c.loop.at c.loop.invariant.walked (subst (λ (n : ℕ). AreCells n c.args.bytes.now) same are))

pub returns-clause-cells : goal.returns-clause-cells
returns-clause-cells c =
    let same : c.loop.counter ≡ c.args.count = omega (arith, c.loop-test.false, c.loop.auto.counter-end) in
    subst (λ (n : ℕ). AreCells n c.args.bytes.now) same (walked_all c.args.bytes.now c.loop.counter c.loop.at c.loop.invariant.walked c.if-at-bytes.false)

pub returns-clause-items : goal.returns-clause-items
returns-clause-items c =
    let same : c.loop.counter ≡ c.args.count = omega (arith, c.loop-test.false, c.loop.auto.counter-end) in
    c.loop.invariant.items ∙ ap (λ (n : ℕ). places 0 (cells_in n c.args.bytes.now)) same
