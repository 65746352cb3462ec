use Rattle.std.proofs.Common.{◌≡◌, map, drop}
use Rattle.block_pool.specs.Pool.{numbers_from}
use Rattle.block_pool.proofs.pool.take_marks.Given as goal

abbrev pub invariant-loop-number : goal.invariant-loop-number
invariant-loop-number l = record {
  blocks : map (λ q. q.block) l.pages ≡ map (λ q. q.block) l.fn.pages;
  left : numbers_from 0 (map (λ q. q.dirty) l.pages) ≡ drop l.number-index l.changed;
}
