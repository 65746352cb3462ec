use Rattle.std.proofs.Common.{◌≡◌, ◌+◌, ℕ, false, length, take, get_or}
use Rattle.std.specs.Prelude.{count_by}
use Rattle.gvt_leaf.specs.Links.{times, inside, one_if}
use Rattle.gvt_leaf.proofs.walk.unseen.Given as goal

abbrev pub invariant-loop-number : goal.invariant-loop-number
invariant-loop-number l = record {
  apart : (b : ℕ) → times b l.free.items + one_if (get_or (take l.number l.seen) b false) ≡ inside b l.number;
  count : length l.free.items + count_by (λ s. s) (take l.number l.seen) ≡ l.number;
}
