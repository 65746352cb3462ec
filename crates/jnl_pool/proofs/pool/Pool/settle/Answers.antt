use Rattle.std.proofs.Common.{ℕ, ◌≤◌, List, subst}
use Rattle.std.specs.Prelude.{All}
use Rattle.wire_defs.specs.PoolWords.{StartsWith}
use Rattle.jnl_pool.specs.Pooling.{claimed, hard_count}
use Rattle.jnl_pool.proofs.pool.Pool.settle.Goals as goal

pub returns-clause-notes : goal.returns-clause-notes
returns-clause-notes c = subst (λ (xs : List (List (List ℕ))). All (StartsWith c.args.w.now.entries) xs) c.into_seat.ensures.lists.2 c.take_in.ensures.notes

pub returns-clause-counts : goal.returns-clause-counts
returns-clause-counts c =
    let are = c.into_seat.ensures.counts in
    let told = c.take_in.ensures.counts in (
      subst (λ (k : ℕ). k ≤ hard_count c.args.w.now) are.0 told.0,
      subst (λ (k : ℕ). k ≤ hard_count c.args.w.now) are.1 told.1,
      subst (λ (k : ℕ). k ≤ claimed c.args.w.now) are.2 told.2,
    )
