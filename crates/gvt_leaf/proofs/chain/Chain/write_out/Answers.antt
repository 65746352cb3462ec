use Rattle.std.proofs.Common.{◌≡◌, ap, arith, Result, Ok, Err, refl, OnOk, OnErr}
use Rattle.block_pool.specs.Code.{Pool}
use Rattle.block_pool.specs.Pool.{cleaned}
use Rattle.block_pool.specs.declared.error.PoolError.{PoolError}
use Rattle.gvt_leaf.proofs.Still.{same_chained}
use Rattle.gvt_leaf.proofs.chain.Chain.write_out.Goals as goal

-- written or not, the pool has the same blocks and the same room
record IsStill (old new : Pool) : Type 0 where
  pub leaves : new.leaves ≡ old.leaves
  pub room : new.room ≡ old.room

still : (old new : Pool) (r : Result Unit PoolError) → OnOk r (new ≡ cleaned old) → OnErr r (new ≡ old) → IsStill old new
still old new (Ok x) ok err = record { leaves = ap (λ (p : Pool). p.leaves) ok; room = ap (λ (p : Pool). p.room) ok }
still old new (Err e) ok err = record { leaves = ap (λ (p : Pool). p.leaves) err; room = ap (λ (p : Pool). p.room) err }

pub invariant_of-self : goal.invariant_of-self
invariant_of-self g c =
    let s = still c.self.inside.pool c.write_out.new.self c.write_out.result c.write_out.ensures.ok c.write_out.ensures.err in
    same_chained c.self.inside (record { pool = c.write_out.new.self; order = c.self.inside.order; free = c.self.inside.free; spare = c.self.inside.spare }) c.self.invariant (record {
      leaves = s.leaves;
      order = refl;
      free = refl;
      blanks = c.self.invariant.blanks;
      room = omega (arith, c.self.invariant.room, s.room);
      seats = c.self.invariant.seats;
      frees = c.self.invariant.frees;
    })
