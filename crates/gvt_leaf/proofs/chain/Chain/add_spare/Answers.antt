use Rattle.std.proofs.Common.{◌≡◌, ◌+◌, ◌∷◌, ◌++◌, [], List, length, ap, sym, subst, ◌∙◌, refl, arith}
use Rattle.std.proofs.lemmas.List.{length-append}
use Rattle.std.specs.List.{AllByRecursion}
use Rattle.journal_defs.specs.Leaves.{Leaf}
use Rattle.gvt_leaf.proofs.Still.{same_chained}
use Rattle.gvt_leaf.proofs.chain.Chain.add_spare.Goals as goal
use Rattle.journal_laws.proofs.ImageSteps.{all_both as all_joined}

pub invariant_of-self : goal.invariant_of-self
invariant_of-self c =
    same_chained c.self.inside (record { pool = c.reserve.new.self; order = c.self.inside.order; free = c.self.inside.free; spare = c.self.inside.spare }) c.self.invariant (record {
      leaves = c.reserve.ensures.leaves;
      order = refl;
      free = refl;
      blanks = c.self.invariant.blanks;
      room = omega (arith, c.self.invariant.room, c.reserve.ensures.kept);
      seats = c.self.invariant.seats;
      frees = c.self.invariant.frees;
    })

pub invariant_of-self-in_err-reserve-2 : goal.invariant_of-self-in_err-reserve-2
invariant_of-self-in_err-reserve-2 c =
    same_chained c.self.inside (record { pool = c.reserve.new.self; order = c.reserve-2.new.self; free = c.self.inside.free; spare = c.self.inside.spare }) c.self.invariant (record {
      leaves = c.reserve.ensures.leaves;
      order = c.reserve-2.ensures.items;
      free = refl;
      blanks = c.self.invariant.blanks;
      room = omega (arith, c.self.invariant.room, c.reserve.ensures.kept);
      seats = omega (arith, c.self.invariant.seats, c.reserve-2.ensures.capacity);
      frees = c.self.invariant.frees;
    })

pub invariant_of-self-in_err-reserve-3 : goal.invariant_of-self-in_err-reserve-3
invariant_of-self-in_err-reserve-3 c =
    same_chained c.self.inside (record { pool = c.reserve.new.self; order = c.reserve-2.new.self; free = c.reserve-3.new.self; spare = c.self.inside.spare }) c.self.invariant (record {
      leaves = c.reserve.ensures.leaves;
      order = c.reserve-2.ensures.items;
      free = c.reserve-3.ensures.items;
      blanks = c.self.invariant.blanks;
      room = omega (arith, c.self.invariant.room, c.reserve.ensures.kept);
      seats = omega (arith, c.self.invariant.seats, c.reserve-2.ensures.capacity);
      frees = omega (arith, c.self.invariant.frees, c.reserve-3.ensures.capacity);
    })

pub invariant_of-self-in_err-block : goal.invariant_of-self-in_err-block
invariant_of-self-in_err-block c =
    same_chained c.self.inside (record { pool = c.reserve.new.self; order = c.reserve-2.new.self; free = c.reserve-3.new.self; spare = c.self.inside.spare }) c.self.invariant (record {
      leaves = c.reserve.ensures.leaves;
      order = c.reserve-2.ensures.items;
      free = c.reserve-3.ensures.items;
      blanks = c.self.invariant.blanks;
      room = omega (arith, c.self.invariant.room, c.reserve.ensures.kept);
      seats = omega (arith, c.self.invariant.seats, c.reserve-2.ensures.capacity);
      frees = omega (arith, c.self.invariant.frees, c.reserve-3.ensures.capacity);
    })

pub invariant_of-self-in_err-push : goal.invariant_of-self-in_err-push
invariant_of-self-in_err-push c =
    let spare : c.push.new.self.items ≡ c.self.inside.spare.items = c.in_err-push.ensures.items in
    let count : length c.push.new.self.items ≡ length c.self.inside.spare.items = ap (λ (ls : List Leaf). length ls) spare in
    same_chained c.self.inside (record { pool = c.reserve.new.self; order = c.reserve-2.new.self; free = c.reserve-3.new.self; spare = c.push.new.self }) c.self.invariant (record {
      leaves = c.reserve.ensures.leaves;
      order = c.reserve-2.ensures.items;
      free = c.reserve-3.ensures.items;
      blanks = subst (λ (ls : List Leaf). AllByRecursion (λ (l : Leaf). l.cells ≡ []) ls) (sym spare) c.self.invariant.blanks;
      room = omega (arith, c.self.invariant.room, c.reserve.ensures.kept, count);
      seats = omega (arith, c.self.invariant.seats, c.reserve-2.ensures.capacity, count);
      frees = omega (arith, c.self.invariant.frees, c.reserve-3.ensures.capacity, count);
    })

pub invariant_of-self-2 : goal.invariant_of-self-2
invariant_of-self-2 c =
    let spare : c.push.new.self.items ≡ c.self.inside.spare.items ++ c.in_ok-block.block ∷ [] = c.in_ok-push.ensures.items in
    let count : length c.push.new.self.items ≡ length c.self.inside.spare.items + 1 = ap (λ (ls : List Leaf). length ls) spare ∙ length-append c.self.inside.spare.items (c.in_ok-block.block ∷ []) in
    let leaves : length c.reserve.new.self.leaves ≡ length c.self.inside.pool.leaves = ap (λ (ls : List Leaf). length ls) c.reserve.ensures.leaves in
    let long : c.len-spare.result ≡ length c.self.inside.spare.items = c.len-spare.ensures ∙ c.self.inside.spare.ok.0 in
    same_chained c.self.inside (record { pool = c.reserve.new.self; order = c.reserve-2.new.self; free = c.reserve-3.new.self; spare = c.push.new.self }) c.self.invariant (record {
      leaves = c.reserve.ensures.leaves;
      order = c.reserve-2.ensures.items;
      free = c.reserve-3.ensures.items;
      blanks = subst (λ (ls : List Leaf). AllByRecursion (λ (l : Leaf). l.cells ≡ []) ls) (sym spare)
          (all_joined (λ (l : Leaf). l.cells ≡ []) c.self.inside.spare.items (c.in_ok-block.block ∷ []) c.self.invariant.blanks (ap (λ (l : Leaf). l.cells) c.in_ok-block.ensures, tt));
      room = omega (arith, c.in-Ok.ensures, c.in_ok-reserve.ensures.room, count, long);
      seats = omega (arith, c.in_ok-reserve-2.ensures.ok, c.reserve-2.ensures.len, c.len.ensures, c.count.ensures.count, leaves, count, long, c.self.invariant.total);
      frees = omega (arith, c.in_ok-reserve-3.ensures.ok, c.reserve-3.ensures.len, c.len-2.ensures, c.count.ensures.count, leaves, count, long, c.self.invariant.total);
    })
