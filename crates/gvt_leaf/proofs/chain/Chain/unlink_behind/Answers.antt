use Rattle.std.proofs.Common.{◌≡◌, ◌∙◌, ◌+◌, ap, length, arith}
use Rattle.std.proofs.lemmas.List.{length-set}
use Rattle.journal_defs.specs.Leaves.{Leaf}
use Rattle.block_pool.specs.Code.{Pool}
use Rattle.gvt_leaf.proofs.Links.{done_so}
use Rattle.gvt_leaf.proofs.Kept.{number_inside}
use Rattle.gvt_leaf.proofs.Unlinks.{IsUnlinked, is_unlinked}
use Rattle.gvt_leaf.proofs.chain.Chain.unlink_behind.Goals as goal

pub block-requires : goal.block-requires
block-requires c = number_inside c.self.inside c.args.self.now c.self.invariant c.self.view_is (c.args.i + 1) c.remove-gone.result c.remove-gone.ensures.value c.requires

pub relink-requires : goal.relink-requires
relink-requires c = record { inside = number_inside c.self.inside c.args.self.now c.self.invariant c.self.view_is c.args.i c.index-here.result.now c.index-here.ensures (omega (arith, c.requires)) }

unlinked : (c : goal.Else-is_err) → IsUnlinked c.args.self.now c.relink.new.pool c.push.new.self.items c.remove-gone.new.self.items c.args.i
unlinked c =
    is_unlinked c.self.inside c.args.self.now c.self.invariant c.self.view_is c.relink.new.pool c.push.new.self.items c.remove-gone.new.self.items c.args.i c.index-here.result.now c.remove-gone.result c.next-next.result c.index-here.ensures
    c.requires c.remove-gone.ensures.value c.remove-gone.ensures.items (done_so c.push.new.self.items _ _ _ c.push.ensures.items c.if-is_err.ensures.negation) c.relink.ensures.changed c.relink.ensures.form
    (c.next-next.ensures.next ∙ ap (λ (l : Leaf). l.next) c.block.ensures)

pub invariant_of-self : goal.invariant_of-self
invariant_of-self c =
    let s = unlinked c in
    let count : length c.relink.new.pool.leaves ≡ length c.self.inside.pool.leaves = ap (λ (p : Pool). length p.leaves) c.relink.ensures.changed ∙ length-set c.self.inside.pool.leaves c.index-here.result.now _ in
    let room : c.relink.new.pool.room ≡ c.self.inside.pool.room = ap (λ (p : Pool). p.room) c.relink.ensures.changed in
    let long = done_so _ _ _ _ c.push.ensures.len c.if-is_err.ensures.negation in
    record {
      linked = s.linked;
      first = s.first;
      apart = s.apart;
      total = omega (arith, long, c.self.invariant.total, c.remove-gone.ensures.len, count);
      forms = s.forms;
      blanks = c.self.invariant.blanks;
      room = omega (arith, c.self.invariant.room, room);
      seats = omega (arith, c.self.invariant.seats, count, c.remove-gone.ensures.capacity);
      frees = omega (arith, c.self.invariant.frees, count, c.push.ensures.capacity);
    }

pub returns-clause-leaves : goal.returns-clause-leaves
returns-clause-leaves c = (unlinked c).leaves
