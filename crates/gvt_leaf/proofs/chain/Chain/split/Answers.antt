use Rattle.std.proofs.Common.{◌≡◌, ◌∙◌, ◌∷◌, [], ap, subst, List, length, arith}
use Rattle.std.proofs.lemmas.List.{length-set, length-append}
use Rattle.std.specs.List.{AllByRecursion}
use Rattle.journal_defs.specs.Leaves.{Leaf}
use Rattle.block_pool.specs.Code.{Pool}
use Rattle.gvt_leaf.proofs.Links.{all-append, done_so}
use Rattle.gvt_leaf.proofs.Kept.{number_inside}
use Rattle.gvt_leaf.proofs.Splits.{IsSplit, cut_below, is_split}
use Rattle.gvt_leaf.proofs.chain.Chain.split.Goals as goal

pub block-requires : goal.block-requires
block-requires c = number_inside c.self.inside c.args.self.now c.self.invariant c.self.view_is c.args.i c.index-here.result.now c.index-here.ensures c.requires.inside

pub move_out-requires-clause-inside : goal.move_out-requires-clause-inside
move_out-requires-clause-inside c = number_inside c.self.inside c.args.self.now c.self.invariant c.self.view_is c.args.i c.index-here.result.now c.index-here.ensures c.requires.inside

pub relink-requires : goal.relink-requires
relink-requires c = record {
  inside = cut_below c.self.inside c.args.self.now c.self.invariant c.self.view_is c.move_out.new.pool c.settle-there.new.pool c.settle-there.new.free.items c.args.i c.index-here.result.now c.settle-there.result c.args.at c.move_out.new.into
      c.index-here.ensures c.requires.inside c.move_out.ensures.changed c.settle-there.ensures.numbers c.settle-there.ensures.there c.settle-there.ensures.others c.settle-there.ensures.clean.grows;
}

split : (c : goal.Else-is_err) → IsSplit c.args.self.now c.relink.new.pool c.settle-there.new.free.items c.insert.new.self.items c.args.i c.args.at
split c =
    is_split c.self.inside c.args.self.now c.self.invariant c.self.view_is c.move_out.new.pool c.settle-there.new.pool c.settle-there.new.free.items c.args.i c.index-here.result.now c.settle-there.result c.args.at c.move_out.new.into
    c.index-here.ensures c.requires.inside c.move_out.ensures.changed c.settle-there.ensures.numbers c.settle-there.ensures.there c.settle-there.ensures.others c.settle-there.ensures.clean.grows
    c.relink.new.pool c.insert.new.self.items c.relink.ensures.changed c.relink.ensures.form c.move_out.ensures.form
    (done_so c.insert.new.self.items _ _ _ c.insert.ensures.items c.if-is_err.ensures.negation)
    (ap (λ (l : Leaf). l.next) c.move_out.ensures.moved ∙ ap (λ (l : Leaf). l.next) c.set_next.ensures ∙ c.next.ensures.next ∙ ap (λ (l : Leaf). l.next) c.block.ensures)
    (ap (λ (l : Leaf). l.cells) c.move_out.ensures.moved)

pub invariant_of-self : goal.invariant_of-self
invariant_of-self c =
    let s = split c in
    let cut : length c.move_out.new.pool.leaves ≡ length c.self.inside.pool.leaves = ap (λ (p : Pool). length p.leaves) c.move_out.ensures.changed ∙ length-set c.self.inside.pool.leaves c.index-here.result.now _ in
    let named : length c.relink.new.pool.leaves ≡ length c.settle-there.new.pool.leaves = ap (λ (p : Pool). length p.leaves) c.relink.ensures.changed ∙ length-set c.settle-there.new.pool.leaves c.index-here.result.now _ in
    let spare = ap (λ (ls : List Leaf). length ls) c.in-Some.ensures.items ∙ length-append c.pop.new.self.items (c.in-Some.fresh ∷ []) in
    let room1 : c.move_out.new.pool.room ≡ c.self.inside.pool.room = ap (λ (p : Pool). p.room) c.move_out.ensures.changed in
    let room2 : c.relink.new.pool.room ≡ c.settle-there.new.pool.room = ap (λ (p : Pool). p.room) c.relink.ensures.changed in
    let long = done_so _ _ _ _ c.insert.ensures.len c.if-is_err.ensures.negation in
    record {
      linked = s.linked;
      first = s.first;
      apart = s.apart;
      total = omega (arith, long, c.self.invariant.total, c.settle-there.ensures.total, cut, named);
      forms = s.forms;
      blanks = (all-append (λ (l : Leaf). l.cells ≡ []) c.pop.new.self.items (c.in-Some.fresh ∷ []) (subst (λ (ls : List Leaf). AllByRecursion (λ (l : Leaf). l.cells ≡ []) ls) c.in-Some.ensures.items c.self.invariant.blanks)).0;
      room = omega (arith, spare, c.self.invariant.room, c.settle-there.ensures.left, room1, room2);
      seats = omega (arith, spare, c.self.invariant.seats, cut, named, c.settle-there.ensures.more, c.insert.ensures.capacity);
      frees = omega (arith, spare, c.self.invariant.frees, cut, named, c.settle-there.ensures.more, c.settle-there.ensures.capacity);
    }

pub returns-clause-leaves : goal.returns-clause-leaves
returns-clause-leaves c = (split c).leaves
