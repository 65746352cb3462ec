use Rattle.std.proofs.Common.{◌∙◌, ◌+◌, refl, sym, ap, subst, map, drop, fold, arith}
use Rattle.std.proofs.lemmas.List.{take_all}
use Rattle.global_defs.specs.Entry.{Globals, apply}
use Rattle.gvn_key.specs.Terms.{update_value}
use Rattle.gvt_leaf.proofs.Made.{form_at}
use Rattle.region_store.specs.Joined.{joined, HasRoomFor}
use Rattle.region_store.proofs.Counted.{first_left, made_more}
use Rattle.region_store.proofs.Making.{changed_none, changed_then, room_one}
use Rattle.region_store.proofs.regions.Regions.make.Goals as goal

pub loop-update-init : goal.loop-update-init
loop-update-init c = record { made = refl; room = c.requires.room; changed = changed_none c.args.self.now }

pub make_one-requires-clause-form : goal.make_one-requires-clause-form
make_one-requires-clause-form c = form_at update_value c.args.updates.now c.loop-update.update-index c.update-item.result c.loop-update-test.true c.update-item.is c.requires.forms

pub make_one-requires-clause-room : goal.make_one-requires-clause-room
make_one-requires-clause-room c =
    let us = c.args.updates.now in
    let l = c.loop-update in
    let u = c.update-item.result in
    room_one l.self (update_value u) (map update_value (drop (l.update-index + 1) us))
    (subst (HasRoomFor l.self) (first_left update_value us l.update-index u c.loop-update-test.true c.update-item.is) l.invariant.room)

pub loop-update-preserved : goal.loop-update-preserved
loop-update-preserved c =
    let us = c.args.updates.now in
    let l = c.loop-update in
    let u = c.update-item.result in
    record {
      made = c.make_one.ensures.made ∙ ap (λ (g : Globals). apply g (update_value u)) l.invariant.made ∙ sym (made_more update_value (joined c.args.self.now) us l.update-index u c.loop-update-test.true c.update-item.is);
      room = c.make_one.ensures.room (map update_value (drop (l.update-index + 1) us)) (subst (HasRoomFor l.self) (first_left update_value us l.update-index u c.loop-update-test.true c.update-item.is) l.invariant.room);
      changed = changed_then c.args.self.now l.self c.make_one.new.self l.invariant.changed c.make_one.ensures.changed;
    }

pub returns-clause-made : goal.returns-clause-made
returns-clause-made c =
    let l = c.loop-update in
    let end = c.loop-update-test.false in
    l.invariant.made ∙ ap (λ us. fold apply (joined c.args.self.now) (map update_value us)) (take_all l.update-index c.args.updates.now (omega (arith, end)))
