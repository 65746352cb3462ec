use Rattle.std.proofs.Common.{◌+◌, map, drop}
use Rattle.gvn_key.specs.Terms.{update_value}
use Rattle.gvt_leaf.specs.Stored.{sets_of, sets_in}
use Rattle.gvt_leaf.proofs.Made.{form_at, sets_at, room_first}
use Rattle.gvt_leaf.proofs.leaves.Leaves.make.Goals as goal

pub make_one-requires-clause-form : goal.make_one-requires-clause-form
make_one-requires-clause-form c = form_at update_value c.args.updates.now c.loop-update.update-index c.update-item.result c.loop-update-test.true c.update-item.is c.requires.forms

pub make_one-requires-clause-room : goal.make_one-requires-clause-room
make_one-requires-clause-room c =
    let us = c.args.updates.now in
    let i = c.loop-update.update-index in
    let u = c.update-item.result in
    room_first c.loop-update.self (sets_in (map update_value (drop i us))) (sets_of (update_value u)) (sets_in (map update_value (drop (i + 1) us))) c.loop-update.invariant.room (sets_at update_value us i u c.loop-update-test.true c.update-item.is)
