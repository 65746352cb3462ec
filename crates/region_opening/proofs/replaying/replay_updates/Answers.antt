use Rattle.std.proofs.Common.{◌∙◌, refl, ap, fold, map, arith}
use Rattle.std.proofs.lemmas.List.{take_all}
use Rattle.global_defs.specs.Entry.{apply}
use Rattle.global_defs.specs.Fields.{IsUpdate}
use Rattle.gvn_key.specs.Terms.{update_value}
use Rattle.block_laws.specs.Nodes.{updates_in}
use Rattle.region_opening.proofs.Replays.{changed_then, update_more, holds_at}
use Rattle.region_opening.proofs.replaying.replay_updates.Goals as goal
use Rattle.region_store.proofs.Making.{unchanged}

pub loop-update-init : goal.loop-update-init
loop-update-init c = record { made = refl; changed = unchanged c.args.region.now }

pub replay_update-requires : goal.replay_update-requires
replay_update-requires c = holds_at IsUpdate update_value c.args.updates.now c.loop-update.update-index c.update-item.result c.loop-update-test.true c.update-item.is c.requires

pub loop-update-preserved : goal.loop-update-preserved
loop-update-preserved c =
    let l = c.loop-update in
    record {
      made = update_more update_value c.args.directory.now.patterns c.args.number c.args.region.now.globals l.region.globals c.replay_update.new.region.globals c.args.updates.now l.update-index c.update-item.result
          c.loop-update-test.true c.update-item.is l.invariant.made c.in_ok-replay_update.ensures.made;
      changed = changed_then c.args.region.now l.region c.replay_update.new.region l.invariant.changed c.replay_update.ensures.changed;
    }

pub returns-clause-made : goal.returns-clause-made
returns-clause-made c =
    let l = c.loop-update in
    let end = c.loop-update-test.false in
    l.invariant.made ∙ ap (λ us. fold apply c.args.region.now.globals (updates_in c.args.directory.now.patterns c.args.number (map update_value us))) (take_all l.update-index c.args.updates.now (omega (arith, end)))

pub returns-in_err-replay_update-clause-changed : goal.returns-in_err-replay_update-clause-changed
returns-in_err-replay_update-clause-changed c = changed_then c.args.region.now c.loop-update.region c.replay_update.new.region c.loop-update.invariant.changed c.replay_update.ensures.changed
