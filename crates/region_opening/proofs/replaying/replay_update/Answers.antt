use Rattle.region_opening.proofs.Replays.{changed_then}
use Rattle.region_opening.proofs.replaying.replay_update.Goals as goal

pub returns-in_ok-reserve-clause-changed : goal.returns-in_ok-reserve-clause-changed
returns-in_ok-reserve-clause-changed c = changed_then c.args.region.now c.reserve.new.self c.make_one.new.self c.reserve.ensures.changed c.make_one.ensures.changed
