use Rattle.std.proofs.Common.{map}
use Rattle.gvn_key.specs.Terms.{update_value}
use Rattle.region_opening.proofs.Becoming.{not_given}
use Rattle.region_opening.proofs.replaying.make_in.Goals as goal

pub returns : goal.returns
returns c = not_given c.args.directory.now.patterns c.args.from.now c.args.number (map update_value c.args.updates.now) c.args.place c.args.region.now c.args.region.now c.if-from-place.false
