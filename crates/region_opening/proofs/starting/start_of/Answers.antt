use Rattle.std.proofs.Common.{length, refl, sym}
use Rattle.region_opening.proofs.Starts.{starts_anew, goes_back}
use Rattle.region_opening.proofs.starting.start_of.Goals as goal

pub returns-then-is_some-clause-start : goal.returns-then-is_some-clause-start
returns-then-is_some-clause-start c =
    starts_anew c.args.instance.now c.args.target c.args.signs.now c.chosen_epoch-epoch.result c.in_ok-found.found c.chosen_epoch-epoch.ensures.chosen c.in_ok-found.ensures.first
    (record { number = 0; blocks = 0; after = length c.args.signs.now }) refl refl refl (sym c.if-is_some.ensures)

pub returns-clause-start : goal.returns-clause-start
returns-clause-start c = goes_back c.args.instance.now c.args.target c.args.signs.now c.chosen_epoch-epoch.result c.in_ok-found.found c.chosen_epoch-epoch.ensures.chosen c.in_ok-found.ensures.first (sym c.if-is_some.ensures)
