use Rattle.std.proofs.Common.{◌∙◌, ap, arith}
use Rattle.std.specs.Option.{option_map}
use Rattle.mupip_recover.specs.Table.{part_at}
use Rattle.mupip_recover.specs.Entries.{stamped}
use Rattle.mupip_recover.proofs.Completion.{among_next, among_found}
use Rattle.mupip_recover.proofs.completing.transaction_at.Goals as goal

pub returns-in-Some : goal.returns-in-Some
returns-in-Some c = λ stamp.
    c.loop-region.invariant stamp
    ∙ among_found (part_at c.args.table.now c.args.place) stamp c.loop-region.region (stamped stamp c.in-Some.found) (omega arith) (c.in_ok-found.ensures stamp ∙ ap (option_map (stamped stamp)) c.in-Some.is)

pub loop-region-preserved : goal.loop-region-preserved
loop-region-preserved c = λ stamp.
    c.loop-region.invariant stamp
    ∙ among_next (part_at c.args.table.now c.args.place) stamp c.loop-region.region (omega arith) (c.in_ok-found.ensures stamp ∙ ap (option_map (stamped stamp)) c.in_default.is)
