use Rattle.std.proofs.Common.{◌∙◌, map, sym, rules}
use Rattle.gvn_model.specs.Regions.{named_region}
use Rattle.command_defs.specs.Commands.{regions_behind}
use Rattle.repl_script.specs.Reads.{Tells, fault_value}
use Rattle.repl_script.proofs.Regioned.{region_taken, region_bad, region_too_much, regions_done, none_left}
use Rattle.repl_script.proofs.regions.more_regions.Goals as goal

pub returns-then-is_empty : goal.returns-then-is_empty
returns-then-is_empty c = regions_done c.loop-count._count c.args.len c.loop-count.rest.now c.loop-count.regions _ (sym c.is_empty.ensures ∙ c.if-is_empty.true) c.loop-count.invariant

pub returns-in_err-next : goal.returns-in_err-next
returns-in_err-next c =
    let told : Tells (fault_value c.in_err-next.field-0.0) (regions_behind 7 c.args.len c.args.left.now (map named_region c.args.regions)) = region_bad c.loop-count._count c.args.len c.loop-count.rest.now c.loop-count.regions c.as_slice.result.now _ (fault_value c.in_err-next.field-0.0)
    c.loop-count-test.true (sym c.is_empty.ensures ∙ c.if-is_empty.false) c.as_slice.ensures c.in_err-next.ensures c.loop-count.invariant in
    search rules

pub loop-count-preserved : goal.loop-count-preserved
loop-count-preserved c = region_taken c.loop-count._count c.args.len c.loop-count.rest.now (named_region (c.in_ok-next.next.name.now, c.in_ok-next.next.before)) c.in_ok-next.next.behind.now c.loop-count.regions c.as_slice.result.now c.add_region.new.regions _
    c.loop-count-test.true (sym c.is_empty.ensures ∙ c.if-is_empty.false) c.as_slice.ensures c.in_ok-next.ensures c.in_ok-add_region.ensures c.loop-count.invariant

pub returns-in_err-ended : goal.returns-in_err-ended
returns-in_err-ended c =
    let told : Tells (fault_value c.in_err-ended.field-0.0) (regions_behind 7 c.args.len c.args.left.now (map named_region c.args.regions)) = region_too_much c.loop-count._count c.args.len c.loop-count.rest.now c.loop-count.regions _ (fault_value c.in_err-ended.field-0.0)
    c.loop-count-test.false c.in_err-ended.ensures c.loop-count.invariant in
    search rules

pub returns : goal.returns
returns c = regions_done c.loop-count._count c.args.len c.loop-count.rest.now c.loop-count.regions _ (none_left c.args.len c.loop-count.rest.now c.in_ok-ended.field-0 c.in_ok-ended.ensures) c.loop-count.invariant
