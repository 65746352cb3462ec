use Rattle.std.proofs.Common.{◌≡◌, arith, Some, None, map}
use Rattle.gvn_model.specs.Regions.{named_region}
use Rattle.repl_fields.proofs.Chains.{byte, site, joined}
use Rattle.instance_file.proofs.Bodies.{counted, regions_read}
use Rattle.instance_file.proofs.kinds.read_create.Goals as goal

pub returns-in_default-2 : goal.returns-in_default-2
returns-in_default-2 c =
    regions_read _ _ _ _ _ (joined byte counted _ _ _ _ _ c.in-Some-eq1-default.ensures (joined site byte _ _ _ _ _ c.in-Some.ensures c.in-Some-read_u8.ensures)) None
    (omega (arith, c.in-Some-eq1-default.field-0-0-test)) (omega (arith, c.if-count-eq0.false)) (omega (arith, c.if-count-gt-MOST_REGIONS.false)) (rw c.in_default-2.is at c.in_ok-regions.ensures)

pub returns : goal.returns
returns c =
    let kept : c.in_ok-name.name ≡ c.in-Some.name.now = c.in_ok-name.ensures in
    rw kept (regions_read _ _ _ _ _ (joined byte counted _ _ _ _ _ c.in-Some-eq1-default.ensures (joined site byte _ _ _ _ _ c.in-Some.ensures c.in-Some-read_u8.ensures)) (Some (map named_region c.in-Some-2.regions, c.in-Some-2.rest.now))
    (omega (arith, c.in-Some-eq1-default.field-0-0-test)) (omega (arith, c.if-count-eq0.false)) (omega (arith, c.if-count-gt-MOST_REGIONS.false)) (rw c.in-Some-2.is at c.in_ok-regions.ensures))
