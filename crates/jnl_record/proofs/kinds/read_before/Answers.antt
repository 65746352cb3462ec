use Rattle.std.proofs.Common.{◌≡◌}
use Rattle.repl_fields.proofs.Chains.{word, image, joined}
use Rattle.jnl_record.proofs.Records.{some_before}
use Rattle.jnl_record.proofs.kinds.read_before.Goals as goal

pub returns-clause-read : goal.returns-clause-read
returns-clause-read c =
    let kept : c.in_ok-image.image ≡ c.in-Some-read_image.image.now = c.in_ok-image.ensures in
    rw kept (some_before _ (record { block = c.in-Some.block; bytes = c.in-Some-read_image.image.now }) _ (joined word image _ _ _ _ _ c.in-Some.ensures c.in-Some-read_image.ensures))
