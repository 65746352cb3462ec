use Rattle.std.proofs.Common.{sym, ◌∙◌, arith}
use Rattle.gvn_key.proofs.NoFault.{made, makes}
use Rattle.gvn_key.proofs.Kept.{kept}
use Rattle.gvn_key.proofs.key.Key.new.Goals as goal

pub made-requires : goal.made-requires
made-requires c =
    kept c.in_ok-code.code
    (made c.args.name.now c.args.subs.now c.in_ok-code.code c.in_ok-code.ensures (sym c.parts_fault.ensures ∙ c.in_default.is) (omega (arith, c.len.ensures)))

pub returns : goal.returns
returns c =
    makes c.args.name.now c.args.subs.now c.in_ok-code.code c.in_ok-made.field-0 c.in_ok-code.ensures (sym c.parts_fault.ensures ∙ c.in_default.is) (omega (arith, c.len.ensures)) c.in_ok-made.ensures
