use Rattle.std.proofs.Common.{◌≡◌, ◌≢◌, ◌-◌, ◌∙◌, get_or, length, arith}
use Rattle.std.proofs.Common.{length-take}
use Rattle.repl_script.proofs.LineEnds.{space_taken, space_none}
use Rattle.repl_script.proofs.parts.before_spaces.Goals as goal

pub loop-rest-preserved : goal.loop-rest-preserved
loop-rest-preserved c = let rest = c.loop-rest.rest.now in let e : get_or rest (length rest - 1) 0 ≡ 32 = omega arith in
    record { same = space_taken rest c.in-32.len_at_least e ∙ c.loop-rest.invariant.same; shorter = omega (arith, length-take (length rest - 1) rest, c.loop-rest.invariant.shorter) }

pub returns-in_default-2-clause-value : goal.returns-in_default-2-clause-value
returns-in_default-2-clause-value c = let rest = c.loop-rest.rest.now in let e : get_or rest (length rest - 1) 0 ≢ 32 = omega arith in space_none rest e ∙ c.loop-rest.invariant.same
