use Rattle.std.proofs.Common.{◌≡◌, length}
use Rattle.script_defs.specs.Parts.{without_spaces}
use Rattle.repl_script.proofs.parts.without_spaces.Given as goal

-- only spaces were left out
abbrev pub invariant-loop-rest : goal.invariant-loop-rest
invariant-loop-rest l = without_spaces l.rest ≡ without_spaces l.text

abbrev pub decreases-loop-rest : goal.decreases-loop-rest
decreases-loop-rest l = length l.rest
