use Rattle.std.proofs.Common.{◌≡◌, ◌≤◌, length}
use Rattle.command_defs.specs.Parts.{before_spaces}
use Rattle.repl_script.proofs.parts.before_spaces.Given as goal

-- only spaces were left out
abbrev pub invariant-loop-rest : goal.invariant-loop-rest
invariant-loop-rest l = record { same : before_spaces l.rest ≡ before_spaces l.text; shorter : length l.rest ≤ length l.text }

abbrev pub decreases-loop-rest : goal.decreases-loop-rest
decreases-loop-rest l = length l.rest
