use Rattle.std.proofs.Common.{◌≡◌, take}
use Rattle.std.specs.List.{list_any}
use Rattle.repl_script.proofs.section.is_any_open.Given as goal

-- whether one so far has one
abbrev pub invariant-loop-open : goal.invariant-loop-open
invariant-loop-open l = l.any ≡ list_any (λ b. b) (take l.open-index l.opened)
