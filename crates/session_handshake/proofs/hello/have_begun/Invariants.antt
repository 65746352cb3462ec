use Rattle.std.proofs.Common.{◌↔◌, ◌≤◌, drop, map}
use Rattle.std.specs.List.{AllByRecursion}
use Rattle.global_defs.specs.Entry.{Reign}
use Rattle.gvn_model.specs.Reigns.{reign_value}
use Rattle.session_handshake.proofs.hello.have_begun.Given as goal

-- all have begun where those that are left have
abbrev pub invariant-loop-reign : goal.invariant-loop-reign
invariant-loop-reign l = AllByRecursion (λ (r : Reign). r.start ≤ l.number) (map reign_value l.reigns) ↔ AllByRecursion (λ (r : Reign). r.start ≤ l.number) (map reign_value (drop l.reign-index l.reigns))
