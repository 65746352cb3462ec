use Rattle.std.proofs.Common.{◌≡◌, not, take}
use Rattle.std.specs.FinMap as globals
use Rattle.global_defs.specs.Entry.{is_under}
use Rattle.gvn_globals.proofs.Subtree.{IsWithout}
use Rattle.gvn_globals.proofs.overlay.Overlay.kill.Given as goal

abbrev pub invariant-loop-key : goal.invariant-loop-key
invariant-loop-key g l = IsWithout l.fn.self (take l.key-index l.key-items) l.self

-- the node and those below it are gone
abbrev pub invariant-loop-key-2 : goal.invariant-loop-key-2
invariant-loop-key-2 g l = l.self ≡ globals.retain_keys l.fn.self (λ k. not (is_under l.top k))
