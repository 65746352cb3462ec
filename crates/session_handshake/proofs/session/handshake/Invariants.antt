use Rattle.std.proofs.Common.{◌≡◌, ◌-◌, ◌≤◌, List, length, count_by}
use Rattle.wire_defs.specs.Links.{Past, was_cut}
use Rattle.session_handshake.specs.Connections.{WereMade}
use Rattle.session_handshake.proofs.session.handshake.Given as goal

-- so many connections were made, and each was cut
abbrev pub invariant-loop-cuts : goal.invariant-loop-cuts
invariant-loop-cuts g l = (over : List Past) × WereMade (g.L.Linker.links l.fn.links) (g.L.Linker.links l.links) l.session over × (count_by was_cut over ≡ l.cuts) × (length over ≡ l.cuts) × (l.cuts ≤ 4)

abbrev pub decreases-loop-cuts : goal.decreases-loop-cuts
decreases-loop-cuts g l = 4 - l.cuts
