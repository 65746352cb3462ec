-- What a turn tells behind which the connection goes on.
use Rattle.std.proofs.Common.{◌≡◌, inl, inr, ℕ, Bool, List, Ok, subst}
use Rattle.wire_defs.specs.Links.{Sending, Receiving}
use Rattle.ship_defs.specs.Arrivals.{Arrival}
use Rattle.receiver_server.specs.Listenings.{Listening}
use Rattle.update_process.specs.Copies.{Copy}
use Rattle.session_turns.specs.declared.machines.Turned.{Turned}
use Rattle.session_turns.specs.declared.machines.Turned.TheVariants as turned
use Rattle.session_turns.specs.Cuts.{HasCuts, TellsCuts}
use Rattle.session_turns.specs.Turns.{HasFollowed, Comes}

-- only a cut of the sending end was counted
pub tells_on : (t : Turned) (cut : Bool) (s : Sending) (r : Receiving) → t ≡ turned.On → TellsCuts t cut s r → HasCuts cut s r
tells_on t cut s r is h = subst (λ (x : Turned). TellsCuts x cut s r) is h

-- all that has arrived was applied
pub comes_on : (F : Type 0) (t : Turned) (begun : Copy) (l : Listening) (received : List ℕ) (put taken : List Arrival) (now : Copy) → t ≡ turned.On → Comes {F = F} (Ok t) begun l received put taken now → HasFollowed begun l received put taken now
comes_on F t begun l received put taken now is h =
    let there = subst (λ (x : Turned). Comes {F = F} (Ok x) begun l received put taken now) is h in
    elim there [
      | inl followed ↦ followed.0
      | inr halted ↦ absurd halted.3
    ]
