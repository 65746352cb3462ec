use Rattle.std.proofs.Common.{sym, subst, refl, []}
use Rattle.gvn_model.specs.Entries.{history_value}
use Rattle.ship_defs.specs.Hearing.{Heard, unbegun}
use Rattle.receiver_server.specs.Hearings.{purpose_value}
use Rattle.receiver_server.specs.Incomings.{Incoming}
use Rattle.receiver_server.specs.Listenings.{IsHearing}
use Rattle.receiver_server.proofs.Steps.{begins_hearing}
use Rattle.receiver_server.proofs.receiver.Receiver.new.Goals as goal

pub returns-clause-hears : goal.returns-clause-hears
returns-clause-hears c =
    let p = purpose_value c.args.purpose in
    let begun = unbegun (history_value c.args.mine.now) in
    subst (λ (h : Heard). IsHearing begun (record { purpose = p; heard = h; offset = 0; incoming = c.in_ok-new-2.field-0 }) [] [] []) (sym c.in_ok-new.ensures)
    (subst (λ (i : Incoming). IsHearing begun (record { purpose = p; heard = begun; offset = 0; incoming = i }) [] [] []) (sym c.in_ok-new-2.ensures) (begins_hearing p begun refl))
