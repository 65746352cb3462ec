use Rattle.std.proofs.Common.{ℕ, false, IsTrue, List, sym, subst}
use Rattle.wire_defs.specs.Frames as defs
use Rattle.ship_defs.specs.Arrivals.{Arrival}
use Rattle.ship_defs.specs.Hearing.{Heard}
use Rattle.recv_pool.specs.Pools.{put_in}
use Rattle.receiver_server.specs.Listenings.{IsHearing, IsUnfitBehind}
use Rattle.receiver_server.proofs.Pulled.{no_frames, bad_weaker}
use Rattle.receiver_server.proofs.receiver.Receiver.step.Goals as goal

pub receive-requires : goal.receive-requires
receive-requires g c = record { empty = no_frames c.args.self.now.incoming.waiting (λ some. let wrong = c.if-has_waiting.ensures.is.1 some in let no : ⊥ = cc in no) }

pub returns-then-has_place-clause-bad : goal.returns-then-has_place-clause-bad
returns-then-has_place-clause-bad g c =
    let s = c.args.self.now in
    let received = (g.R.LinkRx.receiving c.args.rx.now).received in
    bad_weaker
    (λ offset. (begun : Heard) (bytes : List ℕ) (frames : List defs.Frame) → IsHearing begun s bytes (put_in c.has_place.new.self) frames → IsUnfitBehind s.purpose begun frames bytes false offset)
    (λ offset. IsTrue (g.R.LinkRx.receiving c.args.rx.now).shown → (begun : Heard) (frames : List defs.Frame) → IsHearing begun s received (put_in c.args.pool.now) frames → IsUnfitBehind s.purpose begun frames received false offset)
    (λ offset x shown begun frames h. x begun received frames (subst (λ (put : List Arrival). IsHearing begun s received put frames) (sym c.has_place.ensures.put) h))
    c.hear_next.result c.hear_next.ensures.bad

pub returns-else-has_waiting-clause-hears : goal.returns-else-has_waiting-clause-hears
returns-else-has_waiting-clause-hears g c = λ shown begun frames h. (frames, c.receive.ensures.heard frames, c.receive.ensures.hears shown begun (put_in c.args.pool.now) frames h)

pub returns-else-has_waiting-clause-bad : goal.returns-else-has_waiting-clause-bad
returns-else-has_waiting-clause-bad g c =
    let s = c.args.self.now in
    let received = (g.R.LinkRx.receiving c.args.rx.now).received in
    let now = (g.R.LinkRx.receiving c.receive.new.rx).received in
    bad_weaker
    (λ offset. IsTrue (g.R.LinkRx.receiving c.args.rx.now).shown → (begun : Heard) (put : List Arrival) (frames : List defs.Frame) → IsHearing begun s received put frames → IsUnfitBehind s.purpose begun frames now false offset)
    (λ offset. IsTrue (g.R.LinkRx.receiving c.args.rx.now).shown → (begun : Heard) (frames : List defs.Frame) → IsHearing begun s received (put_in c.args.pool.now) frames → IsUnfitBehind s.purpose begun frames now false offset)
    (λ offset x shown begun frames h. x shown begun (put_in c.args.pool.now) frames h)
    c.receive.result c.receive.ensures.bad
