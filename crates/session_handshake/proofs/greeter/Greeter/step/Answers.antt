use Rattle.std.proofs.Common.{◌≡◌, ◌++◌, ◌||◌, ℕ, true, false, Bool, List, take, IfErr, sym, ap, subst, ◌∙◌, append-nil}
use Rattle.ship_defs.specs.Greeting.{IsBadToPrimary}
use Rattle.session_handshake.specs.declared.connection.GreetError.TheVariants.{BadFrame}
use Rattle.session_handshake.proofs.Greetings.{bad_early}
use Rattle.session_handshake.proofs.greeter.Greeter.step.Goals as goal

pub returns-in-Ok-Bytes-clause-bad : goal.returns-in-Ok-Bytes-clause-bad
returns-in-Ok-Bytes-clause-bad g c = λ shown same.
    let before = g.R.LinkRx.receiving c.args.rx.now in
    let now = g.R.LinkRx.receiving c.receive.new.self in
    let piece = take c.in-Ok-Bytes.count c.receive.new.buffer in
    let got : now.received ≡ before.received ++ piece = (rw c.in-Ok-Bytes.field-0-is at c.in-Ok-Bytes.ensures.received) shown in
    let all : now.received ≡ c.args.self.now.frames.rest ++ piece = got ∙ ap (λ (l : List ℕ). l ++ piece) same in
    let closed : now.closed ≡ (before.closed || false) = rw c.in-Ok-Bytes.field-0-is at c.in-Ok-Bytes.ensures.closed in
    let open_ : now.closed ≡ false = closed ∙ ap (λ (b : Bool). b || false) c.requires.open in
    subst (λ (b : Bool). IfErr c.read.result (λ e. (offset : ℕ) → e ≡ BadFrame offset → IsBadToPrimary now.received b offset)) (sym open_)
    (subst (λ (l : List ℕ). IfErr c.read.result (λ e. (offset : ℕ) → e ≡ BadFrame offset → IsBadToPrimary l false offset)) (sym all) c.read.ensures.bad)

pub returns-in-Ok-Ended-clause-bad : goal.returns-in-Ok-Ended-clause-bad
returns-in-Ok-Ended-clause-bad g c = λ shown same offset e.
    let before = g.R.LinkRx.receiving c.args.rx.now in
    let now = g.R.LinkRx.receiving c.receive.new.self in
    let got : now.received ≡ before.received ++ take 0 c.receive.new.buffer = (rw c.in-Ok-Ended.field-0-is at c.in-Ok-Ended.ensures.received) shown in
    let all : now.received ≡ c.args.self.now.frames.rest = got ∙ (append-nil before.received ∙ same) in
    let closed : now.closed ≡ (before.closed || true) = rw c.in-Ok-Ended.field-0-is at c.in-Ok-Ended.ensures.closed in
    let over : now.closed ≡ true = closed ∙ ap (λ (b : Bool). b || true) c.requires.open in
    let zero : 0 ≡ offset = cc in
    subst (λ (n : ℕ). IsBadToPrimary now.received now.closed n) zero
    (subst (λ (b : Bool). IsBadToPrimary now.received b 0) (sym over) (subst (λ (l : List ℕ). IsBadToPrimary l true 0) (sym all) (bad_early c.args.self.now.frames.rest c.requires.awaits.begins)))
