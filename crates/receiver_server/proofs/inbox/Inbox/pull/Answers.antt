use Rattle.std.proofs.Common.{◌≡◌, ◌<◌, ℕ, false, List, [], ◌++◌, length, map, take, sym, ap, subst, ◌∙◌, arith, append-nil}
use Rattle.std.proofs.lemmas.List.{length-take, with_items_is}
use Rattle.repl_wire.specs.Values.{frame_value}
use Rattle.receiver_server.specs.Incomings.{Incoming, HasRead, with_piece}
use Rattle.receiver_server.proofs.Kept.{few_left}
use Rattle.receiver_server.proofs.inbox.Inbox.pull.Goals as goal
use Rattle.receiver_server.proofs.inbox.Inbox.pull.Goals.{then-self-eq0+in-Ok-Bytes, else-self-eq0}

pub overflow_add-self : goal.overflow_add-self
overflow_add-self g c =
    let i = c.self.inside in
    let good : i.bad ≡ false = ap (λ (x : Incoming). x.bad) c.self.view_is ∙ c.requires.good in
    let none : map frame_value i.waiting.items ≡ [] = ap (λ (x : Incoming). x.waiting) c.self.view_is ∙ c.requires.empty in
    let few = few_left i.frames.rest i.piece.items (map frame_value i.waiting.items) i.bad i.fresh i.left good none c.if-self-eq0.true c.self.invariant in
    let count = rw c.in-Ok-Bytes.field-0-is at c.in-Ok-Bytes.ensures.count in
    let size : length c.deref_mut.result.now ≡ length i.piece.items = ap length c.deref_mut.ensures.value in
    omega (arith, few.0, few.1, count.1, size)

pub returns-in-Ok-clause-came : goal.returns-in-Ok-clause-came
returns-in-Ok-clause-came g c =
    let i = c.self.inside in
    let a = c.args.self.now in
    let base : List ℕ → Incoming = λ l. record { waiting = map frame_value i.waiting.items; reading = i.frames; bad = i.bad; fresh = l } in
    elim c.if-self-eq0.branch [
      | then-self-eq0+in-Ok-Bytes w ↦ (
          let piece = take w.in-Ok-Bytes.count w.receive.new.buffer in
          let sized : length w.receive.new.buffer ≡ length w.deref_mut.result.now = omega (arith, w.receive.auto.buffer) in
          let size : length w.deref_mut.result.now ≡ length i.piece.items = ap length w.deref_mut.ensures.value in
          let whole = with_items_is i.piece w.receive.new.buffer (omega (arith, sized, size, i.piece.ok.0)) in
          let here : c.if-self-eq0.self ≡ base piece = w.self-is ∙ ap (λ (l : List ℕ). base (take w.in-Ok-Bytes.count l)) whole in
          let none : take i.fresh i.piece.items ≡ [] = ap (λ (n : ℕ). take n i.piece.items) w.if-self-eq0.true in
          let same : c.if-self-eq0.self ≡ with_piece a piece = here ∙ (sym (ap (λ (l : List ℕ). base (l ++ piece)) none) ∙ ap (λ (x : Incoming). with_piece x piece) c.self.view_is) in
          let count = rw w.in-Ok-Bytes.field-0-is at w.in-Ok-Bytes.ensures.count in
          let taken = length-take w.in-Ok-Bytes.count w.receive.new.buffer in
          let some : 0 < length piece = omega (arith, count.0, count.1, sized, taken) in (
            piece,
            (subst (λ (x : Incoming). HasRead x c.read.new.self) same c.in-Ok.ensures.ok, λ _. some),
            λ shown. ap (λ x. (g.R.LinkRx.receiving x).received) w.rx-is ∙ (rw w.in-Ok-Bytes.field-0-is at w.in-Ok-Bytes.ensures.received) shown,
          ))
      | else-self-eq0 w ↦ (
          let same : c.if-self-eq0.self ≡ with_piece a [] = w.self-is ∙ sym (ap (λ (l : List ℕ). record a { fresh = l }) (append-nil a.fresh)) in
          let fresh_is : take i.fresh i.piece.items ≡ a.fresh = ap (λ (x : Incoming). x.fresh) c.self.view_is in
          let taken = length-take i.fresh i.piece.items in
          let sized : length (take i.fresh i.piece.items) ≡ length a.fresh = ap (λ (l : List ℕ). length l) fresh_is in (
            [],
            (
              subst (λ (x : Incoming). HasRead x c.read.new.self) same c.in-Ok.ensures.ok,
              λ none. let zero : length a.fresh ≡ 0 = ap (λ (l : List ℕ). length l) none in absurd (w.if-self-eq0.false (omega (arith, taken, sized, zero, c.self.invariant.inside))),
            ),
            λ shown. ap (λ x. (g.R.LinkRx.receiving x).received) w.rx-is ∙ sym (append-nil (g.R.LinkRx.receiving c.args.rx.now).received),
          ))
    ]

pub returns-in-Err-read-clause-came : goal.returns-in-Err-read-clause-came
returns-in-Err-read-clause-came g c =
    let i = c.self.inside in
    let a = c.args.self.now in
    let base : List ℕ → Incoming = λ l. record { waiting = map frame_value i.waiting.items; reading = i.frames; bad = i.bad; fresh = l } in
    elim c.if-self-eq0.branch [
      | then-self-eq0+in-Ok-Bytes w ↦ (
          let piece = take w.in-Ok-Bytes.count w.receive.new.buffer in
          let sized : length w.receive.new.buffer ≡ length w.deref_mut.result.now = omega (arith, w.receive.auto.buffer) in
          let size : length w.deref_mut.result.now ≡ length i.piece.items = ap length w.deref_mut.ensures.value in
          let whole = with_items_is i.piece w.receive.new.buffer (omega (arith, sized, size, i.piece.ok.0)) in
          let here : c.if-self-eq0.self ≡ base piece = w.self-is ∙ ap (λ (l : List ℕ). base (take w.in-Ok-Bytes.count l)) whole in
          let none : take i.fresh i.piece.items ≡ [] = ap (λ (n : ℕ). take n i.piece.items) w.if-self-eq0.true in
          let same : c.if-self-eq0.self ≡ with_piece a piece = here ∙ (sym (ap (λ (l : List ℕ). base (l ++ piece)) none) ∙ ap (λ (x : Incoming). with_piece x piece) c.self.view_is) in
          (piece, c.in-Err-read.ensures.err ∙ same, λ shown. ap (λ x. (g.R.LinkRx.receiving x).received) w.rx-is ∙ (rw w.in-Ok-Bytes.field-0-is at w.in-Ok-Bytes.ensures.received) shown))
      | else-self-eq0 w ↦ (
          let same : c.if-self-eq0.self ≡ with_piece a [] = w.self-is ∙ sym (ap (λ (l : List ℕ). record a { fresh = l }) (append-nil a.fresh)) in
          ([], c.in-Err-read.ensures.err ∙ same, λ shown. ap (λ x. (g.R.LinkRx.receiving x).received) w.rx-is ∙ sym (append-nil (g.R.LinkRx.receiving c.args.rx.now).received)))
    ]
