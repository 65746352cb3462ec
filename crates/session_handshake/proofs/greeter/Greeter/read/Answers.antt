use Rattle.std.proofs.Common.{◌≡◌, ◌+◌, ◌∷◌, ◌++◌, ℕ, false, List, length, Ok, Err, sym, subst, ◌∙◌, arith, length-append}
use Rattle.wire_defs.specs.Frames as defs
use Rattle.wire_defs.specs.Frames.{AreFrames}
use Rattle.gvn_model.specs.Entries.{history_value}
use Rattle.repl_wire.specs.Values.{frame_value}
use Rattle.receiver_server.specs.declared.step.Handshake.{Handshake}
use Rattle.receiver_server.specs.Answers.{answer_frame}
use Rattle.receiver_server.proofs.Kept.{begins_few}
use Rattle.ship_defs.specs.Greeting.{IsBadToPrimary}
use Rattle.session_handshake.specs.Answering.{Judges, IsGreetedBy}
use Rattle.session_handshake.proofs.Greetings.{Came, came, first_of, judged_good, judged_bad}
use Rattle.session_handshake.proofs.greeter.Greeter.read.Goals as goal
use Rattle.session_handshake.proofs.greeter.Greeter.read.Goals.{in-Ok, in-Err-BadFrame}

pub overflow_add-self : goal.overflow_add-self
overflow_add-self c =
    let few = begins_few c.args.self.now.frames.rest c.requires.awaits.begins in
    omega (arith, few, c.requires.awaits.counted, c.requires.few)

pub returns-in-Ok-judged-clause-greeted : goal.returns-in-Ok-judged-clause-greeted
returns-in-Ok-judged-clause-greeted c = λ h e.
    let theirs = history_value c.args.theirs.now in
    let before = c.args.self.now.frames in
    let bytes = before.rest ++ c.args.piece.now in
    let all : Came bytes c.feed.new.out = elim c.match-feed.branch [
      | in-Ok w ↦ came before.offset c.feed.new.self.offset bytes c.feed.new.self.rest c.new-list.result c.feed.new.out c.new-list.ensures w.in-Ok.ensures.ok
      | in-Err-BadFrame w ↦ (
          let r = rw w.in-Err-BadFrame.field-0-is at w.in-Err-BadFrame.ensures.err in
          came before.offset w.in-Err-BadFrame.field-0-0 bytes r.rest c.new-list.result c.feed.new.out c.new-list.ensures r.takes)
    ] in
    let first = first_of c.as_slice.result.now c.first-item.result c.in-len1-up.len_at_least c.first-item.is in
    let f = frame_value c.first-item.result in
    let are : AreFrames bytes (f ∷ first.0) all.0 = subst (λ (l : List defs.Frame). AreFrames bytes l all.0) (sym c.as_slice.ensures ∙ first.1) all.1 in
    let size = length-append before.rest c.args.piece.now in
    let count : c.args.self.now.count + length c.args.piece.now ≡ length bytes = omega (arith, size, c.requires.awaits.counted) in
    let j : Judges theirs f (length bytes) (Ok c.in-Ok-judged.answer) = subst (λ (n : ℕ). Judges theirs f n (Ok c.in-Ok-judged.answer)) count c.in-Ok-judged.ensures in
    let same : c.in-Ok-judged.answer ≡ h = cc in
    subst (λ (x : Handshake). IsGreetedBy theirs bytes (answer_frame x)) same (judged_good theirs bytes f first.0 all.0 are c.in-Ok-judged.answer j)

pub returns-in-len1-up-clause-bad : goal.returns-in-len1-up-clause-bad
returns-in-len1-up-clause-bad c = λ offset e.
    let theirs = history_value c.args.theirs.now in
    let before = c.args.self.now.frames in
    let bytes = before.rest ++ c.args.piece.now in
    let all : Came bytes c.feed.new.out = elim c.match-feed.branch [
      | in-Ok w ↦ came before.offset c.feed.new.self.offset bytes c.feed.new.self.rest c.new-list.result c.feed.new.out c.new-list.ensures w.in-Ok.ensures.ok
      | in-Err-BadFrame w ↦ (
          let r = rw w.in-Err-BadFrame.field-0-is at w.in-Err-BadFrame.ensures.err in
          came before.offset w.in-Err-BadFrame.field-0-0 bytes r.rest c.new-list.result c.feed.new.out c.new-list.ensures r.takes)
    ] in
    let first = first_of c.as_slice.result.now c.first-item.result c.in-len1-up.len_at_least c.first-item.is in
    let f = frame_value c.first-item.result in
    let are : AreFrames bytes (f ∷ first.0) all.0 = subst (λ (l : List defs.Frame). AreFrames bytes l all.0) (sym c.as_slice.ensures ∙ first.1) all.1 in
    let size = length-append before.rest c.args.piece.now in
    let count : c.args.self.now.count + length c.args.piece.now ≡ length bytes = omega (arith, size, c.requires.awaits.counted) in
    let j : Judges theirs f (length bytes) (Err c.in-Err.offset) = subst (λ (n : ℕ). Judges theirs f n (Err c.in-Err.offset)) count c.in-Err.ensures in
    let same : c.in-Err.offset ≡ offset = cc in
    subst (λ (o : ℕ). IsBadToPrimary bytes false o) same (judged_bad theirs bytes f first.0 all.0 are c.in-Err.offset j)
