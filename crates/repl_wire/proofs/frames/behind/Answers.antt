use Rattle.std.proofs.Common.{subst, sym}
use Rattle.std.proofs.lemmas.Result.{IfOk-weaker, MatchResult-weaker}
use Rattle.repl_wire.specs.declared.frame.FrameError.{FrameError}
use Rattle.repl_wire.specs.Feeds.{Fails}
use Rattle.repl_wire.proofs.Feeding.{takes_kept, takes_prefix}
use Rattle.repl_wire.proofs.frames.behind.Goals as goal

pub returns-in-Ok-clause-ok : goal.returns-in-Ok-clause-ok
returns-in-Ok-clause-ok c = IfOk-weaker c.keeping.result _ _
    (λ f h. takes_kept c.args.offset c.args.bytes.now c.args.out.now c.take_frames.new.out c.in-Ok.tail.offset c.in-Ok.tail.rest.now f.offset f.rest c.in-Ok.ensures.ok h.0 h.1) c.keeping.ensures.ok

pub returns-in-Ok-clause-err : goal.returns-in-Ok-clause-err
returns-in-Ok-clause-err c = MatchResult-weaker c.keeping.result c.keeping.ensures.err (λ _ h. h)
    (λ e h. subst (λ (x : FrameError). Fails x c.args.offset c.args.bytes.now c.args.out.now c.take_frames.new.out) (sym h)
    (takes_prefix c.args.offset c.args.bytes.now c.args.out.now c.take_frames.new.out c.in-Ok.tail.offset c.in-Ok.tail.rest.now c.in-Ok.ensures.ok))
