use Rattle.std.proofs.Common.{arith, ◌++◌, length, ap, sym, length-append}
use Rattle.std.proofs.lemmas.List.{take-append-drop}
use Rattle.std.proofs.lemmas.Result.{IfOk-weaker, MatchResult-weaker}
use Rattle.repl_wire.specs.Values.{frame_value}
use Rattle.repl_wire.proofs.Feeding.{takes_first, takes_more, fails_more}
use Rattle.repl_wire.proofs.frames.advanced.Goals as goal

pub returns-clause-ok : goal.returns-clause-ok
returns-clause-ok c = IfOk-weaker c.behind.result _ _ (λ f h. takes_more c.args.offset (c.args.kept.now.items ++ c.args.piece.now) c.args.out.now c.push.new.self c.saturating_add.result c.split_at.result.1.now c.behind.new.out f.offset f.rest
    (takes_first c.args.offset c.args.kept.now.items c.args.piece.now c.split_at.result.0.now c.split_at.result.1.now c.args.out.now c.push.new.self (frame_value c.in_ok-frame.frame) c.saturating_add.result (omega (arith, c.ranges.offset))
    (rw (c.split_at.ensures.front, c.split_at.ensures.back) (sym (take-append-drop c.args.count c.args.piece.now))) c.in_ok-frame.ensures.form c.in_ok-frame.ensures.spelled c.in_ok-push.ensures.ok
    (omega (arith, c.saturating_add.ensures, c.saturating_add-begun.ensures, ap length c.as_slice.ensures.value, ap length c.in_ok-frame.ensures.kept, c.split_at.ensures.front_len, length-append c.args.kept.now.items c.split_at.result.0.now))) h) c.behind.ensures.ok

pub returns-clause-err : goal.returns-clause-err
returns-clause-err c = MatchResult-weaker c.behind.result c.behind.ensures.err (λ _ h. h) (λ e h. fails_more e c.args.offset (c.args.kept.now.items ++ c.args.piece.now) c.args.out.now c.push.new.self c.saturating_add.result c.split_at.result.1.now c.behind.new.out
    (takes_first c.args.offset c.args.kept.now.items c.args.piece.now c.split_at.result.0.now c.split_at.result.1.now c.args.out.now c.push.new.self (frame_value c.in_ok-frame.frame) c.saturating_add.result (omega (arith, c.ranges.offset))
    (rw (c.split_at.ensures.front, c.split_at.ensures.back) (sym (take-append-drop c.args.count c.args.piece.now))) c.in_ok-frame.ensures.form c.in_ok-frame.ensures.spelled c.in_ok-push.ensures.ok
    (omega (arith, c.saturating_add.ensures, c.saturating_add-begun.ensures, ap length c.as_slice.ensures.value, ap length c.in_ok-frame.ensures.kept, c.split_at.ensures.front_len, length-append c.args.kept.now.items c.split_at.result.0.now))) h)
