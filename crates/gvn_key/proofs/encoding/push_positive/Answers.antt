use Rattle.std.proofs.Common.{◌∙◌, ◌++◌, ap, arith}
use Rattle.std.proofs.lemmas.Result.{on_ok_weaker}
use Rattle.gvn_key.proofs.Numbers.{positive_pushed}
use Rattle.gvn_key.proofs.encoding.push_positive.Goals as goal

pub returns : goal.returns
returns c = on_ok_weaker c.push-3.result
    (λ e. positive_pushed c.args.out.now c.push.new.self c.push-2.new.self c.push_all.new.self c.push-3.new.self c.args.digits.now c.args.zeros _ c.in_ok-push.ensures.ok c.in_ok-push-2.ensures.ok (omega arith)
    (c.in_ok-push_all.ensures.ok ∙ ap (λ ds. c.push-2.new.self ++ ds) c.significant.ensures) e) c.push-3.ensures.ok
