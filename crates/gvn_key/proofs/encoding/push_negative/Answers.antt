use Rattle.std.proofs.Common.{◌∙◌, ◌-◌, ◌++◌, map, ap, arith}
use Rattle.std.proofs.lemmas.Result.{on_ok_weaker}
use Rattle.gvn_key.proofs.Numbers.{negative_pushed}
use Rattle.gvn_key.proofs.encoding.push_negative.Goals as goal

pub returns : goal.returns
returns c = on_ok_weaker c.push-3.result
    (λ e. negative_pushed c.args.out.now c.push.new.self c.push-2.new.self c.push_reversed.new.out c.push-3.new.self c.args.digits.now c.args.zeros _ c.in_ok-push.ensures.ok c.in_ok-push-2.ensures.ok (omega arith)
    (c.in_ok-push_reversed.ensures ∙ ap (λ ds. c.push-2.new.self ++ map (λ d. 105 - d) ds) c.significant.ensures) e) c.push-3.ensures.ok
