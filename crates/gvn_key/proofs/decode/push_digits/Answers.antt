use Rattle.std.proofs.Common.{◌≡◌, ◌∙◌, ◌++◌, ◌-◌, true, length, replicate, sym, ap, append_assoc}
use Rattle.std.proofs.lemmas.Result.{on_ok_weaker}
use Rattle.gvn_key.specs.Decoding.{are_whole}
use Rattle.gvn_key.proofs.WholeNumbers.{whole_text}
use Rattle.gvn_key.proofs.decode.push_digits.Goals as goal

pub returns-in_ok-push_all : goal.returns-in_ok-push_all
returns-in_ok-push_all c =
    let out = c.args.out.now in
    let ds = c.args.digits.now in
    let test : are_whole c.args.count ds ≡ true = sym c.are_whole.ensures ∙ c.if-are_whole.true in
    on_ok_weaker c.push_all-then-are_whole.result
    (λ e. e ∙ (λ i. c.in_ok-push_all.ensures.ok i ++ c.zeros.ensures i) ∙ append_assoc out ds (replicate (c.args.count - 18 - length ds) 48)
    ∙ ap (λ t. out ++ t) (whole_text c.args.count ds c.requires.digits c.requires.count test)) c.push_all-then-are_whole.ensures.ok
