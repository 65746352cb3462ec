use Rattle.std.proofs.Common.{rules, ◌≡◌, ◌++◌, drop, ◌∙◌, []}
use Rattle.std.proofs.lemmas.Result.{on_ok_weaker}
use Rattle.std.proofs.Math.ListN.{drop_of_length-le}
use Rattle.gvn_key.specs.Pieces.{closing}
use Rattle.global_defs.specs.Zwr.{zwr}
use Rattle.gvn_key.proofs.PieceLaws.{zwr_is}
use Rattle.gvn_key.proofs.zwr.push_zwr.Goals as goal

pub returns : goal.returns
returns c =
    let all : drop c.loop-byte.byte-index c.args.bytes.now ≡ [] = drop_of_length-le c.args.bytes.now c.loop-byte-test.false in
    let whole : c.loop-byte.out ++ closing c.loop-byte.piece ≡ c.args.out.now ++ zwr c.args.bytes.now = rw (← zwr_is c.args.bytes.now (search rules)) (rw all at c.loop-byte.invariant) in
    on_ok_weaker c.close.result (λ e. e ∙ whole) c.close.ensures
