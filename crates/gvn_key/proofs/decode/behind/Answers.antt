use Rattle.std.proofs.Common.{◌≡◌, ℕ, ◌+◌, ◌≤◌, List, length, drop, sym, subst, ◌∙◌, arith}
use Rattle.std.specs.List.{flat_map}
use Rattle.std.proofs.Math.ListN.{length-drop}
use Rattle.global_defs.specs.Encoded.{encoded_sub}
use Rattle.gvn_key.proofs.Subscripts.{rest_is}
use Rattle.gvn_key.proofs.Walks.{step, one_more, stays}
use Rattle.gvn_key.proofs.decode.behind.Goals as goal

pub returns-in_default : goal.returns-in_default
returns-in_default c = λ subs h e. stays subs c.loop-i._i c.args.count c.loop-i.rest.now h (c.loop-i.invariant.read subs h e) (sym c.sub_end.ensures.place ∙ c.in_default.is) (omega arith)

pub loop-i-preserved : goal.loop-i-preserved
loop-i-preserved c =
    let at = sym c.sub_end.ensures.place ∙ c.in-Some.is in
    let slice = rest_is c.loop-i.rest.now (c.in-Some.last + 1) in
    record {
      shorter = subst (λ (x : List ℕ). length x ≤ length c.args.bytes.now) (sym slice) (omega (arith, length-drop (c.in-Some.last + 1) c.loop-i.rest.now, c.loop-i.invariant.shorter));
      read = λ subs h e. one_more subs c.loop-i._i (slice ∙ step subs c.loop-i._i c.in-Some.last c.loop-i.rest.now h (c.loop-i.invariant.read subs h e) at);
    }

pub returns : goal.returns
returns c = λ subs h e. let end : c.loop-i._i ≡ c.args.count = omega arith in subst (λ n. c.loop-i.rest.now ≡ flat_map encoded_sub (drop n subs)) end (c.loop-i.invariant.read subs h e)
