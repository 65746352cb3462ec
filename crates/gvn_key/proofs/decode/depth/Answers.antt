use Rattle.std.proofs.Common.{ℕ, ◌+◌, ◌≤◌, List, length, sym, subst, ◌∙◌, arith}
use Rattle.std.proofs.Math.ListN.{length-drop}
use Rattle.gvn_key.proofs.Subscripts.{rest_is}
use Rattle.gvn_key.proofs.Walks.{IsBehind, passed, counted}
use Rattle.gvn_key.proofs.decode.depth.Goals as goal

pub loop-last-init : goal.loop-last-init
loop-last-init c = record { shorter = omega arith; read = λ subs h e. record { few = omega arith; code = sym e } }

pub loop-last-preserved : goal.loop-last-preserved
loop-last-preserved c =
    let at = sym c.sub_end.ensures.place ∙ c.in-Some.is in
    let slice = rest_is c.loop-last.rest.now (c.in-Some.last + 1) in
    record {
      shorter = subst (λ (x : List ℕ). (c.loop-last.count + 1) + length x ≤ length c.args.bytes.now) (sym slice) (omega (arith, length-drop (c.in-Some.last + 1) c.loop-last.rest.now, c.loop-last.invariant.shorter, c.in-Some.ensures.within));
      read = λ subs h e. subst (λ (x : List ℕ). IsBehind (c.loop-last.count + 1) subs x) (sym slice) (passed subs c.loop-last.count c.in-Some.last c.loop-last.rest.now h (c.loop-last.invariant.read subs h e) at);
    }

pub returns : goal.returns
returns c = λ subs h e. counted subs c.loop-last.count c.loop-last.rest.now h (c.loop-last.invariant.read subs h e) (sym c.sub_end.ensures.place ∙ c.in_default.is)
