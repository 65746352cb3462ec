use Rattle.std.proofs.Common.{arith, ◌∙◌, ◌+◌, sym, subst, ◌<◌, ◌≤◌, length, drop, List, ℕ}
use Rattle.std.proofs.Math.ListN.{length-drop}
use Rattle.std.proofs.lemmas.Bool.{eqb-true, eqb-false}
use Rattle.gvn_key.proofs.Subscripts.{IsPartRead, all_read, no_end, not_read, one_read, rest_is}
use Rattle.gvn_key.proofs.decode.subs.Goals as goal

pub returns-in_default : goal.returns-in_default
returns-in_default c = λ subs h e.
    let some : 0 < length c.loop-rest.rest.now = omega (arith, eqb-false (length c.loop-rest.rest.now) 0 (sym c.is_empty.ensures ∙ c.loop-rest-test.true)) in
    no_end c.loop-rest.subs.items c.loop-rest.rest.now subs some (c.loop-rest.invariant.read subs h e) (sym c.sub_end.ensures.place ∙ c.in_default.is)

pub returns-in_default-2 : goal.returns-in_default-2
returns-in_default-2 c = λ subs h e.
    let some : 0 < length c.loop-rest.rest.now = omega (arith, eqb-false (length c.loop-rest.rest.now) 0 (sym c.is_empty.ensures ∙ c.loop-rest-test.true)) in
    not_read c.loop-rest.subs.items c.loop-rest.rest.now subs c.in-Some.last some (c.loop-rest.invariant.read subs h e) (sym c.sub_end.ensures.place ∙ c.in-Some.is) (sym c.in_ok-text.ensures ∙ c.in_default-2.is)

pub loop-rest-preserved : goal.loop-rest-preserved
loop-rest-preserved c =
    let some : 0 < length c.loop-rest.rest.now = omega (arith, eqb-false (length c.loop-rest.rest.now) 0 (sym c.is_empty.ensures ∙ c.loop-rest-test.true)) in
    let slice = rest_is c.loop-rest.rest.now (c.in-Some.last + 1) in
    record {
      shorter = subst (λ (x : List ℕ). length x ≤ length c.args.bytes.now) (sym slice) (omega (arith, length-drop (c.in-Some.last + 1) c.loop-rest.rest.now, c.loop-rest.invariant.shorter));
      read = λ subs h e.
          let here = one_read c.loop-rest.subs.items c.loop-rest.rest.now subs c.in-Some.last c.in-Some-2.text some (c.loop-rest.invariant.read subs h e) (sym c.sub_end.ensures.place ∙ c.in-Some.is) (sym c.in_ok-text.ensures ∙ c.in-Some-2.is) in
          let pushed = subst (λ (x : List (List ℕ)). IsPartRead x (drop (c.in-Some.last + 1) c.loop-rest.rest.now) subs) (sym c.in_ok-push.ensures.items) here in
          subst (λ (x : List ℕ). IsPartRead c.push.new.self.items x subs) (sym slice) pushed;
    }

pub returns : goal.returns
returns c = λ subs h e. all_read c.loop-rest.subs.items c.loop-rest.rest.now subs (eqb-true (length c.loop-rest.rest.now) 0 (sym c.is_empty.ensures ∙ c.loop-rest-test.false)) (c.loop-rest.invariant.read subs h e)
