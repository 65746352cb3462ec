use Rattle.std.proofs.Common.{◌≤◌, ◌+◌, ◌++◌, ◌∷◌, [], ◌==◌, List, ℕ, length, take, sym, ap, subst, ◌∙◌, arith}
use Rattle.std.proofs.Math.ListN.{length-drop}
use Rattle.std.proofs.lemmas.Bool.{ne_eqb}
use Rattle.std.proofs.lemmas.Result.{on_ok_weaker}
use Rattle.gvn_key.specs.Decoding.{AddsText, text_read}
use Rattle.gvn_key.proofs.SubTexts.{IsPartWritten, none_written, one_written, bracket_closed, no_bracket}
use Rattle.gvn_key.proofs.Subscripts.{rest_is}
use Rattle.gvn_key.proofs.subs_text.push_subs_text.Goals as goal

pub loop-last-init : goal.loop-last-init
loop-last-init c = record { shorter = omega arith; written = λ subs h e. none_written c.args.bytes.now subs c.args.out.now h e }

pub loop-last-preserved : goal.loop-last-preserved
loop-last-preserved c =
    let at = sym c.sub_end.ensures.place ∙ c.in-Some.is in
    let slice = rest_is c.loop-last.rest.now (c.in-Some.last + 1) in
    let text : AddsText (text_read (take c.in-Some.last c.loop-last.rest.now)) (c.loop-last.out ++ c.loop-last.lead ∷ []) c.push_sub.new.out =
    subst (λ (x : List ℕ). AddsText (text_read (take c.in-Some.last c.loop-last.rest.now)) x c.push_sub.new.out) c.in_ok-push.ensures.ok c.in_ok-push_sub.ensures in
    record {
      shorter = subst (λ (x : List ℕ). length x ≤ length c.args.bytes.now) (sym slice) (omega (arith, length-drop (c.in-Some.last + 1) c.loop-last.rest.now, c.loop-last.invariant.shorter));
      written = λ subs h e.
          subst (λ (x : List ℕ). IsPartWritten 44 x subs c.args.out.now c.push_sub.new.out) (sym slice)
          (one_written c.loop-last.lead c.in-Some.last c.loop-last.rest.now subs c.args.out.now c.loop-last.out c.push_sub.new.out (c.loop-last.invariant.written subs h e) at text);
    }

pub returns-then-lead-eq44 : goal.returns-then-lead-eq44
returns-then-lead-eq44 c = λ subs h e.
    let closed = bracket_closed c.loop-last.lead c.loop-last.rest.now subs c.args.out.now c.loop-last.out (c.loop-last.invariant.written subs h e) (sym c.sub_end.ensures.place ∙ c.in_default.is) (ap (λ (n : ℕ). n == 44) c.if-lead-eq44.true) in
    on_ok_weaker c.push-then-lead-eq44.result (λ x. x ∙ closed) c.push-then-lead-eq44.ensures.ok

pub returns-else-lead-eq44 : goal.returns-else-lead-eq44
returns-else-lead-eq44 c = λ subs h e.
    no_bracket c.loop-last.lead c.loop-last.rest.now subs c.args.out.now c.loop-last.out (c.loop-last.invariant.written subs h e) (sym c.sub_end.ensures.place ∙ c.in_default.is) (ne_eqb c.loop-last.lead 44 c.if-lead-eq44.false)
