use Rattle.std.proofs.Common.{◌≡◌, ◌++◌, ℕ, List, sym, ◌∙◌, ap, append_assoc}
use Rattle.std.specs.Prelude.{codes}
use Rattle.world_defs.specs.Answers.{cause_text}
use Rattle.site_runner.specs.Causes.{cause_value}
use Rattle.site_runner.specs.declared.cause.Cause.{Cause}
use Rattle.site_runner.proofs.cause.Cause.write.Goals as goal
use Rattle.repl_section.proofs.Results.{on_ok}

named : (o r n a t : List ℕ) → r ≡ n → a ≡ o ++ codes "NEEDFORWARD " → t ≡ a ++ r → t ≡ o ++ (codes "NEEDFORWARD " ++ n)
named o r n a t e ea et = et ∙ ap (λ (x : List ℕ). x ++ r) ea ∙ ap (λ (x : List ℕ). (o ++ codes "NEEDFORWARD ") ++ x) e ∙ append_assoc o (codes "NEEDFORWARD ") n

pub returns-in_ok-push_all-in-NeedForward : goal.returns-in_ok-push_all-in-NeedForward
returns-in_ok-push_all-in-NeedForward c =
    on_ok c.push_all-in-NeedForward-2.result _ _ c.push_all-in-NeedForward-2.ensures.ok (λ t.
    named c.args.text.now c.as_slice-in-NeedForward.result.now c.in-NeedForward.region c.push_all-in-NeedForward.new.self c.push_all-in-NeedForward-2.new.self c.as_slice-in-NeedForward.ensures c.in_ok-push_all-in-NeedForward.ensures.ok t
    ∙ ap (λ (x : Cause). c.args.text.now ++ cause_text (cause_value x)) (sym c.in-NeedForward.is))
