use Rattle.std.proofs.Common.{◌++◌, List, ℕ, ◌∙◌, ap, sym, append_assoc}
use Rattle.std.specs.Prelude.{codes}
use Rattle.gvn_model.specs.declared.job.Reply.{Reply}
use Rattle.site_defs.specs.Texts.{reply_text}
use Rattle.repl_section.specs.Replies.{reply_value}
use Rattle.repl_section.proofs.Results.{on_ok}
use Rattle.repl_section.proofs.replying.write_outcome.Goals as goal

pub returns-in_ok-push_all-in-RolledBack : goal.returns-in_ok-push_all-in-RolledBack
returns-in_ok-push_all-in-RolledBack c =
    on_ok c.push_all-in-RolledBack-2.result _ _ c.push_all-in-RolledBack-2.ensures.ok (λ h.
    h ∙ ap (λ (x : List ℕ). x ++ c.cause_word.result.now) c.in_ok-push_all-in-RolledBack.ensures.ok ∙ append_assoc c.args.text.now (codes " ROLLEDBACK ") c.cause_word.result.now
    ∙ ap (λ (x : List ℕ). c.args.text.now ++ (codes " ROLLEDBACK " ++ x)) c.cause_word.ensures ∙ ap (λ (x : Reply). c.args.text.now ++ reply_text (reply_value x)) (sym c.in-RolledBack.is))
