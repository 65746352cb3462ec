use Rattle.std.proofs.Common.{◌∙◌, ℕ, ◌∷◌, [], length, take, ap}
use Rattle.std.proofs.Math.Seq.{take-append_seam}
use Rattle.repl_script.proofs.section.add_job.Goals as goal

pub returns-then-is_err-clause-order_kept : goal.returns-then-is_err-clause-order_kept
returns-then-is_err-clause-order_kept c =
    c.truncate.ensures ∙ ap (λ (n : ℕ). take n c.push.new.self) c.len-before.ensures
    ∙ ap (take (length c.args.order.now)) c.in_ok-push.ensures.ok ∙ take-append_seam c.args.order.now (c.args.updater ∷ [])
