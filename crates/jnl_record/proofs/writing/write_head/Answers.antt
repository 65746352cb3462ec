use Rattle.std.proofs.Common.{◌++◌, ◌∷◌, [], ◌∙◌}
use Rattle.std.proofs.lemmas.Result.{on_ok_weaker}
use Rattle.repl_fields.proofs.Pushes.{then}
use Rattle.jnl_record.proofs.writing.write_head.Goals as goal

pub returns-clause-ok : goal.returns-clause-ok
returns-clause-ok c =
    let front = then _ _ _ _ _ (then _ _ _ _ _ (then _ _ _ _ _ c.in_ok-push_all.ensures.ok c.in_ok-push_all-2.ensures.ok) c.in_ok-push_all-3.ensures.ok) c.in_ok-push_all-4.ensures.ok in
    on_ok_weaker c.push_all-5.result
    (λ e. then _ _ _ _ _ front e ∙ (λ i. c.args.out.now ++ ((((c.to_be_bytes.ensures i ++ c.args.head.mask ∷ c.args.head.origin.updater ∷ []) ++ c.to_be_bytes-2.ensures i) ++ c.to_be_bytes-3.ensures i) ++ c.to_be_bytes-4.ensures i)))
    c.push_all-5.ensures.ok
