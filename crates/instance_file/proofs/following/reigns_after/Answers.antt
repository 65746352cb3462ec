use Rattle.std.proofs.Common.{◌≡◌, ◌++◌, ◌∷◌, [], ◌∙◌, ap, filter, nat_le, sym}
use Rattle.std.proofs.lemmas.Result.{IfOk-weaker}
use Rattle.journal_defs.specs.Instance.{InstanceRecord, Cut}
use Rattle.journal_defs.specs.Surviving.{reigns}
use Rattle.gvn_model.specs.Reigns.{reign_value}
use Rattle.std.specs.Prelude.{List}
use Rattle.journal_laws.proofs.Runs.{reigns-cut, reigns-more}
use Rattle.instance_file.specs.Values.{record_value}
use Rattle.instance_file.proofs.Histories.{reigns_other}
use Rattle.instance_file.proofs.following.reigns_after.Goals as goal

pub returns-in_ok-push-in-Reign : goal.returns-in_ok-push-in-Reign
returns-in_ok-push-in-Reign c rs is =
    let before = c.in_ok-reigns-in-Reign.ensures ∙ is in
    rw c.in-Reign.is (c.in_ok-push-in-Reign.ensures.ok ∙ (λ j. before j ++ reign_value (c.in_ok-copy-in-Reign.ensures j) ∷ []) ∙ sym (reigns-more rs (reign_value c.in-Reign.reign)))

pub returns-in-Cut : goal.returns-in-Cut
returns-in-Cut c =
    let n = c.in-Cut.length in
    rw c.in-Cut.is (IfOk-weaker c.begun_by.result (λ made. made ≡ filter (λ r. nat_le r.start n) c.args.before.now) (λ made. (rs : List InstanceRecord) → c.args.before.now ≡ reigns rs → made ≡ reigns (rs ++ Cut n c.in-Cut.generation ∷ []))
    (λ made is rs before. (is ∙ ap (filter (λ r. nat_le r.start n)) before ∙ sym (reigns-cut rs n c.in-Cut.generation))) c.begun_by.ensures)

pub returns-in_default : goal.returns-in_default
returns-in_default c =
    IfOk-weaker c.copy-in_default.result (λ made. made ≡ c.args.before.now) (λ made. (rs : List InstanceRecord) → c.args.before.now ≡ reigns rs → made ≡ reigns (rs ++ record_value c.args.added.now ∷ []))
    (λ made same rs is. same ∙ is ∙ sym (reigns_other rs c.args.added.now c.in_default.not-Reign c.in_default.not-Cut)) c.copy-in_default.ensures
