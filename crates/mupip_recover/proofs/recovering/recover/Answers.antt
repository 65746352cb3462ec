use Rattle.std.proofs.Common.{map, ◌∙◌}
use Rattle.std.proofs.lemmas.Result.{IfOk-weaker}
use Rattle.gvn_model.specs.Reigns.{reign_value}
use Rattle.mupip_recover.proofs.Forms.{entries_formed}
use Rattle.mupip_recover.proofs.Runs.{recovered}
use Rattle.mupip_recover.proofs.recovering.recover.Goals as goal

pub returns-clause-sequence : goal.returns-clause-sequence
returns-clause-sequence c =
    IfOk-weaker c.entries_of.result _ _ (λ made first.
    recovered (λ j. j.items) c.in_ok-table.table c.in-Some.places c.args.instance.now c.args.journals.now (map reign_value c.as_slice-reigns.result.now) _
    (c.in_ok-table.ensures c.args.instance.now c.in_ok-cuts.ensures)
    (c.as_slice-reigns.ensures ∙ c.requires)
    c.in-Some.ensures
    first) c.entries_of.ensures.first

pub returns-clause-forms : goal.returns-clause-forms
returns-clause-forms c all = IfOk-weaker c.entries_of.result _ _ (λ made is. entries_formed c.args.instance.now (map (λ j. j.items) c.args.journals.now) (map (λ e. e.1) made) all is) (returns-clause-sequence c)
