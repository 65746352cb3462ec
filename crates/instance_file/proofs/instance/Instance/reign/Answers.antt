use Rattle.std.proofs.Common.{◌++◌, ◌∷◌, [], sym, subst}
use Rattle.gvn_model.specs.Reigns.{reign_value}
use Rattle.gvn_model.specs.declared.reign.Reign.{Reign}
use Rattle.journal_defs.specs.Instance.{Reigned}
use Rattle.instance_file.specs.Order.{AreInOrder}
use Rattle.instance_file.proofs.Mores.{reign_more}
use Rattle.instance_file.proofs.instance.Instance.reign.Goals as goal

pub append-requires-clause-order : goal.append-requires-clause-order
append-requires-clause-order g c order =
    let rs = c.args.self.now.records in
    subst (λ (r : Reign). AreInOrder (rs ++ Reigned (reign_value r) ∷ [])) (sym c.in_ok-reign.ensures)
    (reign_more rs (reign_value c.args.r.now) c.requires.created c.requires.form.start.0 c.requires.past order)
