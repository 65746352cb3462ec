use Rattle.std.proofs.Common.{◌++◌, ◌∷◌, [], sym, subst}
use Rattle.journal_defs.specs.Instance.{InstanceRecord}
use Rattle.instance_file.specs.Order.{AreInOrder}
use Rattle.instance_file.proofs.Mores.{pattern_more}
use Rattle.instance_file.proofs.instance.Instance.map.Goals as goal

pub append-requires-clause-order : goal.append-requires-clause-order
append-requires-clause-order g c order =
    let rs = c.args.self.now.records in
    subst (λ (y : InstanceRecord). AreInOrder (rs ++ y ∷ [])) (sym c.in_ok-added.ensures) (pattern_more rs c.args.region c.args.pattern.now c.requires.created order)
