use Rattle.std.proofs.Common.{◌≡◌, true, refl, ◌∙◌, ap}
use Rattle.std.specs.Prelude.{codes}
use Rattle.std.specs.Fmt.{digits}
use Rattle.site_defs.specs.Contents.{Contents}
use Rattle.site_defs.specs.Samples.{reigned_once}
use Rattle.world_defs.specs.rows.Epoch.{epoch}
use Rattle.world_defs.specs.Samples.{primary_place}
use Rattle.world_defs.proofs.laws.epochs_hold.Goals as goal

line_alone : (epoch (codes "A") (primary_place true reigned_once)).says (primary_place true reigned_once) ≡ codes "A EPOCH 0\n"
unfolding digits
line_alone = refl

pub returns-clause-told : goal.returns-clause-told
returns-clause-told c q text h = h.2 ∙ line_alone

pub returns-clause-taken : goal.returns-clause-taken
returns-clause-taken c q text h = ap (λ (o : Contents). o.epochs 0) h.1.0.known.now

pub returns-clause-open : goal.returns-clause-open
returns-clause-open c q text h = h.1.0.site

pub returns-clause-closed : goal.returns-clause-closed
returns-clause-closed c q text h = ap (λ (o : Contents). o.epochs 0) h.1.0.known.now

pub returns-clause-fault : goal.returns-clause-fault
returns-clause-fault c k q text h = h.1.rose

pub returns-clause-stop_fault : goal.returns-clause-stop_fault
returns-clause-stop_fault c k q text h = h.1.rose
