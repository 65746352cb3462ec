use Rattle.std.proofs.Common.{ℕ, List, [], None, refl}
use Rattle.disk_defs.proofs.Told.{weaker_told}
use Rattle.journal_defs.specs.Instance.{InstanceRecord}
use Rattle.entry_index.specs.Cursors.{IsAt, IsOnWay}
use Rattle.entry_index.specs.declared.cursor.Cursor.{Cursor}
use Rattle.entry_index.proofs.Cursors.{begun}
use Rattle.entry_index.proofs.cursor.Cursor.of.Goals as goal

pub returns-clause-begun : goal.returns-clause-begun
returns-clause-begun g c =
    let p = c.in_ok-of.field-0 in
    let made : Cursor = record { reader = p; kept = c.none.result; waiting = None } in
    weaker_told (g.D.Disk.disk c.args.disk.now).content (λ files. IsAt files p []) (λ files. (instance : List InstanceRecord) (lowest : ℕ) → IsOnWay files instance lowest 0 made []) c.in_ok-of.ensures.begun
    (λ files at instance lowest. begun files instance lowest 0 made refl at (c.none.ensures files instance lowest p.region 0))
