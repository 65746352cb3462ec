use Rattle.std.proofs.Common.{◌≡◌, ◌*◌, Err, sym, ap}
use Rattle.region_store.proofs.Lays.{opened_restores}
use Rattle.region_store.proofs.Breaks.{opened_breaks}
use Rattle.region_store.proofs.region.leaves_of.Goals as goal

pub returns-in-Ok-clause-restores : goal.returns-in-Ok-clause-restores
returns-in-Ok-clause-restores c e bytes were = opened_restores e bytes c.args.pool c.in-Ok.leaves.globals were c.in-Ok.ensures.decodes

pub returns-in-Err-Broken-clause-outside : goal.returns-in-Err-Broken-clause-outside
returns-in-Err-Broken-clause-outside c f offset is e bytes were =
    let block = c.in-Err-Broken.block in
    let at : 4096 * block ≡ offset = cc is in
    (block, sym at, opened_breaks e bytes c.args.pool block were (c.in-Err-Broken.ensures.broken block (ap Err c.in-Err-Broken.field-0-is)))
