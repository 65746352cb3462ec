use Rattle.region_store.proofs.Undone.{short_there}
use Rattle.region_store.proofs.reading.read_bytes.Goals as goal

pub returns-then-source-at-clause-short : goal.returns-then-source-at-clause-short
returns-then-source-at-clause-short g c file offset is =
    let from = c.is_on_file.ensures.yes c.if-is_on_file.true in
    short_there (g.D.Disk.disk c.args.disk.now).content c.args.undo.now c.args.source.file c.args.number c.args.source.blocks c.args.source.length c.requires.blocks from.0 from.1 c.if-source-at.true c.requires.file
