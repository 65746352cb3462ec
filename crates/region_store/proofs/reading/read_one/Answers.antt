use Rattle.region_store.proofs.Undone.{none_of, some_of, first_breaks, laid_told}
use Rattle.region_store.proofs.reading.read_one.Goals as goal

pub returns-in_default-clause-outside : goal.returns-in_default-clause-outside
returns-in_default-clause-outside g c file offset is =
    let none = none_of c.in_ok-laid.field-0 c.in_default.is c.in_ok-laid.ensures.none in
    first_breaks (g.D.Disk.disk c.args.disk.now).content c.args.undo.now c.args.source.file c.args.number c.read_bytes.new.out none.0 none.1 c.in_ok-read_bytes.ensures.block

pub returns-clause-laid : goal.returns-clause-laid
returns-clause-laid g c =
    laid_told (g.D.Disk.disk c.args.disk.now).content c.args.undo.now c.args.source.file c.args.number c.args.source.blocks c.args.source.length c.read_bytes.new.out
    c.in-Some.laid.block c.in-Some.laid.dirty c.is_on_file-on_file.result c.args.pool.now c.add.new.self c.requires.blocks c.requires.file c.in_ok-read_bytes.ensures.block c.in_ok-read_bytes.ensures.whole
    c.read_bytes.ensures.size (some_of c.in_ok-laid.field-0 c.in-Some.laid _ c.in-Some.is c.in_ok-laid.ensures.stands) (some_of c.in_ok-laid.field-0 c.in-Some.laid _ c.in-Some.is c.in_ok-laid.ensures.clean)
    c.is_on_file-on_file.ensures.yes c.in_ok-add.ensures.added
