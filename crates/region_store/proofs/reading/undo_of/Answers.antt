use Rattle.std.proofs.Common.{sym, subst, take, arith}
use Rattle.journal_defs.specs.Undo.{logged}
use Rattle.before_image.specs.Undoing.{Oldest, Undoes}
use Rattle.jnl_record.specs.Values.{record_value, placed_value}
use Rattle.region_store.specs.Laid.{epoch_at}
use Rattle.region_store.proofs.Undone.{formed_at, undoes_taken, undone_more, undone_all}
use Rattle.region_store.proofs.reading.undo_of.Goals as goal

pub take_record-requires : goal.take_record-requires
take_record-requires c = formed_at c.args.behind.now c.loop-placed.placed-index c.placed-item.result c.loop-placed-test.true c.placed-item.is c.requires

pub loop-placed-preserved : goal.loop-placed-preserved
loop-placed-preserved c number =
    let x = c.placed-item.result in
    let i = c.loop-placed.placed-index in
    let e = epoch_at number c.args.blocks (take i c.args.behind.now) in
    undone_more c.take_record.new.undo number c.args.blocks i c.args.behind.now x c.loop-placed-test.true c.placed-item.is
    (subst (λ (us : Oldest). Undoes us (logged e (placed_value x))) (sym c.in_ok-take_record.ensures) (undoes_taken c.loop-placed.undo e x.generation (record_value x.what) (c.loop-placed.invariant number)))

pub returns : goal.returns
returns c number = undone_all c.loop-placed.undo number c.args.blocks c.loop-placed.placed-index c.args.behind.now (let end = c.loop-placed-test.false in omega (arith, end)) (c.loop-placed.invariant number)
