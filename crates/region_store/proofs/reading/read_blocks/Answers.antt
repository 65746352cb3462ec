use Rattle.std.proofs.Common.{◌≡◌, ℕ, max, subst, arith}
use Rattle.std.specs.Prelude.{IfSome}
use Rattle.std.proofs.lemmas.Result.{err_from_is_err_and}
use Rattle.disk_defs.proofs.Frames.{reads_more}
use Rattle.journal_defs.specs.Epochs.{Chosen}
use Rattle.before_image.specs.Undoing.{Undoes}
use Rattle.region_store.specs.Laid.{AreLaid}
use Rattle.region_store.specs.declared.error.RegionError.TheVariants.{NotAFile}
use Rattle.region_store.proofs.Handed.{handed_on}
use Rattle.region_store.proofs.Undone.{outside_told, more_told}
use Rattle.region_store.proofs.reading.read_blocks.Goals as goal

pub returns-in_err-read_one-clause-outside : goal.returns-in_err-read_one-clause-outside
returns-in_err-read_one-clause-outside g c =
    let view = g.D.Disk.disk in
    let l = c.loop-number in
    let p = err_from_is_err_and c.from_residual-in_err-read_one.result c.from_residual-in_err-read_one.ensures.1 in
    rw (p.1, p.2) (λ f offset is.
    let same = handed_on c.in_err-read_one.field-0.0 (NotAFile f offset) is in
    outside_told (view c.args.disk.now).content (view l.disk).content c.args.undo.now c.args.file l.number offset l.invariant.reads.content (c.in_err-read_one.ensures.place f offset same).1
    (c.in_err-read_one.ensures.outside f offset same))

pub loop-number-preserved : goal.loop-number-preserved
loop-number-preserved g c =
    let view = g.D.Disk.disk in
    let l = c.loop-number in
    record {
      few = omega (arith, c.loop-number-test.true, c.count_of-number-end.ensures);
      told = l.invariant.told;
      laid = more_told (view c.args.disk.now).content (view l.disk).content c.args.undo.now c.args.file l.number l.pool c.read_one.new.pool l.invariant.reads.content c.in_ok-read_one.ensures.laid l.invariant.laid;
      reads = reads_more (view c.args.disk.now) (view l.disk) (view c.read_one.new.disk) (g.met.D.Disk.lawful c.args.disk.now) l.invariant.reads c.read_one.ensures.reads;
      faults = omega (arith, l.invariant.faults, c.read_one.ensures.faults.later);
    }

pub returns-clause-laid : goal.returns-clause-laid
returns-clause-laid g c =
    let l = c.loop-number in
    let all : l.number ≡ max 1 c.args.blocks = omega (arith, l.invariant.few, c.loop-number-test.false, c.count_of-number-end.ensures) in
    subst (λ (n : ℕ). IfSome (g.D.Disk.disk c.args.disk.now).content (λ files. (e : Chosen) → Undoes c.args.undo.now e → AreLaid e (files c.args.file) l.pool n)) all l.invariant.laid
