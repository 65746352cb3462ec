use Rattle.std.proofs.Common.{◌≡◌, List, map, take, ◌∙◌, arith}
use Rattle.std.proofs.lemmas.Result.{err_from_is_err_and}
use Rattle.disk_defs.proofs.Frames.{reads_more}
use Rattle.disk_defs.proofs.Told.{weaker_told}
use Rattle.journal_defs.specs.Sequence.{Placed}
use Rattle.jnl_record.specs.Values.{placed_value}
use Rattle.site_files.specs.declared.error.FilesError.TheVariants.{NotAFile}
use Rattle.site_files.specs.Past.{all_past, AreRegionSigns}
use Rattle.site_files.proofs.Errors.{handed_on, causes_on}
use Rattle.site_files.proofs.PastRead.{told_past, told_missing, past_whole}
use Rattle.site_files.proofs.past.read_region.Goals as goal

pub loop-placed-preserved : goal.loop-placed-preserved
loop-placed-preserved g c =
    let view = g.D.Disk.disk in
    let a = c.args in
    let l = c.loop-placed in
    let inv = l.invariant in
    let old = map placed_value l.made.items in
    let new = map placed_value c.add_past.new.made.items in
    record {
      read = told_past (view a.disk.now).content (view l.disk).content a.region a.length a.signs.now l.placed-index _ old new inv.reads.content (omega arith) inv.read c.in_ok-add_past.ensures.added;
      reads = reads_more (view a.disk.now) (view l.disk) (view c.add_past.new.disk) (g.met.D.Disk.lawful a.disk.now) inv.reads c.add_past.ensures.reads;
      faults = omega (arith, inv.faults, c.add_past.ensures.faults.later);
    }

pub returns-in_err-add_past-clause-outside : goal.returns-in_err-add_past-clause-outside
returns-in_err-add_past-clause-outside g c =
    let view = g.D.Disk.disk in
    let a = c.args in
    let l = c.loop-placed in
    let p = err_from_is_err_and c.from_residual.result c.from_residual.ensures.1 in
    rw (p.1, p.2) (λ file offset is.
    told_missing (view a.disk.now).content (view l.disk).content a.region a.signs.now l.placed-index _ l.invariant.reads.content (omega arith)
    (c.in_err-add_past.ensures.outside file offset (handed_on c.in_err-add_past.field-0.0 (NotAFile file offset) is)))

pub returns-in_err-add_past-clause-causes : goal.returns-in_err-add_past-clause-causes
returns-in_err-add_past-clause-causes g c =
    let p = err_from_is_err_and c.from_residual.result c.from_residual.ensures.1 in
    rw (p.1, p.2) (causes_on c.in_err-add_past.field-0.0 c.in_err-add_past.ensures.causes)

pub returns-clause-read : goal.returns-clause-read
returns-clause-read g c =
    let l = c.loop-placed in
    let a = c.args in
    weaker_told (g.D.Disk.disk a.disk.now).content (λ files. (journal : List Placed) → AreRegionSigns files a.region a.signs.now journal → map placed_value l.made.items ≡ all_past a.length (take l.placed-index journal))
    (λ files. (journal : List Placed) → AreRegionSigns files a.region a.signs.now journal → map placed_value l.made.items ≡ all_past a.length journal) l.invariant.read
    (λ files before journal are. before journal are ∙ past_whole a.length journal l.placed-index files a.region a.signs.now are (omega arith))
