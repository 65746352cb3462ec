use Rattle.std.proofs.Common.{◌≤◌, ◌<◌, arith}
use Rattle.std.proofs.lemmas.Result.{err_from_is_err_and}
use Rattle.disk_defs.proofs.Frames.{reads_more}
use Rattle.disk_defs.proofs.Told.{told_at}
use Rattle.entry_index.specs.Found.{entry_count}
use Rattle.region_store.proofs.Logs.{reads_none}
use Rattle.site_store.proofs.Errors.{handed_on}
use Rattle.site_store.specs.declared.error.SiteError.TheVariants as error
use Rattle.mupip_rollback.proofs.Lost as lost
use Rattle.mupip_rollback.proofs.preparing.write_behind.Goals as goal

pub loop-done-init : goal.loop-done-init
loop-done-init g c = record {
  text = lost.begun c.args.found.now c.args.target c.args.out.now (g.D.Disk.disk c.args.disk.now).content;
  reads = reads_none (g.D.Disk.disk c.args.disk.now);
  faults = omega arith;
}

pub write_entry-requires-clause-regions : goal.write_entry-requires-clause-regions
write_entry-requires-clause-regions g c = let wide = c.requires.has.each_place in let few = c.requires.has.form.few_regions in omega (arith, wide, few)

pub loop-done-preserved : goal.loop-done-preserved
loop-done-preserved g c =
    let view = g.D.Disk.disk in
    let l = c.loop-done in
    let u = view c.args.disk.now in
    let v = view l.disk in
    let f = c.args.found.now in
    let end = c.len-done-end.ensures.count in
    let low : l.done < entry_count f.entries = omega (arith, c.loop-done-test.true, end) in
    record {
      text = lost.goes_on f c.args.target c.args.out.now c.requires.has u.content l.done l.out c.write_entry.new.out low l.invariant.text
          (told_at u.content v.content (lost.IsAdded f c.args.target c.args.out.now l.done l.out c.write_entry.new.out) l.invariant.reads.content c.in_ok-write_entry.ensures.entry);
      reads = reads_more u v (view c.write_entry.new.disk) (g.met.D.Disk.lawful c.args.disk.now) l.invariant.reads c.write_entry.ensures.reads;
      faults = omega (arith, l.invariant.faults, c.write_entry.ensures.faults.later);
    }

pub returns-in_err-write_entry-clause-outside : goal.returns-in_err-write_entry-clause-outside
returns-in_err-write_entry-clause-outside g c =
    let view = g.D.Disk.disk in
    let l = c.loop-done in
    let p = err_from_is_err_and c.from_residual.result c.from_residual.ensures.1 in
    rw (p.1, p.2) (λ file offset is.
    lost.none_found c.args.found.now c.args.target c.args.out.now (view c.args.disk.now).content (view l.disk).content l.invariant.reads.content (c.in_err-write_entry.ensures.outside file offset (handed_on c.in_err-write_entry.field-0.0 (error.NotAFile file offset) is)))

pub returns-in_err-write_entry-clause-reads : goal.returns-in_err-write_entry-clause-reads
returns-in_err-write_entry-clause-reads g c =
    let view = g.D.Disk.disk in
    reads_more (view c.args.disk.now) (view c.loop-done.disk) (view c.write_entry.new.disk) (g.met.D.Disk.lawful c.args.disk.now) c.loop-done.invariant.reads c.write_entry.ensures.reads

pub returns-clause-text : goal.returns-clause-text
returns-clause-text g c =
    let l = c.loop-done in
    let f = c.args.found.now in
    let end = c.len-done-end.ensures.count in
    let past : entry_count f.entries ≤ l.done = omega (arith, c.loop-done-test.false, end) in
    lost.all_written f c.args.target c.args.out.now c.requires.has (g.D.Disk.disk c.args.disk.now).content l.done l.out past l.invariant.text
