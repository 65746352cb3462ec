use Rattle.std.proofs.Common.{ap, ◌∙◌, Err, Option, None, Some, IfSome, refl}
use Rattle.disk_defs.specs.Disk.{Files}
use Rattle.site_defs.specs.Contents.{Contents}
use Rattle.site_defs.specs.Stands.{IsSite}
use Rattle.world_defs.specs.rows.Map.{MappedBy}
use Rattle.site_runner.specs.Mapping.{MapsAt}
use Rattle.site_runner.proofs.Ats.{on_not_done, on_failed}
use Rattle.site_runner.proofs.Results.{err_holds}
use Rattle.site_runner.proofs.Written.{named, not_a_file}
use Rattle.site_runner.proofs.Mapped.{there_done, there_faulted, there_damaged, there_cut}
use Rattle.site_runner.specs.Ending.{down, down_after, is_done_at}
use Rattle.site_runner.specs.declared.ending.Ended.{Ended}
use Rattle.site_runner.proofs.mapping.map_there.Goals as goal
use Rattle.site_store.proofs.Unwritten.{some_read as if_some}

-- it tells no files, so no site stands there
none_stands : (o : Option Files) → IfSome o (λ _. ⊥) → IfSome o (λ files. (c : Contents) → IsSite files c → ⊥)
none_stands None none = tt
none_stands (Some files) none = absurd none

pub returns-in_ok-write_line-in-Ok-clause-done : goal.returns-in_ok-write_line-in-Ok-clause-done
returns-in_ok-write_line-in-Ok-clause-done g c =
    let e = c.in-Ok.ensures in
    there_done c.leftovers_hold.ensures c.args.region.now c.args.number c.args.pattern.now (g.D.Disk.disk c.args.disk.now) (g.D.Disk.disk c.map_logged.new.disk) (down c.args.name.now) c.args.text.now _
    (record { lawful = g.met.D.Disk.lawful c.map_logged.new.disk; free = c.requires.free; any_moment = e.any_moment; still_told = e.still_told; simulated = e.simulated; later = e.faults.later })
    c.requires.named e.reads e.images (if_some (g.D.Disk.disk c.args.disk.now).content _ (MappedBy c.args.region.now c.args.pattern.now c.args.name.now) (λ f i. (c.args.log.records, i, (c.requires.called, c.requires.unmapped))) c.requires.told) (named _ _ refl c.in_ok-write_line-in-Ok.ensures)

pub returns-in_err-write_line-in-Ok-clause-cut_off : goal.returns-in_err-write_line-in-Ok-clause-cut_off
returns-in_err-write_line-in-Ok-clause-cut_off g c =
    let e = c.in-Ok.ensures in
    err_holds c.from_residual.result _ (there_cut c.leftovers_hold.ensures c.args.region.now c.args.number c.args.pattern.now (g.D.Disk.disk c.args.disk.now) (g.D.Disk.disk c.map_logged.new.disk) (down c.args.name.now)
    (record { lawful = g.met.D.Disk.lawful c.map_logged.new.disk; free = c.requires.free; any_moment = e.any_moment; still_told = e.still_told; simulated = e.simulated; later = e.faults.later }))

pub returns-in-Err-Failed-clause-done : goal.returns-in-Err-Failed-clause-done
returns-in-Err-Failed-clause-done g c =
    let e = c.in-Err-Failed.ensures in
    let is = ap Err c.in-Err-Failed.field-0-is in
    let s = (down c.args.name.now) in
    let w = g.D.Disk.disk c.map_logged.new.disk in
    on_failed c.fail.result _ _ (λ (x : Ended). MapsAt c.args.region.now c.args.pattern.now (g.D.Disk.disk c.args.disk.now) s w (down_after c.args.name.now x) c.args.text.now c.fail.new.text (is_done_at x)) c.fail.ensures (λ t.
    there_faulted c.leftovers_hold.ensures c.args.region.now c.args.number c.args.pattern.now (g.D.Disk.disk c.args.disk.now) w s _ c.args.text.now _
    (record { lawful = g.met.D.Disk.lawful c.map_logged.new.disk; free = c.requires.free; any_moment = e.any_moment; still_told = e.still_told; simulated = e.simulated; later = e.faults.later })
    (c.in-Err-Failed.fault-is ∙ e.faults.count c.in-Err-Failed.fault is) (e.faults.cause c.in-Err-Failed.fault is) t)

pub returns-in-Err-Failed-clause-cut_off : goal.returns-in-Err-Failed-clause-cut_off
returns-in-Err-Failed-clause-cut_off g c =
    let e = c.in-Err-Failed.ensures in
    err_holds c.fail.result _ (there_cut c.leftovers_hold.ensures c.args.region.now c.args.number c.args.pattern.now (g.D.Disk.disk c.args.disk.now) (g.D.Disk.disk c.map_logged.new.disk) (down c.args.name.now)
    (record { lawful = g.met.D.Disk.lawful c.map_logged.new.disk; free = c.requires.free; any_moment = e.any_moment; still_told = e.still_told; simulated = e.simulated; later = e.faults.later }))

pub returns-in-Err-NotAFile-clause-done : goal.returns-in-Err-NotAFile-clause-done
returns-in-Err-NotAFile-clause-done g c =
    let e = c.in-Err-NotAFile.ensures in
    let file = c.in-Err-NotAFile.file in
    let offset = c.in-Err-NotAFile.offset in
    on_not_done c.damaged.result _ _ c.damaged.ensures (λ t.
    there_damaged c.args.region.now c.args.number c.args.pattern.now (g.D.Disk.disk c.args.disk.now) (g.D.Disk.disk c.map_logged.new.disk) (down c.args.name.now) file offset c.args.text.now _
    (record { lawful = g.met.D.Disk.lawful c.map_logged.new.disk; free = c.requires.free; any_moment = e.any_moment; still_told = e.still_told; simulated = e.simulated; later = e.faults.later })
    (none_stands (g.D.Disk.disk c.args.disk.now).content (e.outside file offset (ap Err c.in-Err-NotAFile.field-0-is))) (e.outside file offset (ap Err c.in-Err-NotAFile.field-0-is)) (not_a_file _ c.in-Err-NotAFile.file-is c.in-Err-NotAFile.offset-is refl t))

pub returns-in-Err-NotAFile-clause-cut_off : goal.returns-in-Err-NotAFile-clause-cut_off
returns-in-Err-NotAFile-clause-cut_off g c =
    let e = c.in-Err-NotAFile.ensures in
    err_holds c.damaged.result _ (there_cut c.leftovers_hold.ensures c.args.region.now c.args.number c.args.pattern.now (g.D.Disk.disk c.args.disk.now) (g.D.Disk.disk c.map_logged.new.disk) (down c.args.name.now)
    (record { lawful = g.met.D.Disk.lawful c.map_logged.new.disk; free = c.requires.free; any_moment = e.any_moment; still_told = e.still_told; simulated = e.simulated; later = e.faults.later }))

pub returns-in-Err : goal.returns-in-Err
returns-in-Err g c =
    let e = c.in-Err.ensures in
    record {
      done = tt;
      cut_off = there_cut c.leftovers_hold.ensures c.args.region.now c.args.number c.args.pattern.now (g.D.Disk.disk c.args.disk.now) (g.D.Disk.disk c.map_logged.new.disk) (down c.args.name.now)
          (record { lawful = g.met.D.Disk.lawful c.map_logged.new.disk; free = c.requires.free; any_moment = e.any_moment; still_told = e.still_told; simulated = e.simulated; later = e.faults.later });
    }
