use Rattle.site_runner.proofs.Created.{specs_in_form, making_failed, making_done}
use Rattle.site_runner.proofs.create.make.Goals as goal

pub create-requires-clause-form : goal.create-requires-clause-form
create-requires-clause-form g c = specs_in_form c.args.name c.args.regions.now c.requires.formed

pub returns-in-Err-clause-left : goal.returns-in-Err-clause-left
returns-in-Err-clause-left g c =
    let e = c.create.ensures in
    making_failed c.leftovers_hold.ensures g.D.Disk.disk c.args.disk c.create.new.disk c.args.name c.as_slice.result.now c.args.regions.now c.create.result c.in-Err.error c.write_failure-ended.result c.args.text.now c.write_failure-ended.new.text
    (record { was_lawful = g.met.D.Disk.lawful c.args.disk; lawful = g.met.D.Disk.lawful c.create.new.disk; any_moment = e.any_moment; still_told = e.still_told; simulated = e.simulated; later = e.faults.later }) c.in-Err.is e.faults e.other_errors c.as_slice.ensures c.write_failure-ended.ensures

pub returns-in-Ok-clause-left : goal.returns-in-Ok-clause-left
returns-in-Ok-clause-left g c =
    let e = c.in-Ok.ensures in
    making_done c.leftovers_hold.ensures g.D.Disk.disk c.args.disk c.create.new.disk c.args.name c.as_slice-in-Ok.result.now c.args.regions.now c.write_line-written.result c.after.result c.args.text.now c.write_line-written.new.text
    (record { was_lawful = g.met.D.Disk.lawful c.args.disk; lawful = g.met.D.Disk.lawful c.create.new.disk; any_moment = e.any_moment; still_told = e.still_told; simulated = e.simulated; later = e.faults.later }) e.reads e.images c.requires.empty c.as_slice-in-Ok.ensures
    c.write_line-written.ensures c.after.ensures.written c.after.ensures.unwritten
