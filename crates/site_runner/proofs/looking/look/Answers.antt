use Rattle.disk_defs.proofs.Told.{both_weak}
use Rattle.world_defs.specs.Shown.{IsNoSite}
use Rattle.site_runner.proofs.Looked.{looks}
use Rattle.site_runner.proofs.looking.look.Goals as goal

pub returns-clause-seen : goal.returns-clause-seen
returns-clause-seen g c =
    let e = c.inspect.ensures in
    looks c.leftovers_hold.ensures g.D.Disk.disk c.args.disk.now c.inspect.new.disk c.inspect.result
    (record { lawful = g.met.D.Disk.lawful c.inspect.new.disk; any_moment = e.any_moment; untouched = e.untouched; still_told = e.still_told; simulated = e.simulated; later = e.faults.later })
    e.found e.content e.alike e.holds e.outside (λ file offset is. both_weak (g.D.Disk.disk c.args.disk.now).content _ _ (IsNoSite file offset) (e.place file offset is) (e.written file offset is) (λ f out written. (out, written))) e.faults.count e.faults.cause
