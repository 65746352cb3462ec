use Rattle.std.proofs.Common.{sym}
use Rattle.site_runner.specs.Ending.{down}
use Rattle.site_runner.specs.Steps.{in_state}
use Rattle.site_runner.proofs.Crashed.{crashes}
use Rattle.site_runner.proofs.Written.{named}
use Rattle.site_runner.proofs.fusing.crash_disk.Goals as goal

pub returns-in-Ok-clause-done : goal.returns-in-Ok-clause-done
returns-in-Ok-clause-done g c = λ s up.
    let e = c.crash.ensures in
    crashes c.leftovers_hold.ensures c.files_stand_for_one.ensures (g.D.Disk.disk c.args.disk) (g.D.Disk.disk c.crash.new.self) (in_state (down c.args.name) s) c.args.text.now _ (g.met.D.Disk.lawful c.crash.new.self) (sym c.requires) up
    (e.image c.requires) (e.durable c.requires) e.simulated e.faults (named _ _ c.as_slice.ensures c.in-Ok.ensures)
