use Rattle.run_laws.proofs.Needed.{shown-tied}
use Rattle.run_laws.proofs.needs.any_disk_can_be_shown.Goals as goal

pub returns : goal.returns
returns g c p t = shown-tied (g.D.Disk.disk c.args.disk.now) p t
