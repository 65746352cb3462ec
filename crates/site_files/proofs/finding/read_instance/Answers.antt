use Rattle.std.proofs.Common.{ap, Err}
use Rattle.site_files.proofs.Places.{told_instance}
use Rattle.site_files.proofs.finding.read_instance.Goals as goal

pub returns-in-Err-clause-place : goal.returns-in-Err-clause-place
returns-in-Err-clause-place g c file offset is =
    told_instance (g.D.Disk.disk c.args.disk.now).content file offset c.faults.result c.in-Err.error c.in_instance.result c.in_instance.ensures (λ n same. c.in-Err.ensures.outside n (ap Err same)) is
