use Rattle.std.proofs.Common.{◌<◌, length, Option, None, Some, IfSome, arith}
use Rattle.disk_defs.specs.Disk.{Files}
use Rattle.journal_defs.specs.Instance.{regions}
use Rattle.journal_defs.specs.Numbers.{INSTANCE}
use Rattle.site_defs.specs.Contents.{Contents}
use Rattle.site_defs.specs.Stands.{IsSite}
use Rattle.site_store.proofs.Found.{site_instance, region_count, made_some}
use Rattle.store_tests.proofs.modes.set_first.Goals as goal

-- each site has a region
some_region : (o : Option Files) → IfSome o (λ files. (c : Contents) → IsSite files c → 0 < length (regions c.instance))
some_region None = tt
some_region (Some files) = λ c site.
    let many = region_count (files INSTANCE) c.instance (site_instance files c site) (made_some c site.made) in
    omega (arith, many.0)

pub set_mode-requires : goal.set_mode-requires
set_mode-requires g c = record { site = some_region (g.D.Disk.disk c.args.disk.now).content }
