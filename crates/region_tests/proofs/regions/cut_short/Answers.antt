use Rattle.region_tests.proofs.regions.cut_short.Goals as goal

pub flush_within-requires : goal.flush_within-requires
flush_within-requires g c = record { held = c.change.ensures.held (g.D.Disk.disk c.at_epoch-region.new.disk).content c.at_epoch-region.ensures.held }
