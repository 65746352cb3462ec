use Rattle.region_tests.proofs.regions.done_again.Goals as goal

pub flush_again-requires : goal.flush_again-requires
flush_again-requires g c = record { held = c.change.ensures.held (g.D.Disk.disk c.at_epoch-region.new.disk).content c.at_epoch-region.ensures.held }
