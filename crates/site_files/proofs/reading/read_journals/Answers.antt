use Rattle.disk_defs.specs.Disk.{Image}
use Rattle.disk_defs.proofs.Moments.{nothing_new}
use Rattle.site_files.proofs.InTurn.{found_for}
use Rattle.site_files.proofs.reading.read_journals.Goals as goal

pub returns-in-Ok-None-clause-found : goal.returns-in-Ok-None-clause-found
returns-in-Ok-None-clause-found g c =
    rw (← c.look_side_by_side.ensures.content) (found_for (g.D.Disk.disk c.look_side_by_side.new.disk).content c.args.log.now.records c.args.lowest c.args.regions c.args.last c.read_in_turn.result c.read_in_turn.ensures.found)

pub returns-in-Ok-None-clause-durable : goal.returns-in-Ok-None-clause-durable
returns-in-Ok-None-clause-durable g c = rw (← c.look_side_by_side.ensures.content) c.read_in_turn.ensures.durable

pub returns-in-Ok-None-clause-place : goal.returns-in-Ok-None-clause-place
returns-in-Ok-None-clause-place g c = rw (← c.look_side_by_side.ensures.content) c.read_in_turn.ensures.place

pub returns-in-Ok-None-clause-outside : goal.returns-in-Ok-None-clause-outside
returns-in-Ok-None-clause-outside g c = rw (← c.look_side_by_side.ensures.content) c.read_in_turn.ensures.outside

pub returns-in-Ok-None-clause-any_moment : goal.returns-in-Ok-None-clause-any_moment
returns-in-Ok-None-clause-any_moment g c =
    let view = g.D.Disk.disk in
    nothing_new (view c.args.disk.now) (view c.look_side_by_side.new.disk) (view c.read_in_turn.new.disk) (Image (view c.args.disk.now)) (g.met.D.Disk.lawful c.look_side_by_side.new.disk)
    c.look_side_by_side.ensures.any_moment c.read_in_turn.ensures.any_moment
