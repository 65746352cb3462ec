use Rattle.std.proofs.Common.{arith, ap, List}
use Rattle.site_runner.proofs.Turned.{turned_twice}
use Rattle.site_runner.proofs.moving.give_back.Goals as goal
use Rattle.site_runner.specs.Sites.{disk_in}

pub loop-slot-init : goal.loop-slot-init
loop-slot-init g c =
    record {
      split = turned_twice disk_in c.args.slots.items c.reverse.new.self.items c.args.disks.now.items c.reverse.ensures.items c.requires.empty;
      room = let n = ap (λ (x : List g.row.D.Denot). x) c.requires.empty in grind (arith, c.requires.room, c.requires.empty, c.reverse.ensures.items);
    }
