use Rattle.std.proofs.Common.{refl}
use Rattle.site_store.proofs.Committed as committed
use Rattle.site_store.proofs.Hardened as hardened
use Rattle.site_store.proofs.memory.Memory.settle.Goals as goal

pub returns-in-Ok-clause-ready : goal.returns-in-Ok-clause-ready
returns-in-Ok-clause-ready g c =
    hardened.ready_hardened (g.D.Disk.disk c.args.disk.now) (g.D.Disk.disk c.harden.new.disk) c.args.self.now _ (record { ready = c.requires.ready; journals = c.in-Ok.ensures.ready; state = c.in-Ok.ensures.state; count = c.harden.ensures.count; stays = c.harden.ensures.frame; instance = refl; layout = refl; entries = refl; globals = refl })

pub returns-in-Ok-clause-settled : goal.returns-in-Ok-clause-settled
returns-in-Ok-clause-settled g c told x o =
    hardened.open_settled (g.D.Disk.disk c.args.disk.now) (g.D.Disk.disk c.harden.new.disk) told x c.args.self.now _
    (record { ready = c.requires.ready; journals = c.in-Ok.ensures.ready; state = c.in-Ok.ensures.state; count = c.harden.ensures.count; stays = c.harden.ensures.frame; instance = refl; layout = refl; entries = refl; globals = refl })
    refl (g.met.D.Disk.lawful c.harden.new.disk) o

pub returns-in-Ok-clause-left : goal.returns-in-Ok-clause-left
returns-in-Ok-clause-left g c x o = hardened.settle_left (g.D.Disk.disk c.args.disk.now) (g.D.Disk.disk c.harden.new.disk) x c.args.self.now c.requires.ready c.harden.ensures.any_moment o

pub returns-in-Err-clause-left : goal.returns-in-Err-clause-left
returns-in-Err-clause-left g c x o = hardened.settle_left (g.D.Disk.disk c.args.disk.now) (g.D.Disk.disk c.harden.new.disk) x c.args.self.now c.requires.ready c.harden.ensures.any_moment o

pub returns-in-Ok-clause-frame : goal.returns-in-Ok-clause-frame
returns-in-Ok-clause-frame g c = committed.own_stays (g.D.Disk.disk c.args.disk.now) (g.D.Disk.disk c.harden.new.disk) c.args.self.now c.requires.ready c.harden.ensures.frame

pub returns-in-Err-clause-frame : goal.returns-in-Err-clause-frame
returns-in-Err-clause-frame g c = committed.own_stays (g.D.Disk.disk c.args.disk.now) (g.D.Disk.disk c.harden.new.disk) c.args.self.now c.requires.ready c.harden.ensures.frame
