use Rattle.std.proofs.Common.{◌≡◌, None, refl, sym, subst, rules}
use Rattle.disk_defs.specs.Disk.{Reads}
use Rattle.site_store.proofs.Owned.{going_read, open_site_read, going_after, open_after}
use Rattle.site_store.proofs.site.Site.read_file.Goals as goal

pub returns-in-Ok-clause-ready : goal.returns-in-Ok-clause-ready
returns-in-Ok-clause-ready g c = going_read g.D.Disk.disk c.args.self.now (record c.args.self.now { disk = c.read_file.new.disk }) c.read_file.ensures.reads refl refl refl refl

pub returns-in-Ok-clause-stays_open : goal.returns-in-Ok-clause-stays_open
returns-in-Ok-clause-stays_open g c told x h is now =
    open_site_read g.D.Disk.disk c.args.self.now (record c.args.self.now { disk = c.read_file.new.disk }) told x h (g.met.D.Disk.lawful c.read_file.new.disk) c.read_file.ensures.reads refl refl is

pub returns-in-Err-clause-ready : goal.returns-in-Err-clause-ready
returns-in-Err-clause-ready g c =
    let none : c.args.self.now.fault ≡ None = search rules in
    going_after g.D.Disk.disk c.args.self.now c.note.new.self (subst (λ d. Reads (g.D.Disk.disk c.args.self.now.disk) (g.D.Disk.disk d)) (sym c.note.ensures.disk) c.read_file.ensures.reads) c.note.ensures.memory c.note.ensures.history c.note.ensures.starts none

pub returns-in-Err-clause-stays_open : goal.returns-in-Err-clause-stays_open
returns-in-Err-clause-stays_open g c told x h is now =
    open_after g.D.Disk.disk c.args.self.now c.note.new.self told x h (g.met.D.Disk.lawful c.note.new.self.disk)
    (subst (λ d. Reads (g.D.Disk.disk c.args.self.now.disk) (g.D.Disk.disk d)) (sym c.note.ensures.disk) c.read_file.ensures.reads) c.note.ensures.memory is now
