use Rattle.std.proofs.Common.{Ok, refl, sym, subst, arith}
use Rattle.disk_defs.specs.Disk.{Reads}
use Rattle.site_store.proofs.Owned.{going_read, open_site_read, going_after, open_after}
use Rattle.site_store.proofs.Shown.{ships_entry, no_bytes_outside}
use Rattle.site_store.proofs.site.Site.entry_bytes.Goals as goal

pub write_bytes-requires-clause-regions : goal.write_bytes-requires-clause-regions
write_bytes-requires-clause-regions g c =
    let ready = (c.requires.ready c.in_default.is).files in
    (let wide = ready.each_place in let many = ready.each_region in let few = ready.journals.few in omega (arith, wide, many, few))

pub returns-in-Ok-clause-ready : goal.returns-in-Ok-clause-ready
returns-in-Ok-clause-ready g c = going_read g.D.Disk.disk c.args.self.now (record c.args.self.now { disk = c.write_bytes.new.disk }) c.write_bytes.ensures.reads refl refl refl refl c.requires.ready

pub returns-in-Ok-clause-stays_open : goal.returns-in-Ok-clause-stays_open
returns-in-Ok-clause-stays_open g c told x h is now =
    open_site_read g.D.Disk.disk c.args.self.now (record c.args.self.now { disk = c.write_bytes.new.disk }) told x h (g.met.D.Disk.lawful c.write_bytes.new.disk) c.write_bytes.ensures.reads refl refl is

pub returns-in-Ok-clause-opened : goal.returns-in-Ok-clause-opened
returns-in-Ok-clause-opened g c x h is =
    ships_entry (g.D.Disk.disk c.args.self.now.disk) c.args.self.now.inner (g.met.D.Disk.lawful c.args.self.now.disk) (c.requires.ready c.in_default.is).files
    c.args.number c.args.out.now c.write_bytes.new.out (Ok tt) c.in-Ok.ensures.entry x h is.inner

pub returns-in-Err-clause-outside : goal.returns-in-Err-clause-outside
returns-in-Err-clause-outside g c = λ file offset is x h site.
    no_bytes_outside (g.D.Disk.disk c.args.self.now.disk) c.args.self.now.inner (g.met.D.Disk.lawful c.args.self.now.disk) (c.requires.ready c.in_default.is).files
    (c.in-Err.ensures.outside file offset is) x h site.inner

pub returns-in-Err-clause-ready : goal.returns-in-Err-clause-ready
returns-in-Err-clause-ready g c =
    going_after g.D.Disk.disk c.args.self.now c.note.new.self (subst (λ d. Reads (g.D.Disk.disk c.args.self.now.disk) (g.D.Disk.disk d)) (sym c.note.ensures.disk) c.write_bytes.ensures.reads) c.note.ensures.memory c.note.ensures.history c.note.ensures.starts c.in_default.is c.requires.ready

pub returns-in-Err-clause-stays_open : goal.returns-in-Err-clause-stays_open
returns-in-Err-clause-stays_open g c told x h is now =
    open_after g.D.Disk.disk c.args.self.now c.note.new.self told x h (g.met.D.Disk.lawful c.note.new.self.disk)
    (subst (λ d. Reads (g.D.Disk.disk c.args.self.now.disk) (g.D.Disk.disk d)) (sym c.note.ensures.disk) c.write_bytes.ensures.reads) c.note.ensures.memory is now
