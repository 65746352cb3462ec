use Rattle.std.proofs.Common.{ℕ, List, Ok, refl, sym, subst, arith}
use Rattle.disk_defs.specs.Disk.{Reads}
use Rattle.global_defs.specs.Entry.{Reign}
use Rattle.mupip_recover.specs.Stamps.{AreStarts}
use Rattle.site_store.proofs.Owned.{going_read, open_site_read, going_after, open_after}
use Rattle.site_store.proofs.Shown.{shows_entry, no_outside}
use Rattle.site_store.proofs.site.Site.extract.Goals as goal

pub write_entry-requires-clause-starts : goal.write_entry-requires-clause-starts
write_entry-requires-clause-starts g c =
    subst (λ (l : List ℕ). AreStarts c.history-reigns.result.now l) (sym c.deref.ensures.value)
    (subst (λ (l : List Reign). AreStarts l c.args.self.now.starts.items) (sym c.history-reigns.ensures) (c.requires.ready c.in_default.is).starts)

pub write_entry-requires-clause-regions : goal.write_entry-requires-clause-regions
write_entry-requires-clause-regions g c =
    let ready = (c.requires.ready c.in_default.is).files in
    (let wide = ready.each_place in let many = ready.each_region in let few = ready.journals.few in omega (arith, wide, many, few))

pub returns-in-Ok-clause-ready : goal.returns-in-Ok-clause-ready
returns-in-Ok-clause-ready g c = going_read g.D.Disk.disk c.args.self.now (record c.args.self.now { disk = c.write_entry.new.disk }) c.write_entry.ensures.reads refl refl refl refl c.requires.ready

pub returns-in-Ok-clause-stays_open : goal.returns-in-Ok-clause-stays_open
returns-in-Ok-clause-stays_open g c told x h is now =
    open_site_read g.D.Disk.disk c.args.self.now (record c.args.self.now { disk = c.write_entry.new.disk }) told x h (g.met.D.Disk.lawful c.write_entry.new.disk) c.write_entry.ensures.reads refl refl is

pub returns-in-Ok-clause-opened : goal.returns-in-Ok-clause-opened
returns-in-Ok-clause-opened g c x h is =
    shows_entry (g.D.Disk.disk c.args.self.now.disk) c.args.self.now.inner c.history-reigns.result.now (g.met.D.Disk.lawful c.args.self.now.disk) (c.requires.ready c.in_default.is).files c.history-reigns.ensures
    c.args.number c.args.out.now c.write_entry.new.out (Ok tt) c.in-Ok.ensures.entry x h is.inner

pub returns-in-Err-clause-outside : goal.returns-in-Err-clause-outside
returns-in-Err-clause-outside g c = λ file offset is x h site.
    no_outside (g.D.Disk.disk c.args.self.now.disk) c.args.self.now.inner c.history-reigns.result.now (g.met.D.Disk.lawful c.args.self.now.disk) (c.requires.ready c.in_default.is).files c.history-reigns.ensures
    (c.in-Err.ensures.outside file offset is) x h site.inner

pub returns-in-Err-clause-ready : goal.returns-in-Err-clause-ready
returns-in-Err-clause-ready g c =
    going_after g.D.Disk.disk c.args.self.now c.note.new.self (subst (λ d. Reads (g.D.Disk.disk c.args.self.now.disk) (g.D.Disk.disk d)) (sym c.note.ensures.disk) c.write_entry.ensures.reads) c.note.ensures.memory c.note.ensures.history c.note.ensures.starts c.in_default.is c.requires.ready

pub returns-in-Err-clause-stays_open : goal.returns-in-Err-clause-stays_open
returns-in-Err-clause-stays_open g c told x h is now =
    open_after g.D.Disk.disk c.args.self.now c.note.new.self told x h (g.met.D.Disk.lawful c.note.new.self.disk)
    (subst (λ d. Reads (g.D.Disk.disk c.args.self.now.disk) (g.D.Disk.disk d)) (sym c.note.ensures.disk) c.write_entry.ensures.reads) c.note.ensures.memory is now
