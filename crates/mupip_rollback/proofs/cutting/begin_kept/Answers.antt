use Rattle.std.proofs.Common.{◌≡◌, refl, arith, None}
use Rattle.entry_index.specs.Found.{entry_count}
use Rattle.site_files.specs.Loading.{last_of}
use Rattle.site_store.specs.declared.memory.Memory.{Memory}
use Rattle.site_store.proofs.HeldRegions.{held_drawn}
use Rattle.site_store.proofs.Loaded.{is_ready}
use Rattle.mupip_rollback.proofs.Begun.{opens}
use Rattle.mupip_rollback.proofs.cutting.begin_kept.Goals as goal

pub returns-clause-ready : goal.returns-clause-ready
returns-clause-ready g c =
    let v = g.D.Disk.disk c.args.disk.now in
    let w = g.D.Disk.disk c.draw_next.new.disk in
    let kept = c.args.kept in
    let rs = c.args.instance.records in
    let s : Memory = record { instance = c.in-Ok.drawn.instance; layout = kept.layout; journals = c.in_ok-newest_journals.field-0; entries = kept.entries; globals = kept.globals; hardened = c.len-count.result; stamp = None } in
    is_ready rs (last_of kept.last_began.items) c.requires.form s c.len-count.result c.in-Ok.ensures.records w c.in-Ok.drawn.journals.items c.in-Ok.ensures.journal_count c.in_ok-newest_journals.ensures
    c.in-Ok.ensures.instance (c.requires.layout c.len-count.result) c.in-Ok.ensures.journals (held_drawn v w rs kept.globals c.requires.form.few_regions c.draw_next.ensures.frame c.requires.regions) c.requires.few c.requires.whole c.requires.each_place

pub returns-clause-open : goal.returns-clause-open
returns-clause-open g c =
    let v = g.D.Disk.disk c.args.disk.now in
    let w = g.D.Disk.disk c.draw_next.new.disk in
    let kept = c.args.kept in
    let rs = c.args.instance.records in
    let s : Memory = record { instance = c.in-Ok.drawn.instance; layout = kept.layout; journals = c.in_ok-newest_journals.field-0; entries = kept.entries; globals = kept.globals; hardened = c.len-count.result; stamp = None } in
    let n_is : c.len-count.result ≡ entry_count kept.entries = (let e = c.len-count.ensures.count in omega (arith, e)) in
    opens v w rs kept c.requires.form (g.met.D.Disk.lawful c.draw_next.new.disk) c.len-count.result c.deref.result.now n_is c.deref.ensures.value s refl refl refl c.in-Ok.drawn.journals.items c.in_ok-newest_journals.ensures
    c.in-Ok.ensures.records c.in-Ok.ensures.drawn c.in-Ok.ensures.instance_file c.in-Ok.ensures.journal_files
