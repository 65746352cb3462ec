use Rattle.site_store.proofs.Shown.{ships_found, ships_no_entry}
use Rattle.site_store.proofs.shipping.write_bytes.Goals as goal

pub returns-in_ok-write_entry-in-Ok-Some-clause-entry : goal.returns-in_ok-write_entry-in-Ok-Some-clause-entry
returns-in_ok-write_entry-in-Ok-Some-clause-entry g c =
    let a = c.args in
    ships_found (g.D.Disk.disk a.disk.now).content a.entries.now a.number a.out.now c.write_entry.new.out c.in-Ok-Some.field-0 c.in-Ok-Some.transaction c.in-Ok-Some.field-0-is c.in-Ok-Some.ensures.entry c.in_ok-write_entry-in-Ok-Some.ensures.ok

pub returns-in-Ok-None-clause-entry : goal.returns-in-Ok-None-clause-entry
returns-in-Ok-None-clause-entry g c =
    let a = c.args in
    ships_no_entry (g.D.Disk.disk a.disk.now).content a.entries.now a.number a.out.now a.out.now c.in-Ok-None.field-0 c.in-Ok-None.field-0-is c.in-Ok-None.ensures.entry
