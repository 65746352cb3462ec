use Rattle.std.proofs.Common.{true, ◌≡◌}
use Rattle.region_opening.proofs.Readings.{is_entry, not_formed, not_past}
use Rattle.region_opening.proofs.entries.read_entry.Goals as goal

pub returns-then-are_formed-clause-entry : goal.returns-then-are_formed-clause-entry
returns-then-are_formed-clause-entry g c =
    let a = c.args in
    is_entry (g.D.Disk.disk a.disk.now).content a.history.now a.entries.now a.number c.in_ok-entry.field-0 c.in_ok-entry.ensures.entry c.in-Some.entry c.in-Some.is

pub returns-else-are_formed-clause-outside : goal.returns-else-are_formed-clause-outside
returns-else-are_formed-clause-outside g c f at is =
    let a = c.args in
    not_formed (g.D.Disk.disk a.disk.now).content a.history.now a.entries.now a.number c.in_ok-entry.field-0 c.in_ok-entry.ensures.entry c.in-Some.entry c.in-Some.is
    (λ forms. let so : c.are_formed.result ≡ true = c.are_formed.ensures.1 forms in let no = c.if-are_formed.false in cc)

pub returns-in-None-clause-outside : goal.returns-in-None-clause-outside
returns-in-None-clause-outside g c f at is =
    let a = c.args in
    not_past (g.D.Disk.disk a.disk.now).content a.history.now a.entries.now a.number c.in_ok-entry.field-0 c.in_ok-entry.ensures.entry c.in-None.is c.requires.first
