use Rattle.std.proofs.Common.{[], ◌∷◌, ◌∙◌}
use Rattle.disk_defs.proofs.Told.{weaker_told}
use Rattle.gated_file.proofs.Open.{others_next}
use Rattle.journal_defs.specs.Numbers.{journal_file}
use Rattle.jnl_file.specs.Records.{settled, appended}
use Rattle.jnl_file.specs.Journal.{HasRecords}
use Rattle.jnl_file.specs.Begin.{pini}
use Rattle.jnl_file.specs.declared.journal.Journal.{Journal}
use Rattle.jnl_file.proofs.Making.{pini_prepared, pini_appended, pini_hardened, pini_named}
use Rattle.jnl_file.proofs.journal.Journal.create.Goals as goal

pub returns-in_err-prepare_pini-clause-any_moment : goal.returns-in_err-prepare_pini-clause-any_moment
returns-in_err-prepare_pini-clause-any_moment g c =
    let view = g.D.Disk.disk in
    let u = view c.args.disk.now in
    let file = journal_file c.args.generation c.args.region in
    let first = pini c.args.region c.args.before c.args.generation c.args.previous in
    let j : Journal = c.in_ok-journal.journal in
    let place = c.in_ok-journal.ensures.place in
    let one = pini_prepared u (view c.empty.new.disk) (view c.prepare_pini.new.disk) file first (g.met.D.Disk.lawful c.empty.new.disk) c.empty.ensures.any_moment c.prepare_pini.ensures.any_moment in
    one

pub returns-in_err-append-clause-any_moment : goal.returns-in_err-append-clause-any_moment
returns-in_err-append-clause-any_moment g c =
    let view = g.D.Disk.disk in
    let u = view c.args.disk.now in
    let file = journal_file c.args.generation c.args.region in
    let first = pini c.args.region c.args.before c.args.generation c.args.previous in
    let j : Journal = c.in_ok-journal.journal in
    let place = c.in_ok-journal.ensures.place in
    let one = pini_prepared u (view c.empty.new.disk) (view c.prepare_pini.new.disk) file first (g.met.D.Disk.lawful c.empty.new.disk) c.empty.ensures.any_moment c.prepare_pini.ensures.any_moment in
    let none = weaker_told u.content (λ files. HasRecords (view c.empty.new.disk) j (settled [])) (λ files. HasRecords (view c.prepare_pini.new.disk) c.prepare_pini.new.self (settled [])) c.in_ok-journal.ensures.state
    (λ files has. c.prepare_pini.ensures.state (settled []) has) in
    let two = pini_appended u (view c.prepare_pini.new.disk) (view c.append.new.disk) c.prepare_pini.new.self file first (g.met.D.Disk.lawful c.prepare_pini.new.disk) (c.prepare_pini.ensures.place.file ∙ place.file) one none c.append.ensures.any_moment in
    two

pub returns-in_err-harden-clause-any_moment : goal.returns-in_err-harden-clause-any_moment
returns-in_err-harden-clause-any_moment g c =
    let view = g.D.Disk.disk in
    let u = view c.args.disk.now in
    let file = journal_file c.args.generation c.args.region in
    let first = pini c.args.region c.args.before c.args.generation c.args.previous in
    let j : Journal = c.in_ok-journal.journal in
    let place = c.in_ok-journal.ensures.place in
    let one = pini_prepared u (view c.empty.new.disk) (view c.prepare_pini.new.disk) file first (g.met.D.Disk.lawful c.empty.new.disk) c.empty.ensures.any_moment c.prepare_pini.ensures.any_moment in
    let none = weaker_told u.content (λ files. HasRecords (view c.empty.new.disk) j (settled [])) (λ files. HasRecords (view c.prepare_pini.new.disk) c.prepare_pini.new.self (settled [])) c.in_ok-journal.ensures.state
    (λ files has. c.prepare_pini.ensures.state (settled []) has) in
    let two = pini_appended u (view c.prepare_pini.new.disk) (view c.append.new.disk) c.prepare_pini.new.self file first (g.met.D.Disk.lawful c.prepare_pini.new.disk) (c.prepare_pini.ensures.place.file ∙ place.file) one none c.append.ensures.any_moment in
    let prepared = pini_named j c.prepare_pini.new.self c.args.region c.args.generation c.args.previous c.args.before place.region place.generation c.in_ok-prepare_pini.ensures.prepared in
    let some = weaker_told u.content (λ files. HasRecords (view c.prepare_pini.new.disk) c.prepare_pini.new.self (settled [])) (λ files. HasRecords (view c.append.new.disk) c.append.new.self (appended (settled []) first)) none
    (λ files has. c.in_ok-append.ensures.state first (settled []) prepared has) in
    let three = pini_hardened u (view c.append.new.disk) (view c.harden.new.disk) c.append.new.self file first (g.met.D.Disk.lawful c.append.new.disk) (c.append.ensures.place.file ∙ c.prepare_pini.ensures.place.file ∙ place.file) two some c.harden.ensures.any_moment in
    three

pub returns-clause-any_moment : goal.returns-clause-any_moment
returns-clause-any_moment g c =
    let view = g.D.Disk.disk in
    let u = view c.args.disk.now in
    let file = journal_file c.args.generation c.args.region in
    let first = pini c.args.region c.args.before c.args.generation c.args.previous in
    let j : Journal = c.in_ok-journal.journal in
    let place = c.in_ok-journal.ensures.place in
    let one = pini_prepared u (view c.empty.new.disk) (view c.prepare_pini.new.disk) file first (g.met.D.Disk.lawful c.empty.new.disk) c.empty.ensures.any_moment c.prepare_pini.ensures.any_moment in
    let none = weaker_told u.content (λ files. HasRecords (view c.empty.new.disk) j (settled [])) (λ files. HasRecords (view c.prepare_pini.new.disk) c.prepare_pini.new.self (settled [])) c.in_ok-journal.ensures.state
    (λ files has. c.prepare_pini.ensures.state (settled []) has) in
    let two = pini_appended u (view c.prepare_pini.new.disk) (view c.append.new.disk) c.prepare_pini.new.self file first (g.met.D.Disk.lawful c.prepare_pini.new.disk) (c.prepare_pini.ensures.place.file ∙ place.file) one none c.append.ensures.any_moment in
    let prepared = pini_named j c.prepare_pini.new.self c.args.region c.args.generation c.args.previous c.args.before place.region place.generation c.in_ok-prepare_pini.ensures.prepared in
    let some = weaker_told u.content (λ files. HasRecords (view c.prepare_pini.new.disk) c.prepare_pini.new.self (settled [])) (λ files. HasRecords (view c.append.new.disk) c.append.new.self (appended (settled []) first)) none
    (λ files has. c.in_ok-append.ensures.state first (settled []) prepared has) in
    let three = pini_hardened u (view c.append.new.disk) (view c.harden.new.disk) c.append.new.self file first (g.met.D.Disk.lawful c.append.new.disk) (c.append.ensures.place.file ∙ c.prepare_pini.ensures.place.file ∙ place.file) two some c.harden.ensures.any_moment in
    three

pub returns-clause-state : goal.returns-clause-state
returns-clause-state g c =
    let view = g.D.Disk.disk in
    let u = view c.args.disk.now in
    let first = pini c.args.region c.args.before c.args.generation c.args.previous in
    let j : Journal = c.in_ok-journal.journal in
    let place = c.in_ok-journal.ensures.place in
    let none = weaker_told u.content (λ files. HasRecords (view c.empty.new.disk) j (settled [])) (λ files. HasRecords (view c.prepare_pini.new.disk) c.prepare_pini.new.self (settled [])) c.in_ok-journal.ensures.state
    (λ files has. c.prepare_pini.ensures.state (settled []) has) in
    let prepared = pini_named j c.prepare_pini.new.self c.args.region c.args.generation c.args.previous c.args.before place.region place.generation c.in_ok-prepare_pini.ensures.prepared in
    let some = weaker_told u.content (λ files. HasRecords (view c.prepare_pini.new.disk) c.prepare_pini.new.self (settled [])) (λ files. HasRecords (view c.append.new.disk) c.append.new.self (appended (settled []) first)) none
    (λ files has. c.in_ok-append.ensures.state first (settled []) prepared has) in
    weaker_told u.content (λ files. HasRecords (view c.append.new.disk) c.append.new.self (appended (settled []) first)) (λ files. HasRecords (view c.harden.new.disk) c.harden.new.self (settled (first ∷ []))) some
    (λ files has. c.in_ok-harden.ensures.state (appended (settled []) first) has)

pub returns-clause-frame : goal.returns-clause-frame
returns-clause-frame g c =
    let view = g.D.Disk.disk in
    let u = view c.args.disk.now in
    let file = journal_file c.args.generation c.args.region in
    let j : Journal = c.in_ok-journal.journal in
    let place = c.in_ok-journal.ensures.place in
    let two = others_next u (view c.empty.new.disk) (view c.prepare_pini.new.disk) file j.gated.file place.file c.empty.ensures.frame c.prepare_pini.ensures.frame in
    let prepared = c.prepare_pini.ensures.place.file ∙ place.file in
    let three = others_next u (view c.prepare_pini.new.disk) (view c.append.new.disk) file c.prepare_pini.new.self.gated.file prepared two c.append.ensures.frame in
    others_next u (view c.append.new.disk) (view c.harden.new.disk) file c.append.new.self.gated.file (c.append.ensures.place.file ∙ prepared) three c.harden.ensures.frame
