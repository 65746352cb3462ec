use Rattle.std.proofs.Common.{[], false, refl, sym, subst, arith}
use Rattle.std.specs.Prelude.{ℕ, IsTrue, OnOk}
use Rattle.disk_defs.specs.Frames.{Only}
use Rattle.disk_defs.proofs.Frames.{others_same}
use Rattle.jnl_file.specs.Journal as files
use Rattle.region_journals.specs.declared.journals.RegionJournal.{RegionJournal}
use Rattle.region_journals.specs.declared.hardening.Round.TheVariants.{SyncBodies, OpenGates}
use Rattle.region_journals.specs.Turns.{Turned}
use Rattle.region_journals.specs.Rounds.{Before, HasDone, Becomes, before}
use Rattle.region_journals.proofs.Rounds.{none_yet, none_done, left_alone, bodies_synced, gates_opened, gates_synced}
use Rattle.region_journals.proofs.journals.RegionJournal.harden_by.Goals as goal

pub returns-in-SyncBodies-clause-any_moment : goal.returns-in-SyncBodies-clause-any_moment
returns-in-SyncBodies-clause-any_moment g c hard waiting has =
    let view = g.D.Disk.disk in
    let v = view c.args.disk.now in
    let j = c.args.self.now.journal in
    none_yet v (view c.sync.new.disk) j.gated.file hard waiting
    (c.sync.ensures.any_moment (record { hard = hard; opening = []; closed = waiting }) (subst (λ round. files.HasRecords v j (before round hard waiting)) c.in-SyncBodies.is has))

pub returns-in-OpenGates-clause-any_moment : goal.returns-in-OpenGates-clause-any_moment
returns-in-OpenGates-clause-any_moment g c hard waiting has =
    let v = g.D.Disk.disk c.args.disk.now in
    let j = c.args.self.now.journal in
    c.open_gates.ensures.any_moment (record { hard = hard; opening = []; closed = waiting }) (subst (λ round. files.HasRecords v j (before round hard waiting)) c.in-OpenGates.is has)

pub returns-in_err-sync-in-SyncGates-clause-any_moment : goal.returns-in_err-sync-in-SyncGates-clause-any_moment
returns-in_err-sync-in-SyncGates-clause-any_moment g c hard waiting has =
    let v = g.D.Disk.disk c.args.disk.now in
    let j = c.args.self.now.journal in
    c.sync-in-SyncGates.ensures.any_moment (record { hard = hard; opening = waiting; closed = [] }) (subst (λ round. files.HasRecords v j (before round hard waiting)) c.in-SyncGates.is has)

pub returns-in_ok-sync-in-SyncGates-clause-any_moment : goal.returns-in_ok-sync-in-SyncGates-clause-any_moment
returns-in_ok-sync-in-SyncGates-clause-any_moment g c hard waiting has =
    let v = g.D.Disk.disk c.args.disk.now in
    let j = c.args.self.now.journal in
    c.sync-in-SyncGates.ensures.any_moment (record { hard = hard; opening = waiting; closed = [] }) (subst (λ round. files.HasRecords v j (before round hard waiting)) c.in-SyncGates.is has)

pub returns-in-SyncBodies-clause-turned : goal.returns-in-SyncBodies-clause-turned
returns-in-SyncBodies-clause-turned g c =
    let view = g.D.Disk.disk in
    let v = view c.args.disk.now in
    let w = view c.sync.new.disk in
    let x = c.args.self.now in
    let y : RegionJournal = record { journal = c.sync.new.self; appended = x.appended } in
    let yes : IsTrue x.appended = grind (arith, c.if-not-self.false) in
    let room : Before SyncBodies x.journal = subst (λ round. Before round x.journal) c.in-SyncBodies.is (c.requires.goes_on yes) in
    let call = c.sync.ensures in
    subst (λ round. OnOk c.sync.result ((r : ℕ) → Turned v w (HasDone round) (Becomes round) r x y)) (sym c.in-SyncBodies.is)
    (bodies_synced v w x y c.sync.result yes room refl call.place call.ready call.syncs call.is_synced call.state)

pub returns-in-OpenGates-clause-turned : goal.returns-in-OpenGates-clause-turned
returns-in-OpenGates-clause-turned g c =
    let view = g.D.Disk.disk in
    let v = view c.args.disk.now in
    let w = view c.open_gates.new.disk in
    let x = c.args.self.now in
    let y : RegionJournal = record { journal = c.open_gates.new.self; appended = x.appended } in
    let yes : IsTrue x.appended = grind (arith, c.if-not-self.false) in
    let room : Before OpenGates x.journal = subst (λ round. Before round x.journal) c.in-OpenGates.is (c.requires.goes_on yes) in
    let call = c.open_gates.ensures in
    subst (λ round. OnOk c.open_gates.result ((r : ℕ) → Turned v w (HasDone round) (Becomes round) r x y)) (sym c.in-OpenGates.is)
    (gates_opened v w x y c.open_gates.result yes room refl call.place call.ready call.syncs call.state)

pub returns-in_ok-sync-in-SyncGates-clause-turned : goal.returns-in_ok-sync-in-SyncGates-clause-turned
returns-in_ok-sync-in-SyncGates-clause-turned g c r =
    let view = g.D.Disk.disk in
    let v = view c.args.disk.now in
    let w = view c.sync-in-SyncGates.new.disk in
    let x = c.args.self.now in
    let y : RegionJournal = record { journal = c.sync-in-SyncGates.new.self; appended = false } in
    let yes : IsTrue x.appended = grind (arith, c.if-not-self.false) in
    let call = c.in_ok-sync-in-SyncGates.ensures in
    subst (λ round. Turned v w (HasDone round) (Becomes round) r x y) (sym c.in-SyncGates.is)
    (gates_synced v w x y yes refl c.sync-in-SyncGates.ensures.place call.ready call.syncs call.state r)

pub returns-then-not-self-clause-turned : goal.returns-then-not-self-clause-turned
returns-then-not-self-clause-turned g c r =
    left_alone (g.D.Disk.disk c.args.disk.now) c.args.round c.args.self.now (grind (arith, c.if-not-self.true)) c.requires.ready r

pub returns-then-not-self-clause-any_moment : goal.returns-then-not-self-clause-any_moment
returns-then-not-self-clause-any_moment g c hard waiting has = none_done (g.D.Disk.disk c.args.disk.now) c.args.round c.args.self.now hard waiting has

pub returns-then-not-self-clause-frame : goal.returns-then-not-self-clause-frame
returns-then-not-self-clause-frame g c = others_same (Only c.args.self.now.journal.gated.file) (g.D.Disk.disk c.args.disk.now)
