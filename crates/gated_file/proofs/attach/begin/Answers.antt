use Rattle.disk_defs.proofs.Moments.{passed}
use Rattle.disk_defs.proofs.Told.{weaker_told}
use Rattle.gated_file.proofs.Begins.{Empty, empty_of, written_moments, synced_moments}
use Rattle.gated_file.proofs.attach.begin.Goals as goal

pub returns-in_err-write_at-clause-any_moment : goal.returns-in_err-write_at-clause-any_moment
returns-in_err-write_at-clause-any_moment g c =
    let view = g.D.Disk.disk in
    let v = view c.args.disk.now in
    weaker_told v.content (Empty v c.args.file) _ (empty_of v c.args.file _ c.requires.durable c.requires.empty c.in_ok-has_closed_gate.ensures.value c.if-branch.false)
    (λ files empty. written_moments v (view c.has_closed_gate.new.disk) (view c.write_at.new.self) c.args.file c.has_closed_gate.ensures.reads c.write_at.ensures.passes files empty)

pub returns-in_err-sync-clause-any_moment : goal.returns-in_err-sync-clause-any_moment
returns-in_err-sync-clause-any_moment g c =
    let view = g.D.Disk.disk in
    let v = view c.args.disk.now in
    weaker_told v.content (Empty v c.args.file) _ (empty_of v c.args.file _ c.requires.durable c.requires.empty c.in_ok-has_closed_gate.ensures.value c.if-branch.false)
    (λ files empty. synced_moments v (view c.has_closed_gate.new.disk) (view c.write_at.new.self) c.args.file c.has_closed_gate.ensures.reads c.write_at.ensures.passes (view c.sync.new.self) files empty (g.met.D.Disk.lawful c.write_at.new.self)
    (passed (view c.write_at.new.self) (view c.sync.new.self) c.sync.ensures.passes))

pub returns-clause-any_moment : goal.returns-clause-any_moment
returns-clause-any_moment g c =
    let view = g.D.Disk.disk in
    let v = view c.args.disk.now in
    weaker_told v.content (Empty v c.args.file) _ (empty_of v c.args.file _ c.requires.durable c.requires.empty c.in_ok-has_closed_gate.ensures.value c.if-branch.false)
    (λ files empty. synced_moments v (view c.has_closed_gate.new.disk) (view c.write_at.new.self) c.args.file c.has_closed_gate.ensures.reads c.write_at.ensures.passes (view c.sync.new.self) files empty (g.met.D.Disk.lawful c.write_at.new.self)
    (passed (view c.write_at.new.self) (view c.sync.new.self) c.sync.ensures.passes))
