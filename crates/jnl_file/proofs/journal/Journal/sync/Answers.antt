use Rattle.std.proofs.Common.{◌∙◌}
use Rattle.disk_defs.specs.Frames.{Only}
use Rattle.gated_file.specs.State as bodies
use Rattle.jnl_file.specs.Records.{synced}
use Rattle.jnl_file.specs.declared.journal.Journal.{Journal}
use Rattle.jnl_file.proofs.Steps.{bodies_of, step, ready_step, moments_of, bodies_synced}
use Rattle.jnl_file.proofs.journal.Journal.sync.Goals as goal

pub returns-in_err-sync-clause-any_moment : goal.returns-in_err-sync-clause-any_moment
returns-in_err-sync-clause-any_moment g c s has =
    let view = g.D.Disk.disk in
    let v = view c.args.disk.now in
    let b = bodies_of v c.args.self.now s has in
    moments_of v (view c.sync.new.disk) c.args.self.now.gated.file b.bodies.hard b.bodies.opening s.hard s.opening b.are.hard b.are.opening (c.sync.ensures.any_moment b.bodies b.has)

pub returns-clause-any_moment : goal.returns-clause-any_moment
returns-clause-any_moment g c s has =
    let view = g.D.Disk.disk in
    let v = view c.args.disk.now in
    let b = bodies_of v c.args.self.now s has in
    moments_of v (view c.sync.new.disk) c.args.self.now.gated.file b.bodies.hard b.bodies.opening s.hard s.opening b.are.hard b.are.opening (c.sync.ensures.any_moment b.bodies b.has)

pub returns-clause-state : goal.returns-clause-state
returns-clause-state g c s has =
    let view = g.D.Disk.disk in
    let j = c.args.self.now in
    let k : Journal = record j { gated = c.sync.new.self } in
    step (view c.args.disk.now) (view c.sync.new.disk) j k s (synced s) bodies.synced c.in_ok-sync.ensures.synced (λ b are. bodies_synced b s are) has

pub returns-clause-ready : goal.returns-clause-ready
returns-clause-ready g c =
    let view = g.D.Disk.disk in
    let v = view c.args.disk.now in
    let w = view c.sync.new.disk in
    let j = c.args.self.now in
    let k : Journal = record j { gated = c.sync.new.self } in
    ready_step v w j k (Only j.gated.file) c.sync.ensures.frame (c.sync.ensures.file ∙ c.requires.ready.file) c.in_ok-sync.ensures.ready
    (λ s has. (synced s, step v w j k s (synced s) bodies.synced c.in_ok-sync.ensures.synced (λ b are. bodies_synced b s are) has)) c.requires.ready
