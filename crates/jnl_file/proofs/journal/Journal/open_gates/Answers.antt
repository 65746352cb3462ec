use Rattle.std.proofs.Common.{◌∙◌, ◌++◌}
use Rattle.disk_defs.specs.Frames.{Only}
use Rattle.gated_file.specs.State as bodies
use Rattle.jnl_file.specs.Records.{opened}
use Rattle.jnl_file.specs.declared.journal.Journal.{Journal}
use Rattle.jnl_file.proofs.Steps.{bodies_of, step, ready_step, moments_of, bodies_opened}
use Rattle.jnl_file.proofs.journal.Journal.open_gates.Goals as goal

pub returns-in_err-open_gates-clause-any_moment : goal.returns-in_err-open_gates-clause-any_moment
returns-in_err-open_gates-clause-any_moment g c s has =
    let view = g.D.Disk.disk in
    let v = view c.args.disk.now in
    let b = bodies_of v c.args.self.now s has in
    moments_of v (view c.open_gates.new.disk) c.args.self.now.gated.file b.bodies.hard (b.bodies.opening ++ b.bodies.closed) s.hard (s.opening ++ s.closed) b.are.hard (bodies_opened b.bodies s b.are).opening (c.open_gates.ensures.any_moment b.bodies b.has)

pub returns-clause-any_moment : goal.returns-clause-any_moment
returns-clause-any_moment g c s has =
    let view = g.D.Disk.disk in
    let v = view c.args.disk.now in
    let b = bodies_of v c.args.self.now s has in
    moments_of v (view c.open_gates.new.disk) c.args.self.now.gated.file b.bodies.hard (b.bodies.opening ++ b.bodies.closed) s.hard (s.opening ++ s.closed) b.are.hard (bodies_opened b.bodies s b.are).opening (c.open_gates.ensures.any_moment b.bodies b.has)

pub returns-clause-state : goal.returns-clause-state
returns-clause-state g c s has =
    let view = g.D.Disk.disk in
    let j = c.args.self.now in
    let k : Journal = record j { gated = c.open_gates.new.self } in
    step (view c.args.disk.now) (view c.open_gates.new.disk) j k s (opened s) bodies.opened_all c.in_ok-open_gates.ensures.opened (λ b are. bodies_opened b s are) has

pub returns-clause-ready : goal.returns-clause-ready
returns-clause-ready g c =
    let view = g.D.Disk.disk in
    let v = view c.args.disk.now in
    let w = view c.open_gates.new.disk in
    let j = c.args.self.now in
    let k : Journal = record j { gated = c.open_gates.new.self } in
    ready_step v w j k (Only j.gated.file) c.open_gates.ensures.frame (c.open_gates.ensures.file ∙ c.requires.ready.file) c.in_ok-open_gates.ensures.ready
    (λ s has. (opened s, step v w j k s (opened s) bodies.opened_all c.in_ok-open_gates.ensures.opened (λ b are. bodies_opened b s are) has)) c.requires.ready
