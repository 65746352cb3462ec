use Rattle.std.proofs.Common.{ℕ, List, ◌∙◌, sym, subst}
use Rattle.disk_defs.specs.Frames.{Only}
use Rattle.journal_defs.specs.Journal.{IsJournalBody}
use Rattle.gated_file.specs.State as bodies
use Rattle.jnl_file.specs.Records.{appended}
use Rattle.jnl_file.specs.declared.journal.Journal.{Journal}
use Rattle.jnl_file.proofs.Steps.{bodies_of, step, ready_step, moments_of, bodies_appended}
use Rattle.jnl_file.proofs.journal.Journal.append.Goals as goal

pub returns-in_err-append_body-clause-any_moment : goal.returns-in_err-append_body-clause-any_moment
returns-in_err-append_body-clause-any_moment g c s has =
    let view = g.D.Disk.disk in
    let b = bodies_of (view c.args.disk.now) c.args.self.now s has in
    moments_of (view c.args.disk.now) (view c.append_body.new.disk) c.args.self.now.gated.file b.bodies.hard b.bodies.opening s.hard s.opening b.are.hard b.are.opening (c.append_body.ensures.any_moment b.bodies b.has)

pub returns-clause-any_moment : goal.returns-clause-any_moment
returns-clause-any_moment g c s has =
    let view = g.D.Disk.disk in
    let b = bodies_of (view c.args.disk.now) c.args.self.now s has in
    moments_of (view c.args.disk.now) (view c.append_body.new.disk) c.args.self.now.gated.file b.bodies.hard b.bodies.opening s.hard s.opening b.are.hard b.are.opening (c.append_body.ensures.any_moment b.bodies b.has)

pub returns-clause-state : goal.returns-clause-state
returns-clause-state g c r s prepared has =
    let view = g.D.Disk.disk in
    let body : IsJournalBody c.as_slice.result.now r = subst (λ (l : List ℕ). IsJournalBody l r) (sym c.as_slice.ensures) prepared.spelled in
    step (view c.args.disk.now) (view c.append_body.new.disk) c.args.self.now (record c.args.self.now { gated = c.append_body.new.self }) s (appended s r)
    (λ b. bodies.appended b c.as_slice.result.now) c.in_ok-append_body.ensures.appended (λ b are. bodies_appended b s c.as_slice.result.now r are body) has

pub returns-clause-ready : goal.returns-clause-ready
returns-clause-ready g c =
    let view = g.D.Disk.disk in
    let r = c.requires.prepared.0 in
    let prepared = c.requires.prepared.1 in
    let j = c.args.self.now in
    let k : Journal = record j { gated = c.append_body.new.self } in
    let body : IsJournalBody c.as_slice.result.now r = subst (λ (l : List ℕ). IsJournalBody l r) (sym c.as_slice.ensures) prepared.spelled in
    ready_step (view c.args.disk.now) (view c.append_body.new.disk) j k (Only j.gated.file) c.append_body.ensures.frame (c.append_body.ensures.file ∙ c.requires.ready.file) c.in_ok-append_body.ensures.ready
    (λ s has. (
      appended s r,
      step (view c.args.disk.now) (view c.append_body.new.disk) j k s (appended s r)
          (λ b. bodies.appended b c.as_slice.result.now) c.in_ok-append_body.ensures.appended (λ b are. bodies_appended b s c.as_slice.result.now r are body) has,
    ))
    c.requires.ready
