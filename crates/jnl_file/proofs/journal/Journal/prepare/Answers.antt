use Rattle.std.proofs.Common.{◌∙◌}
use Rattle.disk_defs.specs.Frames.{Only}
use Rattle.jnl_file.specs.declared.journal.Journal.{Journal}
use Rattle.jnl_file.proofs.Steps.{step, ready_step}
use Rattle.jnl_file.proofs.journal.Journal.prepare.Goals as goal

pub returns-in_err-reserve-clause-state : goal.returns-in_err-reserve-clause-state
returns-in_err-reserve-clause-state g c s has =
    let view = g.D.Disk.disk in
    let j = c.args.self.now in
    let k : Journal = record j { gated = c.reserve.new.self; spare = c.replace-body.new.dest } in
    step (view c.args.disk.now) (view c.reserve.new.disk) j k s s (λ b. b) c.reserve.ensures.state (λ b are. are) has

pub returns-in_err-reserve-clause-ready : goal.returns-in_err-reserve-clause-ready
returns-in_err-reserve-clause-ready g c =
    let view = g.D.Disk.disk in
    let v = view c.args.disk.now in
    let w = view c.reserve.new.disk in
    let j = c.args.self.now in
    let k : Journal = record j { gated = c.reserve.new.self; spare = c.replace-body.new.dest } in
    ready_step v w j k (Only j.gated.file) c.reserve.ensures.frame (c.reserve.ensures.file ∙ c.requires.ready.file) c.reserve.ensures.ready
    (λ s has. (s, step v w j k s s (λ b. b) c.reserve.ensures.state (λ b are. are) has)) c.requires.ready

pub returns-clause-state : goal.returns-clause-state
returns-clause-state g c s has =
    let view = g.D.Disk.disk in
    let j = c.args.self.now in
    let k : Journal = record { gated = c.reserve.new.self; region = j.region; generation = j.generation; body = c.replace.new.dest; spare = c.replace.result } in
    step (view c.args.disk.now) (view c.reserve.new.disk) j k s s (λ b. b) c.reserve.ensures.state (λ b are. are) has

pub returns-clause-ready : goal.returns-clause-ready
returns-clause-ready g c =
    let view = g.D.Disk.disk in
    let v = view c.args.disk.now in
    let w = view c.reserve.new.disk in
    let j = c.args.self.now in
    let k : Journal = record { gated = c.reserve.new.self; region = j.region; generation = j.generation; body = c.replace.new.dest; spare = c.replace.result } in
    ready_step v w j k (Only j.gated.file) c.reserve.ensures.frame (c.reserve.ensures.file ∙ c.requires.ready.file) c.reserve.ensures.ready
    (λ s has. (s, step v w j k s s (λ b. b) c.reserve.ensures.state (λ b are. are) has)) c.requires.ready
