use Rattle.std.proofs.Common.{◌∷◌, [], ◌++◌, refl, ◌∙◌}
use Rattle.disk_defs.specs.Frames.{Only}
use Rattle.gated_file.proofs.Open.{others_next}
use Rattle.gated_file.specs.State.{settled}
use Rattle.instance_file.specs.Values.{record_value}
use Rattle.instance_file.proofs.Sizes.{body_size}
use Rattle.instance_file.proofs.States.{bodies_of, records_stay, records_more, ready_of, quiet, put_moments, order_at}
use Rattle.instance_file.proofs.instance.Instance.append.Goals as goal

pub returns-in_err-reserve-clause-no_memory_state : goal.returns-in_err-reserve-clause-no_memory_state
returns-in_err-reserve-clause-no_memory_state g c memory rs has =
    let view = g.D.Disk.disk in
    records_stay (view c.args.disk.now) (view c.reserve.new.disk) c.args.self.now _ rs refl c.reserve.ensures.file c.reserve.ensures.state has

pub returns-in_err-reserve-clause-no_memory_ready : goal.returns-in_err-reserve-clause-no_memory_ready
returns-in_err-reserve-clause-no_memory_ready g c memory =
    let view = g.D.Disk.disk in
    let i = c.args.self.now in
    ready_of (view c.args.disk.now) (view c.reserve.new.disk) i _ (Only i.gated.file) c.reserve.ensures.frame (c.reserve.ensures.file ∙ c.requires.ready.file) c.reserve.ensures.ready
    (λ has. (i.records, refl, records_stay (view c.args.disk.now) (view c.reserve.new.disk) i _ i.records refl c.reserve.ensures.file c.reserve.ensures.state has)) c.requires.ready

pub returns-in_err-reserve-clause-any_moment : goal.returns-in_err-reserve-clause-any_moment
returns-in_err-reserve-clause-any_moment g c rs has =
    let view = g.D.Disk.disk in
    quiet (view c.args.disk.now) (view c.reserve.new.disk) c.args.self.now rs (record_value c.args.added) has c.reserve.ensures.any_moment

pub returns-in_err-push-clause-no_memory_state : goal.returns-in_err-push-clause-no_memory_state
returns-in_err-push-clause-no_memory_state g c memory rs has =
    let view = g.D.Disk.disk in
    records_stay (view c.args.disk.now) (view c.reserve.new.disk) c.args.self.now _ rs c.in_err-push.ensures.err c.reserve.ensures.file c.reserve.ensures.state has

pub returns-in_err-push-clause-no_memory_ready : goal.returns-in_err-push-clause-no_memory_ready
returns-in_err-push-clause-no_memory_ready g c memory =
    let view = g.D.Disk.disk in
    let i = c.args.self.now in
    ready_of (view c.args.disk.now) (view c.reserve.new.disk) i _ (Only i.gated.file) c.reserve.ensures.frame (c.reserve.ensures.file ∙ c.requires.ready.file) c.reserve.ensures.ready
    (λ has. (i.records, c.in_err-push.ensures.err, records_stay (view c.args.disk.now) (view c.reserve.new.disk) i _ i.records c.in_err-push.ensures.err c.reserve.ensures.file c.reserve.ensures.state has)) c.requires.ready

pub returns-in_err-push-clause-any_moment : goal.returns-in_err-push-clause-any_moment
returns-in_err-push-clause-any_moment g c rs has =
    let view = g.D.Disk.disk in
    quiet (view c.args.disk.now) (view c.reserve.new.disk) c.args.self.now rs (record_value c.args.added) has c.reserve.ensures.any_moment

pub put-requires-clause-size : goal.put-requires-clause-size
put-requires-clause-size g c = body_size c.as_slice.result.now (record_value c.args.added) c.requires.form (c.as_slice.ensures ∙ c.in_ok-body.ensures)

pub returns-in-Err-clause-any_moment : goal.returns-in-Err-clause-any_moment
returns-in-Err-clause-any_moment g c rs has =
    let view = g.D.Disk.disk in
    let v = view c.args.disk.now in
    let w = view c.reserve.new.disk in
    let i = c.args.self.now in
    let x = record_value c.args.added in
    let b = bodies_of v i rs has in
    put_moments v w (view c.put.new.disk) c.reserve.new.self.file b.bodies c.as_slice.result.now rs x (g.met.D.Disk.lawful c.reserve.new.disk) (c.reserve.ensures.file ∙ b.file) b.are
    (record { form = c.requires.form; spelled = c.as_slice.ensures ∙ c.in_ok-body.ensures }) b.order (order_at i.records rs x b.kept c.requires.order)
    (quiet v w i rs x has c.reserve.ensures.any_moment) (c.put.ensures.any_moment b.bodies (c.reserve.ensures.state (settled b.bodies) b.has))

pub returns-clause-any_moment : goal.returns-clause-any_moment
returns-clause-any_moment g c rs has =
    let view = g.D.Disk.disk in
    let v = view c.args.disk.now in
    let w = view c.reserve.new.disk in
    let i = c.args.self.now in
    let x = record_value c.args.added in
    let b = bodies_of v i rs has in
    put_moments v w (view c.put.new.disk) c.reserve.new.self.file b.bodies c.as_slice.result.now rs x (g.met.D.Disk.lawful c.reserve.new.disk) (c.reserve.ensures.file ∙ b.file) b.are
    (record { form = c.requires.form; spelled = c.as_slice.ensures ∙ c.in_ok-body.ensures }) b.order (order_at i.records rs x b.kept c.requires.order)
    (quiet v w i rs x has c.reserve.ensures.any_moment) (c.put.ensures.any_moment b.bodies (c.reserve.ensures.state (settled b.bodies) b.has))

pub returns-clause-state : goal.returns-clause-state
returns-clause-state g c rs has =
    let view = g.D.Disk.disk in
    let i = c.args.self.now in
    let x = record_value c.args.added in
    let b = bodies_of (view c.args.disk.now) i rs has in
    records_more (view c.args.disk.now) (view c.put.new.disk) i _ rs x c.as_slice.result.now c.in_ok-push.ensures.ok (c.put.ensures.file ∙ c.reserve.ensures.file)
    (λ bodies one. c.in_default.ensures.state bodies (c.reserve.ensures.state (settled bodies) one)) (record { form = c.requires.form; spelled = c.as_slice.ensures ∙ c.in_ok-body.ensures }) (order_at i.records rs x b.kept c.requires.order) has

pub returns-clause-ready : goal.returns-clause-ready
returns-clause-ready g c =
    let view = g.D.Disk.disk in
    let v = view c.args.disk.now in
    let w = view c.put.new.disk in
    let i = c.args.self.now in
    let x = record_value c.args.added in
    let all = others_next v (view c.reserve.new.disk) w i.gated.file c.reserve.new.self.file c.reserve.ensures.file c.reserve.ensures.frame c.put.ensures.frame in
    ready_of v w i _ (Only i.gated.file) all (c.put.ensures.file ∙ c.reserve.ensures.file ∙ c.requires.ready.file) c.in_default.ensures.ready
    (λ has. (
      i.records ++ x ∷ [],
      c.in_ok-push.ensures.ok,
      records_more v w i _ i.records x c.as_slice.result.now c.in_ok-push.ensures.ok (c.put.ensures.file ∙ c.reserve.ensures.file)
          (λ bodies one. c.in_default.ensures.state bodies (c.reserve.ensures.state (settled bodies) one)) (record { form = c.requires.form; spelled = c.as_slice.ensures ∙ c.in_ok-body.ensures }) c.requires.order has,
    ))
    c.requires.ready
