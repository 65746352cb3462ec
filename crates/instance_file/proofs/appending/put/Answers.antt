use Rattle.std.proofs.Common.{◌∙◌}
use Rattle.gated_file.specs.State.{settled, appended, synced, opened_all}
use Rattle.instance_file.proofs.Putting.{put_first, put_then, put_more}
use Rattle.instance_file.proofs.appending.put.Goals as goal

pub returns-in_err-sync-clause-any_moment : goal.returns-in_err-sync-clause-any_moment
returns-in_err-sync-clause-any_moment g c bodies has =
    let view = g.D.Disk.disk in
    let u = view c.args.disk.now in
    let v = view c.append_body.new.disk in
    let file = c.args.gated.now.file in
    let body = c.args.body.now in
    put_then u v (view c.sync.new.disk) file c.append_body.new.self.file bodies body (g.met.D.Disk.lawful c.append_body.new.disk) c.append_body.ensures.file
    (put_first u v file bodies body (c.append_body.ensures.any_moment (settled bodies) has))
    (c.sync.ensures.any_moment (appended (settled bodies) body) (c.in_ok-append_body.ensures.appended (settled bodies) has))

pub returns-in_err-open_gates-clause-any_moment : goal.returns-in_err-open_gates-clause-any_moment
returns-in_err-open_gates-clause-any_moment g c bodies has =
    let view = g.D.Disk.disk in
    let u = view c.args.disk.now in
    let v = view c.append_body.new.disk in
    let w = view c.sync.new.disk in
    let file = c.args.gated.now.file in
    let body = c.args.body.now in
    let one = c.in_ok-append_body.ensures.appended (settled bodies) has in
    let two = c.in_ok-sync.ensures.synced (appended (settled bodies) body) one in
    let second = put_then u v w file c.append_body.new.self.file bodies body (g.met.D.Disk.lawful c.append_body.new.disk) c.append_body.ensures.file
    (put_first u v file bodies body (c.append_body.ensures.any_moment (settled bodies) has))
    (c.sync.ensures.any_moment (appended (settled bodies) body) one) in
    put_more u w (view c.open_gates.new.disk) file c.sync.new.self.file bodies body (g.met.D.Disk.lawful c.sync.new.disk) (c.sync.ensures.file ∙ c.append_body.ensures.file) second
    (c.open_gates.ensures.any_moment (synced (appended (settled bodies) body)) two)

pub returns-clause-any_moment : goal.returns-clause-any_moment
returns-clause-any_moment g c bodies has =
    let view = g.D.Disk.disk in
    let u = view c.args.disk.now in
    let v = view c.append_body.new.disk in
    let w = view c.sync.new.disk in
    let x = view c.open_gates.new.disk in
    let file = c.args.gated.now.file in
    let body = c.args.body.now in
    let one = c.in_ok-append_body.ensures.appended (settled bodies) has in
    let two = c.in_ok-sync.ensures.synced (appended (settled bodies) body) one in
    let three = c.in_ok-open_gates.ensures.opened (synced (appended (settled bodies) body)) two in
    let second = put_then u v w file c.append_body.new.self.file bodies body (g.met.D.Disk.lawful c.append_body.new.disk) c.append_body.ensures.file
    (put_first u v file bodies body (c.append_body.ensures.any_moment (settled bodies) has))
    (c.sync.ensures.any_moment (appended (settled bodies) body) one) in
    let third = put_more u w x file c.sync.new.self.file bodies body (g.met.D.Disk.lawful c.sync.new.disk) (c.sync.ensures.file ∙ c.append_body.ensures.file) second
    (c.open_gates.ensures.any_moment (synced (appended (settled bodies) body)) two) in
    put_more u x (view c.sync-2.new.disk) file c.open_gates.new.self.file bodies body (g.met.D.Disk.lawful c.open_gates.new.disk) (c.open_gates.ensures.file ∙ c.sync.ensures.file ∙ c.append_body.ensures.file) third
    (c.sync-2.ensures.any_moment (opened_all (synced (appended (settled bodies) body))) three)
