use Rattle.std.proofs.Common.{[]}
use Rattle.disk_defs.specs.Frames.{Only}
use Rattle.journal_defs.specs.Numbers.{INSTANCE}
use Rattle.instance_file.proofs.Making.{none_yet, ready_made}
use Rattle.instance_file.proofs.instance.Instance.empty.Goals as goal

pub returns-clause-state : goal.returns-clause-state
returns-clause-state g c =
    let view = g.D.Disk.disk in
    none_yet (view c.args.disk.now).content (view c.fresh.new.disk) _ c.new.ensures c.in_ok-gated.ensures.file c.in_ok-gated.ensures.state

pub returns-clause-ready : goal.returns-clause-ready
returns-clause-ready g c =
    let view = g.D.Disk.disk in
    let u = view c.args.disk.now in
    let w = view c.fresh.new.disk in
    ready_made u w (Only INSTANCE) _ [] c.fresh.ensures.frame c.in_ok-gated.ensures.file c.in_ok-gated.ensures.ready c.new.ensures
    (none_yet u.content w _ c.new.ensures c.in_ok-gated.ensures.file c.in_ok-gated.ensures.state)
