use Rattle.std.proofs.Common.{◌∙◌}
use Rattle.jnl_file.specs.Records.{synced, opened}
use Rattle.jnl_file.proofs.Steps.{before_opening, then_hardening}
use Rattle.jnl_file.proofs.journal.Journal.harden.Goals as goal

pub returns-in_err-sync-clause-any_moment : goal.returns-in_err-sync-clause-any_moment
returns-in_err-sync-clause-any_moment g c s has =
    let view = g.D.Disk.disk in
    before_opening (view c.args.disk.now) (view c.sync.new.disk) c.args.self.now.gated.file s (c.sync.ensures.any_moment s has)

pub returns-in_err-open_gates-clause-any_moment : goal.returns-in_err-open_gates-clause-any_moment
returns-in_err-open_gates-clause-any_moment g c s has =
    let view = g.D.Disk.disk in
    let v = view c.args.disk.now in
    let file = c.args.self.now.gated.file in
    let first = before_opening v (view c.sync.new.disk) file s (c.sync.ensures.any_moment s has) in
    then_hardening v (view c.sync.new.disk) (view c.open_gates.new.disk) file c.sync.new.self.gated.file s (g.met.D.Disk.lawful c.sync.new.disk) c.sync.ensures.place.file first
    (c.open_gates.ensures.any_moment (synced s) (c.in_ok-sync.ensures.state s has))

pub returns-clause-any_moment : goal.returns-clause-any_moment
returns-clause-any_moment g c s has =
    let view = g.D.Disk.disk in
    let v = view c.args.disk.now in
    let file = c.args.self.now.gated.file in
    let one = c.in_ok-sync.ensures.state s has in
    let first = before_opening v (view c.sync.new.disk) file s (c.sync.ensures.any_moment s has) in
    let second = then_hardening v (view c.sync.new.disk) (view c.open_gates.new.disk) file c.sync.new.self.gated.file s (g.met.D.Disk.lawful c.sync.new.disk) c.sync.ensures.place.file first
    (c.open_gates.ensures.any_moment (synced s) one) in
    then_hardening v (view c.open_gates.new.disk) (view c.sync-2.new.disk) file c.open_gates.new.self.gated.file s (g.met.D.Disk.lawful c.open_gates.new.disk) (c.open_gates.ensures.place.file ∙ c.sync.ensures.place.file) second
    (c.sync-2.ensures.any_moment (opened (synced s)) (c.in_ok-open_gates.ensures.state (synced s) one))
