use Rattle.std.proofs.Common.{rules, true, length}
use Rattle.global_defs.specs.Evaluation.{eval}
use Rattle.gvn_model.specs.Jobs.{job_value}
use Rattle.site_defs.specs.Fronts.{with_sequence}
use Rattle.repl_section.specs.Replies.{named}
use Rattle.repl_section.specs.Reigns.{stamp_of}
use Rattle.repl_section.specs.Deciding.{outcome}
use Rattle.repl_section.proofs.Replied.{still_may_have, still_leaves}
use Rattle.repl_section.proofs.Settled.{quiet_or_appends, not_both, named_appends, settled, stands_quietly, settled_may_have, settled_leaves}
use Rattle.repl_section.proofs.reign.Reign.settle.Goals as goal
use Rattle.region_store.specs.Joined.{joined}
use Rattle.site_store.specs.Owning.{disk_of, memory_of}

pub returns-in_err-decision-clause-may_have : goal.returns-in_err-decision-clause-may_have
returns-in_err-decision-clause-may_have g c x r = still_may_have (g.D.Disk.disk (disk_of c.decide.new.self.site)) x _ (c.decide.ensures.stands x (length x.sequence) r)

pub returns-in_err-decision-clause-leaves : goal.returns-in_err-decision-clause-leaves
returns-in_err-decision-clause-leaves g c x r = still_leaves (g.D.Disk.disk (disk_of c.decide.new.self.site)) x _ (c.decide.ensures.stands x (length x.sequence) r)

pub returns-in_err-decision-clause-appends : goal.returns-in_err-decision-clause-appends
returns-in_err-decision-clause-appends g c failed told x r =
    let given = c.from_residual.ensures in
    c.in_err-decision.ensures.appends (search rules) told x (length x.sequence) r

pub returns-in_err-harden_for-clause-appends : goal.returns-in_err-harden_for-clause-appends
returns-in_err-harden_for-clause-appends g c failed told x r =
    let mid = g.D.Disk.disk (disk_of c.decide.new.self.site) in
    let w = g.D.Disk.disk (disk_of c.harden_for.new.self.site) in
    let t = outcome (stamp_of c.args.self.now) c.args.self.now.serials x.sequence c.args.updater (eval (job_value c.args.job) (joined (memory_of c.args.self.now.site).globals)) in
    let either = quiet_or_appends (stamp_of c.args.self.now) c.args.self.now.serials x.sequence c.args.updater (eval (job_value c.args.job) (joined (memory_of c.args.self.now.site).globals)) in
    let d = c.in_ok-decision.decision in
    let comes = c.in_ok-decision.ensures.done told x (length x.sequence) r in
    named_appends x.sequence t d either comes.reply c.in_err-harden_for.ensures.waited

pub returns-in_err-harden_for-clause-may_have : goal.returns-in_err-harden_for-clause-may_have
returns-in_err-harden_for-clause-may_have g c x r =
    let mid = g.D.Disk.disk (disk_of c.decide.new.self.site) in
    let w = g.D.Disk.disk (disk_of c.harden_for.new.self.site) in
    let t = outcome (stamp_of c.args.self.now) c.args.self.now.serials x.sequence c.args.updater (eval (job_value c.args.job) (joined (memory_of c.args.self.now.site).globals)) in
    let either = quiet_or_appends (stamp_of c.args.self.now) c.args.self.now.serials x.sequence c.args.updater (eval (job_value c.args.job) (joined (memory_of c.args.self.now.site).globals)) in
    let d = c.in_ok-decision.decision in
    let comes = c.in_ok-decision.ensures.done true x (length x.sequence) r in
    settled_may_have w x t d either comes.reply (c.harden_for.ensures.still_told (c.decide.ensures.stands x (length x.sequence) r).told)
    (λ some. c.harden_for.ensures.images some (with_sequence x t.sequence) (length x.sequence) comes.open_site)
    (λ none. absurd (not_both (named d.reply) c.in_err-harden_for.ensures.waited none))

pub returns-in_err-harden_for-clause-leaves : goal.returns-in_err-harden_for-clause-leaves
returns-in_err-harden_for-clause-leaves g c x r =
    let mid = g.D.Disk.disk (disk_of c.decide.new.self.site) in
    let w = g.D.Disk.disk (disk_of c.harden_for.new.self.site) in
    let t = outcome (stamp_of c.args.self.now) c.args.self.now.serials x.sequence c.args.updater (eval (job_value c.args.job) (joined (memory_of c.args.self.now.site).globals)) in
    let either = quiet_or_appends (stamp_of c.args.self.now) c.args.self.now.serials x.sequence c.args.updater (eval (job_value c.args.job) (joined (memory_of c.args.self.now.site).globals)) in
    let d = c.in_ok-decision.decision in
    let comes = c.in_ok-decision.ensures.done true x (length x.sequence) r in
    settled_leaves w x t d either comes.reply (λ some. c.harden_for.ensures.left some (with_sequence x t.sequence) (length x.sequence) comes.open_site)
    (λ none. absurd (not_both (named d.reply) c.in_err-harden_for.ensures.waited none))

pub returns-in_err-release-clause-may_have : goal.returns-in_err-release-clause-may_have
returns-in_err-release-clause-may_have g c x r =
    let mid = g.D.Disk.disk (disk_of c.decide.new.self.site) in
    let w = g.D.Disk.disk (disk_of c.harden_for.new.self.site) in
    let t = outcome (stamp_of c.args.self.now) c.args.self.now.serials x.sequence c.args.updater (eval (job_value c.args.job) (joined (memory_of c.args.self.now.site).globals)) in
    let either = quiet_or_appends (stamp_of c.args.self.now) c.args.self.now.serials x.sequence c.args.updater (eval (job_value c.args.job) (joined (memory_of c.args.self.now.site).globals)) in
    let d = c.in_ok-decision.decision in
    let comes = c.in_ok-decision.ensures.done true x (length x.sequence) r in
    settled_may_have w x t d either comes.reply (c.harden_for.ensures.still_told (c.decide.ensures.stands x (length x.sequence) r).told)
    (λ some. c.harden_for.ensures.images some (with_sequence x t.sequence) (length x.sequence) comes.open_site)
    (stands_quietly w x t d (memory_of c.harden_for.new.self.site) (c.in_ok-harden_for.ensures.done true (with_sequence x t.sequence) (length x.sequence) comes.open_site))

pub returns-in_err-release-clause-leaves : goal.returns-in_err-release-clause-leaves
returns-in_err-release-clause-leaves g c x r =
    let mid = g.D.Disk.disk (disk_of c.decide.new.self.site) in
    let w = g.D.Disk.disk (disk_of c.harden_for.new.self.site) in
    let t = outcome (stamp_of c.args.self.now) c.args.self.now.serials x.sequence c.args.updater (eval (job_value c.args.job) (joined (memory_of c.args.self.now.site).globals)) in
    let either = quiet_or_appends (stamp_of c.args.self.now) c.args.self.now.serials x.sequence c.args.updater (eval (job_value c.args.job) (joined (memory_of c.args.self.now.site).globals)) in
    let d = c.in_ok-decision.decision in
    let comes = c.in_ok-decision.ensures.done true x (length x.sequence) r in
    settled_leaves w x t d either comes.reply (λ some. c.harden_for.ensures.left some (with_sequence x t.sequence) (length x.sequence) comes.open_site)
    (stands_quietly w x t d (memory_of c.harden_for.new.self.site) (c.in_ok-harden_for.ensures.done true (with_sequence x t.sequence) (length x.sequence) comes.open_site))

pub returns-clause-may_have : goal.returns-clause-may_have
returns-clause-may_have g c x r =
    let mid = g.D.Disk.disk (disk_of c.decide.new.self.site) in
    let w = g.D.Disk.disk (disk_of c.harden_for.new.self.site) in
    let t = outcome (stamp_of c.args.self.now) c.args.self.now.serials x.sequence c.args.updater (eval (job_value c.args.job) (joined (memory_of c.args.self.now.site).globals)) in
    let either = quiet_or_appends (stamp_of c.args.self.now) c.args.self.now.serials x.sequence c.args.updater (eval (job_value c.args.job) (joined (memory_of c.args.self.now.site).globals)) in
    let d = c.in_ok-decision.decision in
    let comes = c.in_ok-decision.ensures.done true x (length x.sequence) r in
    settled_may_have w x t d either comes.reply (c.harden_for.ensures.still_told (c.decide.ensures.stands x (length x.sequence) r).told)
    (λ some. c.harden_for.ensures.images some (with_sequence x t.sequence) (length x.sequence) comes.open_site)
    (stands_quietly w x t d (memory_of c.harden_for.new.self.site) (c.in_ok-harden_for.ensures.done true (with_sequence x t.sequence) (length x.sequence) comes.open_site))

pub returns-clause-leaves : goal.returns-clause-leaves
returns-clause-leaves g c x r =
    let mid = g.D.Disk.disk (disk_of c.decide.new.self.site) in
    let w = g.D.Disk.disk (disk_of c.harden_for.new.self.site) in
    let t = outcome (stamp_of c.args.self.now) c.args.self.now.serials x.sequence c.args.updater (eval (job_value c.args.job) (joined (memory_of c.args.self.now.site).globals)) in
    let either = quiet_or_appends (stamp_of c.args.self.now) c.args.self.now.serials x.sequence c.args.updater (eval (job_value c.args.job) (joined (memory_of c.args.self.now.site).globals)) in
    let d = c.in_ok-decision.decision in
    let comes = c.in_ok-decision.ensures.done true x (length x.sequence) r in
    settled_leaves w x t d either comes.reply (λ some. c.harden_for.ensures.left some (with_sequence x t.sequence) (length x.sequence) comes.open_site)
    (stands_quietly w x t d (memory_of c.harden_for.new.self.site) (c.in_ok-harden_for.ensures.done true (with_sequence x t.sequence) (length x.sequence) comes.open_site))

pub returns-clause-done : goal.returns-clause-done
returns-clause-done g c told x r =
    let mid = g.D.Disk.disk (disk_of c.decide.new.self.site) in
    let w = g.D.Disk.disk (disk_of c.harden_for.new.self.site) in
    let t = outcome (stamp_of c.args.self.now) c.args.self.now.serials x.sequence c.args.updater (eval (job_value c.args.job) (joined (memory_of c.args.self.now.site).globals)) in
    let either = quiet_or_appends (stamp_of c.args.self.now) c.args.self.now.serials x.sequence c.args.updater (eval (job_value c.args.job) (joined (memory_of c.args.self.now.site).globals)) in
    let d = c.in_ok-decision.decision in
    let comes = c.in_ok-decision.ensures.done told x (length x.sequence) r in
    settled mid w told x t d c.decide.new.self c.harden_for.new.self (g.S.ReplySink.gave c.args.sink.now c.release.new.sink) either comes
    (c.in_ok-harden_for.ensures.done told (with_sequence x t.sequence) (length x.sequence) comes.open_site) c.harden_for.ensures.serials c.in_ok-release.ensures
