use Rattle.repl_section.proofs.Standing.{stays_at}
use Rattle.repl_section.proofs.Replied.{commit_done, commit_entered}
use Rattle.repl_section.proofs.reign.Reign.commit.Goals as goal
use Rattle.site_store.specs.Owning.{disk_of, memory_of}

pub returns-then-not-all_fit-clause-stands : goal.returns-then-not-all_fit-clause-stands
returns-then-not-all_fit-clause-stands g c x h r = stays_at (g.D.Disk.disk (disk_of c.args.self.now.site)) x h (memory_of c.args.self.now.site) r

pub returns-clause-done : goal.returns-clause-done
returns-clause-done g c told x h r =
    commit_done g.D.Disk.disk told x h c.args.self.now c.enter.new.self c.answer.new.self c.args.origin.updater c.args.origin.serial c.in_ok-number.number c.args.updates c.args.answers c.answer.result
    r c.requires.reign c.requires.some c.requires.room c.requires.serial c.in_ok-number.ensures.number (c.in_ok-number.ensures.done told x h r) c.enter.ensures.serials c.answer.ensures.same c.answer.ensures.serials c.answer.ensures.decision

pub returns-clause-entered : goal.returns-clause-entered
returns-clause-entered g c =
    commit_entered c.args.self.now c.enter.new.self c.answer.new.self c.args.origin.updater c.args.origin.serial c.in_ok-number.number c.args.answers c.answer.result c.in_ok-number.ensures.number c.in_ok-number.ensures.grown c.answer.ensures.same
    c.answer.ensures.decision
