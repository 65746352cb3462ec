use Rattle.std.proofs.Common.{◌≡◌, ◌+◌, ◌-◌, ℕ, List, Bool, length, take, get_or, Some, None, refl, sym, ◌∙◌, ap, subst, arith}
use Rattle.std.proofs.Math.Seq.{take-length}
use Rattle.std.specs.Prelude.{IsTrue, Err}
use Rattle.global_defs.specs.Jobs.{Job}
use Rattle.global_defs.specs.Serial.{next_job}
use Rattle.gvn_model.specs.Jobs.{job_value}
use Rattle.site_defs.specs.Fronts.{with_sequence, turn_of}
use Rattle.repl_section.specs.declared.error.DecideError.TheVariants.{Failed}
use Rattle.repl_section.specs.Reigns.{Reigns, stamp_of}
use Rattle.repl_section.specs.Deciding.{MayHave, LeavesPick, HasReached, FailsAt, FailsIn}
use Rattle.repl_section.proofs.Turns.{HasGone, come_to, pick_at, none_decided, one_decided, failed_at, failed_in, left_at}
use Rattle.repl_section.proofs.reign.Reign.run.Goals as goal
use Rattle.site_store.specs.Owning.{disk_of}

pub loop-updater-preserved-in_default : goal.loop-updater-preserved-in_default
loop-updater-preserved-in_default g c =
    let at = c.loop-updater in
    let jobs = g.J.JobSource.jobs c.args.jobs.now in
    let left = g.J.JobSource.jobs at.jobs in
    let gave = g.S.ReplySink.gave c.args.sink.now at.sink in
    let v = g.D.Disk.disk (disk_of at.self.site) in
    let stamp = stamp_of c.args.self.now in
    let u = get_or c.args.order.now at.updater-index 0 in
    let none : next_job u left ≡ None = sym (rw c.in_default.is at c.take_next.ensures.job) in
    record {
      ready = at.invariant.ready;
      reign = at.invariant.reign;
      stamp = at.invariant.stamp;
      enough = omega (arith, at.invariant.enough);
      gone = λ told x r.
          let t = come_to stamp c.args.self.now.serials jobs c.args.order.now (at.updater-index + 1) x.sequence in
          subst (λ (l : List (List Job)). HasGone v stamp told x t l at.undecided (length c.args.order.now) at.self gave) (sym c.take_next.ensures.left)
          (none_decided v stamp told x c.args.self.now.serials jobs left c.args.order.now at.updater-index u at.undecided at.self gave (at.invariant.gone told x r) c.loop-updater-test.true refl none);
      simulated = at.invariant.simulated;
      later = at.invariant.later;
    }

pub returns-in-Err-Failed-clause-breaks : goal.returns-in-Err-Failed-clause-breaks
returns-in-Err-Failed-clause-breaks g c told x r =
    let at = c.loop-updater in
    let jobs = g.J.JobSource.jobs c.args.jobs.now in
    let left = g.J.JobSource.jobs at.jobs in
    let gave = g.S.ReplySink.gave c.args.sink.now at.sink in
    let v = g.D.Disk.disk (disk_of at.self.site) in
    let w = g.D.Disk.disk (disk_of c.settle.new.self.site) in
    let stamp = stamp_of c.args.self.now in
    let order = c.args.order.now in
    let serials = c.args.self.now.serials in
    let u = get_or order at.updater-index 0 in
    let job = job_value c.in-Some.job in
    let next : next_job u left ≡ Some job = sym (rw c.in-Some.is at c.take_next.ensures.job) in
    let t = come_to stamp serials jobs order at.updater-index x.sequence in
    let p = pick_at stamp serials jobs order at.updater-index x at.self u job in
    let h : HasGone v stamp told x t left at.undecided (length order) at.self gave = at.invariant.gone told x r in
    let may : IsTrue told → MayHave w (with_sequence x t.sequence) p.sequence =
    λ k. c.settle.ensures.may_have (with_sequence x t.sequence) (subst (λ (b : Bool). Reigns v b (with_sequence x t.sequence) at.self) k h.reached.reigns) in
    let failed : c.settle.result ≡ Err Failed = c.in-Err-Failed.is ∙ ap Err c.in-Err-Failed.field-0-is in (
      at.updater-index + 1,
      subst (λ y. FailsAt w stamp told x jobs order serials at.undecided (g.S.ReplySink.gave c.args.sink.now y) (at.updater-index + 1)) (sym (c.settle.ensures.untold failed))
          (failed_at v w stamp told x serials jobs left order at.updater-index u job at.undecided at.self gave h c.loop-updater-test.true refl next
          (c.settle.ensures.appends failed told (with_sequence x t.sequence) h.reached.reigns) may),
    )

pub returns-in-Err-Failed-clause-withholds_none : goal.returns-in-Err-Failed-clause-withholds_none
returns-in-Err-Failed-clause-withholds_none g c told x r =
    let at = c.loop-updater in
    let jobs = g.J.JobSource.jobs c.args.jobs.now in
    let left = g.J.JobSource.jobs at.jobs in
    let gave = g.S.ReplySink.gave c.args.sink.now at.sink in
    let v = g.D.Disk.disk (disk_of at.self.site) in
    let w = g.D.Disk.disk (disk_of c.settle.new.self.site) in
    let stamp = stamp_of c.args.self.now in
    let order = c.args.order.now in
    let serials = c.args.self.now.serials in
    let u = get_or order at.updater-index 0 in
    let job = job_value c.in-Some.job in
    let next : next_job u left ≡ Some job = sym (rw c.in-Some.is at c.take_next.ensures.job) in
    let t = come_to stamp serials jobs order at.updater-index x.sequence in
    let p = pick_at stamp serials jobs order at.updater-index x at.self u job in
    let h : HasGone v stamp told x t left at.undecided (length order) at.self gave = at.invariant.gone told x r in
    let may : IsTrue told → MayHave w (with_sequence x t.sequence) p.sequence =
    λ k. c.settle.ensures.may_have (with_sequence x t.sequence) (subst (λ (b : Bool). Reigns v b (with_sequence x t.sequence) at.self) k h.reached.reigns) in
    let leaves : IsTrue told → LeavesPick w (with_sequence x t.sequence) p.sequence =
    λ k. c.settle.ensures.leaves (with_sequence x t.sequence) (subst (λ (b : Bool). Reigns v b (with_sequence x t.sequence) at.self) k h.reached.reigns) in
    let failed : c.settle.result ≡ Err Failed = c.in-Err-Failed.is ∙ ap Err c.in-Err-Failed.field-0-is in
    subst (λ y. FailsIn w stamp told x jobs order serials at.undecided (g.S.ReplySink.gave c.args.sink.now y)) (sym (c.settle.ensures.untold failed))
    (failed_in v w stamp told x serials jobs left order at.updater-index u job at.undecided at.self gave h c.loop-updater-test.true refl next
    (c.settle.ensures.appends failed told (with_sequence x t.sequence) h.reached.reigns) may leaves)

pub returns-in-Err-NoMemory-clause-breaks : goal.returns-in-Err-NoMemory-clause-breaks
returns-in-Err-NoMemory-clause-breaks g c told x r =
    let at = c.loop-updater in
    let jobs = g.J.JobSource.jobs c.args.jobs.now in
    let left = g.J.JobSource.jobs at.jobs in
    let gave = g.S.ReplySink.gave c.args.sink.now at.sink in
    let v = g.D.Disk.disk (disk_of at.self.site) in
    let w = g.D.Disk.disk (disk_of c.settle.new.self.site) in
    let stamp = stamp_of c.args.self.now in
    let order = c.args.order.now in
    let serials = c.args.self.now.serials in
    let u = get_or order at.updater-index 0 in
    let job = job_value c.in-Some.job in
    let next : next_job u left ≡ Some job = sym (rw c.in-Some.is at c.take_next.ensures.job) in
    let t = come_to stamp serials jobs order at.updater-index x.sequence in
    let p = pick_at stamp serials jobs order at.updater-index x at.self u job in
    let h : HasGone v stamp told x t left at.undecided (length order) at.self gave = at.invariant.gone told x r in
    let may : IsTrue told → MayHave w (with_sequence x t.sequence) p.sequence =
    λ k. c.settle.ensures.may_have (with_sequence x t.sequence) (subst (λ (b : Bool). Reigns v b (with_sequence x t.sequence) at.self) k h.reached.reigns) in
    let leaves : IsTrue told → LeavesPick w (with_sequence x t.sequence) p.sequence =
    λ k. c.settle.ensures.leaves (with_sequence x t.sequence) (subst (λ (b : Bool). Reigns v b (with_sequence x t.sequence) at.self) k h.reached.reigns) in
    left_at v w stamp told x serials jobs left order at.updater-index u job at.undecided at.self gave h c.loop-updater-test.true refl next may leaves

pub loop-updater-preserved : goal.loop-updater-preserved
loop-updater-preserved g c =
    let at = c.loop-updater in
    let jobs = g.J.JobSource.jobs c.args.jobs.now in
    let left = g.J.JobSource.jobs at.jobs in
    let gave = g.S.ReplySink.gave c.args.sink.now at.sink in
    let v = g.D.Disk.disk (disk_of at.self.site) in
    let w = g.D.Disk.disk (disk_of c.settle.new.self.site) in
    let stamp = stamp_of c.args.self.now in
    let order = c.args.order.now in
    let serials = c.args.self.now.serials in
    let u = get_or order at.updater-index 0 in
    let job = job_value c.in-Some.job in
    let next : next_job u left ≡ Some job = sym (rw c.in-Some.is at c.take_next.ensures.job) in
    let some : at.undecided ≡ (at.undecided - 1) + 1 = omega (arith, at.invariant.enough, c.loop-updater-test.true) in
    record {
      ready = c.in-Ok.ensures.ready;
      reign = c.in-Ok.ensures.reign;
      enough = omega (arith, at.invariant.enough, c.loop-updater-test.true);
      gone = λ told x r.
          let t = come_to stamp serials jobs order at.updater-index x.sequence in
          let more = come_to stamp serials jobs order (at.updater-index + 1) x.sequence in
          let h : HasGone v stamp told x t left at.undecided (length order) at.self gave = at.invariant.gone told x r in
          let k : HasGone v stamp told x t left ((at.undecided - 1) + 1) (length order) at.self gave =
          subst (λ (n : ℕ). HasGone v stamp told x t left n (length order) at.self gave) some h in
          subst (λ (l : List (List Job)). HasGone w stamp told x more l (at.undecided - 1) (length order) c.settle.new.self (g.S.ReplySink.gave c.args.sink.now c.settle.new.sink)) (sym c.take_next.ensures.left)
          (one_decided v w stamp told x serials jobs left order at.updater-index u job (at.undecided - 1) at.self c.settle.new.self gave (g.S.ReplySink.gave at.sink c.settle.new.sink) (g.S.ReplySink.gave c.args.sink.now c.settle.new.sink) k c.loop-updater-test.true
          refl next (c.in-Ok.ensures.done told (with_sequence x t.sequence) h.reached.reigns) c.settle.ensures.stamp (g.met.S.ReplySink.further c.args.sink.now at.sink c.settle.new.sink));
      stamp = c.settle.ensures.stamp ∙ at.invariant.stamp;
      simulated = c.settle.ensures.simulated ∙ at.invariant.simulated;
      later = omega (arith, at.invariant.later, c.settle.ensures.faults.later);
    }

pub returns-clause-done : goal.returns-clause-done
returns-clause-done g c told x r =
    let at = c.loop-updater in
    let stamp = stamp_of c.args.self.now in
    let order = c.args.order.now in
    let end : at.updater-index ≡ length order = omega (arith, c.loop-updater-test.false, at.auto.updater-index-end) in
    subst (λ (picks : List ℕ). HasReached (g.D.Disk.disk (disk_of at.self.site)) told x (turn_of stamp c.args.self.now.serials (g.J.JobSource.jobs c.args.jobs.now) picks x.sequence) at.self (g.S.ReplySink.gave c.args.sink.now at.sink))
    (ap (λ (n : ℕ). take n order) end ∙ take-length order) (at.invariant.gone told x r).reached

pub returns-clause-left : goal.returns-clause-left
returns-clause-left g c told x r =
    let at = c.loop-updater in
    let stamp = stamp_of c.args.self.now in
    let order = c.args.order.now in
    let end : at.updater-index ≡ length order = omega (arith, c.loop-updater-test.false, at.auto.updater-index-end) in
    subst (λ (picks : List ℕ). g.J.JobSource.jobs at.jobs ≡ (turn_of stamp c.args.self.now.serials (g.J.JobSource.jobs c.args.jobs.now) picks x.sequence).left) (ap (λ (n : ℕ). take n order) end ∙ take-length order) (at.invariant.gone told x r).left
