use Rattle.std.proofs.Common.{ℕ, subst, sym}
use Rattle.global_defs.specs.Evaluation.{Evaluated, eval}
use Rattle.gvn_model.specs.Jobs.{job_value}
use Rattle.repl_section.specs.Reigns.{stamp_of}
use Rattle.repl_section.specs.Deciding.{outcome, FitsIn, ComesTo, Appends}
use Rattle.repl_section.proofs.Standing.{stays_at}
use Rattle.repl_section.proofs.Room.{eval_fits}
use Rattle.repl_section.proofs.Results.{if_ok}
use Rattle.repl_section.proofs.reign.Reign.decide.Goals as goal
use Rattle.region_store.specs.Joined.{joined}
use Rattle.site_store.specs.Owning.{disk_of, memory_of}

pub returns-clause-done : goal.returns-clause-done
returns-clause-done g c =
    if_ok c.conclude.result _ _ c.conclude.ensures.done (λ d f told x h r.
    subst (λ (u : ℕ). ComesTo (g.D.Disk.disk (disk_of c.conclude.new.self.site)) told x h (outcome (stamp_of c.args.self.now) c.args.self.now.serials x.sequence u (eval (job_value c.args.job) (joined (memory_of c.args.self.now.site).globals))) c.conclude.new.self d) c.in-Some.ensures.updater
    (subst (λ (e : Evaluated). ComesTo (g.D.Disk.disk (disk_of c.conclude.new.self.site)) told x h (outcome (stamp_of c.args.self.now) c.args.self.now.serials x.sequence c.in-Some.origin.updater e) c.conclude.new.self d) c.in_ok-evaluated.ensures.value (f told x h r)))

pub returns-clause-appends : goal.returns-clause-appends
returns-clause-appends g c failed told x h r =
    subst (λ (u : ℕ). Appends x.sequence (outcome (stamp_of c.args.self.now) c.args.self.now.serials x.sequence u (eval (job_value c.args.job) (joined (memory_of c.args.self.now.site).globals)))) c.in-Some.ensures.updater
    (subst (λ (e : Evaluated). Appends x.sequence (outcome (stamp_of c.args.self.now) c.args.self.now.serials x.sequence c.in-Some.origin.updater e)) c.in_ok-evaluated.ensures.value (c.conclude.ensures.appends failed told x h r))

pub conclude-requires-clause-nodes : goal.conclude-requires-clause-nodes
conclude-requires-clause-nodes g c =
    subst (λ (e : Evaluated). FitsIn (joined (memory_of c.args.self.now.site).globals) e) (sym c.in_ok-evaluated.ensures.value) (eval_fits (job_value c.args.job) (joined (memory_of c.args.self.now.site).globals))

pub returns-in_default-clause-stands : goal.returns-in_default-clause-stands
returns-in_default-clause-stands g c x h r = stays_at (g.D.Disk.disk (disk_of c.args.self.now.site)) x h (memory_of c.args.self.now.site) r

pub returns-in_err-evaluated-clause-stands : goal.returns-in_err-evaluated-clause-stands
returns-in_err-evaluated-clause-stands g c x h r = stays_at (g.D.Disk.disk (disk_of c.args.self.now.site)) x h (memory_of c.args.self.now.site) r
