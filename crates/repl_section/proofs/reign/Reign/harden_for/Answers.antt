use Rattle.std.proofs.Common.{◌≤◌, ℕ, refl, sym, ◌∙◌, ap, subst}
use Rattle.std.specs.Prelude.{Option, IfSome, IsSome}
use Rattle.entry_index.specs.Found.{entry_count}
use Rattle.site_store.specs.Site.{IsOpen}
use Rattle.repl_section.specs.Replies.{named}
use Rattle.repl_section.specs.Deciding.{hardened_for}
use Rattle.repl_disk.proofs.Tables.{on_err}
use Rattle.repl_section.proofs.Results.{on_ok}
use Rattle.repl_section.proofs.Settled.{not_both}
use Rattle.repl_section.proofs.reign.Reign.harden_for.Goals as goal
use Rattle.site_store.specs.Owning.{disk_of, memory_of}

pub returns-in-Some-clause-done : goal.returns-in-Some-clause-done
returns-in-Some-clause-done g c =
    on_ok c.harden.result _ _ c.harden.ensures.done (λ f told x h r.
    subst (λ (o : Option ℕ). IsOpen (g.D.Disk.disk (disk_of c.harden.new.self.site)) told x (hardened_for o x h) (memory_of c.harden.new.self.site)) (sym c.in-Some.is ∙ c.entry.ensures) (f told x h r))

pub returns-in-Some-clause-hardened : goal.returns-in-Some-clause-hardened
returns-in-Some-clause-hardened g c =
    on_ok c.harden.result _ _ c.harden.ensures.all (λ all.
    subst (λ (count : ℕ). IfSome (named c.args.decision.now.reply) (λ number. number ≤ count)) (sym (all ∙ ap entry_count c.harden.ensures.entries)) c.requires.entered)

pub returns-in-Some-clause-waited : goal.returns-in-Some-clause-waited
returns-in-Some-clause-waited g c = on_err c.harden.result (subst IsSome (sym c.in-Some.is ∙ c.entry.ensures) refl)

pub returns-in-None-clause-done : goal.returns-in-None-clause-done
returns-in-None-clause-done g c told x h r =
    subst (λ (o : Option ℕ). IsOpen (g.D.Disk.disk (disk_of c.args.self.now.site)) told x (hardened_for o x h) (memory_of c.args.self.now.site)) (sym c.in-None.is ∙ c.entry.ensures) r

pub returns-in-None-clause-hardened : goal.returns-in-None-clause-hardened
returns-in-None-clause-hardened g c = subst (λ (o : Option ℕ). IfSome o (λ number. number ≤ (memory_of c.args.self.now.site).hardened)) (sym c.in-None.is ∙ c.entry.ensures) _

pub returns-in-None-clause-images : goal.returns-in-None-clause-images
returns-in-None-clause-images g c some = absurd (not_both (named c.args.decision.now.reply) some (sym c.entry.ensures ∙ c.in-None.is))

pub returns-in-None-clause-left : goal.returns-in-None-clause-left
returns-in-None-clause-left g c some = absurd (not_both (named c.args.decision.now.reply) some (sym c.entry.ensures ∙ c.in-None.is))
