use Rattle.std.proofs.Common.{◌≡◌, [], refl, sym, ◌∙◌, ap, subst, arith}
use Rattle.std.specs.Prelude.{None}
use Rattle.global_defs.specs.Serial.{Turn, Replied, replied, begun}
use Rattle.gvn_model.specs.declared.job.Evaluated.{Evaluated}
use Rattle.gvn_model.specs.declared.job.Reply.{Reply}
use Rattle.gvn_model.specs.Jobs.{evaluated_value}
use Rattle.repl_section.specs.Replies.{named, reply_value}
use Rattle.repl_section.specs.Reigns.{stamp_of}
use Rattle.repl_section.specs.Deciding.{outcome, ComesTo, Appends}
use Rattle.repl_section.proofs.Results.{if_ok}
use Rattle.repl_section.proofs.Standing.{entries_counted}
use Rattle.repl_section.proofs.Replied.{commit_appends, stays_with, has_decided, unnamed_entered, read_is, limited_is, some_updates}
use Rattle.repl_section.proofs.reign.Reign.conclude.Goals.{in-RolledBack, in-Done, then-is_empty, else-is_empty+then-sequence_length-ge-LAST_NUMBER}
use Rattle.repl_section.proofs.reign.Reign.conclude.Goals as goal
use Rattle.site_store.specs.Site.{count_of}
use Rattle.site_store.specs.Owning.{disk_of, memory_of}

pub returns-else-sequence_length-ge-LAST_NUMBER-clause-done : goal.returns-else-sequence_length-ge-LAST_NUMBER-clause-done
returns-else-sequence_length-ge-LAST_NUMBER-clause-done g c =
    if_ok c.commit.result _ _ c.commit.ensures.done (λ d f told x h r.
    subst (λ (e : Evaluated). ComesTo (g.D.Disk.disk (disk_of c.commit.new.self.site)) told x h (outcome (stamp_of c.args.self.now) c.args.self.now.serials x.sequence c.args.origin.updater (evaluated_value e)) c.commit.new.self d) (sym c.in-Done.is) (f told x h r))

pub returns-else-sequence_length-ge-LAST_NUMBER-clause-appends : goal.returns-else-sequence_length-ge-LAST_NUMBER-clause-appends
returns-else-sequence_length-ge-LAST_NUMBER-clause-appends g c failed told x h r =
    subst (λ (e : Evaluated). Appends x.sequence (outcome (stamp_of c.args.self.now) c.args.self.now.serials x.sequence c.args.origin.updater (evaluated_value e))) (sym c.in-Done.is)
    (commit_appends (stamp_of c.args.self.now) c.args.self.now x.sequence c.args.origin.updater c.in-Done.updates c.in-Done.answers (entries_counted (g.D.Disk.disk (disk_of c.args.self.now.site)) told x h (memory_of c.args.self.now.site) r)
    (some_updates c.in-Done.updates (sym c.is_empty.ensures ∙ c.if-is_empty.false)) (omega (arith, c.if-sequence_length-ge-LAST_NUMBER.false, c.sequence_length.ensures)))

pub returns-clause-stands : goal.returns-clause-stands
returns-clause-stands g c x h r = stays_with g.D.Disk.disk x h c.args.self.now c.answer.new.self c.answer.ensures.same r

pub returns-clause-entered : goal.returns-clause-entered
returns-clause-entered g c =
    let none : named (reply_value c.match-evaluated.reply) ≡ None = elim c.match-evaluated.branch [
      | in-RolledBack w ↦ ap (λ (y : Reply). named (reply_value y)) w.reply-is
      | in-Done w ↦ elim w.if-is_empty.branch [
        | then-is_empty k ↦ ap (λ (y : Reply). named (reply_value y)) (w.reply-is ∙ k.reply-is)
        | else-is_empty+then-sequence_length-ge-LAST_NUMBER k ↦ ap (λ (y : Reply). named (reply_value y)) (w.reply-is ∙ k.reply-is)
      ]
    ] in
    unnamed_entered c.answer.result (count_of (memory_of c.answer.new.self.site)) (ap (λ (d : Replied). named d.reply) c.answer.ensures.decision ∙ none)

pub returns-clause-done : goal.returns-clause-done
returns-clause-done g c told x h r =
    let old = c.args.self.now in
    let stamp = stamp_of old in
    let u = c.args.origin.updater in
    let made : Reply → Turn = λ (y : Reply). replied (begun old.serials [] x.sequence) u (reply_value y) x.sequence in
    let comes : Evaluated → Turn = λ (e : Evaluated). outcome stamp old.serials x.sequence u (evaluated_value e) in
    let is : comes c.args.evaluated ≡ made c.match-evaluated.reply = elim c.match-evaluated.branch [
      | in-RolledBack w ↦ ap comes w.in-RolledBack.is ∙ ap made (sym w.reply-is)
      | in-Done w ↦ elim w.if-is_empty.branch [
        | then-is_empty k ↦ ap comes w.in-Done.is ∙ read_is stamp old.serials x.sequence u w.in-Done.updates w.in-Done.answers (sym w.is_empty.ensures ∙ k.if-is_empty.true) ∙ ap made (sym (w.reply-is ∙ k.reply-is))
        | else-is_empty+then-sequence_length-ge-LAST_NUMBER k ↦ ap comes w.in-Done.is
            ∙ limited_is stamp old.serials x.sequence u w.in-Done.updates w.in-Done.answers (some_updates w.in-Done.updates (sym w.is_empty.ensures ∙ k.if-is_empty.false)) (omega (arith, k.if-sequence_length-ge-LAST_NUMBER.true, k.sequence_length.ensures, entries_counted (g.D.Disk.disk (disk_of c.args.self.now.site)) told x h (memory_of old.site) r))
            ∙ ap made (sym (w.reply-is ∙ k.reply-is))
      ]
    ] in
    subst (λ (t : Turn). ComesTo (g.D.Disk.disk (disk_of c.answer.new.self.site)) told x h t c.answer.new.self c.answer.result) (sym is)
    (has_decided g.D.Disk.disk told x h x.sequence old.serials u c.args.origin.serial (reply_value c.match-evaluated.reply) old c.answer.new.self c.answer.result r c.answer.ensures.same refl c.requires.serial c.answer.ensures.serials
    c.answer.ensures.decision)
