use Rattle.std.proofs.Common.{◌+◌, length, List, subst, sym, ap, ◌∙◌, refl, arith}
use Rattle.global_defs.specs.Prefix.{stamp_at}
use Rattle.gvn_model.specs.Entries.{transaction_value}
use Rattle.ship_stands.specs.Sites.{copy_of}
use Rattle.global_defs.specs.Entry.{state}
use Rattle.std.specs.List.{AllByRecursion}
use Rattle.global_defs.specs.Entry.{Reign}
use Rattle.global_defs.specs.Fields.{IsReign}
use Rattle.ship_stands.proofs.Rising.{none_more}
use Rattle.ship_stands.proofs.Rooms.{has_room}
use Rattle.ship_stands.proofs.Applied.{one_longer, nodes_now, stamped_now, takes_now}
use Rattle.ship_stands.proofs.site.SiteEntrySink.apply.Goals as goal

pub invariant_of-self-clause-told : goal.invariant_of-self-clause-told
invariant_of-self-clause-told c = one_longer c.args.self.now.story.sequence c.with-self.result.sequence c.append.new.reigns (transaction_value c.args.transaction) c.with-self.ensures ∙ sym c.requires.next

pub invariant_of-self-clause-nodes : goal.invariant_of-self-clause-nodes
invariant_of-self-clause-nodes c =
    let now = nodes_now c.args.self.now.story.sequence c.with-self.result.sequence c.append.new.reigns (transaction_value c.args.transaction) c.args.self.now.updates c.with-self.ensures c.args.self.now.nodes in
    omega (arith, now, c.len.ensures)

pub invariant_of-self-clause-begun : goal.invariant_of-self-clause-begun
invariant_of-self-clause-begun c some =
    stamped_now c.args.self.now.story.sequence c.with-self.result.sequence c.append.new.reigns (transaction_value c.args.transaction) c.requires.under.0 c.with-self.ensures
    (ap (λ rs. stamp_at (length c.args.self.now.story.sequence + 1) rs) c.in-Ok.ensures.ok ∙ c.requires.under.1)

pub returns-in-Ok-clause-fits : goal.returns-in-Ok-clause-fits
returns-in-Ok-clause-fits c = has_room (state c.args.self.now.story.sequence) c.args.transaction.updates c.args.self.now.updates c.args.self.now.nodes (omega (arith, c.len.ensures, c.if-updates-gt-MOST_NODES.false))

pub returns-in-Ok-clause-ok : goal.returns-in-Ok-clause-ok
returns-in-Ok-clause-ok c = takes_now (copy_of c.args.self.now) c.with-self.result.sequence c.append.new.reigns (transaction_value c.args.transaction) c.requires.under.0 refl c.in-Ok.ensures.ok c.with-self.ensures c.requires.under.1

pub invariant_of-self-clause-formed : goal.invariant_of-self-clause-formed
invariant_of-self-clause-formed c = none_more c.append.new.reigns (subst (λ (l : List Reign). AllByRecursion IsReign l) (sym c.in-Ok.ensures.ok) c.args.self.now.formed)
