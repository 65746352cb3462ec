use Rattle.std.proofs.Common.{◌≡◌, ℕ, ◌+◌, IsTrue, length, sym, ap, subst, ◌∙◌, arith}
use Rattle.std.specs.FinMap as map
use Rattle.global_defs.specs.Entry.{state}
use Rattle.ship_stands.specs.StampLaws.{has_stamp}
use Rattle.ship_stands.proofs.Rising.{none_more}
use Rattle.ship_stands.proofs.Rooms.{idle_length, idle_nodes}
use Rattle.ship_stands.proofs.site.Site.new.Goals as goal

pub invariant_of-result-clause-told : goal.invariant_of-result-clause-told
invariant_of-result-clause-told c = ap length c.new-story.ensures ∙ idle_length c.args.history.length

pub invariant_of-result-clause-nodes : goal.invariant_of-result-clause-nodes
invariant_of-result-clause-nodes c = let none = ap (λ s. map.len (state s)) c.new-story.ensures ∙ idle_nodes c.args.history.length in omega (arith, none)

pub invariant_of-result-clause-begun : goal.invariant_of-result-clause-begun
invariant_of-result-clause-begun c some =
    let same : length c.new-story.result.sequence ≡ c.args.history.length = ap length c.new-story.ensures ∙ idle_length c.args.history.length in
    subst (λ (n : ℕ). IsTrue (has_stamp (n + 1) c.args.history.reigns)) (sym same) (c.has_reign.ensures c.if-not-has_reign.false (omega (arith, same, some)))

pub invariant_of-result-clause-formed : goal.invariant_of-result-clause-formed
invariant_of-result-clause-formed c = none_more c.args.history.reigns c.requires
