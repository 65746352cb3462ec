use Rattle.std.proofs.Common.{sym, ap, subst, ◌∙◌}
use Rattle.std.specs.FinMap as globals
use Rattle.gvn_globals.specs.Overlaid.{overlaid, AreGone}
use Rattle.gvn_globals.proofs.Overlays.{overlaid_remove}
use Rattle.gvn_globals.proofs.Gone.{gone_removed}
use Rattle.gvn_globals.proofs.together.Changes.remove.Goals as goal

pub returns-clause-made : goal.returns-clause-made
returns-clause-made c = λ base.
    ap (λ h. overlaid base c.remove.new.self h) (c.in_ok-set.ensures.ok ∙ ap (λ k. globals.insert c.args.self.now.gone k c.new-none.result) c.in_ok-copy.ensures)
    ∙ ap (λ s. overlaid base s (globals.insert c.args.self.now.gone c.args.key.now c.new-none.result)) c.remove.ensures
    ∙ overlaid_remove base c.args.self.now.sets c.args.self.now.gone c.args.key.now c.new-none.result

pub returns-clause-ends : goal.returns-clause-ends
returns-clause-ends c = λ base are. subst (AreGone base)
    (sym (c.in_ok-set.ensures.ok ∙ ap (λ k. globals.insert c.args.self.now.gone k c.new-none.result) c.in_ok-copy.ensures ∙ ap (globals.insert c.args.self.now.gone c.args.key.now) c.new-none.ensures))
    (gone_removed base c.args.self.now.gone c.args.key.now are)
