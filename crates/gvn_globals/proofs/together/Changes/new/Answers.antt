use Rattle.std.proofs.Common.{sym, ap, subst, ◌∙◌}
use Rattle.std.specs.FinMap as globals
use Rattle.gvn_globals.specs.Overlaid.{overlaid, AreGone}
use Rattle.gvn_globals.proofs.Overlays.{overlaid_new}
use Rattle.gvn_globals.proofs.Gone.{none_gone}
use Rattle.gvn_globals.proofs.together.Changes.new.Goals as goal

pub returns-clause-none : goal.returns-clause-none
returns-clause-none c = λ base. ap (λ s. overlaid base s c.new-2.result) c.new.ensures ∙ ap (overlaid base globals.empty) c.new-2.ensures ∙ overlaid_new base

pub returns-clause-ends : goal.returns-clause-ends
returns-clause-ends c = λ base. subst (AreGone base) (sym c.new-2.ensures) (none_gone base)
