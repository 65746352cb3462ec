use Rattle.std.proofs.Common.{◌≡◌, ap, ◌∙◌}
use Rattle.std.specs.FinMap as globals
use Rattle.global_defs.specs.Entry as defs
use Rattle.gvn_globals.specs.Overlaid.{overlaid}
use Rattle.gvn_globals.proofs.AllOrNone.{on_ok}
use Rattle.gvn_globals.proofs.Overlays.{overlaid_set}
use Rattle.gvn_globals.proofs.together.Changes.set.Goals as goal

pub returns-clause-made : goal.returns-clause-made
returns-clause-made c = on_ok c.set.result (c.set.new.self ≡ globals.insert c.args.self.now.sets c.args.key c.args.value)
    ((base : defs.Globals) → overlaid base c.set.new.self c.args.self.now.gone ≡ globals.insert (overlaid base c.args.self.now.sets c.args.self.now.gone) c.args.key c.args.value)
    (λ e base. ap (λ s. overlaid base s c.args.self.now.gone) e ∙ overlaid_set base c.args.self.now.sets c.args.self.now.gone c.args.key c.args.value) c.set.ensures.ok
