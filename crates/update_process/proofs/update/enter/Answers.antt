use Rattle.std.proofs.Common.{refl}
use Rattle.update_process.proofs.update.enter.Goals as goal

pub returns-in-Ok-harden-clause-one : goal.returns-in-Ok-harden-clause-one
returns-in-Ok-harden-clause-one g c = (refl, (g.S.EntrySink.copy c.apply.new.self, c.in-Ok.ensures.ok, c.in-Ok-harden.ensures.ok))
