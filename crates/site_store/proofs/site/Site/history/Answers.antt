use Rattle.std.proofs.Common.{◌∙◌, ap}
use Rattle.journal_defs.specs.Surviving.{reigns}
use Rattle.site_store.proofs.Remembered.{remembered_length}
use Rattle.site_store.proofs.site.Site.history.Goals as goal

pub returns-clause-opened : goal.returns-clause-opened
returns-clause-opened g c told x h going is =
    let memory = is.inner.remembered in
    (going.history.count ∙ remembered_length x h c.args.self.now.inner memory, going.history.surviving ∙ ap reigns memory.instance)
