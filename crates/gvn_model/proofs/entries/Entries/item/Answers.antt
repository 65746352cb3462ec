use Rattle.gvn_model.specs.Numbered.{numbered}
use Rattle.gvn_model.proofs.Places.{slice_get-value}
use Rattle.gvn_model.proofs.entries.Entries.item.Goals as goal

pub returns : goal.returns
returns c = slice_get-value numbered c.self.inside.items.items c.args.self.now c.args.i c.index.result.now c.self.view_is c.requires c.index.ensures
