use Rattle.std.proofs.Common.{◌∙◌, List, ap, map, fold}
use Rattle.global_defs.specs.Entry.{Globals, apply}
use Rattle.gvn_key.specs.Terms.{update_value}
use Rattle.block_laws.specs.Nodes.{union}
use Rattle.region_store.proofs.Making.{changed_then}
use Rattle.region_store.proofs.regions.Regions.apply.Goals as goal

pub returns-clause-ok : goal.returns-clause-ok
returns-clause-ok c = c.make.ensures.made ∙ ap (λ (gs : List Globals). fold apply (union gs) (map update_value c.args.updates.now)) c.reserve.ensures.same.parts

pub returns-clause-changed : goal.returns-clause-changed
returns-clause-changed c = changed_then c.args.self.now c.reserve.new.self c.make.new.self c.reserve.ensures.changed c.make.ensures.changed
