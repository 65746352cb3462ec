use Rattle.std.proofs.Common.{◌∙◌, ℕ, List, ap, sym, slice_get}
use Rattle.journal_defs.specs.Directory.{region_of}
use Rattle.region_store.proofs.Parts.{get_here}
use Rattle.region_store.proofs.regions.Regions.get.Goals as goal

pub returns : goal.returns
returns c =
    let j = c.args.self.now in
    let k = c.args.key.now in
    let here = ap (λ (name : List ℕ). slice_get j.regions (region_of j.patterns name)) (sym c.name.ensures) ∙ c.region_of.ensures.region in
    c.get.ensures ∙ get_here j c.region_of.ensures.joined k c.region_of.result.now here
