use Rattle.std.proofs.Common.{◌≡◌, ◌∙◌, ℕ, List, ap, sym, slice_get}
use Rattle.gvn_globals.specs.Walks.{after}
use Rattle.journal_defs.specs.Directory.{region_of}
use Rattle.region_store.specs.Joined.{joined}
use Rattle.region_store.proofs.Parts.{after_here, if_ok}
use Rattle.region_store.proofs.regions.Regions.after.Goals as goal

pub returns : goal.returns
returns c =
    let j = c.args.self.now in
    let k = c.args.key.now in
    let s = c.region_of.result.now in
    let here = ap (λ (name : List ℕ). slice_get j.regions (region_of j.patterns name)) (sym c.name.ensures) ∙ c.region_of.ensures.region in
    if_ok c.after.result (λ found. found ≡ after s.globals k) (λ found. found ≡ after (joined j) k) c.after.ensures (λ found is. is ∙ after_here j c.region_of.ensures.joined k s here)
