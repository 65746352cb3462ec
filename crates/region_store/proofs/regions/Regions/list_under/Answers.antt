use Rattle.std.proofs.Common.{◌≡◌, ◌∙◌, ℕ, List, ap, sym, map, filter, slice_get}
use Rattle.std.specs.FinMap as globals
use Rattle.global_defs.specs.Entry.{is_under}
use Rattle.journal_defs.specs.Directory.{region_of}
use Rattle.gvt_leaf.specs.Listed.{node_value}
use Rattle.region_store.specs.Joined.{joined}
use Rattle.region_store.proofs.Parts.{under_here, if_ok}
use Rattle.region_store.proofs.regions.Regions.list_under.Goals as goal

pub returns : goal.returns
returns c =
    let j = c.args.self.now in
    let k = c.args.top.now in
    let s = c.region_of.result.now in
    let here = ap (λ (name : List ℕ). slice_get j.regions (region_of j.patterns name)) (sym c.name.ensures) ∙ c.region_of.ensures.region in
    if_ok c.list_under.result (λ made. map node_value made.items ≡ filter (λ e. is_under k e.0) (globals.entries s.globals)) (λ made. map node_value made.items ≡ filter (λ e. is_under k e.0) (globals.entries (joined j)))
    c.list_under.ensures (λ made is. is ∙ under_here j c.region_of.ensures.joined k s here)
