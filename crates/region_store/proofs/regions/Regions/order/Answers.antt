use Rattle.std.proofs.Common.{◌≡◌, ◌∙◌, ℕ, List, ap, sym, slice_get}
use Rattle.std.specs.Prelude.{option_map}
use Rattle.global_defs.specs.Key.{sub_of}
use Rattle.global_defs.specs.Evaluation.{order}
use Rattle.journal_defs.specs.Directory.{region_of}
use Rattle.region_store.specs.Joined.{joined}
use Rattle.region_store.proofs.Parts.{order_here, if_ok}
use Rattle.region_store.proofs.regions.Regions.order.Goals as goal

pub returns-clause-next : goal.returns-clause-next
returns-clause-next c =
    let j = c.args.self.now in
    let k = c.args.key.now in
    let s = c.region_of.result.now in
    let here = ap (λ (name : List ℕ). slice_get j.regions (region_of j.patterns name)) (sym c.name.ensures) ∙ c.region_of.ensures.region in
    let last = c.args.last.now in
    if_ok c.order.result (λ found. option_map sub_of found ≡ order s.globals k last) (λ found. option_map sub_of found ≡ order (joined j) k last) c.order.ensures.next
    (λ found is. is ∙ order_here j c.region_of.ensures.joined k s here last)
