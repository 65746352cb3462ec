use Rattle.std.proofs.Common.{◌≡◌, ◌∙◌, ap, sym, length, replicate, List, ℕ, false}
use Rattle.std.specs.Vec.{with_items}
use Rattle.std.proofs.lemmas.List.{with_items_is}
use Rattle.block_pool.specs.declared.pool.Page.{Page}
use Rattle.block_pool.specs.declared.pool.BlockPool.TheInside.{Inside}
use Rattle.block_pool.proofs.Pages.{cleaned_pool}
use Rattle.block_pool.proofs.pool.BlockPool.clean.Goals as goal

pub invariant_of-self : goal.invariant_of-self
invariant_of-self c =
    let p = c.self.inside in
    let made : Inside = record { pages = with_items p.pages c.take_marks.new.pages; changed = c.clear.new.self } in
    let pages : length c.deref_mut.result.now ≡ length p.pages.items = ap (λ (qs : List Page). length qs) c.deref_mut.ensures.value in
    cleaned_pool p made c.take_marks.new.pages c.self.invariant (with_items_is p.pages c.take_marks.new.pages (c.take_marks.auto.pages ∙ pages ∙ sym p.pages.ok.0)) (c.take_marks.auto.pages ∙ pages) (c.take_marks.ensures.marks ∙ ap (λ (n : ℕ). replicate n false) pages) c.clear.ensures.items c.clear.ensures.capacity
