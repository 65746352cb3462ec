use Rattle.std.proofs.Common.{true, refl, ◌∙◌, ap}
use Rattle.block_pool.specs.declared.pool.BlockPool.TheInside.{Inside}
use Rattle.block_pool.specs.Pool.{changed, leaf_at}
use Rattle.block_pool.proofs.Pages.{pool_of-with_page, block-at, page_inside, seat_left, listing, still_listed}
use Rattle.block_pool.proofs.pool.BlockPool.block_mut.Goals as goal

pub list_number-requires : goal.list_number-requires
list_number-requires c =
    let p = c.self.inside in
    let b = c.args.number in
    record { room = λ is. seat_left p b c.index_mut-page.result.now c.self.invariant (page_inside p c.args.self.now b c.self.view_is c.requires) c.index_mut-page.ensures.value is }

pub invariant_of-self-lent : goal.invariant_of-self-lent
invariant_of-self-lent c w =
    let p = c.self.inside in
    let b = c.args.number in
    let m : Inside = record { pages = p.pages; changed = c.list_number.new.changed } in
    still_listed p m b (record { block = w; dirty = true }) c.self.invariant c.list_number.ensures.capacity refl
    (listing p m b c.index_mut-page.result.now c.self.invariant (page_inside p c.args.self.now b c.self.view_is c.requires) c.index_mut-page.ensures.value c.list_number.ensures.listed)

pub returns : goal.returns
returns c =
    let p = c.self.inside in
    let b = c.args.number in
    let m : Inside = record { pages = p.pages; changed = c.list_number.new.changed } in (
      (refl, λ w. pool_of-with_page p m b (record { block = w; dirty = true }) c.list_number.ensures.capacity refl ∙ ap (λ v. changed v b w) c.self.view_is),
      record { writes_back = tt; block = block-at p b c.index_mut-page.result.now (page_inside p c.args.self.now b c.self.view_is c.requires) c.index_mut-page.ensures.value ∙ ap (λ v. leaf_at v b) c.self.view_is },
    )
