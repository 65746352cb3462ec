use Rattle.std.proofs.Common.{true, refl, ◌∙◌, ap}
use Rattle.block_pool.specs.declared.pool.BlockPool.TheInside.{Inside}
use Rattle.block_pool.specs.Pool.{marked}
use Rattle.block_pool.proofs.Pages.{pool_of-marked, page_inside, seat_left, listing, still_listed}
use Rattle.block_pool.proofs.pool.BlockPool.mark.Goals as goal

pub list_number-requires : goal.list_number-requires
list_number-requires c =
    let p = c.self.inside in
    let b = c.args.number in
    record { room = λ is. seat_left p b c.index.result.now c.self.invariant (page_inside p c.args.self.now b c.self.view_is c.requires) c.index.ensures is }

pub invariant_of-self : goal.invariant_of-self
invariant_of-self c =
    let p = c.self.inside in
    let b = c.args.number in
    let m : Inside = record { pages = p.pages; changed = c.list_number.new.changed } in
    still_listed p m b (record { block = c.index_mut.result.now.block; dirty = true }) c.self.invariant c.list_number.ensures.capacity refl
    (listing p m b c.index.result.now c.self.invariant (page_inside p c.args.self.now b c.self.view_is c.requires) c.index.ensures c.list_number.ensures.listed)

pub returns : goal.returns
returns c =
    let p = c.self.inside in
    let b = c.args.number in
    let m : Inside = record { pages = p.pages; changed = c.list_number.new.changed } in
    pool_of-marked p m b (record { block = c.index_mut.result.now.block; dirty = true }) c.index_mut.result.now c.list_number.ensures.capacity refl (ap (λ q. q.block) c.index_mut.ensures.value) ∙ ap (λ v. marked v b) c.self.view_is
