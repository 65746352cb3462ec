use Rattle.std.proofs.Common.{◌≡◌, true, Result, Ok, Err, OnErr, ◌∙◌, ◌++◌, ◌∷◌, [], arith, length, ap, List, ℕ}
use Rattle.std.specs.Prelude.{is_ok, if◌then◌else◌}
use Rattle.std.proofs.lemmas.List.{length-append}
use Rattle.block_pool.specs.declared.pool.Page.{Page}
use Rattle.block_pool.specs.declared.pool.BlockPool.TheInside.{Inside}
use Rattle.block_pool.proofs.Pages.{pool_same, fewer_listed, added_listed}
use Rattle.block_pool.proofs.pool.BlockPool.add.Goals as goal

on_err : {T E P : Type 0} (r : Result T E) → P → OnErr r P
on_err (Ok x) p = tt
on_err (Err e) p = p

pub overflow_sub-number : goal.overflow_sub-number
overflow_sub-number c = omega (arith, c.len-number.ensures, c.len-2.ensures, c.reserve.ensures.len, fewer_listed c.self.inside c.self.invariant)

pub returns-in_err-reserve-clause-err : goal.returns-in_err-reserve-clause-err
returns-in_err-reserve-clause-err c =
    let p = c.self.inside in
    let made : Inside = record { pages = c.reserve.new.self; changed = p.changed } in
    let many = ap (λ (qs : List Page). length qs) c.reserve.ensures.items in
    on_err c.from_residual.result (pool_same p made c.reserve.ensures.items (omega (arith, many, c.in_err-reserve.ensures.err)) ∙ c.self.view_is)

pub list_last-requires : goal.list_last-requires
list_last-requires c =
    let ok = c.in_ok-reserve-2.ensures.ok in
    record { room = omega (arith, ok, c.reserve-2.ensures.len, c.len-number.ensures, c.len-2.ensures, c.reserve.ensures.len, fewer_listed c.self.inside c.self.invariant) }

-- what was done without an error
done : {T E A : Type 0} (r : Result T E) (x y z : A) → x ≡ (if is_ok r then y else z) → is_ok r ≡ true → x ≡ y
done (Ok t) x y z is ok = is
done (Err e) x y z is ok = cc

pub invariant_of-self-2 : goal.invariant_of-self-2
invariant_of-self-2 c =
    let p = c.self.inside in
    let made : Inside = record { pages = c.push.new.self; changed = c.list_last.new.changed } in
    let q : Page = record { block = c.args.block; dirty = c.args.dirty } in
    let items : c.push.new.self.items ≡ p.pages.items ++ q ∷ [] =
    done c.push.result c.push.new.self.items _ _ c.push.ensures.items c.if-is_err.ensures.negation ∙ ap (λ (qs : List Page). qs ++ q ∷ []) c.reserve.ensures.items in
    let more = ap (λ (qs : List Page). length qs) items ∙ length-append p.pages.items (q ∷ []) in
    let at : c.len-number.result ≡ length p.pages.items = omega (arith, c.len-number.ensures, c.reserve.ensures.len, p.pages.ok.0) in
    let ok = c.in_ok-reserve-2.ensures.ok in
    let below = c.if-len.false in
    added_listed p made q c.len-number.result c.self.invariant at (omega (arith, more, below, c.len.ensures, p.pages.ok.0)) items
    (c.list_last.ensures.items ∙ ap (λ (ns : List ℕ). if c.args.dirty then ns ++ c.len-number.result ∷ [] else ns) c.reserve-2.ensures.items)
    (omega (arith, ok, at, c.reserve-2.ensures.len, c.len-number.ensures, c.len-2.ensures, c.reserve.ensures.len, fewer_listed p c.self.invariant, c.list_last.ensures.capacity))
