use Rattle.std.proofs.Common.{◌≡◌, ◌≤◌, rules, ap, sym, subst}
use Rattle.wire_defs.specs.PoolWords.{IsBoundary}
use Rattle.pool_rule.specs.Seats.{Knowing}
use Rattle.pool_rule.specs.declared.views.View.{View}
use Rattle.pool_rule.proofs.Keeps.{hardens}
use Rattle.pool_rule.proofs.table.PoolTable.harden.Goals as goal

pub store-requires : goal.store-requires
store-requires c =
    let v : c.args.w.now.view ≡ c.w.inside.seat.me.0 = sym (ap (λ (z : Knowing). z.view) c.w.view_is) in (
      search rules,
      search rules,
      hardens _ _ _ _ _ _ c.w.invariant.0 c.w.invariant.1
          (subst (λ (u : View). u.hardened ≤ c.args.to) v c.requires.order.0)
          (subst (λ (u : View). c.args.to ≤ u.written) v c.requires.order.1)
          (subst (λ (u : View). IsBoundary u.first u.entries c.args.to) v c.requires.whole),
    )
