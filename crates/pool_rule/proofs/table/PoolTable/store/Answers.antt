use Rattle.std.proofs.Common.{◌≡◌, ℕ, ◌+◌, ◌%◌, ◌<◌, length, rules, ap, sym, subst}
use Rattle.std.specs.Prelude.{slice_index}
use Rattle.wire_defs.specs.PoolWords.{words_from}
use Rattle.pool_rule.specs.Seats.{Knowing}
use Rattle.pool_rule.specs.declared.views.View.{View}
use Rattle.pool_rule.proofs.Keeps.{stores}
use Rattle.pool_rule.proofs.table.PoolTable.store.Goals as goal

pub store-requires : goal.store-requires
store-requires c =
    let v : c.args.w.now.view ≡ c.w.inside.seat.me.0 = sym (ap (λ (z : Knowing). z.view) c.w.view_is) in (
      search rules,
      search rules,
      stores _ _ _ _ _ _ _ _ c.w.invariant.0 c.w.invariant.1
          (subst (λ (u : View). c.args.at ≡ u.written) v c.requires.next)
          (subst (λ (u : View). c.args.at < length (words_from u.first u.entries)) v c.requires.claimed)
          (subst (λ (u : View). c.args.word ≡ slice_index (words_from u.first u.entries) c.args.at) v c.requires.word)
          (ap (λ (n : ℕ). c.args.at % n + 2) (sym c.self.invariant.2)),
    )
