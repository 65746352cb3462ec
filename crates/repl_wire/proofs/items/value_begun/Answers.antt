use Rattle.std.proofs.Common.{arith, ◌-◌, ◌≡◌, ◌*◌, ◌+◌, ℕ, inl, inr}
use Rattle.std.specs.Prelude.{◌⊎◌}
use Rattle.std.proofs.lemmas.Bool.{cases_lt}
use Rattle.repl_wire.proofs.Begun.{value_awaited}
use Rattle.repl_wire.proofs.items.value_begun.Goals as goal

zeroed : (l p low : ℕ) → low ≡ l - p → (low ≡ 0) ⊎ (low + p ≡ l)
zeroed l p low e = elim (cases_lt l p) as (λ _. (low ≡ 0) ⊎ (low + p ≡ l)) [ inl z ↦ inl (omega arith) | inr z ↦ inr (omega arith) ]

pub returns : goal.returns
returns c =
    let r = c.requires in
    let left = c.from-left.ensures in
    let count = c.from-count.ensures in
    let low = c.saturating_sub-low.ensures in
    let high = c.min-high.ensures in
    rw c.new.ensures (value_awaited c.args.left (c.from-left.result - 2) c.args.items c.saturating_sub-low.result c.min-high.result (omega (arith, r.0)) c.requires
    (omega arith) (zeroed (c.from-left.result - 2) (1759 * c.args.items) c.saturating_sub-low.result (omega arith)) (omega (arith, r.0)) (omega arith) (λ n fits most. omega arith))
