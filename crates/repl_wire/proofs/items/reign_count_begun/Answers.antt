use Rattle.std.proofs.Common.{arith, ◌-◌, ◌≡◌, ◌+◌, ◌≤◌, ℕ, inl, inr}
use Rattle.std.specs.Prelude.{◌⊎◌}
use Rattle.std.proofs.lemmas.Grind.{div_ceil_times}
use Rattle.repl_wire.proofs.Begun.{reign_count_awaited}
use Rattle.repl_wire.proofs.items.reign_count_begun.Goals as goal

four : (left : ℕ) → (left ≡ 4) ⊎ (4 + 14 ≤ left) → left ≡ 4 + (left - 4)
four left s = elim s as (λ _. left ≡ 4 + (left - 4)) [ inl z ↦ omega arith | inr z ↦ omega arith ]

pub returns : goal.returns
returns c =
    let d = div_ceil_times (c.args.left - 4) 28 (omega arith) in
    let low = c.from.ensures in
    let ceil = c.div_ceil.ensures in
    rw c.new.ensures (reign_count_awaited c.args.left (c.args.left - 4) c.from.result c.from-2.result (four c.args.left c.requires.0) c.requires
    (omega (arith, d.0)) (omega (arith, d.1)) (omega arith) (omega arith))
