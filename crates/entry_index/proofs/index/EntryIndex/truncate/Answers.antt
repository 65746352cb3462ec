use Rattle.std.proofs.Common.{◌≡◌, ℕ, ◌-◌, ◌*◌, ◌^◌, min, ◌∙◌, ap, arith}
use Rattle.entry_index.proofs.Rows.{kept_rows, all_kept}
use Rattle.entry_index.proofs.index.EntryIndex.truncate.Goals as goal

pub returns-then-kept-len-clause-places : goal.returns-then-kept-len-clause-places
returns-then-kept-len-clause-places c =
    let index = c.args.self.now in
    let n = c.args.number in
    let kept = c.saturating_mul-kept.result in
    let is : kept ≡ min (n * index.regions) (2 ^ 64 - 1) = c.saturating_mul-kept.ensures ∙ ap (λ (k : ℕ). min (n * k) (2 ^ 64 - 1)) c.from.ensures in
    c.truncate.ensures.items ∙ kept_rows index.regions n kept index.places.items is (omega arith) (omega arith)

pub returns-else-kept-len-clause-places : goal.returns-else-kept-len-clause-places
returns-else-kept-len-clause-places c =
    let index = c.args.self.now in
    let n = c.args.number in
    let kept = c.saturating_mul-kept.result in
    let is : kept ≡ min (n * index.regions) (2 ^ 64 - 1) = c.saturating_mul-kept.ensures ∙ ap (λ (k : ℕ). min (n * k) (2 ^ 64 - 1)) c.from.ensures in
    all_kept index.regions n kept index.places.items is (omega arith)
