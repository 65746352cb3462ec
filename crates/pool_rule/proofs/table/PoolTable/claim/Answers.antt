use Rattle.std.proofs.Common.{◌≡◌, ℕ, ◌+◌, ◌/◌, List, [], ◌∷◌, ◌++◌, length, arith, ap, sym, ◌∙◌, length-append}
use Rattle.wire_defs.specs.PoolWords.{words_from}
use Rattle.wire_defs.proofs.PoolWords.{length-claimed}
use Rattle.pool_rule.specs.declared.views.View.{View}
use Rattle.pool_rule.proofs.table.PoolTable.claim.Goals as goal

-- the count that the writer claims, by the one that it had
claimed : (v : View) (bytes : List ℕ) (count : ℕ) → count ≡ length (words_from v.first v.entries) → count + (2 + (length bytes + 7) / 8) ≡ length (words_from v.first (v.entries ++ bytes ∷ []))
claimed v bytes count is = let more = length-claimed v.first v.entries bytes in omega arith

pub claim_as-requires-clause-count : goal.claim_as-requires-clause-count
claim_as-requires-clause-count c = claimed c.w.inside.seat.me.0 c.args.bytes.now c.w.inside.claimed c.w.invariant.3

pub invariant_of-w : goal.invariant_of-w
invariant_of-w c =
    let was = c.w.invariant in
    let view = c.claim_as.ensures.view in
    let v : View = c.w.inside.seat.me.0 in
    let room = c.w.invariant.4 in
    let size = c.requires.bytes in
    let entries : c.claim_as.new.w.me.0.entries ≡ v.entries ++ c.args.bytes.now ∷ [] = ap (λ m. m.0.entries) view in
    let first : c.claim_as.new.w.me.0.first ≡ v.first = ap (λ m. m.0.first) view in
    let count = ap length entries ∙ length-append v.entries (c.args.bytes.now ∷ []) in (
      ap (λ m. m.0.live) view ∙ was.0,
      ap (λ m. m.0.writes) view ∙ was.1,
      ap (λ m. m.1) view ∙ was.2,
      claimed v c.args.bytes.now c.w.inside.claimed was.3 ∙ (λ i. length (words_from (sym first i) (sym entries i))),
      omega arith,
      ap (λ m. m.0.told_got) view ∙ was.5,
      ap (λ m. m.0.told_notes) view ∙ was.6,
      ap (λ m. m.0.told_hard) view ∙ was.7,
      ap (λ m. m.0.told_claim) view ∙ was.8,
    )

pub returns-clause-count : goal.returns-clause-count
returns-clause-count c =
    let view = c.claim_as.ensures.view in
    let v : View = c.w.inside.seat.me.0 in
    let entries : c.claim_as.new.w.me.0.entries ≡ v.entries ++ c.args.bytes.now ∷ [] = ap (λ m. m.0.entries) view in
    let first : c.claim_as.new.w.me.0.first ≡ v.first = ap (λ m. m.0.first) view in
    claimed v c.args.bytes.now c.w.inside.claimed c.w.invariant.3 ∙ (λ i. length (words_from (sym first i) (sym entries i)))
