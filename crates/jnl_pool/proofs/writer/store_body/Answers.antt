use Rattle.std.proofs.Common.{ℕ, ◌+◌, ◌<◌, length, sym, ◌∙◌, subst}
use Rattle.std.specs.Prelude.{slice_index}
use Rattle.wire_defs.specs.PoolWords.{words_from, packed}
use Rattle.jnl_pool.proofs.Packed.{packed_at}
use Rattle.jnl_pool.proofs.writer.store_body.Goals as goal

pub store-requires-clause-word : goal.store-requires-clause-word
store-requires-clause-word c =
    let v = c.loop-i.invariant.view in
    let lt = c.loop-i-test.true in
    let below : c.loop-i.i < length (packed c.args.bytes.now) = subst (λ (n : ℕ). c.loop-i.i < n) c.requires.count.0 lt in
    c.word_at-word.ensures ∙ sym (packed_at c.args.bytes.now c.loop-i.i below) ∙ sym (c.requires.words c.loop-i.i lt)
    ∙ (λ t. slice_index (words_from ((sym v t).first) ((sym v t).entries)) (c.args.from + c.loop-i.i))
