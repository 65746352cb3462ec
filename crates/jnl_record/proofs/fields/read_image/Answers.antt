use Rattle.std.proofs.Common.{◌≡◌, ℕ, List, ◌++◌, length, sym, ◌∙◌, ap, take, drop, rules}
use Rattle.std.proofs.Math.Seq.{take-append_seam, drop-append_seam}
use Rattle.jnl_record.proofs.fields.read_image.Goals as goal

one_front : (x a r s : List ℕ) (n : ℕ) → length x ≡ n → length a ≡ n → x ++ r ≡ a ++ s → (x ≡ a) × (r ≡ s)
one_front x a r s n many same e = (
  sym (take-append_seam x r) ∙ ap (λ k. take k (x ++ r)) (many ∙ sym same) ∙ ap (take (length a)) e ∙ take-append_seam a s,
  sym (drop-append_seam x r) ∙ ap (λ k. drop k (x ++ r)) (many ∙ sym same) ∙ ap (drop (length a)) e ∙ drop-append_seam a s,
)

pub returns : goal.returns
returns c =
    let whole : c.args.bytes.now ≡ c.split_at.result.0.now ++ c.split_at.result.1.now = search rules in
    let many : length c.split_at.result.0.now ≡ 4096 = search rules in
    (many, whole, λ x rest same e. one_front x c.split_at.result.0.now rest c.split_at.result.1.now 4096 same many (sym e ∙ whole))
