-- Words of 8 bytes, one by one.
use Rattle.std.proofs.Common.{◌≡◌, ℕ, zero, suc, ◌+◌, ◌*◌, ◌<◌, List, [], ◌∷◌, ◌++◌, length, refl, sym, ap, ◌∙◌, arith}
use Rattle.std.specs.Prelude.{slice_index}
use Rattle.std.proofs.lemmas.List.{get_or-append-add}
use Rattle.wire_defs.specs.PoolWords.{word_of, packed}

pub packed_at : (bs : List ℕ) (i : ℕ) → i < length (packed bs) → slice_index (packed bs) i ≡ word_of (slice_index bs (8 * i)) (slice_index bs (8 * i + 1)) (slice_index bs (8 * i + 2)) (slice_index bs (8 * i + 3)) (slice_index bs (8 * i + 4)) (slice_index bs (8 * i + 5)) (slice_index bs (8 * i + 6)) (slice_index bs (8 * i + 7))
packed_at [] i h = absurd (omega arith)
packed_at (a ∷ []) zero h = refl
packed_at (a ∷ []) (suc i) h = absurd (omega arith)
packed_at (a ∷ b ∷ []) zero h = refl
packed_at (a ∷ b ∷ []) (suc i) h = absurd (omega arith)
packed_at (a ∷ b ∷ c ∷ []) zero h = refl
packed_at (a ∷ b ∷ c ∷ []) (suc i) h = absurd (omega arith)
packed_at (a ∷ b ∷ c ∷ d ∷ []) zero h = refl
packed_at (a ∷ b ∷ c ∷ d ∷ []) (suc i) h = absurd (omega arith)
packed_at (a ∷ b ∷ c ∷ d ∷ e ∷ []) zero h = refl
packed_at (a ∷ b ∷ c ∷ d ∷ e ∷ []) (suc i) h = absurd (omega arith)
packed_at (a ∷ b ∷ c ∷ d ∷ e ∷ f ∷ []) zero h = refl
packed_at (a ∷ b ∷ c ∷ d ∷ e ∷ f ∷ []) (suc i) h = absurd (omega arith)
packed_at (a ∷ b ∷ c ∷ d ∷ e ∷ f ∷ g ∷ []) zero h = refl
packed_at (a ∷ b ∷ c ∷ d ∷ e ∷ f ∷ g ∷ []) (suc i) h = absurd (omega arith)
packed_at (a ∷ b ∷ c ∷ d ∷ e ∷ f ∷ g ∷ k ∷ rest) zero h = refl
packed_at (a ∷ b ∷ c ∷ d ∷ e ∷ f ∷ g ∷ k ∷ rest) (suc i) h =
    let front : List ℕ = a ∷ b ∷ c ∷ d ∷ e ∷ f ∷ g ∷ k ∷ [] in
    let at : (j : ℕ) → slice_index rest (8 * i + j) ≡ slice_index (front ++ rest) (8 * suc i + j) =
    λ j. (let s : 8 * suc i + j ≡ length front + (8 * i + j) = omega arith in sym (ap (slice_index (front ++ rest)) s ∙ get_or-append-add front rest (8 * i + j) 0)) in
    let z : 8 * i ≡ 8 * i + 0 = omega arith in
    let z' : 8 * suc i + 0 ≡ 8 * suc i = omega arith in
    let zero_at : slice_index rest (8 * i) ≡ slice_index (front ++ rest) (8 * suc i) = ap (slice_index rest) z ∙ at 0 ∙ ap (slice_index (front ++ rest)) z' in
    packed_at rest i (omega arith)
    ∙ (λ t. word_of (zero_at t) (at 1 t) (at 2 t) (at 3 t) (at 4 t) (at 5 t) (at 6 t) (at 7 t))
