-- A field and then another, read one after the other, are one field of both.
use Rattle.std.proofs.Common.{◌≡◌, List, ℕ, ◌++◌, Some, None, ap, sym, ◌∙◌, append_assoc}
use Rattle.repl_fields.specs.Reading.{ReadsField}

module _ {X Y : Type 0} (F : X → Type 0) (f : X → List ℕ) (G : Y → Type 0) (g : Y → List ℕ) where
  abbrev pub Both : X × Y → Type 0
  Both u = F u.0 × G u.1

  abbrev pub both : X × Y → List ℕ
  both u = f u.0 ++ g u.1

  pub none_first : (bytes : List ℕ) → ReadsField F f bytes None → ReadsField Both both bytes None
  none_first bytes none u rest form e = none u.0 (g u.1 ++ rest) form.0 (e ∙ append_assoc (f u.0) (g u.1) rest)

  pub none_second : (bytes : List ℕ) (x : X) (r : List ℕ) → ReadsField F f bytes (Some (x, r)) → ReadsField G g r None → ReadsField Both both bytes None
  none_second bytes x r read none u rest form e =
      let same : (u.0 ≡ x) × (g u.1 ++ rest ≡ r) = read.2 u.0 (g u.1 ++ rest) form.0 (e ∙ append_assoc (f u.0) (g u.1) rest) in
      none u.1 rest form.1 (sym same.1)

  pub some_both : (bytes : List ℕ) (x : X) (r : List ℕ) (y : Y) (s : List ℕ) → ReadsField F f bytes (Some (x, r)) → ReadsField G g r (Some (y, s)) → ReadsField Both both bytes (Some ((x, y), s))
  some_both bytes x r y s first second = (
    (first.0, second.0),
    first.1 ∙ ap (λ t. f x ++ t) second.1 ∙ sym (append_assoc (f x) (g y) s),
    λ u rest form e.
        let same : (u.0 ≡ x) × (g u.1 ++ rest ≡ r) = first.2 u.0 (g u.1 ++ rest) form.0 (e ∙ append_assoc (f u.0) (g u.1) rest) in
        let later : (u.1 ≡ y) × (rest ≡ s) = second.2 u.1 rest form.1 (sym same.1) in
        ((λ i. (same.0 i, later.0 i)), later.1),
  )
