-- Fields that are read one after the other.
use Rattle.std.proofs.Common.{◌≡◌, ℕ, List, ◌++◌, Option, Some, None, ap, sym, ◌∙◌, subst, append_assoc}
use Rattle.entry_index.specs.Fields.{Field, Reads, Skips, then, and}

module _ {X Y : Type 0} (f : Field X) (g : X → Field Y) where
  pub front_then : (bytes : List ℕ) → Reads f bytes None → Reads (then f g) bytes None
  front_then bytes none u rest form e = none u.0 ((g u.0).spelled u.1 ++ rest) form.0 (e ∙ append_assoc (f.spelled u.0) ((g u.0).spelled u.1) rest)

  -- what stands behind the first field
  after : (bytes : List ℕ) (x : X) (r : List ℕ) → Reads f bytes (Some (x, r)) → (u : X × Y) (rest : List ℕ) → f.has u.0 × (g u.0).has u.1 → bytes ≡ (f.spelled u.0 ++ (g u.0).spelled u.1) ++ rest
      → (u.0 ≡ x) × (g x).has u.1 × (r ≡ (g x).spelled u.1 ++ rest)
  after bytes x r read u rest form e =
      let same : (u.0 ≡ x) × ((g u.0).spelled u.1 ++ rest ≡ r) = read.2 u.0 ((g u.0).spelled u.1 ++ rest) form.0 (e ∙ append_assoc (f.spelled u.0) ((g u.0).spelled u.1) rest) in
      (same.0, subst (λ (z : X). (g z).has u.1) same.0 form.1, sym same.1 ∙ ap (λ (z : X). (g z).spelled u.1 ++ rest) same.0)

  pub behind_then : (bytes : List ℕ) (x : X) (r : List ℕ) → Reads f bytes (Some (x, r)) → Reads (g x) r None → Reads (then f g) bytes None
  behind_then bytes x r read none u rest form e = let a = after bytes x r read u rest form e in none u.1 rest a.1 a.2

  pub joined_then : (bytes : List ℕ) (x : X) (r : List ℕ) (y : Y) (s : List ℕ) → Reads f bytes (Some (x, r)) → Reads (g x) r (Some (y, s)) → Reads (then f g) bytes (Some ((x, y), s))
  joined_then bytes x r y s first second = (
    (first.0, second.0),
    first.1 ∙ ap (λ t. f.spelled x ++ t) second.1 ∙ sym (append_assoc (f.spelled x) ((g x).spelled y) s),
    λ u rest form e.
        let a = after bytes x r first u rest form e in
        let later : (u.1 ≡ y) × (rest ≡ s) = second.2 u.1 rest a.1 a.2 in
        ((λ i. (a.0 i, later.0 i)), later.1),
  )

module _ {X Y : Type 0} (f : Field X) (g : Field Y) where
  pub front : (bytes : List ℕ) → Reads f bytes None → Reads (and f g) bytes None
  front bytes none = front_then f (λ _. g) bytes none

  pub behind : (bytes : List ℕ) (x : X) (r : List ℕ) → Reads f bytes (Some (x, r)) → Reads g r None → Reads (and f g) bytes None
  behind bytes x r read none = behind_then f (λ _. g) bytes x r read none

  pub joined : (bytes : List ℕ) (x : X) (r : List ℕ) (y : Y) (s : List ℕ) → Reads f bytes (Some (x, r)) → Reads g r (Some (y, s)) → Reads (and f g) bytes (Some ((x, y), s))
  joined bytes x r y s first second = joined_then f (λ _. g) bytes x r y s first second

  -- a second field that is passed over
  pub skipped : (bytes : List ℕ) (x : X) (r : List ℕ) → Reads f bytes (Some (x, r)) → (p : Option (List ℕ)) → Skips g r p → Skips (and f g) bytes p
  skipped bytes x r read None none = behind bytes x r read none
  skipped bytes x r read (Some rest) second = ((x, second.0), joined bytes x r second.0 rest read second.1)
