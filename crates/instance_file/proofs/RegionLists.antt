-- Regions one behind the other.
use Rattle.std.proofs.Common.{◌≡◌, ℕ, suc, ◌+◌, ◌-◌, ◌<◌, List, [], ◌∷◌, ◌++◌, flat_map, arith, Option, Some, None, refl, sym, ◌∙◌, ap, append_assoc, append-nil}
use Rattle.std.specs.Option.{option_map}
use Rattle.global_defs.specs.Region.{Region}
use Rattle.journal_defs.specs.Instance.{spelled_region}
use Rattle.instance_file.specs.Fields.{IsRegion, AreRegions}
use Rattle.repl_fields.proofs.Chains.{Field, Reads}

abbrev pub region : Field Region
region = record { has = IsRegion; spelled = spelled_region }

abbrev pub regions : ℕ → Field (List Region)
regions n = record { has = AreRegions n; spelled = flat_map spelled_region }

no_regions : (n : ℕ) (bytes : List ℕ) → Reads region bytes None → Reads (regions (suc n)) bytes None
no_regions n bytes none [] rest form e = absurd (omega (arith, form.many))
no_regions n bytes none (x ∷ xs) rest form e = none x (flat_map spelled_region xs ++ rest) form.each.0 (e ∙ append_assoc (spelled_region x) (flat_map spelled_region xs) rest)

module _ (n : ℕ) (bytes : List ℕ) (x : Region) (r : List ℕ) (first : Reads region bytes (Some (x, r))) where
  others : (y : Region) (ys : List Region) (rest : List ℕ) → AreRegions (suc n) (y ∷ ys) → bytes ≡ flat_map spelled_region (y ∷ ys) ++ rest
      → (y ≡ x) × (r ≡ flat_map spelled_region ys ++ rest) × AreRegions n ys
  others y ys rest form e =
      let same : (y ≡ x) × (flat_map spelled_region ys ++ rest ≡ r) = first.2 y (flat_map spelled_region ys ++ rest) form.each.0 (e ∙ append_assoc (spelled_region y) (flat_map spelled_region ys) rest) in
      (same.0, sym same.1, record { many = omega (arith, form.many); each = form.each.1 })

  one_more : (p : Option (List Region × List ℕ)) → Reads (regions n) r p → Reads (regions (suc n)) bytes (option_map (λ q. (x ∷ q.0, q.1)) p)
  one_more None none = none_of
    where
      none_of : (xs : List Region) (rest : List ℕ) → AreRegions (suc n) xs → bytes ≡ flat_map spelled_region xs ++ rest → ⊥
      none_of [] rest form e = absurd (omega (arith, form.many))
      none_of (y ∷ ys) rest form e = let o = others y ys rest form e in none ys rest o.2 o.1
  one_more (Some q) second = (
    record { many = omega (arith, second.0.many); each = (first.0, second.0.each) },
    first.1 ∙ ap (λ t. spelled_region x ++ t) second.1 ∙ sym (append_assoc (spelled_region x) (flat_map spelled_region q.0) q.1),
    same,
  )
    where
      same : (xs : List Region) (rest : List ℕ) → AreRegions (suc n) xs → bytes ≡ flat_map spelled_region xs ++ rest → (xs ≡ x ∷ q.0) × (rest ≡ q.1)
      same [] rest form e = absurd (omega (arith, form.many))
      same (y ∷ ys) rest form e =
          let o = others y ys rest form e in
          let later = second.2 ys rest o.2 o.1 in
          ((λ k. o.0 k ∷ later.0 k), later.1)

-- what is read of the regions that are left, behind those so far, is what is read of all
abbrev pub GoesOn : (n : ℕ) → List ℕ → (i : ℕ) → List Region → List ℕ → Type 0
GoesOn n bytes i made rest = (left : ℕ) (p : Option (List Region × List ℕ)) → i + left ≡ n → Reads (regions left) rest p
    → Reads (regions n) bytes (option_map (λ q. (made ++ q.0, q.1)) p)

pub goes_first : (n : ℕ) (bytes : List ℕ) → GoesOn n bytes 0 [] bytes
goes_first n bytes left None is read = let same : left ≡ n = omega (arith, is) in rw same at read
goes_first n bytes left (Some q) is read = let same : left ≡ n = omega (arith, is) in rw same at read

module _ (n : ℕ) (bytes : List ℕ) (i : ℕ) (made : List Region) (rest : List ℕ) (so_far : GoesOn n bytes i made rest) where
  pub goes_on : (x : Region) (r : List ℕ) → Reads region rest (Some (x, r)) → GoesOn n bytes (i + 1) (made ++ x ∷ []) r
  goes_on x r first left None is read = so_far (suc left) None (omega (arith, is)) (one_more left rest x r first None read)
  goes_on x r first left (Some q) is read =
      let moved : (made ++ x ∷ []) ++ q.0 ≡ made ++ (x ∷ q.0) = append_assoc made (x ∷ []) q.0 in
      rw moved (so_far (suc left) (Some (x ∷ q.0, q.1)) (omega (arith, is)) (one_more left rest x r first (Some q) read))

  pub goes_out : i < n → Reads region rest None → Reads (regions n) bytes None
  goes_out inside none = so_far (suc (n - suc i)) None (omega arith) (no_regions (n - suc i) rest none)

  pub goes_done : i ≡ n → Reads (regions n) bytes (Some (made, rest))
  goes_done is = rw append-nil at (so_far 0 (Some ([], rest)) (omega (arith, is)) nothing)
    where
      nothing : Reads (regions 0) rest (Some ([], rest))
      nothing = (record { many = refl; each = tt }, refl, none_else)
        where
          none_else : (xs : List Region) (s : List ℕ) → AreRegions 0 xs → rest ≡ flat_map spelled_region xs ++ s → (xs ≡ []) × (s ≡ rest)
          none_else [] s form e = (refl, sym e)
          none_else (y ∷ ys) s form e = absurd (omega (arith, form.many))
