-- Parts of lists that are written over.
use Rattle.std.proofs.Common.{◌≡◌, ℕ, zero, suc, ◌+◌, ◌-◌, ◌≤◌, ◌<◌, max, List, ◌∷◌, ◌++◌, length, take, drop, replicate, get_or, sym, ◌∙◌, ap, arith, append_assoc, length-append, length-take, length-drop, get_or-drop, get_or-take}
use Rattle.std.proofs.Math.Seq.{take-append-add, drop-append-add}
use Rattle.std.proofs.lemmas.List.{take_at, take-append-le, take-take, get_or_append_left, get_or-append_right}

-- these items in place of so many from a place on
abbrev pub over : {A : Type 0} → List A → ℕ → ℕ → List A → List A
over old at n items = take at old ++ items ++ drop (at + n) old

module _ {A : Type 0} (old items : List A) (at n : ℕ) (inside : at ≤ length old) (long : length items ≡ n) where
  pub length_over : length (over old at n items) ≡ max (length old) (at + n)
  length_over = omega (arith, inside, long, length-append (take at old ++ items) (drop (at + n) old), length-append (take at old) items, length-take at old, length-drop (at + n) old)

  pub over_front : (k : ℕ) → k ≤ at → take k (over old at n items) ≡ take k old
  over_front k low =
      ap (take k) (append_assoc (take at old) items (drop (at + n) old))
      ∙ take-append-le k (take at old) (items ++ drop (at + n) old) (omega (arith, length-take at old, inside, low))
      ∙ take-take k at old low

  pub over_below : (i : ℕ) (d : A) → i < at → get_or (over old at n items) i d ≡ get_or old i d
  over_below i d lt =
      let all : i < length (take at old ++ items) = omega (arith, length-append (take at old) items, length-take at old, inside, lt) in
      let front : i < length (take at old) = omega (arith, length-take at old, inside, lt) in
      get_or_append_left (take at old ++ items) (drop (at + n) old) d i all ∙ get_or_append_left (take at old) items d i front ∙ get_or-take at old i d lt

  pub over_above : (i : ℕ) (d : A) → at + n ≤ i → get_or (over old at n items) i d ≡ get_or old i d
  over_above i d high =
      let front : length (take at old ++ items) ≡ at + n = omega (arith, length-append (take at old) items, length-take at old, inside, long) in
      get_or-append_right (take at old ++ items) (drop (at + n) old) (at + n) i d front high ∙ get_or-drop (at + n) old (i - (at + n)) d ∙ ap (λ (k : ℕ). get_or old k d) (omega (arith, high))

pub replicate_sum : {A : Type 0} (a b : ℕ) (x : A) → replicate a x ++ replicate b x ≡ replicate (a + b) x
replicate_sum zero b x = ap (λ (k : ℕ). replicate k x) (omega arith)
replicate_sum (suc a) b x = let same : suc (a + b) ≡ suc a + b = omega arith in ap (λ l. x ∷ l) (replicate_sum a b x) ∙ ap (λ (k : ℕ). replicate k x) same

-- behind a front that stays
pub over_behind : {A : Type 0} (front old items : List A) (k at n : ℕ) → length front ≡ k → over (front ++ old) (k + at) n items ≡ front ++ over old at n items
over_behind front old items k at n long =
    let place : k + at ≡ length front + at = ap (λ (m : ℕ). m + at) (sym long) in
    let end : k + at + n ≡ length front + (at + n) = omega (arith, long) in
    let first : take (k + at) (front ++ old) ≡ front ++ take at old = ap (λ (m : ℕ). take m (front ++ old)) place ∙ take-append-add front old at in
    let rest : drop (k + at + n) (front ++ old) ≡ drop (at + n) old = ap (λ (m : ℕ). drop m (front ++ old)) end ∙ drop-append-add front old (at + n) in
    (λ i. first i ++ items ++ rest i)
    ∙ ap (λ l. l ++ drop (at + n) old) (append_assoc front (take at old) items)
    ∙ append_assoc front (take at old ++ items) (drop (at + n) old)

-- a list whose places from `low` on got other items, behind which nothing is taken
pub put_back : {A : Type 0} (r l back post more : List A) (low n : ℕ) → l ≡ r → length back + low ≡ length r → n ≡ length r
    → take n (take low l ++ (back ++ post) ++ more) ≡ take low r ++ back
put_back r l back post more low n same long all =
    let front = take low l ++ back in
    let end : length front ≡ n = omega (arith, long, all, ap length same, length-append (take low l) back, length-take low l) in
    ap (λ x. take n (x ++ more)) (sym (append_assoc (take low l) back post))
    ∙ ap (take n) (append_assoc front post more)
    ∙ take_at front (post ++ more) n end
    ∙ ap (λ x. take low x ++ back) same
