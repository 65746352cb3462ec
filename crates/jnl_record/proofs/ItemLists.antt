-- Items, one and many.
use Rattle.std.proofs.Common.{◌≡◌, ℕ, suc, ◌+◌, ◌-◌, ◌<◌, ◌≤◌, ◌^◌, List, [], ◌∷◌, ◌++◌, flat_map, arith, Option, Some, None, refl, ap, sym, ◌∙◌, append_assoc}
use Rattle.std.proofs.lemmas.List.{append-nil}
use Rattle.std.specs.Option.{option_map}
use Rattle.global_defs.specs.Entry.{Update}
use Rattle.global_defs.specs.Fields.{spelled_update, IsUpdate}
use Rattle.journal_defs.specs.Journal.{Item, Rise, IsItem, spelled_item}
use Rattle.jnl_record.specs.Heads.{AreItems}
use Rattle.repl_fields.proofs.Chains.{Field, Reads, byte, half}

abbrev pub update : Field Update
update = record { has = IsUpdate; spelled = spelled_update }

abbrev pub item : ℕ → ℕ → Field Item
item low count = record { has = λ i. (low ≤ i.position) × IsItem count i; spelled = spelled_item }

module _ (low count : ℕ) (small : count < 2 ^ 16) (bytes : List ℕ) where
  module _ (r : List ℕ) (four : Reads byte bytes (Some (4, r))) where
    behind_four : (i : Item) (rest : List ℕ) → bytes ≡ spelled_item i ++ rest → r ≡ half.spelled i.position ++ (spelled_update i.update ++ rest)
    behind_four i rest e = sym (four.2 4 (half.spelled i.position ++ (spelled_update i.update ++ rest)) (omega arith) e).1

    small_position : (i : Item) → IsItem count i → i.position < 2 ^ 16
    small_position i is = omega (arith, is.position)

    pub no_position : Reads half r None → Reads (item low count) bytes None
    no_position none i rest form e = none i.position _ (small_position i form.1) (behind_four i rest e)

    module _ (n : ℕ) (s : List ℕ) (half_read : Reads half r (Some (n, s))) where
      behind_position : (i : Item) (rest : List ℕ) → IsItem count i → bytes ≡ spelled_item i ++ rest → (i.position ≡ n) × (spelled_update i.update ++ rest ≡ s)
      behind_position i rest is e = half_read.2 i.position (spelled_update i.update ++ rest) (small_position i is) (behind_four i rest e)

      pub some_item : (u : Update) (t : List ℕ) → low ≤ n → n < count → Reads update s (Some (u, t)) → Reads (item low count) bytes (Some (record { position = n; update = u }, t))
      some_item u t from below read = (
        (from, record { position = below; update = read.0 }),
        four.1 ∙ ap (λ x. 4 ∷ x) half_read.1 ∙ ap (λ x. 4 ∷ half.spelled n ++ x) read.1,
        λ i rest form e.
            let same = behind_position i rest form.1 e in
            let later = read.2 i.update rest form.1.update (sym same.1) in
            ((λ j. record { position = same.0 j; update = later.0 j }), later.1),
      )

abbrev pub items : ℕ → ℕ → ℕ → Field (List Item)
items low n count = record { has = AreItems low n count; spelled = flat_map spelled_item }

no_items : (low n count : ℕ) (bytes : List ℕ) → Reads (item low count) bytes None → Reads (items low (suc n) count) bytes None
no_items low n count bytes none [] rest form e = absurd (omega (arith, form.many))
no_items low n count bytes none (i ∷ is) rest form e = none i (flat_map spelled_item is ++ rest) (form.rise.0, form.each.0) (e ∙ append_assoc (spelled_item i) (flat_map spelled_item is) rest)

module _ (low n count : ℕ) (bytes : List ℕ) (i : Item) (r : List ℕ) (first : Reads (item low count) bytes (Some (i, r))) where
  others : (j : Item) (js : List Item) (rest : List ℕ) → AreItems low (suc n) count (j ∷ js) → bytes ≡ flat_map spelled_item (j ∷ js) ++ rest
      → (j ≡ i) × (r ≡ flat_map spelled_item js ++ rest) × AreItems (i.position + 1) n count js
  others j js rest form e =
      let same : (j ≡ i) × (flat_map spelled_item js ++ rest ≡ r) = first.2 j (flat_map spelled_item js ++ rest) (form.rise.0, form.each.0) (e ∙ append_assoc (spelled_item j) (flat_map spelled_item js) rest) in
      let here : j ≡ i = same.0 in
      let rises : Rise (j.position + 1) js = form.rise.1 in
      (same.0, sym same.1, record { many = omega (arith, form.many); rise = rw here at rises; each = form.each.1 })

  one_more : (p : Option (List Item × List ℕ)) → Reads (items (i.position + 1) n count) r p → Reads (items low (suc n) count) bytes (option_map (λ q. (i ∷ q.0, q.1)) p)
  one_more None none = none_of
    where
      none_of : (is : List Item) (rest : List ℕ) → AreItems low (suc n) count is → bytes ≡ flat_map spelled_item is ++ rest → ⊥
      none_of [] rest form e = absurd (omega (arith, form.many))
      none_of (j ∷ js) rest form e = let o = others j js rest form e in none js rest o.2 o.1
  one_more (Some q) second = (
    record { many = omega (arith, second.0.many); rise = (first.0.0, second.0.rise); each = (first.0.1, second.0.each) },
    first.1 ∙ ap (λ t. spelled_item i ++ t) second.1 ∙ sym (append_assoc (spelled_item i) (flat_map spelled_item q.0) q.1),
    same,
  )
    where
      same : (is : List Item) (rest : List ℕ) → AreItems low (suc n) count is → bytes ≡ flat_map spelled_item is ++ rest → (is ≡ i ∷ q.0) × (rest ≡ q.1)
      same [] rest form e = absurd (omega (arith, form.many))
      same (j ∷ js) rest form e =
          let o = others j js rest form e in
          let later = second.2 js rest o.2 o.1 in
          ((λ k. o.0 k ∷ later.0 k), later.1)

-- what is read of the items that are left, behind those so far, is what is read of all
abbrev pub GoesOn : (n count : ℕ) → List ℕ → (i low : ℕ) → List Item → List ℕ → Type 0
GoesOn n count bytes i low made rest = (left : ℕ) (p : Option (List Item × List ℕ)) → i + left ≡ n → Reads (items low left count) rest p
    → Reads (items 0 n count) bytes (option_map (λ q. (made ++ q.0, q.1)) p)

pub goes_first : (n count : ℕ) (bytes : List ℕ) → GoesOn n count bytes 0 0 [] bytes
goes_first n count bytes left None is read = let same : left ≡ n = omega (arith, is) in rw same at read
goes_first n count bytes left (Some q) is read = let same : left ≡ n = omega (arith, is) in rw same at read

module _ (n count : ℕ) (bytes : List ℕ) (i low : ℕ) (made : List Item) (rest : List ℕ) (so_far : GoesOn n count bytes i low made rest) where
  pub goes_on : (x : Item) (r : List ℕ) → Reads (item low count) rest (Some (x, r)) → GoesOn n count bytes (i + 1) (x.position + 1) (made ++ x ∷ []) r
  goes_on x r first left None is read = so_far (suc left) None (omega (arith, is)) (one_more low left count rest x r first None read)
  goes_on x r first left (Some q) is read =
      let moved : (made ++ x ∷ []) ++ q.0 ≡ made ++ (x ∷ q.0) = append_assoc made (x ∷ []) q.0 in
      rw moved (so_far (suc left) (Some (x ∷ q.0, q.1)) (omega (arith, is)) (one_more low left count rest x r first (Some q) read))

  pub goes_out : i < n → Reads (item low count) rest None → Reads (items 0 n count) bytes None
  goes_out inside none = so_far (suc (n - suc i)) None (omega arith) (no_items low (n - suc i) count rest none)

  pub goes_done : i ≡ n → Reads (items 0 n count) bytes (Some (made, rest))
  goes_done is = rw append-nil at (so_far 0 (Some ([], rest)) (omega (arith, is)) nothing)
    where
      nothing : Reads (items low 0 count) rest (Some ([], rest))
      nothing = (record { many = refl; rise = tt; each = tt }, refl, none_else)
        where
          none_else : (is : List Item) (s : List ℕ) → AreItems low 0 count is → rest ≡ flat_map spelled_item is ++ s → (is ≡ []) × (s ≡ rest)
          none_else [] s form e = (refl, sym e)
          none_else (j ∷ js) s form e = absurd (omega (arith, form.many))
