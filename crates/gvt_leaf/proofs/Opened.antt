-- What a walk to the end of a chain gives, and the blocks that it hasn't been at.
use Rattle.std.proofs.Common.{◌≡◌, ◌≢◌, inl, inr, ℕ, ◌+◌, ◌<◌, ◌≤◌, ◌==◌, Bool, true, false, List, length, take, get_or, sym, ap, subst, ◌∙◌, arith}
use Rattle.std.specs.Prelude.{count_by}
use Rattle.std.proofs.Math.ListN.{get_or-eq_default}
use Rattle.std.proofs.lemmas.Bool.{cases_eq, cases_lt}
use Rattle.std.proofs.lemmas.Bool.Decides.{nat_tests}
use Rattle.std.proofs.lemmas.List.{get_or-take, length-take-le}
use Rattle.std.specs.List.{AllByRecursion}
use Rattle.journal_defs.specs.Leaves.{IsCell, Decodes, cells_of}
use Rattle.global_defs.specs.Entry.{Globals}
use Rattle.block_pool.specs.Code.{Pool}
use Rattle.block_pool.specs.Pool.{leaf_at}
use Rattle.gvt_leaf.specs.Links.{Lead, one_if, times, inside}
use Rattle.gvt_leaf.specs.Chained.{all_cells}
use Rattle.gvt_leaf.specs.Stored.{blocks_in}
use Rattle.gvt_leaf.specs.Walked.{leaves_of, AreWalked}
use Rattle.gvt_leaf.proofs.Kept.{all_forms}
use Rattle.gvt_leaf.proofs.Decoding.{chain_decodes}

-- ---- blocks that aren't marked

same_mark : (seen : List Bool) (n b : ℕ) → n < length seen → b ≢ n → get_or (take (n + 1) seen) b false ≡ get_or (take n seen) b false
same_mark seen n b low other = elim (cases_lt b n) [
  | inl below ↦ get_or-take (n + 1) seen b false (omega arith) ∙ sym (get_or-take n seen b false below)
  | inr high ↦ elim (cases_lt n b) [
    | inl above ↦
        get_or-eq_default (take (n + 1) seen) false {n = b} (omega (arith, length-take-le (n + 1) seen (omega arith)))
        ∙ sym (get_or-eq_default (take n seen) false {n = b} (omega (arith, length-take-le n seen (omega arith))))
    | inr same ↦ absurd (other (omega arith))
  ]
]

-- one more block is marked
pub marked_more : (seen : List Bool) (n b : ℕ) → n < length seen → get_or seen n false ≡ true → one_if (get_or (take (n + 1) seen) b false) ≡ one_if (get_or (take n seen) b false) + one_if (n == b)
marked_more seen n b low marked = elim (cases_eq n b) [
  | inl e ↦
      let is : (n == b) ≡ true = grind (arith, nat_tests, e) in
      let now : get_or (take (n + 1) seen) b false ≡ true = ap (λ k. get_or (take (n + 1) seen) k false) (sym e) ∙ get_or-take (n + 1) seen n false (omega arith) ∙ marked in
      let was : get_or (take n seen) b false ≡ false = get_or-eq_default (take n seen) false {n = b} (omega (arith, length-take-le n seen (omega arith), e)) in
      omega (arith, ap one_if is, ap one_if now, ap one_if was)
  | inr other ↦
      let no : (n == b) ≡ false = grind (arith, nat_tests, other) in
      omega (arith, ap one_if no, ap one_if (same_mark seen n b low (λ e. other (sym e))))
]

-- or it isn't
pub marked_still : (seen : List Bool) (n b : ℕ) → n < length seen → get_or seen n false ≡ false → one_if (get_or (take (n + 1) seen) b false) ≡ one_if (get_or (take n seen) b false)
marked_still seen n b low unmarked = elim (cases_eq n b) [
  | inl e ↦
      let now : get_or (take (n + 1) seen) b false ≡ false = ap (λ k. get_or (take (n + 1) seen) k false) (sym e) ∙ get_or-take (n + 1) seen n false (omega arith) ∙ unmarked in
      let was : get_or (take n seen) b false ≡ false = get_or-eq_default (take n seen) false {n = b} (omega (arith, length-take-le n seen (omega arith), e)) in
      ap one_if (now ∙ sym was)
  | inr other ↦ ap one_if (same_mark seen n b low (λ e. other (sym e)))
]

pub inside_more : (n b : ℕ) → inside b (n + 1) ≡ inside b n + one_if (n == b)
inside_more n b = grind (arith, nat_tests)

-- ---- a chain to its end

module _ (p : Pool) (order : List ℕ) (seen : List Bool) (w : AreWalked p order seen) where
  pub ends_linked : Lead (leaf_at p) order 0
  ends_linked = subst (λ n. Lead (leaf_at p) order n) w.ends w.walked.led

  pub order_below : (b : ℕ) → 1 ≤ times b order → b < length p.leaves
  order_below b some = elim (cases_lt b (length p.leaves)) [
    | inl low ↦ low
    | inr high ↦
        let none : get_or seen b false ≡ false = get_or-eq_default seen false {n = b} (omega (arith, w.walked.marks)) in
        absurd (omega (arith, w.walked.apart b, ap one_if none))
  ]

  order_once : (b : ℕ) → times b order ≤ 1
  order_once b = omega (arith, w.walked.apart b, at_most (get_or seen b false))
    where
      at_most : (m : Bool) → one_if m ≤ 1
      at_most true = omega arith
      at_most false = omega arith

  pub walked_forms : AllByRecursion IsCell (all_cells (leaves_of p order))
  walked_forms = all_forms (leaf_at p) order w.walked.forms

  pub walked_decodes : (g : Globals) → all_cells (leaves_of p order) ≡ cells_of g → Decodes (blocks_in p.leaves) g
  walked_decodes g is = chain_decodes p order g w.walked.first ends_linked (order_once 0) order_below w.walked.forms w.walked.risen.filled is

  module _ (free : List ℕ) (others : (b : ℕ) → times b free + one_if (get_or seen b false) ≡ inside b (length seen)) (count : length free + count_by (λ s. s) seen ≡ length seen) where
    pub all_apart : (b : ℕ) → times b order + times b free ≡ inside b (length p.leaves)
    all_apart b = omega (arith, others b, w.walked.apart b, ap (inside b) w.walked.marks)

    pub all_total : length order + length free ≡ length p.leaves
    all_total = omega (arith, count, w.walked.count, w.walked.marks)
