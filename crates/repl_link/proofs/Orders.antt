-- The orders of each session.
use Rattle.std.proofs.Common.{◌≡◌, ℕ, zero, suc, ◌+◌, ◌<◌, Option, Some, None, option_map, option_to_list, List, [], ◌∷◌, ◌++◌, length, set, drop, get_or, ap, refl, ◌∙◌, arith, Bool, true, false, if◌then◌else◌}
use Rattle.std.specs.declared.collections.VecDeque.{VecDeque}
use Rattle.std.specs.declared.alloc.Global.{Global}
use Rattle.wire_defs.specs.Links.{first_order, later_orders}
use Rattle.repl_link.specs.MemLinks.{orders_of}

pub orders_of-set_same : (all : List (VecDeque ℕ Global)) (i : ℕ) (one : VecDeque ℕ Global) → i < length all → orders_of (set all i one) i ≡ one.items
orders_of-set_same [] zero one below = absurd (omega arith)
orders_of-set_same [] (suc i) one below = absurd (omega arith)
orders_of-set_same (x ∷ all) zero one below = refl
orders_of-set_same (x ∷ all) (suc i) one below = orders_of-set_same all i one (omega arith)

pub orders_of-set_other : (all : List (VecDeque ℕ Global)) (i : ℕ) (one : VecDeque ℕ Global) (s : ℕ) → (s ≡ i → ⊥) → orders_of (set all i one) s ≡ orders_of all s
orders_of-set_other [] i one s apart = refl
orders_of-set_other (x ∷ all) zero one zero apart = absurd (apart refl)
orders_of-set_other (x ∷ all) zero one (suc s) apart = refl
orders_of-set_other (x ∷ all) (suc i) one zero apart = refl
orders_of-set_other (x ∷ all) (suc i) one (suc s) apart = orders_of-set_other all i one s (λ e. apart (ap (λ n. suc n) e))

-- a session whose orders are as before
pub orders_of-set_kept : (all : List (VecDeque ℕ Global)) (i : ℕ) (one : VecDeque ℕ Global) → one.items ≡ orders_of all i → (s : ℕ) → orders_of (set all i one) s ≡ orders_of all s
orders_of-set_kept [] i one same s = refl
orders_of-set_kept (x ∷ all) zero one same zero = same
orders_of-set_kept (x ∷ all) zero one same (suc s) = refl
orders_of-set_kept (x ∷ all) (suc i) one same zero = refl
orders_of-set_kept (x ∷ all) (suc i) one same (suc s) = orders_of-set_kept all i one same s

pub orders_of-get_or : (all : List (VecDeque ℕ Global)) (i : ℕ) (d : VecDeque ℕ Global) → i < length all → orders_of all i ≡ (get_or all i d).items
orders_of-get_or [] i d below = absurd (omega arith)
orders_of-get_or (x ∷ all) zero d below = refl
orders_of-get_or (x ∷ all) (suc i) d below = orders_of-get_or all i d (omega arith)

-- what is taken from the front is the first order
pub first_taken : (orders rest : List ℕ) (taken : Option ℕ) → orders ≡ option_to_list taken ++ rest → rest ≡ drop 1 orders
    → (first_order orders ≡ taken) × (later_orders orders ≡ rest)
first_taken orders rest (Some order) is later = (ap first_order is, ap later_orders is)
first_taken [] rest None is later = (refl, is)
first_taken (order ∷ orders) rest None is later = let bad : suc (length orders) ≡ length orders = ap length (is ∙ later) in absurd (omega arith)

-- before anything was moved
pub order_at_first : (left : Option ℕ) (moved : ℕ) → moved ≡ 0 → option_map (λ l. l + moved) left ≡ left
order_at_first None moved is = refl
order_at_first (Some l) moved is = ap {B = Option ℕ} (λ n. Some n) (omega arith)

-- what a list becomes that grows where memory is given
pub when_refused : (given : Bool) (grown before after : List ℕ) → after ≡ (if given then grown else before) → given ≡ false → after ≡ before
when_refused true grown before after is refused = cc
when_refused false grown before after is refused = is

pub when_given : (given : Bool) (grown before after : List ℕ) → after ≡ (if given then grown else before) → given ≡ true → after ≡ grown
when_given true grown before after is taken = is
when_given false grown before after is taken = cc
