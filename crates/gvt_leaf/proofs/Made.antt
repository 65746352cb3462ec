-- Leaves after an update hold the globals after it.
use Rattle.std.proofs.Common.{◌≡◌, ℕ, zero, suc, ◌≤◌, ◌<◌, ◌+◌, false, List, [], ◌∷◌, length, drop, get_or, map, nat_eq, refl, sym, ap, subst, ◌∙◌, arith}
use Rattle.std.specs.Prelude.{not}
use Rattle.std.specs.Ordering.{nat_cmp, eq_by_cmp}
use Rattle.std.specs.Cmp.Lexicographic.{slice_cmp}
use Rattle.std.specs.List.{AllByRecursion, starts_with}
use Rattle.std.specs.FinMap as globals
use Rattle.std.proofs.lemmas.List.{drop_more}
use Rattle.global_defs.specs.Encoded.{encoded}
use Rattle.global_defs.specs.Entry.{Update, Set, Kill, ZKill, apply}
use Rattle.global_defs.specs.Fields.{IsUpdate}
use Rattle.journal_defs.specs.Leaves.{Leaf, Cell, IsCell}
use Rattle.block_laws.specs.Cells.{changed}
use Rattle.block_fmt.specs.Cells.{blank}
use Rattle.block_pool.specs.Code.{Pool}
use Rattle.gvt_leaf.specs.Chained.{Chained, all_cells}
use Rattle.gvt_leaf.specs.Clean.{KeepsClean}
use Rattle.gvt_leaf.specs.Nodes.{globals_in}
use Rattle.gvt_leaf.specs.Order.{AreRising}
use Rattle.gvt_leaf.specs.Stored.{Stored, HasRoom, sets_of, sets_in}
use Rattle.gvt_leaf.specs.StoredInside.{stored, IsStored}
use Rattle.gvt_leaf.specs.declared.leaves.Leaves.TheInside.{Inside}
use Rattle.gvt_leaf.proofs.Backed.{IsBacked, backed, updated, as_many}
use Rattle.gvt_leaf.proofs.Risen.{all_put, all_filter}

-- ---- the cells that are held

pub none_in : globals_in [] ≡ globals.empty
unfolding globals_in
none_in = refl

pub stored_none : (chain : Chained) → chain.leaves ≡ [] ∷ [] → IsStored (record { chain = chain; nodes = 0 })
stored_none chain is = record {
  rising = subst AreRising (sym is) (record { rise = tt; filled = tt });
  forms = subst (λ (ls : List (List Cell)). AllByRecursion IsCell (all_cells ls)) (sym is) tt;
  count = sym (ap (λ (ls : List (List Cell)). length (all_cells ls)) is);
}

pub held : (s : Inside) → IsStored s → IsBacked (all_cells s.chain.leaves)
held s inv = backed (all_cells s.chain.leaves) inv.forms inv.rising.rise

-- as many nodes as cells
pub node_count : (s : Inside) (v : Stored) → IsStored s → stored s ≡ v → s.nodes ≡ globals.len v.globals
node_count s v inv view = inv.count ∙ sym (as_many (all_cells s.chain.leaves) (held s inv)) ∙ ap (λ (w : Stored). globals.len w.globals) view

-- ---- one update

pub forms_changed : (u : Update) (cells : List Cell) → IsUpdate u → AllByRecursion IsCell cells → AllByRecursion IsCell (changed u cells)
forms_changed (Set key value) cells form all = all_put (encoded key) value cells (key, form.0, refl) form.1 all
forms_changed (Kill key) cells form all = all_filter IsCell (λ c. not (starts_with nat_eq c.0 (encoded key))) cells all
forms_changed (ZKill key) cells form all = all_filter IsCell (λ c. not (eq_by_cmp (slice_cmp nat_cmp) c.0 (encoded key))) cells all

module _ (s : Inside) (v : Stored) (inv : IsStored s) (view : stored s ≡ v) (new : Chained) (u : Update) (form : IsUpdate u)
    (is : all_cells new.leaves ≡ changed u (all_cells s.chain.leaves)) (rising : AreRising new.leaves) where
  new_forms : AllByRecursion IsCell (all_cells new.leaves)
  new_forms = subst (AllByRecursion IsCell) (sym is) (forms_changed u (all_cells s.chain.leaves) form inv.forms)

  pub stored_still : (nodes : ℕ) → nodes ≡ length (all_cells new.leaves) → IsStored (record { chain = new; nodes = nodes })
  stored_still nodes count = record { rising = rising; forms = new_forms; count = count }

  pub globals_made : globals_in (all_cells new.leaves) ≡ apply v.globals u
  globals_made = updated (all_cells s.chain.leaves) (all_cells new.leaves) u (held s inv) form is ∙ ap (λ (w : Stored). apply w.globals u) view

  pub len_made : globals.len (globals_in (all_cells new.leaves)) ≡ length (all_cells new.leaves)
  len_made = as_many (all_cells new.leaves) (backed (all_cells new.leaves) new_forms rising.rise)

  pub numbers_made : (n : ℕ) → length (all_cells new.leaves) ≤ length (all_cells s.chain.leaves) + n → globals.len (globals_in (all_cells new.leaves)) ≤ globals.len v.globals + n
  numbers_made n few = omega (arith, few, len_made, node_count s v inv view, inv.count)

-- ---- several updates

pub sets_few : (u : Update) → sets_of u ≤ 1
sets_few (Set key value) = omega arith
sets_few (Kill key) = omega arith
sets_few (ZKill key) = omega arith

module _ {X : Type 0} (f : X → Update) where
  pub form_at : (xs : List X) (i : ℕ) (x : X) → i < length xs → x ≡ get_or xs i x → AllByRecursion IsUpdate (map f xs) → IsUpdate (f x)
  form_at [] i x low is all = absurd (omega arith)
  form_at (y ∷ ys) zero x low is all = subst (λ z. IsUpdate (f z)) (sym is) all.0
  form_at (y ∷ ys) (suc i) x low is all = form_at ys i x (omega arith) is all.1

  pub sets_at : (xs : List X) (i : ℕ) (x : X) → i < length xs → x ≡ get_or xs i x → sets_in (map f (drop i xs)) ≡ sets_of (f x) + sets_in (map f (drop (i + 1) xs))
  sets_at xs i x low is = ap (λ (l : List X). sets_in (map f l)) (drop_more xs i x low) ∙ ap (λ z. sets_of (f z) + sets_in (map f (drop (i + 1) xs))) (sym is)

pub room_first : (s : Stored) (n a b : ℕ) → HasRoom s n → n ≡ a + b → HasRoom s a
room_first s n a b r e = record { leaves = omega (arith, r.leaves, e); numbers = omega (arith, r.numbers, e) }

pub room_rest : (old new : Stored) (n a b : ℕ) → HasRoom old n → n ≡ a + b → old.pool.room ≤ new.pool.room + a → globals.len new.globals ≤ globals.len old.globals + a → HasRoom new b
room_rest old new n a b r e room numbers = record { leaves = omega (arith, r.leaves, e, room); numbers = omega (arith, r.numbers, e, numbers) }

pub keeps_same : (p q : Pool) → q.leaves ≡ p.leaves → q.dirty ≡ p.dirty → KeepsClean p q
keeps_same p q leaves dirty = record {
  grows = omega (arith, ap (λ (l : List Leaf). length l) leaves);
  clean = λ b low h. record {
    there = omega (arith, low, ap (λ (l : List Leaf). length l) leaves);
    clean = ap (λ d. get_or d b false) (sym dirty) ∙ h;
    same = ap (λ (l : List Leaf). get_or l b blank) leaves;
  };
}
