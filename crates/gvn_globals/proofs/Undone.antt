-- Taking back that nodes were set.
use Rattle.std.proofs.Common.{fold, map, take, get_or, length, ◌+◌, ◌<◌, ◌≡◌, ℕ, Bool, true, false, List, [], ◌∷◌, ◌++◌, Option, Some, None, is_some, if◌then◌else◌, refl, sym, ap, subst, ◌∙◌}
use Rattle.std.specs.Prelude.{reverse}
use Rattle.std.specs.Ordering.{eq_by_cmp, is_eq}
use Rattle.std.proofs.lemmas.List.{reverse-append, map-append, take_more}
use Rattle.std.proofs.lemmas.List.Sums.{fold-append}
use Rattle.std.proofs.lemmas.Cmp.{tied_itself}
use Rattle.std.specs.FinMap.{get, get-insert, get-remove, insert, remove, same_map}
use Rattle.global_defs.specs.Key.{Key, key_cmp}
use Rattle.global_defs.specs.Entry.{Globals, Update, apply}
use Rattle.global_defs.proofs.Order.{key_total, key_same}
use Rattle.gvn_globals.specs.Undoing.{undo_of, restored, undone, IsHeld, CanUndo}
use Rattle.gvn_globals.specs.declared.globals.Undo.{Undo}
use Rattle.gvn_globals.proofs.Basics.{equal_of}

-- what takes it back leads to the globals before
restored_set : (g : Globals) (k : Key) (v : List ℕ) (o : Option (List ℕ)) → get g k ≡ o → restored (insert g k v) (undo_of k o) ≡ g
restored_set g k v None e = same_map key_total key_same (remove (insert g k v) k) g (λ q.
    get-remove key_total (insert g k v) k q ∙ ap (λ x. if eq_by_cmp key_cmp q k then None else x) (get-insert key_total g k v q) ∙ by q (eq_by_cmp key_cmp q k) refl)
  where
    by : (q : Key) (b : Bool) → eq_by_cmp key_cmp q k ≡ b → (if b then None else (if b then Some v else get g q)) ≡ get g q
    by q true s = sym e ∙ ap (get g) (sym (key_same q k (equal_of (key_cmp q k) s)))
    by q false s = refl
restored_set g k v (Some w) e = same_map key_total key_same (insert (insert g k v) k w) g (λ q.
    get-insert key_total (insert g k v) k w q ∙ ap (λ x. if eq_by_cmp key_cmp q k then Some w else x) (get-insert key_total g k v q) ∙ by q (eq_by_cmp key_cmp q k) refl)
  where
    by : (q : Key) (b : Bool) → eq_by_cmp key_cmp q k ≡ b → (if b then Some w else (if b then Some v else get g q)) ≡ get g q
    by q true s = sym e ∙ ap (get g) (sym (key_same q k (equal_of (key_cmp q k) s)))
    by q false s = refl

held : (g : Globals) (k : Key) (v : List ℕ) (o : Option (List ℕ)) → IsHeld (insert g k v) (undo_of k o)
held g k v None = tt
held g k v (Some w) = ap is_some (get-insert key_total g k v k) ∙ ap (λ r. is_some (if is_eq r then Some v else get g k)) (tied_itself key_total k)

module _ (g now : Globals) (k : Key) (v : List ℕ) (us : List Undo) (u : Undo) (set : now ≡ insert g k v) (back : u ≡ undo_of k (get g k)) where
  here : restored now u ≡ g
  here = ap (λ m. restored m u) set ∙ ap (restored (insert g k v)) back ∙ restored_set g k v (get g k) refl

  pub can_push : CanUndo g (reverse us) → CanUndo now (reverse (us ++ u ∷ []))
  can_push can = subst (CanUndo now) (sym (reverse-append us (u ∷ []))) (
    subst (λ m. IsHeld m u) (sym set) (subst (IsHeld (insert g k v)) (sym back) (held g k v (get g k))),
    subst (λ m. CanUndo m (reverse us)) (sym here) can,
  )

  pub undone_push : (first : Globals) → undone g (reverse us) ≡ first → undone now (reverse (us ++ u ∷ [])) ≡ first
  undone_push first so = ap (undone now) (reverse-append us (u ∷ [])) ∙ ap (λ m. undone m (reverse us)) here ∙ so

module _ (g : Globals) (all us : List Undo) (u : Undo) (is : all ≡ us ++ u ∷ []) (can : CanUndo g (reverse all)) where
  both : CanUndo g (u ∷ reverse us)
  both = subst (CanUndo g) (ap reverse is ∙ reverse-append us (u ∷ [])) can

  pub last_held : IsHeld g u
  last_held = both.0

  pub can_pop : (next : Globals) → next ≡ restored g u → CanUndo next (reverse us)
  can_pop next e = subst (λ m. CanUndo m (reverse us)) (sym e) both.1

  pub undone_pop : (next first : Globals) → next ≡ restored g u → undone g (reverse all) ≡ first → undone next (reverse us) ≡ first
  undone_pop next first e so = ap (λ m. undone m (reverse us)) e ∙ sym (ap (undone g) (ap reverse is ∙ reverse-append us (u ∷ []))) ∙ so

-- the globals after one update more
pub one_step : {X : Type 0} (f : X → Update) (g : Globals) (xs : List X) (i : ℕ) (x : X) → i < length xs → x ≡ get_or xs i x → apply (fold apply g (map f (take i xs))) (f x) ≡ fold apply g (map f (take (i + 1) xs))
one_step f g xs i x h e =
    sym (fold-append apply g (map f (take i xs)) (f x ∷ []))
    ∙ ap (fold apply g) (sym (map-append f (take i xs) (x ∷ [])) ∙ ap (map f) (ap (λ y. take i xs ++ y ∷ []) e ∙ sym (take_more xs i x h)))
