-- What the first node past a key tells.
use Rattle.std.proofs.Common.{◌≡◌, Bool, true, false, ◌&&◌, ◌||◌, List, [], ◌∷◌, is_some, Option, Some, None, if◌then◌else◌, refl, sym, ap, ◌∙◌}
use Rattle.std.specs.Ordering.{nat_cmp, eq_by_cmp}
use Rattle.std.specs.Cmp.Lexicographic.{slice_cmp}
use Rattle.std.specs.List.{list_any}
use Rattle.std.specs.List as list
use Rattle.std.specs.FinMap.{get, keys}
use Rattle.global_defs.specs.Key.{Key, key_cmp}
use Rattle.global_defs.specs.Entry.{Globals, is_under}
use Rattle.global_defs.specs.Evaluation.{is_below}
use Rattle.global_defs.proofs.Order.{key_total, key_same}
use Rattle.gvn_globals.specs.Walks.{tested, is_later, after, is_behind}
use Rattle.gvn_globals.proofs.Basics.{and_true}
use Rattle.gvn_globals.proofs.Firsts.{Finds, find_finds, find_decided}
use Rattle.gvn_globals.proofs.Under.{below_behind, below_is_behind, below_upward, later_is_behind, later_upward}

-- tests that agree on what is found
alike_found : (g : Globals) (p q r : Key → Bool) → ((k : Key) → p k ≡ true → q k ≡ r k) → (o : Option Key) → Finds key_cmp (get g) (get g) p o → tested q o ≡ tested r o
alike_found g p q r same None f = refl
alike_found g p q r same (Some k) f = ap (λ b. if b then Some k else None) (same k f.passes)

pub after_found : (g : Globals) (key : Key) → tested (λ k. eq_by_cmp (slice_cmp nat_cmp) key.name k.name) (list.find (is_behind key) (keys g)) ≡ after g key
after_found g key =
    alike_found g (is_behind key) (λ k. eq_by_cmp (slice_cmp nat_cmp) key.name k.name) (is_later key)
    (λ k h. sym (ap (λ b. eq_by_cmp (slice_cmp nat_cmp) key.name k.name && b) h ∙ and_true (eq_by_cmp (slice_cmp nat_cmp) key.name k.name)))
    (list.find (is_behind key) (keys g)) (find_finds key_total key_same g (is_behind key))
    ∙ sym (find_decided key_total key_same g (is_behind key) (is_later key) (λ k s q. later_is_behind key k q) (λ a b s t p q c. later_upward key a b p q c))

pub any_found : (p : Key → Bool) (ks : List Key) → is_some (list.find p ks) ≡ list_any p ks
any_found p [] = refl
any_found p (k ∷ ks) = by (p k) (any_found p ks)
  where
    by : (b : Bool) → is_some (list.find p ks) ≡ list_any p ks → is_some (if b then Some k else list.find p ks) ≡ (b || list_any p ks)
    by true m = refl
    by false m = m

pub below_found : (g : Globals) (key : Key) → is_some (tested (is_under key) (list.find (is_behind key) (keys g))) ≡ list_any (is_below key) (keys g)
below_found g key =
    ap is_some (alike_found g (is_behind key) (is_under key) (is_below key) (λ k h. sym (below_behind key k h)) (list.find (is_behind key) (keys g)) (find_finds key_total key_same g (is_behind key))
    ∙ sym (find_decided key_total key_same g (is_behind key) (is_below key) (λ k s q. below_is_behind key k q) (λ a b s t p q c. below_upward key a b p q c)))
    ∙ any_found (is_below key) (keys g)
