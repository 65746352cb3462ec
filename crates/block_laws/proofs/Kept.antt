-- Globals of which some names are kept, through an update.
use Rattle.std.proofs.Common.{◌≡◌, inl, inr, ℕ, Bool, true, false, cond, List, [], ◌∷◌, filter, fold, Option, Some, None, refl, sym, ◌∙◌, ap}
use Rattle.std.specs.Prelude.{not}
use Rattle.std.proofs.lemmas.Bool.{cases_Bool, and_parts}
use Rattle.std.specs.Ordering.{eq_by_cmp, is_eq, nat_cmp}
use Rattle.std.specs.Cmp.Lexicographic.{slice_cmp}
use Rattle.std.specs.List.{starts_with}
use Rattle.std.specs.FinMap as globals
use Rattle.std.specs.FinMap.Entries as lists
use Rattle.global_defs.specs.Key.{Key, key_cmp, sub_cmp}
use Rattle.global_defs.specs.Entry.{Globals, Update, Set, Kill, ZKill, apply, is_under}
use Rattle.global_defs.proofs.Order.{key_total, key_same}
use Rattle.journal_defs.specs.Fit.{key_of}
use Rattle.global_defs.proofs.KeyOrder.{is_equal}

pub get_kept : (g : Globals) (p : Key → Bool) (q : Key) → globals.get (globals.retain_keys g p) q ≡ cond (p q) (globals.get g q) None
get_kept g p q = globals.get-retain_keys g p q (λ x e. ap p (sym (key_same q x e)))

-- whether an update changes the value at a key, and to what
abbrev touches : Update → Key → Bool
touches (Set key value) q = eq_by_cmp key_cmp q key
touches (Kill key) q = is_under key q
touches (ZKill key) q = eq_by_cmp key_cmp q key

-- the value that an update gives
abbrev value_of : Update → Option (List ℕ)
value_of (Set key value) = Some value
value_of (Kill key) = None
value_of (ZKill key) = None

turned : {A : Type 0} (b : Bool) (x y : A) → cond (not b) x y ≡ cond b y x
turned true x y = refl
turned false x y = refl

get_apply : (g : Globals) (u : Update) (q : Key) → globals.get (apply g u) q ≡ cond (touches u q) (value_of u) (globals.get g q)
get_apply g (Set key value) q = globals.get-insert key_total g key value q
get_apply g (Kill key) q = get_kept g (λ k. not (is_under key k)) q ∙ turned (is_under key q) (globals.get g q) None
get_apply g (ZKill key) q = globals.get-remove key_total g key q

touches_name : (u : Update) (q : Key) → touches u q ≡ true → (key_of u).name ≡ q.name
touches_name (Set key value) q h = sym (ap (λ (k : Key). k.name) (key_same q key (is_equal (key_cmp q key) h)))
touches_name (ZKill key) q h = sym (ap (λ (k : Key). k.name) (key_same q key (is_equal (key_cmp q key) h)))
touches_name (Kill key) q h =
    let t = and_parts (is_eq (slice_cmp nat_cmp key.name q.name)) (starts_with (eq_by_cmp sub_cmp) q.subs key.subs) h in
    globals.slice_cmp-IsAntisymmetric globals.nat_cmp-IsAntisymmetric key.name q.name (is_equal (slice_cmp nat_cmp key.name q.name) t.0)

same_step : {X : Type 0} (p t : Bool) (v x : Option X) → (t ≡ true → p ≡ true) → cond p (cond t v x) None ≡ cond t v (cond p x None)
same_step true true v x h = refl
same_step true false v x h = refl
same_step false true v x h = cc (h refl)
same_step false false v x h = refl

other_step : {X : Type 0} (p t : Bool) (v x : Option X) → (t ≡ true → p ≡ false) → cond p (cond t v x) None ≡ cond p x None
other_step true true v x h = cc (h refl)
other_step true false v x h = refl
other_step false t v x h = refl

-- an update of a name that is kept, and one of another name
pub kept_same : (g : Globals) (f : List ℕ → Bool) (u : Update) → f (key_of u).name ≡ true
    → globals.retain_keys (apply g u) (λ k. f k.name) ≡ apply (globals.retain_keys g (λ k. f k.name)) u
kept_same g f u is = globals.same_map key_total key_same (globals.retain_keys (apply g u) (λ k. f k.name)) (apply (globals.retain_keys g (λ k. f k.name)) u) (λ q.
    get_kept (apply g u) (λ k. f k.name) q ∙ ap (λ (o : Option (List ℕ)). cond (f q.name) o None) (get_apply g u q)
    ∙ same_step (f q.name) (touches u q) (value_of u) (globals.get g q) (λ h. ap f (sym (touches_name u q h)) ∙ is)
    ∙ sym (get_apply (globals.retain_keys g (λ k. f k.name)) u q ∙ ap (cond (touches u q) (value_of u)) (get_kept g (λ k. f k.name) q)))

pub kept_other : (g : Globals) (f : List ℕ → Bool) (u : Update) → f (key_of u).name ≡ false
    → globals.retain_keys (apply g u) (λ k. f k.name) ≡ globals.retain_keys g (λ k. f k.name)
kept_other g f u is = globals.same_map key_total key_same (globals.retain_keys (apply g u) (λ k. f k.name)) (globals.retain_keys g (λ k. f k.name)) (λ q.
    get_kept (apply g u) (λ k. f k.name) q ∙ ap (λ (o : Option (List ℕ)). cond (f q.name) o None) (get_apply g u q)
    ∙ other_step (f q.name) (touches u q) (value_of u) (globals.get g q) (λ h. ap f (sym (touches_name u q h)) ∙ is)
    ∙ sym (get_kept g (λ k. f k.name) q))

-- all updates of kept names, one after another
pub kept_all : (f : List ℕ → Bool) (us : List Update) (g : Globals)
    → globals.retain_keys (fold apply g us) (λ k. f k.name) ≡ fold apply (globals.retain_keys g (λ k. f k.name)) (filter (λ u. f (key_of u).name) us)
kept_all f [] g = refl
kept_all f (u ∷ us) g = kept_all f us (apply g u) ∙ elim (cases_Bool (f (key_of u).name)) [
  | inl h ↦ ap (λ (m : Globals). fold apply m (filter (λ v. f (key_of v).name) us)) (kept_same g f u h)
      ∙ ap (λ (b : Bool). fold apply (globals.retain_keys g (λ k. f k.name)) (cond b (u ∷ filter (λ v. f (key_of v).name) us) (filter (λ v. f (key_of v).name) us))) (sym h)
  | inr h ↦ ap (λ (m : Globals). fold apply m (filter (λ v. f (key_of v).name) us)) (kept_other g f u h)
      ∙ ap (λ (b : Bool). fold apply (globals.retain_keys g (λ k. f k.name)) (cond b (u ∷ filter (λ v. f (key_of v).name) us) (filter (λ v. f (key_of v).name) us))) (sym h)
]

-- the entries that are kept
pub entries_kept : (g : Globals) (p : Key → Bool) → globals.entries (globals.retain_keys g p) ≡ filter (λ e. p e.0) (globals.entries g)
entries_kept g p = lists.same_entries key_cmp key_total key_same (globals.entries (globals.retain_keys g p)) (filter (λ e. p e.0) (globals.entries g))
    (globals.entries_sorted (globals.retain_keys g p)) (lists.is_sorted-where_key key_cmp p (globals.entries g) (globals.entries_sorted g)) (λ q.
    sym (globals.get-entries (globals.retain_keys g p) q) ∙ get_kept g p q ∙ ap (λ (o : Option (List ℕ)). cond (p q) o None) (globals.get-entries g q)
    ∙ sym (lists.find-where_key key_cmp p q (λ x e. ap p (sym (key_same q x e))) (globals.entries g)))

pub remove_is : (g : Globals) (k : Key) → globals.remove g k ≡ globals.retain_keys g (λ x. not (eq_by_cmp key_cmp x k))
remove_is g k = globals.same_map key_total key_same (globals.remove g k) (globals.retain_keys g (λ x. not (eq_by_cmp key_cmp x k))) (λ q.
    globals.get-remove key_total g k q ∙ sym (get_kept g (λ x. not (eq_by_cmp key_cmp x k)) q ∙ turned (eq_by_cmp key_cmp q k) (globals.get g q) None))
