-- Cells through updates.
use Rattle.std.proofs.Common.{◌≡◌, inl, inr, ℕ, Bool, true, cond, nat_eq, List, [], ◌∷◌, map, filter, Option, Some, IsTrue, refl, sym, ◌∙◌, ap}
use Rattle.std.specs.Prelude.{not}
use Rattle.std.proofs.lemmas.Bool.{cases_Bool}
use Rattle.std.specs.List.{AllByRecursion, starts_with}
use Rattle.std.specs.declared.cmp.Ordering.{Ordering}
use Rattle.std.specs.declared.cmp.Ordering.TheVariants.{Less, Equal, Greater}
use Rattle.std.specs.Ordering.{eq_by_cmp, is_eq}
use Rattle.std.specs.FinMap as globals
use Rattle.std.specs.FinMap.Entries as lists
use Rattle.global_defs.specs.Key.{Key, key_cmp}
use Rattle.global_defs.specs.Valid.{is_key}
use Rattle.global_defs.specs.Encoded.{encoded}
use Rattle.global_defs.specs.Fields.{IsUpdate}
use Rattle.global_defs.specs.Entry.{Globals, Update, Set, Kill, ZKill, apply, is_under}
use Rattle.global_defs.proofs.Order.{key_total}
use Rattle.global_defs.proofs.KeyOrder.{key_ordered, key_begins}
use Rattle.journal_defs.specs.Leaves.{Cell, cells_of}
use Rattle.block_laws.specs.Nodes.{HaveKeys}
use Rattle.block_laws.specs.Cells.{changed}
use Rattle.block_laws.proofs.Kept.{entries_kept, remove_is}
use Rattle.global_defs.proofs.Basics.{bytes_cmp}

-- nodes with their values
abbrev Nodes : Type 0
Nodes = List (Key × List ℕ)

-- their cells
abbrev cells_in : Nodes → List Cell
cells_in es = map (λ e. (encoded e.0, e.1)) es

-- each node has a key that there is
abbrev AreKeys : Nodes → Type 0
AreKeys es = AllByRecursion (λ e. IsTrue (is_key e.0)) es

moved : (o : Ordering) (a b c : Nodes) → cells_in (lists.by_order o a b c) ≡ lists.by_order o (cells_in a) (cells_in b) (cells_in c)
moved Less a b c = refl
moved Equal a b c = refl
moved Greater a b c = refl

put_cells : (k : Key) (v : List ℕ) (es : Nodes) → is_key k ≡ true → AreKeys es → cells_in (lists.put key_cmp k v es) ≡ lists.put bytes_cmp (encoded k) v (cells_in es)
put_cells k v [] key all = refl
put_cells k v (e ∷ es) key all =
    moved (key_cmp k e.0) ((k, v) ∷ e ∷ es) ((e.0, v) ∷ es) (e ∷ lists.put key_cmp k v es)
    ∙ ap (λ (l : List Cell). lists.by_order (key_cmp k e.0) ((encoded k, v) ∷ cells_in (e ∷ es)) ((encoded e.0, v) ∷ cells_in es) ((encoded e.0, e.1) ∷ l)) (put_cells k v es key all.1)
    ∙ ap (λ (o : Ordering). lists.by_order o ((encoded k, v) ∷ cells_in (e ∷ es)) ((encoded e.0, v) ∷ cells_in es) ((encoded e.0, e.1) ∷ lists.put bytes_cmp (encoded k) v (cells_in es))) (sym (key_ordered k e.0 key all.0))

filter_cells : (p : Key → Bool) (q : List ℕ → Bool) (es : Nodes) → ((k : Key) → is_key k ≡ true → p k ≡ q (encoded k)) → AreKeys es → cells_in (filter (λ e. p e.0) es) ≡ filter (λ c. q c.0) (cells_in es)
filter_cells p q [] same all = refl
filter_cells p q (e ∷ es) same all =
    let here : p e.0 ≡ q (encoded e.0) = same e.0 all.0 in
    let rest = filter_cells p q es same all.1 in
    elim (cases_Bool (p e.0)) [
      | inl h ↦ ap (λ (b : Bool). cells_in (cond b (e ∷ filter (λ x. p x.0) es) (filter (λ x. p x.0) es))) h ∙ ap (λ (l : List Cell). (encoded e.0, e.1) ∷ l) rest
          ∙ ap (λ (b : Bool). cond b ((encoded e.0, e.1) ∷ filter (λ c. q c.0) (cells_in es)) (filter (λ c. q c.0) (cells_in es))) (sym h ∙ here)
      | inr h ↦ ap (λ (b : Bool). cells_in (cond b (e ∷ filter (λ x. p x.0) es) (filter (λ x. p x.0) es))) h ∙ rest
          ∙ ap (λ (b : Bool). cond b ((encoded e.0, e.1) ∷ filter (λ c. q c.0) (cells_in es)) (filter (λ c. q c.0) (cells_in es))) (sym h ∙ here)
    ]

pub step : (g : Globals) (u : Update) → HaveKeys g → IsUpdate u → cells_of (apply g u) ≡ changed u (cells_of g)
step g (Set key value) all form = ap cells_in (globals.entries-insert key_total g key value) ∙ put_cells key value (globals.entries g) form.0 all
step g (Kill key) all form =
    ap cells_in (entries_kept g (λ k. not (is_under key k)))
    ∙ filter_cells (λ k. not (is_under key k)) (λ bytes. not (starts_with nat_eq bytes (encoded key))) (globals.entries g) (λ k is. ap not (sym (key_begins key k form is))) all
step g (ZKill key) all form =
    ap cells_of (remove_is g key) ∙ ap cells_in (entries_kept g (λ x. not (eq_by_cmp key_cmp x key)))
    ∙ filter_cells (λ x. not (eq_by_cmp key_cmp x key)) (λ bytes. not (eq_by_cmp bytes_cmp bytes (encoded key))) (globals.entries g) (λ k is. ap (λ (o : Ordering). not (is_eq o)) (sym (key_ordered k key is form))) all

find_cells : (k : Key) (es : Nodes) → is_key k ≡ true → AreKeys es → globals.find key_cmp k es ≡ globals.find bytes_cmp (encoded k) (cells_in es)
find_cells k [] key all = refl
find_cells k (e ∷ es) key all =
    ap (λ (o : Option (List ℕ)). cond (eq_by_cmp key_cmp k e.0) (Some e.1) o) (find_cells k es key all.1)
    ∙ ap (λ (o : Ordering). cond (is_eq o) (Some e.1) (globals.find bytes_cmp (encoded k) (cells_in es))) (sym (key_ordered k e.0 key all.0))

pub get : (g : Globals) (k : Key) → HaveKeys g → IsTrue (is_key k) → globals.get g k ≡ globals.find bytes_cmp (encoded k) (cells_of g)
get g k all key = globals.get-entries g k ∙ find_cells k (globals.entries g) key all
