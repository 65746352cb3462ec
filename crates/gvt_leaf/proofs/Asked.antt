-- What is asked of globals, by the cells that hold them.
use Rattle.std.proofs.Common.{◌≡◌, ℕ, ◌<◌, Bool, true, false, List, [], ◌∷◌, ◌++◌, length, map, filter, nat_eq, Option, Some, None, option_map, is_some, IsTrue, if◌then◌else◌, cond, refl, sym, ap, ◌∙◌, true≢false}
use Rattle.std.specs.Prelude.{IfSome, Result, Ok, Err, IfOk}
use Rattle.std.specs.declared.cmp.Ordering.{Ordering}
use Rattle.std.specs.declared.cmp.Ordering.TheVariants.{Less, Equal, Greater}
use Rattle.std.specs.Ordering.{is_lt, is_eq, nat_cmp, eq_by_cmp}
use Rattle.std.specs.Cmp.Lexicographic.{slice_cmp}
use Rattle.std.specs.List.{AllByRecursion, find, starts_with}
use Rattle.std.specs.FinMap as globals
use Rattle.global_defs.specs.Key.{Key, key_cmp, sub_of}
use Rattle.global_defs.specs.Valid.{is_key}
use Rattle.global_defs.specs.Encoded.{encoded, encoded_sub}
use Rattle.global_defs.specs.Entry.{Globals, is_under}
use Rattle.global_defs.specs.Evaluation.{order}
use Rattle.global_defs.proofs.Order.{key_same}
use Rattle.global_defs.proofs.KeyOrder.{key_ordered, key_begins}
use Rattle.journal_defs.specs.Leaves.{Cell, IsEncoded, IsCell}
use Rattle.gvn_globals.specs.Walks.{after, tested, is_behind, is_beyond, sub_under}
use Rattle.gvn_globals.proofs.Beyond.{order_begins, order_continues}
use Rattle.gvn_globals.proofs.Found.{after_found}
use Rattle.gvt_leaf.specs.Listed.{node_value, node_cell}
use Rattle.gvt_leaf.specs.Nodes.{key_in, globals_in}
use Rattle.gvt_leaf.specs.declared.nodes.Node.{Node}
use Rattle.gvt_leaf.proofs.KeysBack.{key_back}
use Rattle.gvt_leaf.proofs.Backed.{IsBacked, first_key}
use Rattle.global_defs.proofs.Basics.{bytes_cmp}

-- ---- a key by its bytes

-- bytes that a key has are those of the key that they give
pub code_under : (top : Key) (code : List ℕ) → is_key top ≡ true → IsEncoded code → starts_with nat_eq code (encoded top) ≡ is_under top (key_in code)
code_under top code valid k =
    ap (λ (x : List ℕ). starts_with nat_eq x (encoded top)) k.2 ∙ key_begins top k.0 valid k.1
    ∙ ap (is_under top) (sym (ap key_in k.2 ∙ key_back k.0 k.1))

pub key_read : (code : List ℕ) (key : Key) → encoded key ≡ code → is_key key ≡ true → key_in code ≡ key
key_read code key is valid = ap key_in (sym is) ∙ key_back key valid

some_alike : (b : Bool) (x : List ℕ) (y : Key) → is_some (if b then Some x else None) ≡ is_some (if b then Some y else None)
some_alike true x y = refl
some_alike false x y = refl

pub tested_codes : (top : Key) (found : Option (List ℕ)) → is_key top ≡ true → IfSome found IsEncoded
    → is_some (tested (λ code. starts_with nat_eq code (encoded top)) found) ≡ is_some (tested (is_under top) (option_map key_in found))
tested_codes top None valid form = refl
tested_codes top (Some code) valid form = ap (λ b. is_some (if b then Some code else None)) (code_under top code valid form) ∙ some_alike (is_under top (key_in code)) code (key_in code)

-- ---- the first cell past some bytes

pub found_form : (p : Cell → Bool) (cells : List Cell) → AllByRecursion IsCell cells → IfSome (option_map (λ c. c.0) (find p cells)) IsEncoded
found_form p [] all = tt
found_form p (c ∷ cs) all = elim (p c) as (λ b. IfSome (option_map (λ (c : Cell). c.0) (cond b (Some c) (find p cs))) IsEncoded) [
  | true ↦ all.0.0
  | false ↦ found_form p cs all.1
]

both_mapped : (found : Option Cell) → option_map key_in (option_map (λ c. c.0) found) ≡ option_map (λ c. key_in c.0) found
both_mapped None = refl
both_mapped (Some c) = refl

module _ (cells : List Cell) (b : IsBacked cells) (key : Key) (valid : is_key key ≡ true) (found : Option (List ℕ)) where
  abbrev g : Globals
  g = globals_in cells

  pub past_key : found ≡ option_map (λ c. c.0) (find (λ c. is_lt (slice_cmp nat_cmp (encoded key) c.0)) cells) → option_map key_in found ≡ find (is_behind key) (globals.keys g)
  past_key is =
      ap (option_map key_in) is ∙ both_mapped (find (λ c. is_lt (slice_cmp nat_cmp (encoded key) c.0)) cells)
      ∙ first_key (λ code. is_lt (bytes_cmp (encoded key) code)) (is_behind key) cells (λ k h. ap is_lt (key_ordered key k valid h)) b

  pub begins_past : found ≡ option_map (λ c. c.0) (find (λ c. is_lt (slice_cmp nat_cmp (encoded key) c.0)) cells) → sub_under key (option_map key_in found) ≡ order g key []
  begins_past is = ap (sub_under key) (past_key is) ∙ order_begins key g

  held_valid : (es : List (Key × List ℕ)) (k : Key) → AllByRecursion (λ e. IsTrue (is_key e.0)) es → is_some (globals.find key_cmp k es) ≡ true → is_key k ≡ true
  held_valid [] k all h = absurd (true≢false (sym h))
  held_valid (e ∷ es) k all h = by (key_cmp k e.0) refl (held_valid es k all.1) h
    where
      by : (o : Ordering) → key_cmp k e.0 ≡ o → (is_some (globals.find key_cmp k es) ≡ true → is_key k ≡ true) → is_some (if is_eq o then Some e.1 else globals.find key_cmp k es) ≡ true → is_key k ≡ true
      by Less c rest h = rest h
      by Equal c rest h = ap is_key (key_same k e.0 c) ∙ all.0
      by Greater c rest h = rest h

  each_valid : (k : Key) → is_some (globals.get g k) ≡ true → is_key k ≡ true
  each_valid k h = held_valid (globals.entries g) k b.keys (ap is_some (sym (globals.get-entries g k)) ∙ h)

  pub continues_past : (last past : List ℕ) → 0 < length last → past ≡ encoded key ++ encoded_sub (sub_of last) ++ 255 ∷ []
      → found ≡ option_map (λ c. c.0) (find (λ c. is_lt (slice_cmp nat_cmp past c.0)) cells) → sub_under key (option_map key_in found) ≡ order g key last
  continues_past last past some bytes is =
      ap (λ o. sub_under key (option_map key_in o)) (is ∙ ap (λ (x : List ℕ). option_map (λ (c : Cell). c.0) (find (λ c. is_lt (slice_cmp nat_cmp x c.0)) cells)) bytes)
      ∙ ap (sub_under key) (both_mapped (find (λ c. is_lt (slice_cmp nat_cmp (encoded key ++ encoded_sub (sub_of last) ++ 255 ∷ []) c.0)) cells)
      ∙ first_key (λ code. is_lt (bytes_cmp (encoded key ++ encoded_sub (sub_of last) ++ 255 ∷ []) code)) (is_beyond key (sub_of last)) cells (λ k h. refl) b)
      ∙ order_continues key last g some valid each_valid

  -- the next node of the same name
  pub named_past : (next : Option Key) → found ≡ option_map (λ c. c.0) (find (λ c. is_lt (slice_cmp nat_cmp (encoded key) c.0)) cells)
      → next ≡ tested (λ k. eq_by_cmp (slice_cmp nat_cmp) key.name k.name) (option_map key_in found) → next ≡ after g key
  named_past next is named = named ∙ ap (tested (λ k. eq_by_cmp (slice_cmp nat_cmp) key.name k.name)) (past_key is) ∙ after_found g key

-- ---- lists of nodes

values_back : (nodes : List Node) → AllByRecursion (λ n. is_key n.key ≡ true) nodes → map node_value nodes ≡ map (λ (c : Cell). (key_in c.0, c.1)) (map node_cell nodes)
values_back [] all = refl
values_back (n ∷ ns) all = let key : n.key ≡ key_in (encoded n.key) = sym (key_back n.key all.0) in λ i. (key i, n.value.now) ∷ values_back ns all.1 i

-- the cells of these nodes whose bytes pass
abbrev kept_cells : (List ℕ → Bool) → List (Key × List ℕ) → List Cell
kept_cells t es = filter (λ (c : Cell). t c.0) (map (λ (e : Key × List ℕ). (encoded e.0, e.1)) es)

kept_nodes : (t : List ℕ → Bool) (p : Key → Bool) (es : List (Key × List ℕ)) → ((k : Key) → is_key k ≡ true → t (encoded k) ≡ p k) → AllByRecursion (λ e. IsTrue (is_key e.0)) es
    → map (λ (c : Cell). (key_in c.0, c.1)) (kept_cells t es) ≡ filter (λ e. p e.0) es
kept_nodes t p [] same all = refl
kept_nodes t p (e ∷ es) same all = by (t (encoded e.0)) (sym (same e.0 all.0)) (kept_nodes t p es same all.1)
  where
    by : (b : Bool) → p e.0 ≡ b → map (λ (c : Cell). (key_in c.0, c.1)) (kept_cells t es) ≡ filter (λ e. p e.0) es
        → map (λ (c : Cell). (key_in c.0, c.1)) (cond b ((encoded e.0, e.1) ∷ kept_cells t es) (kept_cells t es)) ≡ cond (p e.0) (e ∷ filter (λ e. p e.0) es) (filter (λ e. p e.0) es)
    by true s n = (λ i. (key_back e.0 all.0 i, e.1) ∷ n i) ∙ ap (λ b. cond b (e ∷ filter (λ e. p e.0) es) (filter (λ e. p e.0) es)) (sym s)
    by false s n = n ∙ ap (λ b. cond b (e ∷ filter (λ e. p e.0) es) (filter (λ e. p e.0) es)) (sym s)

all_kept : (es : List (Key × List ℕ)) → filter (λ e. true) es ≡ es
all_kept [] = refl
all_kept (e ∷ es) = ap (λ (l : List (Key × List ℕ)). e ∷ l) (all_kept es)

none_before : (bytes : List ℕ) → starts_with nat_eq bytes [] ≡ true
none_before [] = refl
none_before (b ∷ bytes) = refl

module _ (cells : List Cell) (b : IsBacked cells) (nodes : List Node) (keys : AllByRecursion (λ n. is_key n.key ≡ true) nodes) where
  listed_by : (t : List ℕ → Bool) (p : Key → Bool) → ((k : Key) → is_key k ≡ true → t (encoded k) ≡ p k) → map node_cell nodes ≡ filter (λ c. t c.0) cells → map node_value nodes ≡ filter (λ e. p e.0) (globals.entries (globals_in cells))
  listed_by t p same is =
      values_back nodes keys ∙ ap (map (λ (c : Cell). (key_in c.0, c.1))) (is ∙ ap (filter (λ (c : Cell). t c.0)) (sym b.are))
      ∙ kept_nodes t p (globals.entries (globals_in cells)) same b.keys

  pub listed_all : map node_cell nodes ≡ filter (λ c. starts_with nat_eq c.0 []) cells → map node_value nodes ≡ globals.entries (globals_in cells)
  listed_all is = listed_by (λ code. starts_with nat_eq code []) (λ k. true) (λ k h. none_before (encoded k)) is ∙ all_kept (globals.entries (globals_in cells))

  pub listed_under : (top : Key) → is_key top ≡ true → map node_cell nodes ≡ filter (λ c. starts_with nat_eq c.0 (encoded top)) cells
      → map node_value nodes ≡ filter (λ e. is_under top e.0) (globals.entries (globals_in cells))
  listed_under top valid is = listed_by (λ code. starts_with nat_eq code (encoded top)) (is_under top) (λ k h. key_begins top k valid h) is

pub if_ok_both : {A E : Type 0} (r : Result A E) (P Q R : A → Type 0) → ((x : A) → P x → Q x → R x) → IfOk r P → IfOk r Q → IfOk r R
if_ok_both (Ok x) P Q R f p q = f x p q
if_ok_both (Err e) P Q R f p q = tt
