-- What the regions' parts say of all nodes.
use Rattle.std.proofs.Common.{◌≡◌, ℕ, zero, suc, ◌+◌, ◌<◌, Bool, true, false, List, length, map, filter, is_some, slice_get, Option, Some, None, refl, sym, ◌∙◌, ap, subst, arith}
use Rattle.std.specs.Prelude.{Result, Ok, Err, IfOk, if◌then◌else◌, filter_map, unwrap_or, option_map, drop}
use Rattle.std.specs.List.{AllByRecursion, find, list_any, starts_with}
use Rattle.std.specs.Ordering.{eq_by_cmp, is_eq, nat_cmp}
use Rattle.std.specs.Cmp.Lexicographic.{slice_cmp}
use Rattle.std.specs.FinMap as globals
use Rattle.std.proofs.lemmas.Bool.{and_parts}
use Rattle.std.proofs.lemmas.List.{length-map}
use Rattle.std.proofs.lemmas.Option.{slice_get-map, slice_get_within, get_or_from_slice_get}
use Rattle.global_defs.specs.Key.{Key, sub_cmp}
use Rattle.global_defs.specs.Entry.{Globals, Sequence, state, is_under}
use Rattle.global_defs.specs.Evaluation.{is_below, is_past, sub_at, first_sub, defined, order}
use Rattle.gvn_globals.specs.Walks.{is_later, after}
use Rattle.journal_defs.specs.Directory.{Pattern, region_of}
use Rattle.journal_defs.specs.Sound.{region_state}
use Rattle.journal_laws.proofs.Regions as regions
use Rattle.block_laws.specs.Nodes.{sum_below, union}
use Rattle.block_laws.proofs.Parts as parts
use Rattle.block_laws.proofs.Unions as unions
use Rattle.region_store.specs.Region.{Standing}
use Rattle.region_store.specs.Joined.{Joined, AreJoined, ArePartsOf, joined, parts_in}
use Rattle.region_store.specs.Counts.{nodes_at}
use Rattle.region_store.proofs.Lists.{any_by, find_by, filter_map_by, some_in, there}
use Rattle.global_defs.proofs.KeyOrder.{is_equal}

-- two names that compare as equal
names_tie : (a b : List ℕ) → eq_by_cmp (slice_cmp nat_cmp) a b ≡ true → a ≡ b
names_tie a b is = globals.slice_cmp-IsAntisymmetric globals.nat_cmp-IsAntisymmetric a b (is_equal (slice_cmp nat_cmp a b) is)

under_name : (top k : Key) → is_under top k ≡ true → top.name ≡ k.name
under_name top k is = names_tie top.name k.name (and_parts (is_eq (slice_cmp nat_cmp top.name k.name)) (starts_with (eq_by_cmp sub_cmp) k.subs top.subs) is).0

-- the entries of a map
abbrev key_at : Key × List ℕ → Key
key_at e = e.0

sum_alike : (n : ℕ) (f g : ℕ → ℕ) → ((r : ℕ) → r < n → f r ≡ g r) → sum_below n f ≡ sum_below n g
sum_alike zero f g same = refl
sum_alike (suc n) f g same = let rest = sum_alike n f g (λ r low. same r (omega (arith, low))) in let here = same n (omega arith) in omega (arith, rest, here)

pub nodes_there : (regions : List Standing) (r : ℕ) (s : Standing) → slice_get regions r ≡ Some s → nodes_at regions r ≡ globals.len s.globals
nodes_there regions r s here = get_or_from_slice_get (map (λ (t : Standing). globals.len t.globals) regions) r (globals.len s.globals) 0
    (slice_get-map (λ (t : Standing). globals.len t.globals) regions r ∙ ap (option_map (λ (t : Standing). globals.len t.globals)) here)

module _ (ps : List Pattern) (rs : List Standing) (seq : Sequence) (are : ArePartsOf ps rs seq) where
  -- a region's globals are its part
  pub part_of : (r : ℕ) (s : Standing) → slice_get rs r ≡ Some s → s.globals ≡ region_state ps r seq
  part_of r s here =
      let part : Some s.globals ≡ Some (region_state ps r seq) =
      ap (option_map (λ (t : Standing). t.globals)) (sym here) ∙ sym (slice_get-map (λ (t : Standing). t.globals) rs r) ∙ are r (slice_get_within rs r s here) in
      ap (λ (o : Option Globals). unwrap_or o s.globals) part

  module _ (some : 0 < length rs) (within : AllByRecursion (λ p. p.region < length rs) ps) where
    -- all nodes are those of the state
    pub together_are : union (parts_in rs) ≡ state seq
    together_are =
        let many : length (parts_in rs) ≡ length rs = length-map rs (λ (s : Standing). s.globals) in
        unions.together ps (parts_in rs) seq (omega (arith, some, many)) (subst (λ (n : ℕ). AllByRecursion (λ (p : Pattern). p.region < n) ps) (sym many) within) (λ r low. are r (omega (arith, low, many)))

    pub nodes_of_parts : sum_below (length rs) (nodes_at rs) ≡ globals.len (state seq)
    nodes_of_parts =
        sum_alike (length rs) (nodes_at rs) (λ r. globals.len (region_state ps r seq)) (λ r low. let s = there rs r low in nodes_there rs r s.0 s.1 ∙ ap globals.len (part_of r s.0 s.1))
        ∙ sym (parts.len ps (length rs) seq some within)

module _ (j : Joined) (h : AreJoined j) where
  pub joined_is : joined j ≡ state h.entries
  joined_is = together_are j.patterns j.regions h.entries h.parts h.some h.within

  pub region_inside : (name : List ℕ) → region_of j.patterns name < length j.regions
  region_inside name = regions.below j.patterns name (length j.regions) h.some h.within

  pub part_at : (r : ℕ) (s : Standing) → slice_get j.regions r ≡ Some s → s.globals ≡ region_state j.patterns r h.entries
  part_at = part_of j.patterns j.regions h.entries h.parts

  module _ (k : Key) (s : Standing) (here : slice_get j.regions (region_of j.patterns k.name) ≡ Some s) where
    -- the value of a node is that in the region of its name
    pub get_here : globals.get s.globals k ≡ globals.get (joined j) k
    get_here =
        ap (λ (g : Globals). globals.get g k) (part_at (region_of j.patterns k.name) s here) ∙ parts.get j.patterns h.entries k
        ∙ ap (λ (g : Globals). globals.get g k) (sym joined_is)

    -- so are all nodes of its name
    pub named_here : (f : Key → Bool) → ((x : Key) → f x ≡ true → k.name ≡ x.name) → filter (λ e. f e.0) (globals.entries s.globals) ≡ filter (λ e. f e.0) (globals.entries (joined j))
    named_here f same =
        ap (λ (g : Globals). filter (λ (e : Key × List ℕ). f e.0) (globals.entries g)) (part_at (region_of j.patterns k.name) s here)
        ∙ parts.of_names j.patterns (region_of j.patterns k.name) h.entries f (λ x is. ap (region_of j.patterns) (sym (same x is)))
        ∙ ap (λ (g : Globals). filter (λ (e : Key × List ℕ). f e.0) (globals.entries g)) (sym joined_is)

    below_name : (x : Key) → is_below k x ≡ true → k.name ≡ x.name
    below_name x is = under_name k x (and_parts (is_under k x) _ is).0

    pub defined_here : defined s.globals k ≡ defined (joined j) k
    defined_here = λ i. (if is_some (get_here i) then 1 else 0) + (if any i then 10 else 0)
      where
        any : list_any (is_below k) (globals.keys s.globals) ≡ list_any (is_below k) (globals.keys (joined j))
        any = any_by key_at (is_below k) (globals.entries s.globals) ∙ ap (λ (es : List (Key × List ℕ)). some_in key_at es) (named_here (is_below k) below_name) ∙ sym (any_by key_at (is_below k) (globals.entries (joined j)))

    pub after_here : after s.globals k ≡ after (joined j) k
    after_here =
        find_by key_at (is_later k) (globals.entries s.globals)
        ∙ ap (λ (es : List (Key × List ℕ)). slice_get (map key_at es) 0) (named_here (is_later k) (λ x is. names_tie k.name x.name (and_parts (eq_by_cmp (slice_cmp nat_cmp) k.name x.name) _ is).0))
        ∙ sym (find_by key_at (is_later k) (globals.entries (joined j)))

    no_sub : (x : Key) → is_below k x ≡ false → sub_at k x ≡ None
    no_sub x is = ap (λ (b : Bool). if b then first_sub (drop (length k.subs) x.subs) else None) is

    pub order_here : (last : List ℕ) → order s.globals k last ≡ order (joined j) k last
    order_here last =
        ap (find (is_past last))
        (filter_map_by key_at (sub_at k) (is_below k) no_sub (globals.entries s.globals)
        ∙ ap (λ (es : List (Key × List ℕ)). filter_map (sub_at k) (map key_at es)) (named_here (is_below k) below_name)
        ∙ sym (filter_map_by key_at (sub_at k) (is_below k) no_sub (globals.entries (joined j))))

    pub under_here : filter (λ e. is_under k e.0) (globals.entries s.globals) ≡ filter (λ e. is_under k e.0) (globals.entries (joined j))
    under_here = named_here (is_under k) (under_name k)

-- what holds of an answer, in other words
pub if_ok : {T E : Type 0} (r : Result T E) (P Q : T → Type 0) → IfOk r P → ((x : T) → P x → Q x) → IfOk r Q
if_ok (Ok x) P Q h so = so x h
if_ok (Err e) P Q h so = tt

-- the regions' nodes are all nodes
pub nodes_in_all : (j : Joined) (h : AreJoined j) → sum_below (length j.regions) (nodes_at j.regions) ≡ globals.len (joined j)
nodes_in_all j h = nodes_of_parts j.patterns j.regions h.entries h.parts h.some h.within ∙ ap globals.len (sym (joined_is j h))
