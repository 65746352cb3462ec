-- Encoded keys compare as keys do, and begin one another just where one node is under the other.
use Rattle.std.proofs.Common.{◌≡◌, ℕ, Bool, true, false, nat_eq, List, [], ◌∷◌, ◌++◌, length, drop, refl, ap, sym, ◌∙◌, append_assoc}
use Rattle.std.specs.declared.cmp.Ordering.{Ordering}
use Rattle.std.specs.declared.cmp.Ordering.TheVariants.{Less, Equal, Greater}
use Rattle.std.specs.Ordering.{nat_cmp, ordering_then, eq_by_cmp, is_eq}
use Rattle.std.specs.Cmp.Lexicographic.{slice_cmp, pointwise, nat_list_cmp_total}
use Rattle.std.specs.List.{flat_map, starts_with}
use Rattle.std.specs.FinMap as map
use Rattle.std.proofs.lemmas.Bool.{and_parts, eqb-true}
use Rattle.std.proofs.lemmas.Cmp.{tied_itself, lists_equiv, eq_by_cmp_equiv, nat_eq_equiv}
use Rattle.std.specs.Cmp.{IsEquivalence}
use Rattle.std.proofs.Math.Seq.{take-append_seam}
use Rattle.std.proofs.lemmas.Grind.{flat_map-append}
use Rattle.global_defs.specs.Key.{Key, Sub, sub_cmp, key_cmp}
use Rattle.global_defs.specs.Encoded.{encoded, encoded_sub}
use Rattle.global_defs.specs.Entry.{is_under}
use Rattle.global_defs.specs.Valid.{is_key}
use Rattle.global_defs.proofs.Order.{sub_total, sub_same, key_same, first_equal, second_equal}
use Rattle.global_defs.proofs.Codes.{lists_ordered, lists_begin, bytes_ended}
use Rattle.global_defs.proofs.SubOrder.{sub_code}
use Rattle.global_defs.proofs.ValidKeys.{valid_parts, name_some}

abbrev code_of : Key → List ℕ
code_of key = flat_map encoded_sub key.subs

names_ended : (a b : Key) → is_key a ≡ true → is_key b ≡ true → (x y : List ℕ)
    → slice_cmp nat_cmp (a.name ++ (0 ∷ x)) (b.name ++ (0 ∷ y)) ≡ ordering_then (slice_cmp nat_cmp a.name b.name) (slice_cmp nat_cmp x y)
names_ended a b h g x y = bytes_ended a.name b.name x y (name_some a.name (valid_parts a h).name) (name_some b.name (valid_parts b g).name)

pub key_ordered : (a b : Key) → is_key a ≡ true → is_key b ≡ true → slice_cmp nat_cmp (encoded a) (encoded b) ≡ key_cmp a b
key_ordered a b h g =
    names_ended a b h g (code_of a) (code_of b)
    ∙ ap (ordering_then (slice_cmp nat_cmp a.name b.name)) (lists_ordered sub_code a.subs b.subs (valid_parts a h).subs (valid_parts b g).subs)

pub key_injective : (a b : Key) → is_key a ≡ true → is_key b ≡ true → encoded a ≡ encoded b → a ≡ b
key_injective a b h g e = key_same a b (sym (key_ordered a b h g) ∙ ap (slice_cmp nat_cmp (encoded a)) (sym e) ∙ tied_itself nat_list_cmp_total (encoded a))

-- lists that begin others, by a test that only equal elements pass

begins_with : {X : Type 0} {E : X → X → Bool} → IsEquivalence E → (xs more : List X) → starts_with E (xs ++ more) xs ≡ true
begins_with {E = E} laws xs more = ap (pointwise E xs) (take-append_seam xs more) ∙ (lists_equiv laws).refl xs

rest_of : {X : Type 0} (E : X → X → Bool) → ((x y : X) → E x y ≡ true → x ≡ y) → (xs ys : List X) → starts_with E ys xs ≡ true → ys ≡ xs ++ drop (length xs) ys
rest_of E one [] ys h = refl
rest_of E one (x ∷ xs) [] h = cc
rest_of E one (x ∷ xs) (y ∷ ys) h =
    let t = and_parts (E x y) (starts_with E ys xs) h in
    λ i. sym (one x y t.0) i ∷ rest_of E one xs ys t.1 i

pub is_equal : (o : Ordering) → is_eq o ≡ true → o ≡ Equal
is_equal Less h = cc
is_equal Equal h = refl
is_equal Greater h = cc

under_begins : (top key : Key) → is_under top key ≡ true → starts_with nat_eq (encoded key) (encoded top) ≡ true
under_begins top key h =
    let t = and_parts (is_eq (slice_cmp nat_cmp top.name key.name)) (starts_with (eq_by_cmp sub_cmp) key.subs top.subs) h in
    let name : top.name ≡ key.name = map.slice_cmp-IsAntisymmetric map.nat_cmp-IsAntisymmetric top.name key.name (is_equal (slice_cmp nat_cmp top.name key.name) t.0) in
    let more : List Sub = drop (length top.subs) key.subs in
    let subs : key.subs ≡ top.subs ++ more = rest_of (eq_by_cmp sub_cmp) (λ x y p. sub_same x y (is_equal (sub_cmp x y) p)) top.subs key.subs t.1 in
    let code : code_of key ≡ code_of top ++ flat_map encoded_sub more = ap (flat_map encoded_sub) subs ∙ flat_map-append encoded_sub top.subs more in
    let whole : encoded key ≡ encoded top ++ flat_map encoded_sub more = (λ i. sym name i ++ (0 ∷ code i)) ∙ sym (append_assoc top.name (0 ∷ code_of top) (flat_map encoded_sub more)) in
    ap (λ x. starts_with nat_eq x (encoded top)) whole ∙ begins_with nat_eq_equiv (encoded top) (flat_map encoded_sub more)

begins_under : (top key : Key) → is_key top ≡ true → is_key key ≡ true → starts_with nat_eq (encoded key) (encoded top) ≡ true → is_under top key ≡ true
begins_under top key h g e =
    let rest : List ℕ = drop (length (encoded top)) (encoded key) in
    let split : encoded key ≡ top.name ++ (0 ∷ (code_of top ++ rest)) = rest_of nat_eq eqb-true (encoded top) (encoded key) e ∙ append_assoc top.name (0 ∷ code_of top) rest in
    let tied : ordering_then (slice_cmp nat_cmp top.name key.name) (slice_cmp nat_cmp (code_of top ++ rest) (code_of key)) ≡ Equal =
    sym (names_ended top key h g (code_of top ++ rest) (code_of key)) ∙ ap (λ x. slice_cmp nat_cmp x (encoded key)) (sym split) ∙ tied_itself nat_list_cmp_total (encoded key) in
    let name = first_equal (slice_cmp nat_cmp top.name key.name) (slice_cmp nat_cmp (code_of top ++ rest) (code_of key)) tied in
    let code = map.slice_cmp-IsAntisymmetric map.nat_cmp-IsAntisymmetric (code_of top ++ rest) (code_of key) (second_equal (slice_cmp nat_cmp top.name key.name) (slice_cmp nat_cmp (code_of top ++ rest) (code_of key)) tied) in
    let more = lists_begin sub_code sub_same top.subs key.subs rest (valid_parts top h).subs (valid_parts key g).subs (sym code) in
    rw name (ap (λ x. starts_with (eq_by_cmp sub_cmp) x top.subs) more.1 ∙ begins_with (eq_by_cmp_equiv sub_total) top.subs more.0)

both_ways : (p q : Bool) → (p ≡ true → q ≡ true) → (q ≡ true → p ≡ true) → p ≡ q
both_ways true q f g = sym (f refl)
both_ways false true f g = g refl
both_ways false false f g = refl

pub key_begins : (top key : Key) → is_key top ≡ true → is_key key ≡ true → starts_with nat_eq (encoded key) (encoded top) ≡ is_under top key
key_begins top key h g = both_ways (starts_with nat_eq (encoded key) (encoded top)) (is_under top key) (begins_under top key h g) (under_begins top key)
