-- Updates in slots.
use Rattle.std.proofs.Common.{◌≡◌, ◌≢◌, inl, inr, ◌⊎◌, ℕ, zero, suc, ◌+◌, ◌≤◌, ◌<◌, ◌==◌, true, false, List, [], ◌∷◌, ◌++◌, length, map, take, append_assoc, get_or, set, replicate, is_some, Option, Some, None, refl, sym, ◌∙◌, ap, subst, arith, if◌then◌else◌, length-set, get_or-set_other, get_or-set_same}
use Rattle.std.proofs.lemmas.Bool.{cases_lt}
use Rattle.std.proofs.lemmas.Bool.Decides.{nat_tests}
use Rattle.std.proofs.lemmas.List.{get_or-replicate, length-map, map-append, take_more, take_all}
use Rattle.std.proofs.Math.ListN.{get_or-map, length-replicate}
use Rattle.std.specs.List.{find}
use Rattle.std.specs.Option.{option_map, option_or}
use Rattle.gvn_key.specs.Terms.{update_value}
use Rattle.gvn_key.specs.declared.terms.Update as code
use Rattle.gvn_model.specs.declared.items.Item as items
use Rattle.gvn_model.specs.Items.{item_value}
use Rattle.global_defs.specs.Entry.{Update, Item}
use Rattle.journal_defs.specs.Sequence.{update_at, updates_from}
use Rattle.journal_laws.proofs.Runs.{or_none}
use Rattle.mupip_recover.specs.Slots.{AreSlots, all_of}

-- the update of an item at its position
abbrev pub at_position : ℕ → Item → Option Update
at_position i x = if x.position == i then Some x.update else None

pub update_at-one : (x : Item) (items : List Item) (i : ℕ) → update_at (x ∷ items) i ≡ option_or (at_position i x) (update_at items i)
update_at-one x items i = elim (x.position == i) as (λ b. option_map (λ y. y.update) (if b then Some x else find (λ y. y.position == i) items) ≡ option_or (if b then Some x.update else None) (update_at items i)) [ true ↦ refl | false ↦ refl ]

or_assoc : (a b c : Option Update) → option_or (option_or a b) c ≡ option_or a (option_or b c)
or_assoc None b c = refl
or_assoc (Some x) b c = refl

update_at-push : (items : List Item) (x : Item) (i : ℕ) → update_at (items ++ x ∷ []) i ≡ option_or (update_at items i) (at_position i x)
update_at-push [] x i = update_at-one x [] i ∙ or_none (at_position i x)
update_at-push (y ∷ items) x i =
    update_at-one y (items ++ x ∷ []) i
    ∙ ap (option_or (at_position i y)) (update_at-push items x i)
    ∙ sym (or_assoc (at_position i y) (update_at items i) (at_position i x))
    ∙ ap (λ (o : Option Update). option_or o (at_position i x)) (sym (update_at-one y items i))

pub elsewhere : (i : ℕ) (x : Item) → x.position ≢ i → at_position i x ≡ None
elsewhere i x ne =
    let no : (x.position == i) ≡ false = grind (arith, nat_tests) in
    rw no refl

pub here : (i : ℕ) (x : Item) → x.position ≡ i → at_position i x ≡ Some x.update
here i x is =
    let yes : (x.position == i) ≡ true = grind (arith, nat_tests) in
    rw yes refl

some_or : (a b : Option Update) → is_some a ≡ true → option_or a b ≡ a
some_or (Some x) b h = refl
some_or None b h = cc

some_value : (o : Option code.Update) → is_some o ≡ true → is_some (option_map update_value o) ≡ true
some_value (Some x) h = refl
some_value None h = cc

-- whether two numbers are the same
same_or_not : (i j : ℕ) → (i ≡ j) ⊎ (i ≢ j)
same_or_not i j = elim (cases_lt i j) [
  | inl lt ↦ inr (omega arith)
  | inr le ↦ elim (cases_lt j i) [ inl more ↦ inr (omega arith) | inr same ↦ inl (omega arith) ]
]

-- an item whose slot is not there, or has an update
pub kept : (count : ℕ) (items : List Item) (slots : List (Option code.Update)) (x : Item) → AreSlots count items slots
    → (x.position < count → is_some (get_or slots x.position None) ≡ true) → AreSlots count (items ++ x ∷ []) slots
kept count items slots x are taken = record {
  many = are.many;
  each = λ i low. elim (same_or_not x.position i) [
    | inl same ↦
        let some : is_some (get_or slots i None) ≡ true = subst (λ (j : ℕ). is_some (get_or slots j None) ≡ true) same (taken (omega arith)) in
        are.each i low ∙ sym (update_at-push items x i ∙ some_or (update_at items i) (at_position i x) (ap is_some (sym (are.each i low)) ∙ some_value (get_or slots i None) some))
    | inr other ↦ are.each i low ∙ sym (update_at-push items x i ∙ ap (option_or (update_at items i)) (elsewhere i x other) ∙ or_none (update_at items i))
  ];
}

-- an item whose slot is empty
pub filled : (count : ℕ) (items : List Item) (slots : List (Option code.Update)) (x : Item) (u : code.Update) → AreSlots count items slots
    → x.position < length slots → get_or slots x.position None ≡ None → update_value u ≡ x.update → AreSlots count (items ++ x ∷ []) (set slots x.position (Some u))
filled count items slots x u are within empty is = record {
  many = length-set slots x.position (Some u) ∙ are.many;
  each = λ i low. elim (same_or_not x.position i) [
    | inl same ↦
        let was : update_at items i ≡ None = sym (are.each i low) ∙ ap (λ (j : ℕ). option_map update_value (get_or slots j None)) (sym same) ∙ ap (option_map update_value) empty in
        ap (λ (j : ℕ). option_map update_value (get_or (set slots x.position (Some u)) j None)) (sym same)
        ∙ ap (option_map update_value) (get_or-set_same slots x.position (Some u) None within)
        ∙ ap Some is
        ∙ sym (update_at-push items x i ∙ ap (λ (o : Option Update). option_or o (at_position i x)) was ∙ here i x same)
    | inr other ↦
        let ne : i ≢ x.position = λ e. other (sym e) in
        ap (option_map update_value) (get_or-set_other slots x.position i (Some u) None ne)
        ∙ are.each i low ∙ sym (update_at-push items x i ∙ ap (option_or (update_at items i)) (elsewhere i x other) ∙ or_none (update_at items i))
  ];
}

pub empty : (count : ℕ) (slots : List (Option code.Update)) → slots ≡ replicate count None → AreSlots count [] slots
empty count slots is = record {
  many = ap length is ∙ length-replicate count None;
  each = λ i low. ap (λ (l : List (Option code.Update)). option_map update_value (get_or l i None)) is ∙ ap (option_map update_value) (get_or-replicate count i None None low);
}

-- the updates from a position on
from : (items : List Item) (os : List (Option Update)) (i k : ℕ) → length os ≡ k → ((j : ℕ) → j < k → get_or os j None ≡ update_at items (i + j)) → updates_from items i k ≡ all_of os
from items [] i zero many each = refl
from items [] i (suc k) many each = absurd (omega arith)
from items (o ∷ os) i zero many each = absurd (omega arith)
from items (None ∷ os) i (suc k) many each =
    let at : update_at items i ≡ None = ap (update_at items) (omega arith) ∙ sym (each 0 (omega arith)) in
    rw at refl
from items (Some u ∷ os) i (suc k) many each =
    let at : update_at items i ≡ Some u = ap (update_at items) (omega arith) ∙ sym (each 0 (omega arith)) in
    rw at (ap (option_map (λ us. u ∷ us)) (from items os (suc i) k (omega arith) (λ j low. each (suc j) (omega arith) ∙ ap (update_at items) (omega arith))))

pub all_filled : (count : ℕ) (items : List Item) (slots : List (Option code.Update)) → AreSlots count items slots → updates_from items 0 count ≡ all_of (map (option_map update_value) slots)
all_filled count items slots are =
    from items (map (option_map update_value) slots) 0 count (length-map slots (option_map update_value) ∙ are.many)
    (λ j low. get_or-map (option_map update_value) slots j None ∙ are.each j low ∙ ap (update_at items) (omega arith))

-- one slot more is gone through
pub one_more : (us : List Update) (u : Update) (o all : Option (List Update)) → option_map (λ xs. us ++ xs) (option_map (λ xs. u ∷ xs) o) ≡ all → option_map (λ xs. (us ++ u ∷ []) ++ xs) o ≡ all
one_more us u None all h = h
one_more us u (Some xs) all h = ap Some (append_assoc us (u ∷ []) xs) ∙ h

-- an item at this place, whose slot is not there or has an update
pub kept_at : (count : ℕ) (items : List Item) (slots : List (Option code.Update)) (x : Item) (p : ℕ) → p ≡ x.position → AreSlots count items slots
    → (p < length slots → is_some (get_or slots p None) ≡ true) → AreSlots count (items ++ x ∷ []) slots
kept_at count items slots x p at are taken =
    kept count items slots x are (λ low. subst (λ (q : ℕ). is_some (get_or slots q None) ≡ true) at (taken (omega (arith, are.many))))

-- an item at this place, whose slot is empty
pub filled_at : (count : ℕ) (items : List Item) (slots : List (Option code.Update)) (x : Item) (u : code.Update) (p : ℕ) → p ≡ x.position → AreSlots count items slots
    → p < length slots → get_or slots p None ≡ None → update_value u ≡ x.update → AreSlots count (items ++ x ∷ []) (set slots p (Some u))
filled_at count items slots x u p at are within empty is =
    subst (λ (q : ℕ). AreSlots count (items ++ x ∷ []) (set slots q (Some u))) (sym at)
    (filled count items slots x u are (omega arith) (subst (λ (q : ℕ). get_or slots q None ≡ None) at empty) is)

-- what one step puts
abbrev pub Puts : Item → List (Option code.Update) → List (Option code.Update) → Type 0
Puts x was now = (count : ℕ) (items : List Item) → AreSlots count items was → AreSlots count (items ++ x ∷ []) now

pub put_more : (count : ℕ) (before : List Item) (added : List items.Item) (i : ℕ) (x : items.Item) (was now : List (Option code.Update)) → i < length added → x ≡ get_or added i x
    → Puts (item_value x) was now → AreSlots count (before ++ map item_value (take i added)) was → AreSlots count (before ++ map item_value (take (i + 1) added)) now
put_more count before added i x was now within is put are =
    let more : map item_value (take (i + 1) added) ≡ map item_value (take i added) ++ item_value x ∷ [] =
    ap (map item_value) (take_more added i x within ∙ ap (λ (y : items.Item). take i added ++ y ∷ []) (sym is)) ∙ map-append item_value (take i added) (x ∷ []) in
    subst (λ (l : List Item). AreSlots count l now) (append_assoc before (map item_value (take i added)) (item_value x ∷ []) ∙ ap (λ (l : List Item). before ++ l) (sym more))
    (put count (before ++ map item_value (take i added)) are)

pub put_whole : (count : ℕ) (before : List Item) (added : List items.Item) (i : ℕ) (now : List (Option code.Update)) → length added ≤ i
    → AreSlots count (before ++ map item_value (take i added)) now → AreSlots count (before ++ map item_value added) now
put_whole count before added i now past are = subst (λ (l : List items.Item). AreSlots count (before ++ map item_value l) now) (take_all i added past) are
