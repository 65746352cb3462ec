-- The columns of a table of signs.
use Rattle.std.proofs.Common.{◌≡◌, ℕ, suc, ◌+◌, ◌<◌, ◌≤◌, Bool, List, [], ◌∷◌, length, map, drop, get_or, Option, Some, None, refl, sym, ◌∙◌, ap, arith, if◌then◌else◌}
use Rattle.std.proofs.lemmas.List.{drop_all}
use Rattle.std.proofs.Math.Seq.{drop-cons}
use Rattle.std.specs.Option.{option_or}
use Rattle.std.proofs.lemmas.Simd.{map-map}
use Rattle.std.proofs.Math.ListN.{get_or-map}
use Rattle.journal_defs.specs.Instance.{InstanceRecord}
use Rattle.entry_index.specs.declared.placed.PlacedSign.{PlacedSign}
use Rattle.entry_index.specs.declared.signed_part.PartSign.{PartSign}
use Rattle.journal_defs.specs.Surviving.{survives}
use Rattle.entry_index.specs.Signs.{part_sign_in, if_numbered, if_surviving, sign_in, last_sign, signs_of}

-- the signs of a number by region
pub by_region : {J : Type 0} (items : J → List PlacedSign) (rs : List InstanceRecord) (n : ℕ) (js : List J) (r : ℕ)
    → get_or (map (λ j. last_sign rs n (items j)) js) r None ≡ last_sign rs n (signs_of (map items js) r)
by_region items rs n js r =
    ap (λ (l : List (Option PartSign)). get_or l r None) (sym (map-map (λ ss. last_sign rs n ss) items js))
    ∙ get_or-map (λ ss. last_sign rs n ss) (map items js) r []

-- a sign of a part that survives counts for its number alone, and one that doesn't for none
pub surviving_sign : (rs : List InstanceRecord) (n : ℕ) (placed : PlacedSign) (s : PartSign) (kept : Bool) → part_sign_in placed ≡ Some s → survives rs placed.generation s.number ≡ kept
    → sign_in rs n placed ≡ if_numbered n (if kept then Some s else None)
surviving_sign rs n placed s kept is there =
    ap (λ (o : Option PartSign). if_numbered n (if_surviving rs placed.generation o)) is ∙ ap (λ (b : Bool). if_numbered n (if b then Some s else None)) there

or_again : {X : Type 0} (a b c : Option X) → option_or a (option_or b c) ≡ option_or (option_or a b) c
or_again None b c = refl
or_again (Some x) b c = refl

-- a column of all signs up to a place, with one sign more
pub column_more : (rs : List InstanceRecord) (n i : ℕ) (ss : List PlacedSign) (d : PlacedSign) (old new : Option PartSign) → i < length ss → new ≡ option_or (sign_in rs n (get_or ss i d)) old
    → option_or (last_sign rs n (drop i ss)) old ≡ last_sign rs n ss → option_or (last_sign rs n (drop (i + 1) ss)) new ≡ last_sign rs n ss
column_more rs n i ss d old new low put before =
    let at : suc i ≡ i + 1 = omega arith in
    let next : drop i ss ≡ get_or ss i d ∷ drop (i + 1) ss = drop-cons ss i d low ∙ ap (λ (k : ℕ). get_or ss i d ∷ drop k ss) at in
    ap (option_or (last_sign rs n (drop (i + 1) ss))) put
    ∙ or_again (last_sign rs n (drop (i + 1) ss)) (sign_in rs n (get_or ss i d)) old
    ∙ ap (λ (l : List PlacedSign). option_or (last_sign rs n l) old) (sym next)
    ∙ before

-- no sign is left
pub column_whole : (rs : List InstanceRecord) (n i : ℕ) (ss : List PlacedSign) (told : Option PartSign) → length ss ≤ i → option_or (last_sign rs n (drop i ss)) told ≡ last_sign rs n ss → told ≡ last_sign rs n ss
column_whole rs n i ss told past before = ap (λ (l : List PlacedSign). option_or (last_sign rs n l) told) (sym (drop_all i ss past)) ∙ before
