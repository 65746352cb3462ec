-- The last epoch of a region.
use Rattle.std.proofs.Common.{◌≡◌, ℕ, ◌+◌, ◌-◌, ◌<◌, ◌≤◌, List, [], ◌∷◌, ◌++◌, length, map, take, drop, get_or, Option, Some, None, sym, ◌∙◌, ap, subst, arith}
use Rattle.std.specs.Option.{option_or, unwrap_or}
use Rattle.std.proofs.lemmas.List.{map-append, take-append-drop, drop_more}
use Rattle.journal_defs.specs.Instance.{InstanceRecord}
use Rattle.journal_defs.specs.Sequence.{Placed}
use Rattle.journal_defs.specs.Epochs.{Chosen, epoch_in, last_epoch, chosen, beginning}
use Rattle.jnl_record.specs.declared.placed.PlacedRecord.{PlacedRecord}
use Rattle.jnl_record.specs.Values.{record_value, placed_value}

-- the last epoch of the last records is that of all
pub last_there : (rs : List InstanceRecord) (t : ℕ) (ps qs : List Placed) (e : Chosen) → last_epoch rs t qs ≡ Some e → last_epoch rs t (ps ++ qs) ≡ Some e
last_there rs t [] qs e h = h
last_there rs t (p ∷ ps) qs e h = ap (λ (o : Option Chosen). option_or o (epoch_in rs t p.generation p.what (ps ++ qs))) (last_there rs t ps qs e h)

-- the records from a place on
pub from_place : (xs : List PlacedRecord) (i : ℕ) (d : PlacedRecord) → i < length xs → map placed_value (drop i xs) ≡ placed_value (get_or xs i d) ∷ map placed_value (drop (i + 1) xs)
from_place xs i d inside = ap (map placed_value) (drop_more xs i d inside)

-- no epoch behind a record: what is found at the record is the last one
pub last_at : (rs : List InstanceRecord) (t : ℕ) (xs : List PlacedRecord) (i : ℕ) (d : PlacedRecord) (o : Option Chosen) → i < length xs → last_epoch rs t (map placed_value (drop (i + 1) xs)) ≡ None
    → epoch_in rs t (placed_value (get_or xs i d)).generation (placed_value (get_or xs i d)).what (map placed_value (drop (i + 1) xs)) ≡ o → last_epoch rs t (map placed_value (drop i xs)) ≡ o
last_at rs t xs i d o inside none here =
    let p = placed_value (get_or xs i d) in
    let behind = map placed_value (drop (i + 1) xs) in
    ap (last_epoch rs t) (from_place xs i d inside) ∙ ap (λ (x : Option Chosen). option_or x (epoch_in rs t p.generation p.what behind)) none ∙ here

-- the same of the record before a place
pub last_before : (rs : List InstanceRecord) (t : ℕ) (xs : List PlacedRecord) (n : ℕ) (x d : PlacedRecord) (o : Option Chosen) → 0 < n → n ≤ length xs → x ≡ get_or xs (n - 1) d → last_epoch rs t (map placed_value (drop n xs)) ≡ None
    → epoch_in rs t x.generation (record_value x.what) (map placed_value (drop n xs)) ≡ o → last_epoch rs t (map placed_value (drop (n - 1) xs)) ≡ o
last_before rs t xs n x d o some within is none here =
    let next : n ≡ n - 1 + 1 = omega (arith, some) in
    last_at rs t xs (n - 1) d o (omega (arith, some, within)) (subst (λ (m : ℕ). last_epoch rs t (map placed_value (drop m xs)) ≡ None) next none)
    (subst (λ (y : PlacedRecord). epoch_in rs t y.generation (record_value y.what) (map placed_value (drop (n - 1 + 1) xs)) ≡ o) is
    (subst (λ (m : ℕ). epoch_in rs t x.generation (record_value x.what) (map placed_value (drop m xs)) ≡ o) next here))

-- and so it's the chosen one
pub chosen_there : (rs : List InstanceRecord) (t : ℕ) (xs : List PlacedRecord) (i : ℕ) (e : Chosen) → last_epoch rs t (map placed_value (drop i xs)) ≡ Some e → chosen rs t (map placed_value xs) ≡ e
chosen_there rs t xs i e h =
    let all : map placed_value xs ≡ map placed_value (take i xs) ++ map placed_value (drop i xs) = ap (map placed_value) (sym (take-append-drop i xs)) ∙ map-append placed_value (take i xs) (drop i xs) in
    let last : last_epoch rs t (map placed_value xs) ≡ Some e = ap (last_epoch rs t) all ∙ last_there rs t (map placed_value (take i xs)) (map placed_value (drop i xs)) e h in
    ap (λ (o : Option Chosen). unwrap_or o (beginning (map placed_value xs))) last

pub none_chosen : (rs : List InstanceRecord) (t : ℕ) (xs : List PlacedRecord) → last_epoch rs t (map placed_value xs) ≡ None → chosen rs t (map placed_value xs) ≡ beginning (map placed_value xs)
none_chosen rs t xs h = ap (λ (o : Option Chosen). unwrap_or o (beginning (map placed_value xs))) h
