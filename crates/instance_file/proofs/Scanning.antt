-- The surviving reigns of the first records, and of one more.
use Rattle.std.proofs.Common.{◌≡◌, ℕ, ◌+◌, ◌<◌, ◌≤◌, Bool, true, false, List, [], ◌∷◌, ◌++◌, length, map, take, drop, get_or, if◌then◌else◌, Option, Some, None, refl, sym, ◌∙◌, ap, subst, arith, append-nil, take-append-drop}
use Rattle.std.proofs.lemmas.List.{map-append, take_more, drop_more}
use Rattle.std.specs.Prelude.{slice_get, slice_index_or}
use Rattle.std.specs.List.{list_all}
use Rattle.global_defs.specs.Entry.{Reign}
use Rattle.journal_defs.specs.Instance.{InstanceRecord, Create, Reigned, Cut, Map, Mode}
use Rattle.journal_defs.specs.Surviving.{spares_start, reigns}
use Rattle.instance_file.specs.Values.{record_value}
use Rattle.site_defs.specs.OutsideInstance.{left_by}
use Rattle.instance_file.specs.Walks.{surviving_in, IsWrongReign}
use Rattle.instance_file.specs.declared.record.InstanceRecord as code
use Rattle.instance_file.proofs.Histories.{left_next, left_all, as_list, rise_push, rise_past}
use Rattle.global_defs.proofs.Starts.{last_start, last_push}
use Rattle.global_defs.specs.Rising.{StartsRise}

some_if : (b : Bool) (q r : Reign) → (if b then Some q else None) ≡ Some r → (b ≡ true) × (q ≡ r)
some_if true q r is = (refl, cc)
some_if false q r is = absurd cc

survivor : (later : List InstanceRecord) (y : InstanceRecord) (r : Reign) → surviving_in later y ≡ Some r → (y ≡ Reigned r) × (list_all (spares_start r.start) later ≡ true)
survivor later (Reigned q) r is =
    let both = some_if (list_all (spares_start q.start) later) q r is in
    (ap Reigned both.1, subst (λ (x : Reign). list_all (spares_start x.start) later ≡ true) both.1 both.0)
survivor later (Create name regions) r is = absurd cc
survivor later (Cut n g) r is = absurd cc
survivor later (Map region star name) r is = absurd cc
survivor later (Mode region before) r is = absurd cc

-- those of the first so many records that survive the others
abbrev pub scanned : List code.InstanceRecord → ℕ → List Reign
scanned xs i = left_by (map record_value (drop i xs)) (reigns (map record_value (take i xs)))

pub scanned_all : (xs : List code.InstanceRecord) (i : ℕ) → take i xs ≡ xs → drop i xs ≡ [] → scanned xs i ≡ reigns (map record_value xs)
scanned_all xs i all none =
    ap (λ (l : List code.InstanceRecord). left_by (map record_value l) (reigns (map record_value (take i xs)))) none
    ∙ ap (λ (l : List code.InstanceRecord). left_by [] (reigns (map record_value l))) all
    ∙ left_all (reigns (map record_value xs))

module _ (xs : List code.InstanceRecord) (i : ℕ) (x : code.InstanceRecord) (inside : i < length xs) (is : x ≡ get_or xs i x) where
  abbrev earlier : List InstanceRecord
  earlier = map record_value (take i xs)

  abbrev later : List InstanceRecord
  later = map record_value (drop (i + 1) xs)

  front : map record_value (take (i + 1) xs) ≡ earlier ++ record_value x ∷ []
  front =
      ap (map record_value) (take_more xs i x inside ∙ ap (λ (y : code.InstanceRecord). take i xs ++ y ∷ []) (sym is))
      ∙ map-append record_value (take i xs) (x ∷ [])

  back : map record_value (drop i xs) ≡ record_value x ∷ later
  back = ap (map record_value) (drop_more xs i x inside ∙ ap (λ (y : code.InstanceRecord). y ∷ drop (i + 1) xs) (sym is))

  whole : map record_value xs ≡ earlier ++ record_value x ∷ later
  whole =
      ap (map record_value) (sym (take-append-drop i xs))
      ∙ map-append record_value (take i xs) (drop i xs)
      ∙ ap (λ (l : List InstanceRecord). earlier ++ l) back

  next : scanned xs (i + 1) ≡ scanned xs i ++ as_list (surviving_in later (record_value x))
  next =
      ap (λ (l : List InstanceRecord). left_by later (reigns l)) front
      ∙ left_next earlier (record_value x) later
      ∙ ap (λ (l : List InstanceRecord). left_by l (reigns earlier) ++ as_list (surviving_in later (record_value x))) (sym back)

  pub next_none : surviving_in later (record_value x) ≡ None → scanned xs (i + 1) ≡ scanned xs i
  next_none none = next ∙ ap (λ (o : Option Reign). scanned xs i ++ as_list o) none ∙ append-nil (scanned xs i)

  pub next_some : (r : Reign) → surviving_in later (record_value x) ≡ Some r → scanned xs (i + 1) ≡ scanned xs i ++ r ∷ []
  next_some r some = next ∙ ap (λ (o : Option Reign). scanned xs i ++ as_list o) some

  pub rising_some : (low : ℕ) (r : Reign) → surviving_in later (record_value x) ≡ Some r → StartsRise 0 (scanned xs i) → last_start 0 (scanned xs i) ≡ low → low < r.start → StartsRise 0 (scanned xs (i + 1))
  rising_some low r some rising last past = subst (StartsRise 0) (sym (next_some r some)) (rise_push 0 (scanned xs i) r rising (omega (arith, last, past)))

  pub last_some : (r : Reign) → surviving_in later (record_value x) ≡ Some r → last_start 0 (scanned xs (i + 1)) ≡ r.start
  last_some r some = ap (last_start 0) (next_some r some) ∙ last_push 0 (scanned xs i) r

  pub wrong_some : (places : List ℕ) (low : ℕ) (r : Reign) → length places ≡ length xs → surviving_in later (record_value x) ≡ Some r → StartsRise 0 (scanned xs i) → last_start 0 (scanned xs i) ≡ low → r.start ≤ low
      → slice_get places (length earlier) ≡ Some (slice_index_or places i 0) → IsWrongReign (map record_value xs) places (slice_index_or places i 0)
  wrong_some places low r many some rising last most place =
      let s = survivor later (record_value x) r some in
      let here : scanned xs i ≡ left_by later (reigns earlier) = ap (λ (l : List InstanceRecord). left_by l (reigns earlier)) (back ∙ ap (λ (y : InstanceRecord). y ∷ later) s.0) in
      record {
        earlier = earlier;
        reign = r;
        later = later;
        is = whole ∙ ap (λ (y : InstanceRecord). earlier ++ y ∷ later) s.0;
        place = place;
        survives = s.1;
        rising = subst (StartsRise 0) here rising;
        falls = λ rise. let past = rise_past 0 (left_by later (reigns earlier)) r rise in let same : last_start 0 (left_by later (reigns earlier)) ≡ low = sym (ap (last_start 0) here) ∙ last in omega (arith, past, same, most);
      }
