-- Records of parts are such as a journal can take.
use Rattle.std.proofs.Common.{inl, inr, ◌≡◌, ◌<◌, ◌≤◌, ◌*◌, ◌^◌, ◌==◌, ℕ, suc, Bool, List, [], ◌∷◌, ◌++◌, length, map, filter, flat_map, Option, Some, None, option_map, refl, sym, ap, subst, arith, length-append}
use Rattle.std.specs.Prelude.{IsTrue}
use Rattle.std.specs.Int.{to_be_bytes, w16}
use Rattle.std.specs.List.{AllByRecursion}
use Rattle.std.proofs.lemmas.Bool.{leb-true, cases_Bool, and_parts}
use Rattle.global_defs.specs.declared.limits.TheConstants.{LONGEST_BODY}
use Rattle.global_defs.specs.Key.{Key}
use Rattle.global_defs.specs.Valid.{is_key}
use Rattle.global_defs.specs.Encoded.{encoded}
use Rattle.global_defs.specs.Entry.{Update, Set, Kill, ZKill, Item, Transaction}
use Rattle.global_defs.specs.Fields.{spelled_update, IsUpdate, IsNumber, IsTransaction}
use Rattle.journal_defs.specs.Journal.{JournalRecord, Tcom, Part, IsPart, IsInForm, spelled_item, spelled_record}
use Rattle.journal_defs.specs.Split.{numbered, items_for, with_items, split}
use Rattle.journal_laws.proofs.PartForms.{in_form}
use Rattle.jnl_record.specs.declared.record.JnlRecord.{JnlRecord}
use Rattle.jnl_record.specs.declared.record.JnlRecord.TheVariants as records
use Rattle.jnl_record.specs.Values.{record_value, IsFirstVersion}
use Rattle.tp_commit.specs.Parts.{recorded, IsReady}

-- lengths
key_short : (key : Key) → IsTrue (is_key key) → length (encoded key) ≤ 255
key_short key h = leb-true (length (encoded key)) 255 (and_parts _ _ h).1

update_short : (u : Update) → IsUpdate u → length (spelled_update u) ≤ 1759
update_short (Set key value) h =
    let k = key_short key h.0 in
    let a = length-append (encoded key) (to_be_bytes w16 (length value) ++ value) in
    let b = length-append (to_be_bytes w16 (length value)) value in
    omega (arith, k, a, b, h.1)
update_short (Kill key) h = let k = key_short key h in omega (arith, k)
update_short (ZKill key) h = let k = key_short key h in omega (arith, k)

items_short : (f : Item → Bool) (n : ℕ) (us : List Update) → AllByRecursion IsUpdate us → length (flat_map spelled_item (filter f (numbered n us))) ≤ 1762 * length us
items_short f n [] h = omega arith
items_short f n (u ∷ us) all =
    let x : Item = record { position = n; update = u } in
    let more = items_short f (suc n) us all.1 in
    elim (cases_Bool (f x)) [
      | inl h ↦ rw h (
          let a = length-append (spelled_item x) (flat_map spelled_item (filter f (numbered (suc n) us))) in
          let b = update_short u all.0 in
          omega (arith, a, b, more))
      | inr h ↦ rw h (omega (arith, more))
    ]

-- a part whose record a journal can take
abbrev pub IsReadyPart : Option Part → Type 0
IsReadyPart None = Unit {0}
IsReadyPart (Some p) = IsPart p × (length (spelled_record (Tcom p)) ≤ LONGEST_BODY)

-- each part of a transaction of its form
ready_split : (region : Update → ℕ) (n mask : ℕ) (t : Transaction) (r : ℕ) → IsNumber n → mask < 2 ^ 8 → IsTransaction t → IsReadyPart (split region n mask t r)
ready_split region n mask t r number low form = go (items_for region r t.updates) refl
  where
    go : (xs : List Item) → items_for region r t.updates ≡ xs → IsReadyPart (with_items n mask t xs)
    go [] is = tt
    go (x ∷ xs) is =
        let p : Part = record { number = n; mask = mask; origin = t.origin; count = length t.updates; items = x ∷ xs } in
        let few = form.few in
        let a : length (flat_map spelled_item (x ∷ xs)) ≤ 1762 * length t.updates = subst (λ (l : List Item). length (flat_map spelled_item l) ≤ 1762 * length t.updates) is (items_short (λ y. region y.update == r) 0 t.updates form.each) in
        (in_form region n mask t r p number low form (ap (with_items n mask t) is), omega (arith, a, few))

first : (x : JnlRecord) (p : Part) → record_value x ≡ Tcom p → IsFirstVersion x
first (records.Pini version region before generation previous) p is = absurd (cc is)
first (records.Epoch closing number blocks) p is = tt
first (records.Pblk block image) p is = tt
first (records.Tcom number mask origin count items) p is = tt

ready_one : (x : Option JnlRecord) (o : Option Part) → option_map record_value x ≡ recorded o → IsReadyPart o → IsReady x
ready_one None o is h = tt
ready_one (Some x) None is h = absurd (cc is)
ready_one (Some x) (Some p) is h =
    let same : record_value x ≡ Tcom p = cc is in
    (subst IsInForm (sym same) h.0, first x p same, subst (λ (r : JournalRecord). length (spelled_record r) ≤ LONGEST_BODY) (sym same) h.1)

ready_each : (part : ℕ → Option Part) → ((r : ℕ) → IsReadyPart (part r)) → (rs : List ℕ) (xs : List (Option JnlRecord)) → map (λ x. option_map record_value x) xs ≡ map (λ r. recorded (part r)) rs → AllByRecursion IsReady xs
ready_each part h rs [] is = tt
ready_each part h [] (x ∷ xs) is = absurd (cc is)
ready_each part h (r ∷ rs) (x ∷ xs) is =
    let head : option_map record_value x ≡ recorded (part r) = cc is in
    let tail : map (λ x. option_map record_value x) xs ≡ map (λ r. recorded (part r)) rs = cc is in
    (ready_one x (part r) head (h r), ready_each part h rs xs tail)

-- the records of a transaction's parts
pub ready : (region : Update → ℕ) (n mask : ℕ) (t : Transaction) (rs : List ℕ) (xs : List (Option JnlRecord)) → IsNumber n → mask < 2 ^ 8 → IsTransaction t
    → map (λ x. option_map record_value x) xs ≡ map (λ r. recorded (split region n mask t r)) rs → AllByRecursion IsReady xs
ready region n mask t rs xs number low form is = ready_each (split region n mask t) (λ r. ready_split region n mask t r number low form) rs xs is
