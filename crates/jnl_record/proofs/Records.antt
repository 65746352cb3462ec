-- Records as their kind and then fields.
use Rattle.std.proofs.Common.{◌≡◌, ℕ, ◌+◌, ◌<◌, ◌≤◌, Bool, List, [], ◌∷◌, ◌++◌, length, flat_map, arith, Option, Some, None, refl, ap, sym, ◌∙◌, subst}
use Rattle.std.proofs.lemmas.List.{append-nil}
use Rattle.std.proofs.lemmas.List.Elements.{All-from_recursion}
use Rattle.std.specs.Prelude.{All, map}
use Rattle.std.specs.Int.{to_be_bytes, w32, w64}
use Rattle.std.specs.List.{AllByRecursion}
use Rattle.std.specs.Option.{option_map}
use Rattle.global_defs.specs.Fields.{flag, IsUpdate}
use Rattle.repl_fields.specs.Reading.{ReadsField}
use Rattle.gvn_model.specs.declared.items.Item as code
use Rattle.gvn_model.specs.Entries.{origin_value}
use Rattle.gvn_model.specs.Items.{item_value}
use Rattle.journal_defs.specs.Journal.{JournalRecord, Pini, Epoch, Pblk, Tcom, Start, Mark, Before, Part, Item, IsStart, IsPart, IsItem, Rise, IsInForm, IsJournalBody, spelled_item, spelled_record}
use Rattle.jnl_record.specs.declared.parts.Head.{Head}
use Rattle.jnl_record.specs.Heads.{IsHead, spelled_head, AreItems}
use Rattle.repl_fields.proofs.Chains.{Field, Reads, byte, half, word, double, truth, image, and, none_as, out_as, some_as}
use Rattle.repl_fields.proofs.Tagged.{tail}

-- a record of one kind as its field behind the kind
module _ {X : Type 0} (f : Field X) (kind : ℕ) (of : X → JournalRecord) (same : (x : X) → spelled_record (of x) ≡ kind ∷ f.spelled x)
    (into : (x : X) → f.has x → IsInForm (of x)) (out : (x : X) → IsInForm (of x) → f.has x)
    (only : (z : JournalRecord) (r rest : List ℕ) → kind ∷ r ≡ spelled_record z ++ rest → (x : X) × (z ≡ of x)) where
  behind_kind : (z : JournalRecord) (x : X) (r rest : List ℕ) → z ≡ of x → kind ∷ r ≡ spelled_record z ++ rest → r ≡ f.spelled x ++ rest
  behind_kind z x r rest is e = tail (e ∙ ap (λ w. spelled_record w ++ rest) is ∙ ap (λ s. s ++ rest) (same x))

  tagged : (r : List ℕ) (p : Option (X × List ℕ)) → Reads f r p → ReadsField IsInForm spelled_record (kind ∷ r) (option_map (λ q. (of q.0, q.1)) p)
  tagged r None none = λ z rest form e.
      let x = only z r rest e in
      none x.0 rest (out x.0 (subst IsInForm x.1 form)) (behind_kind z x.0 r rest x.1 e)
  tagged r (Some q) read = (
    into q.0 read.0,
    ap (λ t. kind ∷ t) read.1 ∙ ap (λ s. s ++ q.1) (sym (same q.0)),
    λ z rest form e.
        let x = only z r rest e in
        let both = read.2 x.0 rest (out x.0 (subst IsInForm x.1 form)) (behind_kind z x.0 r rest x.1 e) in
        (x.1 ∙ ap of both.0, both.1),
  )

pini_only : (z : JournalRecord) (r rest : List ℕ) → 1 ∷ r ≡ spelled_record z ++ rest → (s : Start) × (z ≡ Pini s)
pini_only (Pini s) r rest e = (s, refl)
pini_only (Epoch m) r rest e = absurd cc
pini_only (Pblk b) r rest e = absurd cc
pini_only (Tcom p) r rest e = absurd cc

epoch_only : (z : JournalRecord) (r rest : List ℕ) → 2 ∷ r ≡ spelled_record z ++ rest → (m : Mark) × (z ≡ Epoch m)
epoch_only (Epoch m) r rest e = (m, refl)
epoch_only (Pini s) r rest e = absurd cc
epoch_only (Pblk b) r rest e = absurd cc
epoch_only (Tcom p) r rest e = absurd cc

pblk_only : (z : JournalRecord) (r rest : List ℕ) → 3 ∷ r ≡ spelled_record z ++ rest → (b : Before) × (z ≡ Pblk b)
pblk_only (Pblk b) r rest e = (b, refl)
pblk_only (Pini s) r rest e = absurd cc
pblk_only (Epoch m) r rest e = absurd cc
pblk_only (Tcom p) r rest e = absurd cc

tcom_only : (z : JournalRecord) (r rest : List ℕ) → 5 ∷ r ≡ spelled_record z ++ rest → (p : Part) × (z ≡ Tcom p)
tcom_only (Tcom p) r rest e = (p, refl)
tcom_only (Pini s) r rest e = absurd cc
tcom_only (Epoch m) r rest e = absurd cc
tcom_only (Pblk b) r rest e = absurd cc

-- PINI: version, region, mode, generation, previous
abbrev pub generations : Field (ℕ × ℕ)
generations = and word word

abbrev pub mode_on : Field (Bool × (ℕ × ℕ))
mode_on = and truth generations

abbrev pub region_on : Field (ℕ × (Bool × (ℕ × ℕ)))
region_on = and byte mode_on

abbrev pub start_fields : Field (ℕ × (ℕ × (Bool × (ℕ × ℕ))))
start_fields = and byte region_on

abbrev start : Field Start
start = record { has = IsStart; spelled = λ s. 1 ∷ s.region ∷ flag s.before ∷ to_be_bytes w32 s.generation ++ to_be_bytes w32 s.previous }

abbrev start_of : ℕ × (ℕ × (Bool × (ℕ × ℕ))) → Start
start_of t = record { region = t.1.0; before = t.1.1.0; generation = t.1.1.1.0; previous = t.1.1.1.1 }

abbrev of_start : Start → ℕ × (ℕ × (Bool × (ℕ × ℕ)))
of_start s = (1, (s.region, (s.before, (s.generation, s.previous))))

start_has : (s : Start) → IsStart s → start_fields.has (of_start s)
start_has s h = (omega arith, (omega (arith, h.region), (tt, (omega (arith, h.generation.1), omega (arith, h.generation.1, h.previous)))))

pub no_start : (bytes : List ℕ) → Reads start_fields bytes None → ReadsField IsInForm spelled_record (1 ∷ bytes) None
no_start bytes none = tagged start 1 Pini (λ s. refl) (λ s h. h) (λ s h. h) pini_only bytes None (none_as start_fields start start_of of_start (λ s. refl) (λ s. refl) start_has bytes none)

pub some_start : (bytes : List ℕ) (s : Start) (r : List ℕ) → Reads start_fields bytes (Some (of_start s, r)) → IsStart s → ReadsField IsInForm spelled_record (1 ∷ bytes) (Some (Pini s, r))
some_start bytes s r read h = tagged start 1 Pini (λ s. refl) (λ s h. h) (λ s h. h) pini_only bytes (Some (s, r)) (some_as start_fields start start_of of_start (λ s. refl) (λ s. refl) start_has bytes s r read h)

-- EPOCH: kind, number, blocks
abbrev pub number_on : Field (ℕ × ℕ)
number_on = and double word

abbrev pub mark_fields : Field (Bool × (ℕ × ℕ))
mark_fields = and truth number_on

abbrev mark : Field Mark
mark = record { has = λ m. IsInForm (Epoch m); spelled = λ m. flag m.closing ∷ to_be_bytes w64 m.number ++ to_be_bytes w32 m.blocks }

abbrev mark_of : Bool × (ℕ × ℕ) → Mark
mark_of t = record { closing = t.0; number = t.1.0; blocks = t.1.1 }

abbrev of_mark : Mark → Bool × (ℕ × ℕ)
of_mark m = (m.closing, (m.number, m.blocks))

mark_has : (m : Mark) → IsInForm (Epoch m) → mark_fields.has (of_mark m)
mark_has m h = (tt, (omega (arith, h.0), h.1))

pub no_mark : (bytes : List ℕ) → Reads mark_fields bytes None → ReadsField IsInForm spelled_record (2 ∷ bytes) None
no_mark bytes none = tagged mark 2 Epoch (λ m. refl) (λ m h. h) (λ m h. h) epoch_only bytes None (none_as mark_fields mark mark_of of_mark (λ m. refl) (λ m. refl) mark_has bytes none)

-- PBLK: block, bytes
abbrev pub before_fields : Field (ℕ × List ℕ)
before_fields = and word image

abbrev before : Field Before
before = record { has = λ b. IsInForm (Pblk b); spelled = λ b. to_be_bytes w32 b.block ++ b.bytes }

abbrev before_of : ℕ × List ℕ → Before
before_of t = record { block = t.0; bytes = t.1 }

abbrev of_before : Before → ℕ × List ℕ
of_before b = (b.block, b.bytes)

pub some_before : (bytes : List ℕ) (b : Before) (r : List ℕ) → Reads before_fields bytes (Some (of_before b, r)) → ReadsField IsInForm spelled_record (3 ∷ bytes) (Some (Pblk b, r))
some_before bytes b r read = tagged before 3 Pblk (λ b. refl) (λ b h. h) (λ b h. h) pblk_only bytes (Some (b, r)) (some_as before_fields before before_of of_before (λ b. refl) (λ b. refl) (λ b h. (h.0, h.1)) bytes b r read (read.0.0, read.0.1))

-- the head of a TCOM: number, mask, updater, serial, count, items
abbrev pub count_on : Field (ℕ × ℕ)
count_on = and half half

abbrev pub serial_on : Field (ℕ × (ℕ × ℕ))
serial_on = and word count_on

abbrev pub updater_on : Field (ℕ × (ℕ × (ℕ × ℕ)))
updater_on = and byte serial_on

abbrev pub mask_on : Field (ℕ × (ℕ × (ℕ × (ℕ × ℕ))))
mask_on = and byte updater_on

abbrev pub head_fields : Field (ℕ × (ℕ × (ℕ × (ℕ × (ℕ × ℕ)))))
head_fields = and double mask_on

abbrev pub head : Field Head
head = record { has = IsHead; spelled = spelled_head }

abbrev pub head_of : ℕ × (ℕ × (ℕ × (ℕ × (ℕ × ℕ)))) → Head
head_of t = record { number = t.0; mask = t.1.0; origin = record { updater = t.1.1.0; serial = t.1.1.1.0 }; count = t.1.1.1.1.0; items = t.1.1.1.1.1 }

abbrev pub of_head : Head → ℕ × (ℕ × (ℕ × (ℕ × (ℕ × ℕ))))
of_head h = (h.number, (h.mask, (h.origin.updater, (h.origin.serial, (h.count, h.items)))))

head_has : (h : Head) → IsHead h → head_fields.has (of_head h)
head_has h k = (omega (arith, k.number.1), (k.mask, (omega (arith, k.origin.updater.1), (k.origin.serial.1, (omega (arith, k.count.1), k.items)))))

pub no_head : (bytes : List ℕ) → Reads head_fields bytes None → Reads head bytes None
no_head bytes none = none_as head_fields head head_of of_head (λ h. refl) (λ h. refl) head_has bytes none

pub bad_head : (bytes : List ℕ) (h : Head) (r : List ℕ) → Reads head_fields bytes (Some (of_head h, r)) → (IsHead h → ⊥) → Reads head bytes None
bad_head bytes h r read bad = out_as head_fields head head_of of_head (λ h. refl) (λ h. refl) head_has bytes (of_head h) r read (λ k is good. bad (subst IsHead (ap head_of is) good))

pub some_head : (bytes : List ℕ) (h : Head) (r : List ℕ) → Reads head_fields bytes (Some (of_head h, r)) → IsHead h → Reads head bytes (Some (h, r))
some_head bytes h r read good = some_as head_fields head head_of of_head (λ h. refl) (λ h. refl) head_has bytes h r read good

-- TCOM: the head, and its items
abbrev part_of : Head → List Item → Part
part_of h items = record { number = h.number; mask = h.mask; origin = origin_value h.origin; count = h.count; items = items }

abbrev head_in : Part → Head
head_in p = record { number = p.number; mask = p.mask; origin = record { updater = p.origin.updater; serial = p.origin.serial }; count = p.count; items = length p.items }

abbrev part : Field Part
part = record { has = IsPart; spelled = λ p. spelled_head (head_in p) ++ flat_map spelled_item p.items }

pub few : (items : List Item) (low count : ℕ) → Rise low items → AllByRecursion (IsItem count) items → low ≤ count → low + length items ≤ count
few [] low count rise each within = omega arith
few (i ∷ items) low count rise each within =
    let inside : i.position < count = each.0.position in
    let others = few items (i.position + 1) count rise.1 each.1 (omega arith) in
    omega (arith, rise.0, others)

head_good : (p : Part) → IsPart p → IsHead (head_in p)
head_good p h = record {
  number = h.number;
  mask = h.mask;
  origin = h.origin;
  count = h.count;
  items = let most = few p.items 0 p.count h.rise h.items (omega arith) in omega (arith, most, h.count.1);
}

items_good : (p : Part) (h : Head) → IsPart p → head_in p ≡ h → AreItems 0 h.items h.count p.items
items_good p h form is = subst (λ k. AreItems 0 k.items k.count p.items) is (record { many = refl; rise = form.rise; each = form.items })

pub no_part : (bytes : List ℕ) → Reads head bytes None → ReadsField IsInForm spelled_record (5 ∷ bytes) None
no_part bytes none = tagged part 5 Tcom (λ p. refl) (λ p h. h) (λ p h. h) tcom_only bytes None
    (λ p rest form e. none (head_in p) (flat_map spelled_item p.items ++ rest) (head_good p form) e)

module _ (bytes : List ℕ) (h : Head) (r : List ℕ) (first : Reads head bytes (Some (h, r))) where
  part_split : (p : Part) (rest : List ℕ) → IsPart p → bytes ≡ part.spelled p ++ rest → (head_in p ≡ h) × (flat_map spelled_item p.items ++ rest ≡ r)
  part_split p rest form e = first.2 (head_in p) (flat_map spelled_item p.items ++ rest) (head_good p form) e

  part_read : (p : Option (List Item × List ℕ)) → ReadsField (AreItems 0 h.items h.count) (flat_map spelled_item) r p → Reads part bytes (option_map (λ q. (part_of h q.0, q.1)) p)
  part_read None none = λ p rest form e.
      let same = part_split p rest form e in
      none p.items rest (items_good p h form same.0) (sym same.1)
  part_read (Some q) second = (
    record {
      number = first.0.number;
      mask = first.0.mask;
      origin = first.0.origin;
      count = first.0.count;
      rise = second.0.rise;
      items = second.0.each;
    },
    first.1 ∙ ap (λ t. spelled_head h ++ t) second.1 ∙ ap (λ n. spelled_head (record h { items = n }) ++ (flat_map spelled_item q.0 ++ q.1)) (sym second.0.many),
    λ p rest form e.
        let same = part_split p rest form e in
        let later = second.2 p.items rest (items_good p h form same.0) (sym same.1) in
        ((λ i. part_of (same.0 i) (later.0 i)), later.1),
  )

  pub tcom_read : (p : Option (List Item × List ℕ)) → ReadsField (AreItems 0 h.items h.count) (flat_map spelled_item) r p
      → ReadsField IsInForm spelled_record (5 ∷ bytes) (option_map (λ q. (Tcom (part_of h q.0), q.1)) p)
  tcom_read None second = tagged part 5 Tcom (λ p. refl) (λ p h. h) (λ p h. h) tcom_only bytes None (part_read None second)
  tcom_read (Some q) second = tagged part 5 Tcom (λ p. refl) (λ p h. h) (λ p h. h) tcom_only bytes (Some (part_of h q.0, q.1)) (part_read (Some q) second)

-- the updates of items in the code
each : (count : ℕ) (xs : List code.Item) → AllByRecursion (IsItem count) (map item_value xs) → AllByRecursion (λ i. IsUpdate (item_value i).update) xs
each count [] all = tt
each count (x ∷ xs) all = (all.0.update, each count xs all.1)

pub each_update : (count : ℕ) (xs : List code.Item) → AllByRecursion (IsItem count) (map item_value xs) → All (λ i. IsUpdate (item_value i).update) xs
each_update count xs all = All-from_recursion (λ i. IsUpdate (item_value i).update) xs (each count xs all)

-- whole bodies
pub no_body : (body : List ℕ) → ReadsField IsInForm spelled_record body None → (r : JournalRecord) → IsJournalBody body r → ⊥
no_body body none r is = none r [] is.form (is.spelled ∙ sym (append-nil (spelled_record r)))

pub longer_body : (body : List ℕ) (q : JournalRecord) (rest : List ℕ) → ReadsField IsInForm spelled_record body (Some (q, rest)) → (length rest ≡ 0 → ⊥) → (r : JournalRecord) → IsJournalBody body r → ⊥
longer_body body q rest read more r is = more (ap length (sym (read.2 r [] is.form (is.spelled ∙ sym (append-nil (spelled_record r)))).1))
