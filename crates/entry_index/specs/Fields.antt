-- Fields of records, one after the other.
use Rattle.std.specs.Prelude.{◌≡◌, ℕ, ◌^◌, ◌<◌, ◌≤◌, Bool, List, [], ◌∷◌, ◌++◌, length, IsTrue, Option, Some, None}
use Rattle.std.specs.Int.{to_be_bytes, w16, w32, w64}
use Rattle.std.specs.List.{flat_map}
use Rattle.global_defs.specs.declared.limits.TheConstants.{LONGEST_VALUE}
use Rattle.global_defs.specs.Key.{Key}
use Rattle.global_defs.specs.Valid.{is_key}
use Rattle.global_defs.specs.Encoded.{encoded}
use Rattle.global_defs.specs.Entry.{Update}
use Rattle.global_defs.specs.Fields.{flag, short, long, spelled_update, IsUpdate}
use Rattle.journal_defs.specs.Journal.{Item, IsItem, spelled_item}
use Rattle.repl_fields.specs.Reading.{ReadsField}
use Rattle.jnl_record.specs.Heads.{AreItems}

-- which values a field may have, and their bytes
pub record Field (X : Type 0) : Type 1 where
  pub has : X → Type 0
  pub spelled : X → List ℕ

-- the field at the front and what follows it, or nothing where no such field stands there
abbrev pub Reads : {X : Type 0} → Field X → List ℕ → Option (X × List ℕ) → Type 0
Reads f bytes read = ReadsField f.has f.spelled bytes read

-- what is seen of that field, and what follows it
abbrev pub Sees : {X M : Type 0} → Field X → (X → M) → List ℕ → Option (M × List ℕ) → Type 0
Sees {X} {M} f see bytes None = ReadsField f.has f.spelled bytes None
Sees {X} {M} f see bytes (Some seen) = (x : X) × (see x ≡ seen.0) × ReadsField f.has f.spelled bytes (Some (x, seen.1))

-- what follows that field
abbrev pub Skips : {X : Type 0} → Field X → List ℕ → Option (List ℕ) → Type 0
Skips {X} f bytes None = ReadsField f.has f.spelled bytes None
Skips {X} f bytes (Some rest) = (x : X) × ReadsField f.has f.spelled bytes (Some (x, rest))

-- a field, and then another one that may depend on it
abbrev pub then : {X Y : Type 0} → Field X → (X → Field Y) → Field (X × Y)
then f g = record { has = λ u. f.has u.0 × (g u.0).has u.1; spelled = λ u. f.spelled u.0 ++ (g u.0).spelled u.1 }

abbrev pub and : {X Y : Type 0} → Field X → Field Y → Field (X × Y)
and f g = then f (λ _. g)

abbrev pub byte : Field ℕ
byte = record { has = λ n. n < 2 ^ 8; spelled = λ n. n ∷ [] }

abbrev pub half : Field ℕ
half = record { has = λ n. n < 2 ^ 16; spelled = to_be_bytes w16 }

abbrev pub word : Field ℕ
word = record { has = λ n. n < 2 ^ 32; spelled = to_be_bytes w32 }

abbrev pub double : Field ℕ
double = record { has = λ n. n < 2 ^ 64; spelled = to_be_bytes w64 }

abbrev pub truth : Field Bool
truth = record { has = λ b. Unit {0}; spelled = λ b. flag b ∷ [] }

abbrev pub key : Field Key
key = record { has = λ k. IsTrue (is_key k); spelled = λ k. short (encoded k) }

abbrev pub value : Field (List ℕ)
value = record { has = λ v. length v ≤ LONGEST_VALUE; spelled = long }

abbrev pub pair : Field (Key × List ℕ)
pair = and key value

abbrev pub update : Field Update
update = record { has = IsUpdate; spelled = spelled_update }

-- an item of a transaction of so many updates, with a position from this one on
abbrev pub item : (low count : ℕ) → Field Item
item low count = record { has = λ i. (low ≤ i.position) × IsItem count i; spelled = spelled_item }

-- so many of them, with rising positions
abbrev pub items : (low n count : ℕ) → Field (List Item)
items low n count = record { has = AreItems low n count; spelled = flat_map spelled_item }

-- PINI: version, region, mode, generation, the one before
abbrev pub generations : Field (ℕ × ℕ)
generations = and word word

abbrev pub mode_on : Field (Bool × (ℕ × ℕ))
mode_on = and truth generations

abbrev pub region_on : Field (ℕ × (Bool × (ℕ × ℕ)))
region_on = and byte mode_on

abbrev pub start : Field (ℕ × (ℕ × (Bool × (ℕ × ℕ))))
start = and byte region_on

-- EPOCH: kind, number, blocks
abbrev pub number_on : Field (ℕ × ℕ)
number_on = and double word

abbrev pub mark : Field (Bool × (ℕ × ℕ))
mark = and truth number_on

-- TCOM up to its items: number, mask, updater, serial, count, how many items
abbrev pub count_on : Field (ℕ × ℕ)
count_on = and half half

abbrev pub serial_on : Field (ℕ × (ℕ × ℕ))
serial_on = and word count_on

abbrev pub updater_on : Field (ℕ × (ℕ × (ℕ × ℕ)))
updater_on = and byte serial_on

abbrev pub mask_on : Field (ℕ × (ℕ × (ℕ × (ℕ × ℕ))))
mask_on = and byte updater_on

abbrev pub head : Field (ℕ × (ℕ × (ℕ × (ℕ × (ℕ × ℕ)))))
head = and double mask_on
