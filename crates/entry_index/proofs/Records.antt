-- Bodies of each kind, by their fields behind the kind.
use Rattle.std.proofs.Common.{◌≡◌, ℕ, ◌<◌, ◌≤◌, ◌^◌, ◌==◌, Bool, true, false, List, [], ◌∷◌, ◌++◌, length, arith, Some, None, refl, ap, sym, ◌∙◌, subst}
use Rattle.std.proofs.lemmas.Bool.Decides.{nat_tests}
use Rattle.std.proofs.lemmas.List.{append-nil, nil_from_length}
use Rattle.global_defs.specs.declared.limits.TheConstants.{MOST_GENERATIONS, MOST_REGIONS, NUMBERS_END}
use Rattle.journal_defs.specs.Journal.{JournalRecord, Pini, Epoch, Pblk, Tcom, Item, IsInForm, spelled_record}
use Rattle.jnl_record.proofs.Records.{few}
use Rattle.entry_index.specs.Fields.{Field, Reads, Sees, then, word, start, mark, head, items}
use Rattle.entry_index.specs.RecordSigns.{sign_of, span_of}
use Rattle.entry_index.specs.Telling.{TellsSign, head_fields, IsInRange}
use Rattle.entry_index.specs.declared.sign.Span.{Span}
use Rattle.entry_index.specs.declared.sign.Sign.{Sign}
use Rattle.entry_index.specs.declared.sign.Sign.TheVariants as sign
use Rattle.entry_index.specs.declared.parts.Head.{Head}
use Rattle.entry_index.proofs.Chains.{front_then, behind_then, joined_then}
use Rattle.repl_fields.proofs.Tagged.{tail}

pub empty_is : (rest : List ℕ) (b : Bool) → b ≡ (length rest == 0) → b ≡ true → length rest ≡ 0
empty_is rest b is true_of = grind (arith, nat_tests)

pub not_empty : (rest : List ℕ) (b : Bool) → b ≡ (length rest == 0) → b ≡ false → length rest ≡ 0 → ⊥
not_empty rest b is false_of none = grind (arith, nat_tests)

-- a kind's records, by the fields that stand behind the kind, of which one more fact is known
module _ {X : Type 0} (f : Field X) (kind : ℕ) (bytes : List ℕ) (of : X → JournalRecord) (known : X → Type 0)
    (from : (r : JournalRecord) → IsInForm r → kind ∷ bytes ≡ spelled_record r → (x : X) × f.has x × (bytes ≡ f.spelled x) × (r ≡ of x) × known x) where
  untold : Reads f bytes None → TellsSign (kind ∷ bytes) None
  untold none r is =
      let x = from r is.form is.spelled in
      none x.0 [] x.1 (x.2 ∙ sym (append-nil (f.spelled x.0)))

  wrong : (x : X) (rest : List ℕ) → Reads f bytes (Some (x, rest)) → (IsInForm (of x) → known x → rest ≡ [] → ⊥) → TellsSign (kind ∷ bytes) None
  wrong x rest read bad r is =
      let y = from r is.form is.spelled in
      let same : (y.0 ≡ x) × ([] ≡ rest) = read.2 y.0 [] y.1 (y.2 ∙ sym (append-nil (f.spelled y.0))) in
      bad (subst IsInForm (y.3 ∙ ap of same.0) is.form) (subst known same.0 y.4) (sym same.1)

  told : (x : X) (rest : List ℕ) (s : Sign) → Reads f bytes (Some (x, rest)) → length rest ≡ 0 → IsInForm (of x) → spelled_record (of x) ≡ kind ∷ f.spelled x → s ≡ sign_of (of x) → TellsSign (kind ∷ bytes) (Some s)
  told x rest s read none form same says =
      (of x, record { form = form; spelled = ap (λ t. kind ∷ t) (read.1 ∙ ap (λ r. f.spelled x ++ r) (nil_from_length rest none) ∙ append-nil (f.spelled x)) ∙ sym same }, says)

-- PINI
abbrev pini : ℕ × (ℕ × (Bool × (ℕ × ℕ))) → JournalRecord
pini t = Pini (record { region = t.1.0; before = t.1.1.0; generation = t.1.1.1.0; previous = t.1.1.1.1 })

abbrev is_first : ℕ × (ℕ × (Bool × (ℕ × ℕ))) → Type 0
is_first t = t.0 ≡ 1

pini_only : (bytes : List ℕ) (r : JournalRecord) → IsInForm r → 1 ∷ bytes ≡ spelled_record r → (x : ℕ × (ℕ × (Bool × (ℕ × ℕ)))) × start.has x × (bytes ≡ start.spelled x) × (r ≡ pini x) × (x.0 ≡ 1)
pini_only bytes (Pini s) h e = (
  (1, (s.region, (s.before, (s.generation, s.previous)))),
  (omega arith, (omega (arith, h.region), (tt, (omega (arith, h.generation.1), omega (arith, h.generation.1, h.previous))))),
  tail e,
  refl,
  refl,
)
pini_only bytes (Epoch m) h e = absurd cc
pini_only bytes (Pblk b) h e = absurd cc
pini_only bytes (Tcom p) h e = absurd cc

pub no_start : (bytes : List ℕ) → Reads start bytes None → TellsSign (1 ∷ bytes) None
no_start bytes none = untold start 1 bytes pini is_first (pini_only bytes) none

module _ (bytes : List ℕ) (version region : ℕ) (before : Bool) (generation previous : ℕ) (rest : List ℕ) (read : Reads start bytes (Some ((version, (region, (before, (generation, previous)))), rest))) where
  pub start_told : version ≡ 1 → region < MOST_REGIONS → generation ≤ MOST_GENERATIONS → previous < generation → length rest ≡ 0 → TellsSign (1 ∷ bytes) (Some (sign.Pini region before generation previous))
  start_told first small most earlier none =
      told start 1 bytes pini is_first (pini_only bytes) (version, (region, (before, (generation, previous)))) rest (sign.Pini region before generation previous) read none
      (record { region = small; generation = (omega (arith, earlier), most); previous = earlier })
      (ap (λ (v : ℕ). 1 ∷ start.spelled (v, (region, (before, (generation, previous))))) (sym first))
      refl

-- EPOCH
abbrev epoch : Bool × (ℕ × ℕ) → JournalRecord
epoch t = Epoch (record { closing = t.0; number = t.1.0; blocks = t.1.1 })

epoch_only : (bytes : List ℕ) (r : JournalRecord) → IsInForm r → 2 ∷ bytes ≡ spelled_record r → (x : Bool × (ℕ × ℕ)) × mark.has x × (bytes ≡ mark.spelled x) × (r ≡ epoch x) × Unit {0}
epoch_only bytes (Epoch m) h e = ((m.closing, (m.number, m.blocks)), (tt, (omega (arith, h.0), h.1)), tail e, refl, tt)
epoch_only bytes (Pini s) h e = absurd cc
epoch_only bytes (Pblk b) h e = absurd cc
epoch_only bytes (Tcom p) h e = absurd cc

pub no_mark : (bytes : List ℕ) → Reads mark bytes None → TellsSign (2 ∷ bytes) None
no_mark bytes none = untold mark 2 bytes epoch (λ t. Unit {0}) (epoch_only bytes) none

module _ (bytes : List ℕ) (closing : Bool) (number blocks : ℕ) (rest : List ℕ) (read : Reads mark bytes (Some ((closing, (number, blocks)), rest))) where
  pub mark_told : number < NUMBERS_END → length rest ≡ 0 → TellsSign (2 ∷ bytes) (Some (sign.Epoch closing number blocks))
  mark_told small none = told mark 2 bytes epoch (λ t. Unit {0}) (epoch_only bytes) (closing, (number, blocks)) rest (sign.Epoch closing number blocks) read none (small, read.0.1.1) refl refl

-- PBLK
pub no_before : (bytes : List ℕ) → Reads word bytes None → TellsSign (3 ∷ bytes) None
no_before bytes none (Pblk b) is = none b.block b.bytes is.form.0 (tail is.spelled)
no_before bytes none (Pini s) is = let e = is.spelled in absurd cc
no_before bytes none (Epoch m) is = let e = is.spelled in absurd cc
no_before bytes none (Tcom p) is = let e = is.spelled in absurd cc

module _ (bytes : List ℕ) (block : ℕ) (rest : List ℕ) (read : Reads word bytes (Some (block, rest))) where
  pub before_told : length rest ≡ 4096 → TellsSign (3 ∷ bytes) (Some (sign.Pblk block))
  before_told whole = (Pblk (record { block = block; bytes = rest }), record { form = (read.0, whole); spelled = ap (λ t. 3 ∷ t) read.1 }, refl)

-- TCOM
abbrev HeadFields : Type 0
HeadFields = ℕ × (ℕ × (ℕ × (ℕ × (ℕ × ℕ))))

abbrev count_in : HeadFields → ℕ
count_in t = t.1.1.1.1.0

abbrev many_in : HeadFields → ℕ
many_in t = t.1.1.1.1.1

abbrev in_head : HeadFields → Field (List Item)
in_head t = items 0 (many_in t) (count_in t)

abbrev part : Field (HeadFields × List Item)
part = then head in_head

abbrev tcom : HeadFields × List Item → JournalRecord
tcom u = Tcom (record { number = u.0.0; mask = u.0.1.0; origin = record { updater = u.0.1.1.0; serial = u.0.1.1.1.0 }; count = count_in u.0; items = u.1 })

tcom_only : (bytes : List ℕ) (r : JournalRecord) → IsInForm r → 5 ∷ bytes ≡ spelled_record r → (x : HeadFields × List Item) × part.has x × (bytes ≡ part.spelled x) × (r ≡ tcom x) × Unit {0}
tcom_only bytes (Tcom p) h e =
    let most = few p.items 0 p.count h.rise h.items (omega arith) in (
      ((p.number, (p.mask, (p.origin.updater, (p.origin.serial, (p.count, length p.items))))), p.items),
      (
        (omega (arith, h.number.1), (h.mask, (omega (arith, h.origin.updater.1), (h.origin.serial.1, (omega (arith, h.count.1), omega (arith, most, h.count.1)))))),
        record { many = refl; rise = h.rise; each = h.items },
      ),
      tail e,
      refl,
      tt,
    )
tcom_only bytes (Pini s) h e = absurd cc
tcom_only bytes (Epoch m) h e = absurd cc
tcom_only bytes (Pblk b) h e = absurd cc

pub no_part : (bytes : List ℕ) → Reads head bytes None → TellsSign (5 ∷ bytes) None
no_part bytes none = untold part 5 bytes tcom (λ u. Unit {0}) (tcom_only bytes) (front_then head in_head bytes none)

module _ (bytes : List ℕ) (h : Head) (r : List ℕ) (first : Reads head bytes (Some (head_fields h, r))) where
  pub no_part_items : Sees (items 0 h.items h.count) span_of r None → TellsSign (5 ∷ bytes) None
  no_part_items none = untold part 5 bytes tcom (λ u. Unit {0}) (tcom_only bytes) (behind_then head in_head bytes (head_fields h) r first none)

  module _ (span : Span) (rest : List ℕ) (sees : Sees (items 0 h.items h.count) span_of r (Some (span, rest))) where
    whole : Reads part bytes (Some ((head_fields h, sees.0), rest))
    whole = joined_then head in_head bytes (head_fields h) r sees.0 rest first sees.2

    pub bad_part : (IsInRange h → ⊥) → TellsSign (5 ∷ bytes) None
    bad_part bad = wrong part 5 bytes tcom (λ u. Unit {0}) (tcom_only bytes) (head_fields h, sees.0) rest whole (λ form fact is.
        bad (record { number = form.number; updater = form.origin.updater; serial = form.origin.serial.0; count = form.count }))

    pub longer_part : (length rest ≡ 0 → ⊥) → TellsSign (5 ∷ bytes) None
    longer_part more = wrong part 5 bytes tcom (λ u. Unit {0}) (tcom_only bytes) (head_fields h, sees.0) rest whole (λ form fact is. more (ap length is))

    pub part_told : IsInRange h → length rest ≡ 0 → TellsSign (5 ∷ bytes) (Some (sign.Tcom h.number h.mask h.origin h.count span))
    part_told good none =
        told part 5 bytes tcom (λ u. Unit {0}) (tcom_only bytes) (head_fields h, sees.0) rest (sign.Tcom h.number h.mask h.origin h.count span) whole none
        (record {
          number = good.number;
          mask = first.0.1.0;
          origin = record { updater = good.updater; serial = (good.serial, first.0.1.1.1.0) };
          count = good.count;
          rise = sees.2.0.rise;
          items = sees.2.0.each;
        })
        (ap (λ (n : ℕ). 5 ∷ part.spelled ((h.number, (h.mask, (h.origin.updater, (h.origin.serial, (h.count, n))))), sees.0)) sees.2.0.many)
        (ap (λ (s : Span). sign.Tcom h.number h.mask h.origin h.count s) (sym sees.1))

-- no record has another kind
pub no_kind : (kind : ℕ) (bytes : List ℕ) → (kind ≡ 1 → ⊥) → (kind ≡ 2 → ⊥) → (kind ≡ 3 → ⊥) → (kind ≡ 5 → ⊥) → TellsSign (kind ∷ bytes) None
no_kind kind bytes one two three five (Pini s) is = let e = is.spelled in one cc
no_kind kind bytes one two three five (Epoch m) is = let e = is.spelled in two cc
no_kind kind bytes one two three five (Pblk b) is = let e = is.spelled in three cc
no_kind kind bytes one two three five (Tcom p) is = let e = is.spelled in five cc
