-- Fields one after the other, as one field.
use Rattle.std.proofs.Common.{◌≡◌, ℕ, List, [], ◌∷◌, ◌++◌, ◌<◌, ◌^◌, Bool, length, Option, Some, None, ap, sym, ◌∙◌}
use Rattle.std.specs.Int.{to_be_bytes, w16, w32, w64}
use Rattle.global_defs.specs.Fields.{flag, short, IsSiteName}
use Rattle.repl_fields.specs.Reading.{ReadsField}
use Rattle.repl_fields.proofs.Pairs.{Both, both, none_first, none_second, some_both}

-- Which values a field may have, and their bytes
pub record Field (X : Type 0) : Type 1 where
  pub has : X → Type 0
  pub spelled : X → List ℕ

abbrev pub Reads : {X : Type 0} → Field X → List ℕ → Option (X × List ℕ) → Type 0
Reads f bytes read = ReadsField f.has f.spelled bytes read

abbrev pub byte : Field ℕ
byte = record { has = λ n. n < 2 ^ 8; spelled = λ n. n ∷ [] }

abbrev pub half : Field ℕ
half = record { has = λ n. n < 2 ^ 16; spelled = to_be_bytes w16 }

abbrev pub word : Field ℕ
word = record { has = λ n. n < 2 ^ 32; spelled = to_be_bytes w32 }

abbrev pub double : Field ℕ
double = record { has = λ n. n < 2 ^ 64; spelled = to_be_bytes w64 }

abbrev pub truth : Field Bool
truth = record { has = λ b. Unit {0}; spelled = λ b. flag b ∷ [] }

abbrev pub image : Field (List ℕ)
image = record { has = λ s. length s ≡ 4096; spelled = λ s. s }

-- the name of a site, a root or a region
abbrev pub site : Field (List ℕ)
site = record { has = IsSiteName; spelled = short }

module _ {X Y : Type 0} (f : Field X) (g : Field Y) where
  abbrev pub and : Field (X × Y)
  and = record { has = Both f.has f.spelled g.has g.spelled; spelled = both f.has f.spelled g.has g.spelled }

  pub front : (bytes : List ℕ) → Reads f bytes None → Reads and bytes None
  front bytes none = none_first f.has f.spelled g.has g.spelled bytes none

  pub behind : (bytes : List ℕ) (x : X) (r : List ℕ) → Reads f bytes (Some (x, r)) → Reads g r None → Reads and bytes None
  behind bytes x r read none = none_second f.has f.spelled g.has g.spelled bytes x r read none

  pub joined : (bytes : List ℕ) (x : X) (r : List ℕ) (y : Y) (s : List ℕ) → Reads f bytes (Some (x, r)) → Reads g r (Some (y, s)) → Reads and bytes (Some ((x, y), s))
  joined bytes x r y s first second = some_both f.has f.spelled g.has g.spelled bytes x r y s first second

-- A field read as another type: `from` gives the value of the one that a value of the other is spelled as.
module _ {X Y : Type 0} (f : Field X) (g : Field Y) (to : X → Y) (from : Y → X)
    (back : (y : Y) → to (from y) ≡ y) (alike : (y : Y) → g.spelled y ≡ f.spelled (from y)) (has : (y : Y) → g.has y → f.has (from y)) where
  pub none_as : (bytes : List ℕ) → Reads f bytes None → Reads g bytes None
  none_as bytes none y rest form e = none (from y) rest (has y form) (e ∙ ap (λ s. s ++ rest) (alike y))

  -- what was read is none of the narrower field's values
  pub out_as : (bytes : List ℕ) (x : X) (r : List ℕ) → Reads f bytes (Some (x, r)) → ((y : Y) → from y ≡ x → g.has y → ⊥) → Reads g bytes None
  out_as bytes x r read out y rest form e = out y (read.2 (from y) rest (has y form) (e ∙ ap (λ s. s ++ rest) (alike y))).0 form

  pub some_as : (bytes : List ℕ) (y : Y) (r : List ℕ) → Reads f bytes (Some (from y, r)) → g.has y → Reads g bytes (Some (y, r))
  some_as bytes y r read form = (
    form,
    read.1 ∙ ap (λ s. s ++ r) (sym (alike y)),
    λ z rest other e.
        let same : (from z ≡ from y) × (rest ≡ r) = read.2 (from z) rest (has z other) (e ∙ ap (λ s. s ++ rest) (alike z)) in
        (sym (back z) ∙ ap to same.0 ∙ back y, same.1),
  )
