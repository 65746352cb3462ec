-- Signs and the records whose signs they are.
use Rattle.std.proofs.Common.{◌≡◌, inl, inr, ℕ, zero, suc, ◌+◌, ◌<◌, false, List, [], ◌∷◌, ◌++◌, length, take, drop, get_or, refl, sym, ◌∙◌, ap, subst, arith}
use Rattle.std.specs.List.{AllByRecursion}
use Rattle.std.proofs.lemmas.Bool.{cases_lt}
use Rattle.std.proofs.lemmas.List.{get_or_past}
use Rattle.disk_defs.specs.Disk.{Files}
use Rattle.journal_defs.specs.Sequence.{Placed}
use Rattle.entry_index.specs.declared.placed.PlacedSign.{PlacedSign}
use Rattle.entry_index.specs.declared.sign.Sign.TheVariants.{Pini}
use Rattle.entry_index.specs.Places.{IsSignOf, AreSignsOf}
use Rattle.entry_index.specs.Signs.{signs_of}
use Rattle.entry_index.specs.Indexes.{AreSigns}
use Rattle.region_opening.specs.Signs.{Says, Say, AllTell, IsDrawn, AreTold}

-- the sign that is read where there is none
abbrev pub NO_SIGN : PlacedSign
NO_SIGN = record { generation = 0; offset = 0; sign = Pini 0 false 0 0 }

-- the record of the sign at a place, and those behind it
pub said_at : (ss : List PlacedSign) (js : List Placed) (i : ℕ) (d : PlacedSign) → i < length ss → Say ss js → (p : Placed) × (drop i js ≡ p ∷ drop (suc i) js) × Says (get_or ss i d) p
said_at [] js i d low all = absurd (omega (arith, low))
said_at (s ∷ ss) [] i d low all = absurd all
said_at (s ∷ ss) (j ∷ js) zero d low all = (j, refl, all.0)
said_at (s ∷ ss) (j ∷ js) (suc i) d low all = said_at ss js i d (omega (arith, low)) all.1

-- the record of a sign by its place, behind those before it
pub sign_at : (files : Files) (r : ℕ) (ss : List PlacedSign) (js : List Placed) (i : ℕ) (d : PlacedSign) → i < length ss → AreTold files r ss js → (p : Placed) × (take (i + 1) js ≡ take i js ++ p ∷ []) × IsSignOf files r (get_or ss i d) p × IsDrawn p
sign_at files r ss js i d low told = let at = by ss js i low told.signs_of told.drawn in let next : i + 1 ≡ suc i = omega arith in (at.0, ap (λ (n : ℕ). take n js) next ∙ at.1, at.2, at.3)
  where
    by : (xs : List PlacedSign) (ys : List Placed) (k : ℕ) → k < length xs → AreSignsOf files r xs ys → AllByRecursion IsDrawn ys → (p : Placed) × (take (suc k) ys ≡ take k ys ++ p ∷ []) × IsSignOf files r (get_or xs k d) p × IsDrawn p
    by [] ys k less all drawn = absurd (omega (arith, less))
    by (x ∷ xs) [] k less all drawn = absurd all
    by (x ∷ xs) (y ∷ ys) zero less all drawn = (y, refl, all.0, drawn.0)
    by (x ∷ xs) (y ∷ ys) (suc k) less all drawn =
        let at = by xs ys k (omega (arith, less)) all.1 drawn.1 in
        (at.0, ap (λ (l : List Placed). y ∷ l) at.1, at.2, at.3)

-- those behind a place
pub said_behind : (ss : List PlacedSign) (js : List Placed) (n : ℕ) → Say ss js → Say (drop n ss) (drop n js)
said_behind ss js zero all = all
said_behind [] [] (suc n) all = tt
said_behind [] (j ∷ js) (suc n) all = absurd all
said_behind (s ∷ ss) [] (suc n) all = absurd all
said_behind (s ∷ ss) (j ∷ js) (suc n) all = said_behind ss js n all.1

signs_behind : (files : Files) (r : ℕ) (ss : List PlacedSign) (js : List Placed) (n : ℕ) → AreSignsOf files r ss js → AreSignsOf files r (drop n ss) (drop n js)
signs_behind files r ss js zero all = all
signs_behind files r [] [] (suc n) all = tt
signs_behind files r [] (j ∷ js) (suc n) all = absurd all
signs_behind files r (s ∷ ss) [] (suc n) all = absurd all
signs_behind files r (s ∷ ss) (j ∷ js) (suc n) all = signs_behind files r ss js n all.1

drawn_behind : (js : List Placed) (n : ℕ) → AllByRecursion IsDrawn js → AllByRecursion IsDrawn (drop n js)
drawn_behind js zero all = all
drawn_behind [] (suc n) all = tt
drawn_behind (j ∷ js) (suc n) all = drawn_behind js n all.1

pub told_behind : (files : Files) (r : ℕ) (ss : List PlacedSign) (js : List Placed) (n : ℕ) → AreTold files r ss js → AreTold files r (drop n ss) (drop n js)
told_behind files r ss js n told = record { signs_of = signs_behind files r ss js n told.signs_of; drawn = drawn_behind js n told.drawn }

-- signs by their places say what the records say
signs_say : (files : Files) (r : ℕ) (ss : List PlacedSign) (js : List Placed) → AreSignsOf files r ss js → Say ss js
signs_say files r [] [] all = tt
signs_say files r [] (j ∷ js) all = absurd all
signs_say files r (s ∷ ss) [] all = absurd all
signs_say files r (s ∷ ss) (j ∷ js) all = (record { generation = all.0.generation; what = all.0.says }, signs_say files r ss js all.1)

pub told_say : (files : Files) (r : ℕ) (ss : List PlacedSign) (js : List Placed) → AreTold files r ss js → Say ss js
told_say files r ss js told = signs_say files r ss js told.signs_of

-- the signs of one region among those of all
pub region_told : (files : Files) (signs : List (List PlacedSign)) (journal : ℕ → List Placed) (r : ℕ) → AreSigns files signs journal → AreTold files r (signs_of signs r) (journal r)
region_told files signs journal r are = elim (cases_lt r (length signs)) [
  | inl low ↦ record { signs_of = are.each r low; drawn = are.generations r low }
  | inr past ↦ (let none : signs_of signs r ≡ [] = get_or_past signs r [] past in
      subst (λ (js : List Placed). AreTold files r (signs_of signs r) js) (sym (are.no_more r past))
      (subst (λ (ss : List PlacedSign). AreTold files r ss []) (sym none) (record { signs_of = tt; drawn = tt })))
]

pub all_say : (files : Files) (signs : List (List PlacedSign)) (journal : ℕ → List Placed) → AreSigns files signs journal → AllTell signs journal
all_say files signs journal are r = told_say files r (signs_of signs r) (journal r) (region_told files signs journal r are)

-- no signs are those of no records
pub none_signed : (files : Files) → AreSigns files [] (λ r. [])
none_signed files = record {
  each = λ r low. absurd (omega (arith, low));
  generations = λ r low. absurd (omega (arith, low));
  no_more = λ r past. refl;
}
