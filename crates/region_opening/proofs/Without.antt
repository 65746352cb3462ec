-- The first generation that keeps no images behind an epoch, by signs.
use Rattle.std.proofs.Common.{◌≡◌, ℕ, zero, suc, ◌<◌, ◌==◌, ◌&&◌, ◌||◌, Bool, true, false, cond, List, [], ◌∷◌, length, map, drop, get_or, Some, refl, ◌∙◌, ap, arith}
use Rattle.std.specs.List.{find, list_any}
use Rattle.std.specs.Option.{option_map}
use Rattle.std.specs.Ordering.{nat_cmp}
use Rattle.std.specs.BTreeSet.{BTreeSet, contains}
use Rattle.journal_defs.specs.Journal.{JournalRecord, Pini, Epoch, Pblk, Tcom}
use Rattle.journal_defs.specs.Sequence.{Placed}
use Rattle.journal_defs.specs.Epochs.{starts_without, is_without}
use Rattle.entry_index.specs.declared.placed.PlacedSign.{PlacedSign}
use Rattle.entry_index.specs.RecordSigns.{sign_of}
use Rattle.region_opening.specs.Signs.{Say, starts_by, is_without_by, AreWithout}

by_kind : (what : JournalRecord) → starts_by (sign_of what) ≡ starts_without what
by_kind (Pini s) = refl
by_kind (Epoch m) = refl
by_kind (Pblk b) = refl
by_kind (Tcom p) = refl

-- the signs tell which generations keep no images
without_said : (ss : List PlacedSign) (js : List Placed) (g : ℕ) → Say ss js → is_without_by ss g ≡ list_any (λ q. q.generation == g && starts_without q.what) js
without_said [] [] g all = refl
without_said [] (j ∷ js) g all = absurd all
without_said (s ∷ ss) [] g all = absurd all
without_said (s ∷ ss) (j ∷ js) g all =
    ap (λ (n : ℕ). (n == g && starts_by s.sign) || is_without_by ss g) all.0.generation
    ∙ ap (λ (b : Bool). (j.generation == g && b) || is_without_by ss g) (ap starts_by all.0.what ∙ by_kind j.what)
    ∙ ap (λ (b : Bool). (j.generation == g && starts_without j.what) || b) (without_said ss js g all.1)

-- among the generations without images it is that of the first record which stands in one
found_among : (f : ℕ → Bool) (p : Placed → Bool) (ss : List PlacedSign) (js : List Placed) → ((j : Placed) → f j.generation ≡ p j) → Say ss js
    → find f (map (λ s. s.generation) ss) ≡ option_map (λ j. j.generation) (find p js)
found_among f p [] [] are all = refl
found_among f p [] (j ∷ js) are all = absurd all
found_among f p (s ∷ ss) [] are all = absurd all
found_among f p (s ∷ ss) (j ∷ js) are all =
    ap (λ (n : ℕ). cond (f n) (Some n) (find f (map (λ x. x.generation) ss))) all.0.generation
    ∙ ap (λ (b : Bool). cond b (Some j.generation) (find f (map (λ x. x.generation) ss))) (are j)
    ∙ by (p j) (found_among f p ss js are all.1)
  where
    by : (b : Bool) → find f (map (λ x. x.generation) ss) ≡ option_map (λ x. x.generation) (find p js)
        → cond b (Some j.generation) (find f (map (λ x. x.generation) ss)) ≡ option_map (λ x. x.generation) (cond b (Some j) (find p js))
    by true rest = refl
    by false rest = rest

pub first_found : (ss : List PlacedSign) (js : List Placed) (made : BTreeSet ℕ) (behind : List PlacedSign) (after : List Placed) → Say ss js → AreWithout ss made → Say behind after
    → find (contains nat_cmp made) (map (λ s. s.generation) behind) ≡ option_map (λ j. j.generation) (find (is_without js) after)
first_found ss js made behind after all are say = found_among (contains nat_cmp made) (is_without js) behind after (λ j. are j.generation ∙ without_said ss js j.generation all) say

-- a sign of none of these generations makes no difference
pub not_this : (f : ℕ → Bool) (ss : List PlacedSign) (i : ℕ) (d : PlacedSign) → i < length ss → f (get_or ss i d).generation ≡ false → find f (map (λ s. s.generation) (drop i ss)) ≡ find f (map (λ s. s.generation) (drop (suc i) ss))
not_this f [] i d low none = absurd (omega (arith, low))
not_this f (s ∷ ss) zero d low none = ap (λ (b : Bool). cond b (Some s.generation) (find f (map (λ x. x.generation) ss))) none
not_this f (s ∷ ss) (suc i) d low none = not_this f ss i d (omega (arith, low)) none
