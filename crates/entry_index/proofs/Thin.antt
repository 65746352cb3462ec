-- Records that are kept of journals.
use Rattle.std.proofs.Common.{◌≡◌, ℕ, ◌≤◌, nat_le, ◌&&◌, Bool, true, false, inl, inr, List, [], ◌∷◌, length, Option, None, refl, arith}
use Rattle.std.proofs.lemmas.Bool.Decides.{nat_tests}
use Rattle.global_defs.specs.Entry.{Sequence}
use Rattle.journal_defs.specs.Journal as journals
use Rattle.journal_defs.specs.Journal.{JournalRecord}
use Rattle.journal_defs.specs.Surviving.{survives}
use Rattle.disk_defs.specs.Disk.{Files}
use Rattle.journal_defs.specs.Instance.{InstanceRecord}
use Rattle.journal_defs.specs.Sequence.{Placed, Records}
use Rattle.entry_index.specs.declared.placed.PlacedSign.{PlacedSign}
use Rattle.entry_index.specs.Indexes.{AreSigns}
use Rattle.entry_index.specs.Found.{AreFound}
use Rattle.entry_index.specs.Thinned.{is_floor_in, has_floor, IsThinned, AreKept, part_generation}
use Rattle.entry_index.specs.declared.index.EntryIndex.{EntryIndex}
use Rattle.entry_index.proofs.Either.{either, or_left, or_right}

-- all of them may be
pub all_kept : (instance : List InstanceRecord) (lowest n : ℕ) (behind : Option ℕ) (js : List Placed) → IsThinned instance lowest n behind js js
all_kept instance lowest n behind [] = refl
all_kept instance lowest n behind (p ∷ ps) = inl (ps, refl, all_kept instance lowest n (part_generation p.generation p.what) ps)

pub signs_kept : (files : Files) (instance : List InstanceRecord) (lowest n : ℕ) (signs : List (List PlacedSign)) (journal : ℕ → List Placed) → AreSigns files signs journal → AreKept files instance lowest n signs journal
signs_kept files instance lowest n signs journal are = record { kept = journal; are = are; thinned = λ r. all_kept instance lowest n None (journal r) }

-- what is kept for one lowest target is kept for another one, where each of the first n entries up to that one is up to this one
module _ (instance : List InstanceRecord) (lowest t n : ℕ) (up_to : (m : ℕ) → m ≤ lowest → m ≤ n → m ≤ t) where
  floor_for : (number : ℕ) (a b c d : Bool) → nat_le number lowest ≡ b → nat_le number n ≡ c → nat_le number t ≡ d → (a && b && c) ≡ true → (a && d && c) ≡ true
  floor_for number true true true true low least late is = refl
  floor_for number true true true false low least late is =
      let within : number ≤ t = up_to number (grind (arith, nat_tests, low)) (grind (arith, nat_tests, least)) in
      grind (arith, nat_tests, late, within)
  floor_for number true true false d low least late is = absurd (cc is)
  floor_for number true false c d low least late is = absurd (cc is)
  floor_for number false b c d low least late is = absurd (cc is)

  floor_in_for : (g : ℕ) (r : JournalRecord) → is_floor_in instance lowest n g r ≡ true → is_floor_in instance t n g r ≡ true
  floor_in_for g (journals.Epoch m) is = floor_for m.number (survives instance g m.number) (nat_le m.number lowest) (nat_le m.number n) (nat_le m.number t) refl refl refl is
  floor_in_for g (journals.Pini s) is = absurd (cc is)
  floor_in_for g (journals.Pblk b) is = absurd (cc is)
  floor_in_for g (journals.Tcom p) is = absurd (cc is)

  floors_for : (js : List Placed) → has_floor instance lowest n js ≡ true → has_floor instance t n js ≡ true
  floors_for [] is = absurd (cc is)
  floors_for (p ∷ js) is = elim (either (is_floor_in instance lowest n p.generation p.what) (has_floor instance lowest n js) is) [
    | inl here ↦ or_left (is_floor_in instance t n p.generation p.what) (has_floor instance t n js) (floor_in_for p.generation p.what here)
    | inr later ↦ or_right (is_floor_in instance t n p.generation p.what) (has_floor instance t n js) (floors_for js later)
  ]

  thinned_for : (behind : Option ℕ) (js ks : List Placed) → IsThinned instance lowest n behind js ks → IsThinned instance t n behind js ks
  thinned_for behind [] ks is = is
  thinned_for behind (p ∷ js) ks (inl kept) = inl (kept.0, kept.1, thinned_for (part_generation p.generation p.what) js kept.0 kept.2)
  thinned_for behind (p ∷ js) ks (inr (inl dropped)) = inr (inl (dropped.0, dropped.1, thinned_for behind js ks dropped.2))
  thinned_for behind (p ∷ js) ks (inr (inr gone)) = inr (inr (floors_for js gone.0, gone.1, thinned_for (part_generation p.generation p.what) js ks gone.2))

  pub kept_for : (files : Files) (signs : List (List PlacedSign)) (journal : ℕ → List Placed) → AreKept files instance lowest n signs journal → AreKept files instance t n signs journal
  kept_for files signs journal is = record { kept = is.kept; are = is.are; thinned = λ r. thinned_for None (journal r) (is.kept r) (is.thinned r) }

pub found_for : (files : Files) (instance : List InstanceRecord) (lowest t : ℕ) (signs : List (List PlacedSign)) (index : EntryIndex) (u : Records) (seq : Sequence) → ((m : ℕ) → m ≤ lowest → m ≤ length seq → m ≤ t)
    → AreFound files instance lowest signs index u seq → AreFound files instance t signs index u seq
found_for files instance lowest t signs index u seq up_to found = record {
  instance_is = found.instance_is;
  held = found.held;
  are_kept = kept_for instance lowest t (length seq) up_to files signs u.journal found.are_kept;
  sequence = found.sequence;
  indexed = found.indexed;
}
