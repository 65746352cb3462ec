-- Records of journals stand at their places in the files that hold them.
use Rattle.std.proofs.Common.{◌≡◌, inl, inr, ℕ, zero, suc, ◌+◌, ◌<◌, ◌≤◌, List, [], ◌∷◌, length, take, drop, slice_get, sum_by, Option, Some, None, refl, sym, ◌∙◌, ap, subst, arith, length-take, length-drop}
use Rattle.std.proofs.lemmas.Bool.{cases_lt}
use Rattle.std.proofs.lemmas.Bool.Decides.{nat_tests}
use Rattle.std.proofs.lemmas.List.{drop-drop}
use Rattle.std.proofs.lemmas.List.Sums.{sum_by-cons}
use Rattle.std.specs.List.{AllZip}
use Rattle.std.specs.Option.{option_map}
use Rattle.disk_defs.specs.Disk.{Files}
use Rattle.disk_defs.specs.Gates.{Body, Gate, Shut, Open, NoGate, gate_of, bodies_from, bodies_within, records}
use Rattle.journal_defs.specs.Numbers.{journal_file}
use Rattle.journal_defs.specs.Journal.{JournalRecord, IsJournalBody}
use Rattle.journal_defs.specs.Sequence.{Placed}
use Rattle.journal_defs.specs.Stands.{IsJournal, Holds}
use Rattle.entry_index.specs.Places.{StandsAt}
use Rattle.entry_index.specs.Order.{size_of, IsAmong, StandUpTo}
use Rattle.entry_index.proofs.Stands.{same_from}
use Rattle.entry_index.proofs.Opened.{first_open}
use Rattle.entry_index.proofs.Order.{body_size, older_bytes, IsOlderOrNewer, Older, Newer, older_or_newer}

-- an open gate, the body behind it, and what comes then
module _ (list : List ℕ) (body : Body) (rest : List ℕ) (opens : gate_of list ≡ Open body rest) where
  size : length body ≡ (first_open list body rest opens).n
  size =
      let b = first_open list body rest opens in
      ap length b.body_is ∙ length_in b.n b.long
    where
      length_in : (n : ℕ) → n + 5 ≤ length (drop 1 list) → length (take n (drop 4 (drop 1 list))) ≡ n
      length_in n long = omega (arith, long, length-take n (drop 4 (drop 1 list)), length-drop 4 (drop 1 list))

  first_stands : (r : JournalRecord) → IsJournalBody body r → StandsAt list 0 r
  first_stands r is =
      let b = first_open list body rest opens in
      record {
        body = body;
        spelled = is;
        size = record { not_empty = omega (arith, b.low, size); not_long = omega (arith, b.high, size) };
        length_is = sym b.n_is ∙ sym size;
        there = ap (λ (k : ℕ). take k (drop 5 list)) size ∙ ap (take b.n) (sym (drop-drop 4 1 list)) ∙ sym b.body_is;
      }

  later_stands : (at next : ℕ) (r : JournalRecord) → next ≡ 5 + length body + at → StandsAt rest at r → StandsAt list next r
  later_stands at next r place s =
      let b = first_open list body rest opens in
      same_from rest list at next r
      (λ k.
      let here : next + k ≡ 1 + (4 + b.n) + (at + k) = omega (arith, place, size) in
      ap (λ (n : ℕ). drop n list) here ∙ sym (drop-drop (at + k) (1 + (4 + b.n)) list) ∙ ap (drop (at + k)) (sym (b.rest_is ∙ drop-drop (4 + b.n) 1 list)))
      s

  -- the first of these records, or one of those behind it
  first_or_later : (more : List Body) (rs : List JournalRecord) (k : ℕ) (r : JournalRecord) → AllZip IsJournalBody (body ∷ more) rs → slice_get rs k ≡ Some r
      → ((qs : List JournalRecord) (j : ℕ) → AllZip IsJournalBody more qs → slice_get qs j ≡ Some r → StandsAt rest (sum_by size_of (take j qs)) r) → StandsAt list (sum_by size_of (take k rs)) r
  first_or_later more [] k r all there later = absurd all
  first_or_later more (q ∷ qs) zero r all there later = first_stands r (let same : q ≡ r = cc there in subst (IsJournalBody body) same all.0)
  first_or_later more (q ∷ qs) (suc k) r all there later =
      let at = sum_by size_of (take k qs) in
      later_stands at (sum_by size_of (q ∷ take k qs)) r (omega (arith, sum_by-cons size_of q (take k qs), body_size body q all.0)) (later qs k all.1 there)

none_there : (bodies : List Body) (rs : List JournalRecord) (k : ℕ) (r : JournalRecord) → [] ≡ bodies → AllZip IsJournalBody bodies rs → slice_get rs k ≡ Some r → ⊥
none_there [] [] k r none all there = cc there
none_there [] (q ∷ qs) k r none all there = all
none_there (body ∷ bodies) rs k r none all there = cc none

-- that the records of so many bodies stand, wherever these begin
abbrev Later : ℕ → JournalRecord → Type 0
Later m r = (rest : List ℕ) (more : List Body) (qs : List JournalRecord) (j : ℕ) → bodies_within m rest ≡ Some more → AllZip IsJournalBody more qs → slice_get qs j ≡ Some r → StandsAt rest (sum_by size_of (take j qs)) r

-- the records of bodies behind open gates
within_stands : (m : ℕ) (list : List ℕ) (bodies : List Body) (rs : List JournalRecord) (k : ℕ) (r : JournalRecord) → bodies_within m list ≡ Some bodies → AllZip IsJournalBody bodies rs → slice_get rs k ≡ Some r
    → StandsAt list (sum_by size_of (take k rs)) r
within_stands zero list bodies rs k r is all there = absurd (cc is)
within_stands (suc m) list bodies rs k r is all there = at_gate (λ rest more qs j next zip at. within_stands m rest more qs j r next zip at) (gate_of list) refl is
  where
    at_body : Later m r → (body : Body) (rest : List ℕ) → gate_of list ≡ Open body rest → (o : Option (List Body)) → bodies_within m rest ≡ o → option_map (λ bs. body ∷ bs) o ≡ Some bodies → StandsAt list (sum_by size_of (take k rs)) r
    at_body later body rest opens None next is = absurd (cc is)
    at_body later body rest opens (Some more) next is =
        let same : body ∷ more ≡ bodies = cc is in
        first_or_later list body rest opens more rs k r (subst (λ (l : List Body). AllZip IsJournalBody l rs) (sym same) all) there (λ qs j zip at. later rest more qs j next zip at)

    at_gate : Later m r → (g : Gate) → gate_of list ≡ g → bodies_from (λ rest. bodies_within m rest) g ≡ Some bodies → StandsAt list (sum_by size_of (take k rs)) r
    at_gate later Shut here is = absurd (none_there bodies rs k r (cc is) all there)
    at_gate later NoGate here is = absurd (cc is)
    at_gate later (Open body rest) here is = at_body later body rest here (bodies_within m rest) refl is

held_stands : (file : List ℕ) (rs : List JournalRecord) (k : ℕ) (r : JournalRecord) → Holds IsJournalBody file rs → slice_get rs k ≡ Some r → StandsAt file (sum_by size_of (take k rs)) r
held_stands file rs k r held there = elim (cases_lt (length file) 2) [
  | inl short ↦ absurd (none_there held.0 rs k r (let none : [] ≡ held.0 = cc (short_none file short, held.1) in none) held.2 there)
  | inr long ↦ within_stands (length file) file held.0 rs k r (sym (all_within file long) ∙ held.1) held.2 there
]
  where
    short_none : (file : List ℕ) → length file < 2 → records file ≡ Some []
    short_none file short = grind (arith, nat_tests)

    all_within : (file : List ℕ) → 2 ≤ length file → records file ≡ bodies_within (length file) file
    all_within file long = grind (arith, nat_tests)

-- the records of a region's journals, of generations up to the last
pub journal_stands : (files : Files) (r h last : ℕ) (js : List Placed) → IsJournal files r h last js → StandUpTo files r h js
journal_stands files r zero last js is g o x among = absurd (none js among.place is.1 among.there)
  where
    none : (js : List Placed) (k : ℕ) → js ≡ [] → slice_get js k ≡ Some (record { generation = g; what = x }) → ⊥
    none [] k empty there = cc there
    none (j ∷ js) k empty there = cc empty
journal_stands files r (suc h) last js is g o x among =
    by_age (λ before. journal_stands files r h is.0 is.1 is.3 g o x before)
    (older_or_newer is.1 (suc h) is.2 g o x (older_bytes files r h is.0 (suc h) is.1 is.3 (omega arith)) (subst (λ (l : List Placed). IsAmong l g o x) is.7 among))
  where
    by_age : (IsAmong is.1 g o x → (1 ≤ g) × (g ≤ h) × StandsAt (files (journal_file g r)) o x) → IsOlderOrNewer is.1 (suc h) is.2 g o x → (1 ≤ g) × (g ≤ suc h) × StandsAt (files (journal_file g r)) o x
    by_age earlier (Older before) = let at = earlier before in (at.0, (let low = at.1 in omega (arith, low)), at.2)
    by_age earlier (Newer k there drawn place) = (
      omega (arith, drawn),
      omega (arith, drawn),
      subst (λ (n : ℕ). StandsAt (files (journal_file n r)) o x) (sym drawn)
          (subst (λ (n : ℕ). StandsAt (files (journal_file (suc h) r)) n x) (sym place) (held_stands (files (journal_file (suc h) r)) is.2 k x is.4 there)),
    )
