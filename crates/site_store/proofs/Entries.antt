-- The parts of one more entry.
use Rattle.std.proofs.Common.{◌≡◌, ◌≤◌, ◌+◌, ℕ, true, List, [], ◌∷◌, ◌++◌, length, Some, refl, ◌∙◌, ap, subst, arith}
use Rattle.std.specs.Prelude.{Option, nat_le}
use Rattle.std.proofs.lemmas.Bool.Decides.{nat_tests}
use Rattle.global_defs.specs.Entry.{Update, Transaction, Stamp, Reign, Entry, Sequence}
use Rattle.global_defs.specs.Prefix.{stamp_at}
use Rattle.journal_defs.specs.Journal.{Part}
use Rattle.journal_defs.specs.Instance.{InstanceRecord, Create, Reigned, Cut, Map, Mode, generation}
use Rattle.journal_defs.specs.Surviving.{survives, reigns}
use Rattle.journal_defs.specs.Sequence.{entry_with}
use Rattle.journal_defs.specs.Growth.{AreNumbered, AreTidy, AreEntries}
use Rattle.journal_defs.specs.Split.{split, IsSplit}
use Rattle.journal_laws.proofs.Merging as merging

-- in the newest generation everything survives
pub survives_newest : (instance : List InstanceRecord) (g n : ℕ) → generation instance ≤ g → survives instance g n ≡ true
survives_newest [] g n low = refl
survives_newest (Cut m h ∷ rs) g n low = let yes : nat_le h g ≡ true = grind (arith, nat_tests, low) in rw yes (survives_newest rs g n (omega (arith, low)))
survives_newest (Create name regions ∷ rs) g n low = survives_newest rs g n low
survives_newest (Reigned r ∷ rs) g n low = survives_newest rs g n low
survives_newest (Map region star name ∷ rs) g n low = survives_newest rs g n low
survives_newest (Mode region before ∷ rs) g n low = survives_newest rs g n low

entries_longer : (instance : List InstanceRecord) (g n m : ℕ) (ps : List (ℕ → Option Part)) (es : Sequence) (p : ℕ → Option Part) (e : Entry) → AreEntries instance g n ps es → m ≡ n + length es + 1
    → AreNumbered m p → AreTidy p → survives instance g m ≡ true → entry_with p (stamp_at m (reigns instance)) ≡ Some e → AreEntries instance g n (ps ++ p ∷ []) (es ++ e ∷ [])
entries_longer instance g n m [] [] p e are is numbered tidy lives whole =
    let next : m ≡ n + 1 = omega (arith, is) in
    (subst (λ (k : ℕ). AreNumbered k p) next numbered, tidy, subst (λ (k : ℕ). survives instance g k ≡ true) next lives, subst (λ (k : ℕ). entry_with p (stamp_at k (reigns instance)) ≡ Some e) next whole, tt)
entries_longer instance g n m [] (x ∷ es) p e are is numbered tidy lives whole = absurd are
entries_longer instance g n m (q ∷ ps) [] p e are is numbered tidy lives whole = absurd are
entries_longer instance g n m (q ∷ ps) (x ∷ es) p e are is numbered tidy lives whole =
    (are.0, are.1, are.2, are.3, entries_longer instance g (n + 1) m ps es p e are.4 (omega (arith, is)) numbered tidy lives whole)

-- the entry that a transaction's parts make under this stamp
pub split_entry : (rs : List Reign) (m : ℕ) (region : Update → ℕ) (mask : ℕ) (t : Transaction) (stamp : Stamp) → IsSplit region mask t → stamp_at m rs ≡ Some stamp
    → entry_with (split region m mask t) (stamp_at m rs) ≡ Some (record { stamp = stamp; transaction = t })
split_entry rs m region mask t stamp divided under = ap (entry_with (split region m mask t)) under ∙ merging.entry region m mask t stamp divided

-- the parts of entries, and of one more
pub entries_more : (instance : List InstanceRecord) (g n m : ℕ) (ps : List (ℕ → Option Part)) (es : Sequence) (region : Update → ℕ) (mask : ℕ) (t : Transaction) (stamp : Stamp) → AreEntries instance g n ps es → m ≡ n + length es + 1 → generation instance ≤ g
    → IsSplit region mask t → stamp_at m (reigns instance) ≡ Some stamp → AreEntries instance g n (ps ++ split region m mask t ∷ []) (es ++ record { stamp = stamp; transaction = t } ∷ [])
entries_more instance g n m ps es region mask t stamp are is low divided under =
    entries_longer instance g n m ps es (split region m mask t) (record { stamp = stamp; transaction = t }) are is (merging.numbers region m mask t) (merging.tidy region m mask t divided) (survives_newest instance g m low)
    (split_entry (reigns instance) m region mask t stamp divided under)
