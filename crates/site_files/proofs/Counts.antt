-- What an index of signs leads to.
use Rattle.std.proofs.Common.{◌≡◌, inl, inr, ℕ, ◌*◌, ◌==◌, true, List, [], ◌∷◌, length, get_or, Option, None, refl, sym, ◌∙◌, ap, subst, arith}
use Rattle.std.proofs.Math.Path.{fun_ext}
use Rattle.std.proofs.lemmas.Bool.{cases_eq}
use Rattle.std.proofs.lemmas.Bool.Decides.{nat_tests}
use Rattle.disk_defs.specs.Disk.{Files}
use Rattle.global_defs.specs.Entry.{Sequence}
use Rattle.global_defs.specs.Prefix.{stamp_at}
use Rattle.journal_defs.specs.Journal.{Part}
use Rattle.journal_defs.specs.Numbers.{INSTANCE}
use Rattle.journal_defs.specs.Instance.{InstanceRecord, generation, regions}
use Rattle.journal_defs.specs.Surviving.{reigns}
use Rattle.journal_defs.specs.Sequence.{Placed, Records, entry_with}
use Rattle.journal_defs.specs.Stands.{IsInstance, IsJournal}
use Rattle.journal_laws.proofs.Runs.{entry_none}
use Rattle.entry_index.specs.declared.placed.PlacedSign.{PlacedSign}
use Rattle.entry_index.specs.declared.index.EntryIndex.{EntryIndex}
use Rattle.entry_index.specs.Indexes.{Indexes}
use Rattle.entry_index.specs.Found.{AreFound, HaveFound, entry_count}
use Rattle.entry_index.specs.Parts.{InFiles}
use Rattle.entry_index.proofs.AmongLaws.{counted as rows_counted}

-- without regions there is no entry
none_without : (files : Files) (rs : List InstanceRecord) (index : EntryIndex) (seq : Sequence) → index.regions ≡ 0 → Indexes (InFiles files) (reigns rs) index seq → length seq ≡ 0
none_without files rs index [] without is = refl
none_without files rs index (e ∷ es) without is =
    let at = is.each 0 e refl in
    let empty : Records = record { instance = rs; journal = λ r. [] } in
    let gone : at.part ≡ (λ (r : ℕ). None) = fun_ext (λ r. at.no_more r (omega (arith, without))) in
    let never : entry_with at.part (stamp_at 1 (reigns rs)) ≡ None = ap (λ (p : ℕ → Option Part). entry_with p (stamp_at 1 (reigns rs))) gone ∙ entry_none empty 1 (λ r. refl) in
    absurd (cc (never, at.entry))

-- an index has as many entries as the sequence that it is of
pub counted : (files : Files) (rs : List InstanceRecord) (index : EntryIndex) (seq : Sequence) → Indexes (InFiles files) (reigns rs) index seq → entry_count index ≡ length seq
counted files rs index seq is = elim (cases_eq index.regions 0) [
  | inl without ↦ let same : (index.regions == 0) ≡ true = grind (arith, nat_tests, without) in rw same (sym (none_without files rs index seq without is))
  | inr some ↦ rows_counted index (length seq) (omega (arith, some)) is.rows
]

-- what was found in the journals, with the records that files hold
pub are_found : (files : Files) (rs : List InstanceRecord) (lowest n g : ℕ) (signs : List (List PlacedSign)) (began : List ℕ) (index : EntryIndex) (journal : ℕ → List Placed) → n ≡ length (regions rs) → g ≡ generation rs
    → IsInstance (files INSTANCE) rs → (found : HaveFound files rs lowest n g signs began index journal) → AreFound files rs lowest signs index (record { instance = rs; journal = journal }) found.seq
are_found files rs lowest n g signs began index journal many newest is found = record {
  instance_is = refl;
  held = record {
    instance = is;
    journals = λ r low. (get_or began r 0, subst (λ (k : ℕ). IsJournal files r k (get_or began r 0) (journal r)) newest (found.journals r (omega (arith, low, many))));
    no_more = λ r high. found.no_more r (omega (arith, high, many));
  };
  are_kept = found.kept;
  sequence = found.sequence;
  indexed = found.indexed;
}

-- and its index has whole rows
pub whole_rows : (index : EntryIndex) (n m : ℕ) → n ≡ m → (index.regions ≡ n) × (k : ℕ) × (length index.places.items ≡ n * k) → (index.regions ≡ m) × (k : ℕ) × (length index.places.items ≡ index.regions * k)
whole_rows index n m same (is, k, rows) = (is ∙ same, k, rows ∙ ap (λ (r : ℕ). r * k) (sym is))
