-- Instance files that gain another record than a CUT, epochs after which less is needed, and sequences that grow.
use Rattle.std.proofs.Common.{◌≡◌, ◌⊎◌, inl, inr, ℕ, ◌+◌, ◌≤◌, ◌<◌, ◌&&◌, nat_le, Bool, true, false, List, [], ◌∷◌, ◌++◌, length, take, Option, Some, None, IsSome, refl, sym, ◌∙◌, ap, subst, arith, unwrap_or, take_all, if◌then◌else◌}
use Rattle.std.proofs.lemmas.Bool.{cases_lt}
use Rattle.std.proofs.lemmas.Bool.Decides.{nat_tests}
use Rattle.std.proofs.lemmas.List.Folds.{list_all-append}
use Rattle.std.specs.Option.{option_or}
use Rattle.std.specs.List.{list_all}
use Rattle.global_defs.specs.Entry.{Globals, Sequence, Reign}
use Rattle.global_defs.specs.Prefix.{stamp_at}
use Rattle.journal_defs.specs.Journal.{JournalRecord, Pini, Epoch, Pblk, Tcom, Mark}
use Rattle.journal_defs.specs.Instance.{InstanceRecord, Create, Reigned, Cut, Map, Mode}
use Rattle.journal_defs.specs.Surviving.{survives, spares, spares_start, reigns}
use Rattle.journal_defs.specs.Sequence.{Placed, Records, IsSequence}
use Rattle.journal_defs.specs.Epochs.{Blocks, Chosen, epoch_in, last_epoch, beginning, chosen, image_state, first_without, NeedsForward}
use Rattle.journal_defs.specs.Undo.{fresh}
use Rattle.journal_defs.specs.Sound.{Restores, IsSoundRegion, BlocksGrow, NoEpochPast}
use Rattle.journal_defs.specs.Growth.{with_record, IsBefore}
use Rattle.journal_laws.proofs.Runs as runs
use Rattle.journal_laws.proofs.Targets as targets
use Rattle.journal_laws.proofs.EveryTarget as every
use Rattle.journal_laws.proofs.EveryTarget.{GrowAt as GrowBy}

-- records that leave each number
epoch_in-spared : (instance : List InstanceRecord) (x : InstanceRecord) (t h : ℕ) (what : JournalRecord) (ps : List Placed) → ((g m : ℕ) → spares g m x ≡ true)
    → epoch_in (instance ++ x ∷ []) t h what ps ≡ epoch_in instance t h what ps
epoch_in-spared instance x t h (Epoch m) ps spare =
    ap (λ (b : Bool). if b && nat_le m.number t then Some (record { number = m.number; blocks = m.blocks; after = ps }) else None)
    (list_all-append (spares h m.number) instance (x ∷ []) ∙ runs.and_true (survives instance h m.number) (spares h m.number x) (spare h m.number))
epoch_in-spared instance x t h (Pini s) ps spare = refl
epoch_in-spared instance x t h (Pblk i) ps spare = refl
epoch_in-spared instance x t h (Tcom p) ps spare = refl

last_epoch-spared : (instance : List InstanceRecord) (x : InstanceRecord) (t : ℕ) (journal : List Placed) → ((g m : ℕ) → spares g m x ≡ true)
    → last_epoch (instance ++ x ∷ []) t journal ≡ last_epoch instance t journal
last_epoch-spared instance x t [] spare = refl
last_epoch-spared instance x t (q ∷ qs) spare =
    ap (λ (o : Option Chosen). option_or o (epoch_in (instance ++ x ∷ []) t q.generation q.what qs)) (last_epoch-spared instance x t qs spare)
    ∙ ap (option_or (last_epoch instance t qs)) (epoch_in-spared instance x t q.generation q.what qs spare)

pub other_instance : (instance : List InstanceRecord) (x : InstanceRecord) (t : ℕ) (journal : List Placed) → ((g m : ℕ) → spares g m x ≡ true)
    → chosen (instance ++ x ∷ []) t journal ≡ chosen instance t journal
other_instance instance x t journal spare = ap (λ (o : Option Chosen). unwrap_or o (beginning journal)) (last_epoch-spared instance x t journal spare)

-- what soundness says of a chosen epoch
abbrev SoundBy : (Sequence → Globals) → Sequence → List Placed → Blocks → Chosen → Type 0
SoundBy of seq journal database e = IsSome (first_without journal e) ⊎ Restores (image_state e database) (of (take e.number seq))

pub sound_instance : (of : Sequence → Globals) (instance : List InstanceRecord) (x : InstanceRecord) (seq : Sequence) (journal : List Placed) (database : Blocks)
    → ((g m : ℕ) → spares g m x ≡ true) → IsSoundRegion of instance seq journal database → IsSoundRegion of (instance ++ x ∷ []) seq journal database
sound_instance of instance x seq journal database spare sound t low = subst (SoundBy of seq journal database) (sym (other_instance instance x t journal spare)) (sound t low)

pub grow_instance : (instance : List InstanceRecord) (x : InstanceRecord) (n : ℕ) (journal : List Placed) → ((g m : ℕ) → spares g m x ≡ true)
    → BlocksGrow instance n journal → BlocksGrow (instance ++ x ∷ []) n journal
grow_instance instance x n journal spare grow t u low high =
    subst (λ (d : Chosen). GrowBy journal d (chosen (instance ++ x ∷ []) u journal)) (sym (other_instance instance x t journal spare))
    (subst (GrowBy journal (chosen instance t journal)) (sym (other_instance instance x u journal spare)) (grow t u low high))

pub none_past_instance : (instance : List InstanceRecord) (x : InstanceRecord) (n : ℕ) (journal : List Placed) → ((g m : ℕ) → spares g m x ≡ true)
    → NoEpochPast n instance journal → NoEpochPast n (instance ++ x ∷ []) journal
none_past_instance instance x n journal spare none t low = other_instance instance x t journal spare ∙ none t low ∙ sym (other_instance instance x n journal spare)

-- one entry more
pub none_past_longer : (instance : List InstanceRecord) (n : ℕ) (journal : List Placed) → NoEpochPast n instance journal → NoEpochPast (n + 1) instance journal
none_past_longer instance n journal none t low = none t (omega arith) ∙ sym (none (n + 1) (omega arith))

pub grow_longer : (instance : List InstanceRecord) (n : ℕ) (journal : List Placed) → BlocksGrow instance n journal → NoEpochPast n instance journal → BlocksGrow instance (n + 1) journal
grow_longer instance n journal grow none t u low high = elim (cases_lt n u) [
  | inr within ↦ grow t u low within
  | inl past ↦
      let last : chosen instance u journal ≡ chosen instance n journal = none u (omega arith) in
      subst (GrowBy journal (chosen instance t journal)) (sym last) (elim (cases_lt n t) [
        | inr before ↦ grow t n before (omega arith)
        | inl also ↦ inr (let same : (chosen instance t journal).blocks ≡ (chosen instance n journal).blocks = ap (λ (e : Chosen). e.blocks) (none t (omega arith)) in omega (arith, same))
      ])
]

-- an epoch appended
pub below : (instance : List InstanceRecord) (t g : ℕ) (journal : List Placed) (m : Mark) → t < m.number → NeedsForward instance t journal
    → NeedsForward instance t (journal ++ record { generation = g; what = Epoch m } ∷ [])
below instance t g journal m low needs = every.goes_on instance t journal (record { generation = g; what = Epoch m }) none needs
  where
    and_false : (b : Bool) → (b && false) ≡ false
    and_false true = refl
    and_false false = refl

    none : epoch_in instance t g (Epoch m) [] ≡ None
    none =
        let past : nat_le m.number t ≡ false = grind (arith, nat_tests) in
        ap (λ (b : Bool). if b then Some (fresh m) else None) (ap (λ (b : Bool). survives instance g m.number && b) past ∙ and_false (survives instance g m.number))

pub ended : (instance : List InstanceRecord) (t g : ℕ) (journal : List Placed) (m : Mark) → survives instance g m.number ≡ true → m.number ≤ t
    → first_without (journal ++ record { generation = g; what = Epoch m } ∷ []) (chosen instance t (journal ++ record { generation = g; what = Epoch m } ∷ [])) ≡ None
ended instance t g journal m lives low =
    ap (first_without (journal ++ record { generation = g; what = Epoch m } ∷ [])) (targets.new_epoch instance t g journal m lives low)

-- sequences
pub cut_here : (s : Records) (seq : Sequence) (g : ℕ) → IsSequence s seq → IsBefore g s → IsSequence (with_record s (Cut (length seq) g)) seq
cut_here s seq g h old =
    subst (λ (l : Sequence). IsSequence (with_record s (Cut (length seq) g)) l) (take_all (length seq) seq (omega arith)) (runs.cut s seq (length seq) g h (omega arith) old)

pub reigns-same : (instance : List InstanceRecord) (x : InstanceRecord) → ((start : ℕ) → spares_start start x ≡ true) → reigns (x ∷ []) ≡ [] → reigns (instance ++ x ∷ []) ≡ reigns instance
reigns-same [] x spare none = none
reigns-same (Reigned r ∷ rs) x spare none =
    ap (λ (b : Bool). if b then r ∷ reigns (rs ++ x ∷ []) else reigns (rs ++ x ∷ []))
    (list_all-append (spares_start r.start) rs (x ∷ []) ∙ runs.and_true (list_all (spares_start r.start) rs) (spares_start r.start x) (spare r.start))
    ∙ ap (λ (l : List Reign). if list_all (spares_start r.start) rs then r ∷ l else l) (reigns-same rs x spare none)
reigns-same (Create name regions ∷ rs) x spare none = reigns-same rs x spare none
reigns-same (Cut m h ∷ rs) x spare none = reigns-same rs x spare none
reigns-same (Map region star name ∷ rs) x spare none = reigns-same rs x spare none
reigns-same (Mode region before ∷ rs) x spare none = reigns-same rs x spare none

pub sequence_same : (s : Records) (seq : Sequence) (x : InstanceRecord) → ((g m : ℕ) → spares g m x ≡ true) → reigns (s.instance ++ x ∷ []) ≡ reigns s.instance
    → IsSequence s seq → IsSequence (with_record s x) seq
sequence_same s seq x spare same h =
    runs.sequence_by s (with_record s x) seq (λ k. runs.same_entry s (with_record s x) k (λ j. runs.part_of-sparing s.instance x k (s.journal j) spare) (ap (stamp_at k) same)) h
