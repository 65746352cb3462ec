-- What a front of a sequence keeps, and what a CUT leaves of a journal's parts.
use Rattle.std.proofs.Common.{◌≡◌, inl, inr, ℕ, zero, suc, ◌≤◌, ◌&&◌, true, List, [], ◌∷◌, ◌++◌, length, take, drop, flat_map, Some, None, slice_get, refl, sym, ◌∙◌, ap, subst, arith, take_all}
use Rattle.std.proofs.lemmas.Bool.{cases_lt, and_parts}
use Rattle.std.proofs.lemmas.List.{take-append-le, take-append-drop}
use Rattle.std.proofs.lemmas.List.Folds.{list_all-append}
use Rattle.std.proofs.lemmas.Grind.{flat_map-append}
use Rattle.std.specs.List.{AllByRecursion, fold}
use Rattle.std.specs.FinMap as globals
use Rattle.global_defs.specs.declared.limits.TheConstants.{MOST_NODES}
use Rattle.global_defs.specs.Entry.{Update, Sequence, apply}
use Rattle.global_defs.specs.Rising.{SerialsRise}
use Rattle.journal_defs.specs.Journal.{JournalRecord, Pini, Epoch, Pblk, Tcom}
use Rattle.journal_defs.specs.Instance.{InstanceRecord, Cut}
use Rattle.journal_defs.specs.Directory.{Pattern, pattern_in}
use Rattle.journal_defs.specs.Surviving.{survives, spares}
use Rattle.journal_defs.specs.Fit.{region_of_update, IsAtHome, HasFewNodes}
use Rattle.journal_laws.proofs.EveryTarget.{patterns_same}

-- all updates of a sequence, one entry after another
abbrev updates : Sequence → List Update
updates seq = flat_map (λ e. e.transaction.updates) seq

take_more : {X : Type 0} (k : ℕ) (xs : List X) → length xs ≤ k → take k xs ≡ take (length xs) xs
take_more k xs long = take_all k xs long ∙ sym (take_all (length xs) xs (omega arith))

pub few_nodes : (seq : Sequence) (j : ℕ) → HasFewNodes seq → HasFewNodes (take j seq)
few_nodes seq j few k = elim (cases_lt (length front) k) [
  | inr within ↦ subst Few (in_front k within) (few k)
  | inl past ↦ subst Few (in_front (length front) (omega arith) ∙ sym (take_more k front (omega arith))) (few (length front))
]
  where
    front : List Update
    front = updates (take j seq)

    Few : List Update → Type 0
    Few us = globals.len (fold apply globals.empty us) ≤ MOST_NODES

    all : updates seq ≡ front ++ updates (drop j seq)
    all = ap updates (sym (take-append-drop j seq)) ∙ flat_map-append (λ e. e.transaction.updates) (take j seq) (drop j seq)

    in_front : (k : ℕ) → k ≤ length front → take k (updates seq) ≡ take k front
    in_front k low = ap (take k) all ∙ take-append-le k front (updates (drop j seq)) low

in_whole : {X : Type 0} (xs : List X) (j i : ℕ) (x : X) → slice_get (take j xs) i ≡ Some x → slice_get xs i ≡ Some x
in_whole xs zero i x is = let none : None ≡ Some x = is in cc
in_whole [] (suc j) i x is = let none : None ≡ Some x = is in cc
in_whole (y ∷ xs) (suc j) zero x is = is
in_whole (y ∷ xs) (suc j) (suc i) x is = in_whole xs j i x is

pub serials : (seq : Sequence) (j : ℕ) → SerialsRise seq → SerialsRise (take j seq)
serials seq j rise i k d e low first second stamps updaters = rise i k d e low (in_whole seq j i d first) (in_whole seq j k e second) stamps updaters

pub at_home_more : (instance : List InstanceRecord) (x : InstanceRecord) (r h : ℕ) (what : JournalRecord) → pattern_in x ≡ None → IsAtHome instance r h what → IsAtHome (instance ++ x ∷ []) r h what
at_home_more instance x r h (Tcom p) none home = λ lives.
    subst (λ (ps : List Pattern). AllByRecursion (λ i. region_of_update ps i.update ≡ r) p.items) (sym (patterns_same instance x none))
    (home (and_parts (survives instance h p.number) ((spares h p.number x) && true) (sym (list_all-append (spares h p.number) instance (x ∷ [])) ∙ lives)).0)
at_home_more instance x r h (Pini s) none home = tt
at_home_more instance x r h (Epoch m) none home = tt
at_home_more instance x r h (Pblk b) none home = tt

pub at_home_cut : (instance : List InstanceRecord) (t g r h : ℕ) (what : JournalRecord) → IsAtHome instance r h what → IsAtHome (instance ++ Cut t g ∷ []) r h what
at_home_cut instance t g r h what home = at_home_more instance (Cut t g) r h what refl home
