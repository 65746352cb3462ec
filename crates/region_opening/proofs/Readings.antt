-- Entries that are read by an index.
use Rattle.std.proofs.Common.{◌≡◌, ℕ, zero, suc, ◌-◌, ◌≤◌, List, [], ◌∷◌, length, slice_get, Option, Some, None, IfSome, sym, ◌∙◌, ap, subst, arith}
use Rattle.std.specs.List.{AllByRecursion}
use Rattle.std.specs.Option.{option_map}
use Rattle.disk_defs.specs.Disk.{Files}
use Rattle.disk_defs.proofs.Told.{weaker_told}
use Rattle.global_defs.specs.Entry as defs
use Rattle.global_defs.specs.Entry.{Reign, Sequence}
use Rattle.global_defs.specs.Fields.{IsUpdate, IsTransaction}
use Rattle.gvn_model.specs.declared.entry.Entry.{Entry}
use Rattle.gvn_model.specs.Entries.{entry_value}
use Rattle.entry_index.specs.declared.index.EntryIndex.{EntryIndex}
use Rattle.entry_index.specs.Indexes.{Indexes}
use Rattle.entry_index.specs.Parts.{InFiles}
use Rattle.region_store.proofs.Lists.{there}

-- what holds of all holds of one
of_all : {X : Type 0} (P : X → Type 0) (xs : List X) (i : ℕ) (x : X) → AllByRecursion P xs → slice_get xs i ≡ Some x → P x
of_all P [] i x all is = let gone : None ≡ Some x = is in cc
of_all P (y ∷ ys) zero x all is = let same : y ≡ x = cc in subst P same all.0
of_all P (y ∷ ys) (suc i) x all is = of_all P ys i x all.1 is

-- what is told of the entry of a number
module _ (o : Option Files) (reigns : List Reign) (index : EntryIndex) (n : ℕ) (found : Option Entry) (told : IfSome o (λ files. (seq : Sequence) → Indexes (InFiles files) reigns index seq → option_map entry_value found ≡ slice_get seq (n - 1))) where
  abbrev IsFound : Files → Type 0
  IsFound files = (seq : Sequence) → Indexes (InFiles files) reigns index seq → option_map entry_value found ≡ slice_get seq (n - 1)

  -- an index of transactions of their form hasn't so many entries
  abbrev IsOutside : Files → Type 0
  IsOutside files = (seq : Sequence) → Indexes (InFiles files) reigns index seq → AllByRecursion (λ e. IsTransaction e.transaction) seq → n ≤ length seq → ⊥

  pub is_entry : (e : Entry) → found ≡ Some e → IfSome o (λ files. (seq : Sequence) → Indexes (InFiles files) reigns index seq → slice_get seq (n - 1) ≡ Some (entry_value e))
  is_entry e is = weaker_told o IsFound (λ files. (seq : Sequence) → Indexes (InFiles files) reigns index seq → slice_get seq (n - 1) ≡ Some (entry_value e)) told
      (λ files all seq indexed. sym (all seq indexed) ∙ ap (option_map entry_value) is)

  -- one whose updates haven't their form
  pub not_formed : (e : Entry) → found ≡ Some e → (AllByRecursion IsUpdate e.transaction.updates → ⊥) → IfSome o IsOutside
  not_formed e is not_so = weaker_told o IsFound IsOutside told (λ files all seq indexed forms within.
      let here : slice_get seq (n - 1) ≡ Some (entry_value e) = sym (all seq indexed) ∙ ap (option_map entry_value) is in
      not_so (of_all (λ (x : defs.Entry). IsTransaction x.transaction) seq (n - 1) (entry_value e) forms here).each)

  -- none
  pub not_past : found ≡ None → 1 ≤ n → IfSome o IsOutside
  not_past none some = weaker_told o IsFound IsOutside told (λ files all seq indexed forms within.
      let x = there seq (n - 1) (omega (arith, some, within)) in
      let gone : None ≡ Some x.0 = ap (option_map entry_value) (sym none) ∙ all seq indexed ∙ x.1 in
      cc)
