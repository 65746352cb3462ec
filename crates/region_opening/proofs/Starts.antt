-- From where a region is opened.
use Rattle.std.proofs.Common.{◌≡◌, ℕ, true, false, List, [], length, drop, is_some, Option, sym, ◌∙◌, ap, subst, arith}
use Rattle.std.proofs.lemmas.List.{drop_all}
use Rattle.journal_defs.specs.Instance.{InstanceRecord}
use Rattle.journal_defs.specs.Sequence.{Placed}
use Rattle.journal_defs.specs.Epochs.{Chosen, chosen, first_without}
use Rattle.jnl_file.proofs.Zips.{zip_length}
use Rattle.entry_index.specs.declared.placed.PlacedSign.{PlacedSign}
use Rattle.region_opening.specs.declared.epoch.EpochAt.{EpochAt}
use Rattle.region_opening.specs.Epochs.{chosen_at}
use Rattle.region_opening.specs.Signs.{Says, Say}
use Rattle.region_opening.specs.Opening.{IsStart, Anew, GoesBack}

module _ (instance : List InstanceRecord) (t : ℕ) (signs : List PlacedSign) (e : EpochAt) (found : Option ℕ) (is : (journal : List Placed) → Say signs journal → chosen instance t journal ≡ chosen_at e journal)
    (first : (journal : List Placed) → Say signs journal → found ≡ first_without journal (chosen_at e journal)) where
  same : (journal : List Placed) → Say signs journal → is_some (first_without journal (chosen instance t journal)) ≡ is_some found
  same journal say = ap is_some (ap (first_without journal) (is journal say) ∙ sym (first journal say))

  pub starts_anew : (a : EpochAt) → a.number ≡ 0 → a.blocks ≡ 0 → a.after ≡ length signs → is_some found ≡ true → (journal : List Placed) → Say signs journal → IsStart instance t journal (chosen_at a journal)
  starts_anew a number blocks after some journal say = Anew (same journal say ∙ some) (λ i. record { number = number i; blocks = blocks i; after = nothing_behind i })
    where
      nothing_behind : drop a.after journal ≡ []
      nothing_behind = let many : length signs ≡ length journal = zip_length Says signs journal say in drop_all a.after journal (omega (arith, many, after))

  pub goes_back : is_some found ≡ false → (journal : List Placed) → Say signs journal → IsStart instance t journal (chosen_at e journal)
  goes_back none journal say = GoesBack (λ needs. let no : true ≡ false = sym needs ∙ same journal say ∙ none in cc) (sym (is journal say))

-- without a record it's before all entries
pub first_start : (instance : List InstanceRecord) (t : ℕ) (signs : List PlacedSign) (e : EpochAt) → ((journal : List Placed) → Say signs journal → IsStart instance t journal (chosen_at e journal)) → signs ≡ [] → e.number ≡ 0
first_start instance t signs e start none = by (start [] (said none))
  where
    said : signs ≡ [] → Say signs []
    said is = subst (λ (ss : List PlacedSign). Say ss []) (sym is) tt

    by : IsStart instance t [] (chosen_at e []) → e.number ≡ 0
    by (Anew forward is) = ap (λ (x : Chosen). x.number) is
    by (GoesBack back is) = ap (λ (x : Chosen). x.number) is
