-- Regions that are looked through for one that needs forward recovery.
use Rattle.std.proofs.Common.{◌≡◌, ℕ, ◌+◌, ◌<◌, Bool, true, false, List, Option, None, Some, is_some, refl, sym, ◌∙◌, ap, subst, arith}
use Rattle.std.specs.Prelude.{nat_lt}
use Rattle.std.proofs.lemmas.Bool.Decides.{nat_tests}
use Rattle.journal_defs.specs.Instance.{InstanceRecord}
use Rattle.journal_defs.specs.Sequence.{Placed}
use Rattle.journal_defs.specs.Epochs.{chosen, first_without, NeedsForward}
use Rattle.entry_index.specs.declared.placed.PlacedSign.{PlacedSign}
use Rattle.entry_index.specs.Signs.{signs_of}
use Rattle.region_opening.specs.Signs.{Say, AllTell, AllSay}
use Rattle.region_opening.specs.declared.needing.WithoutImages.{WithoutImages}
use Rattle.region_opening.specs.Forward.{NoneNeeds, IsFirstWithout}
use Rattle.region_opening.proofs.Thinning.{forward_same}

module _ (instance : List InstanceRecord) (t : ℕ) where
  pub none_yet : (journal : ℕ → List Placed) → NoneNeeds instance t journal 0
  none_yet journal r low = absurd (omega (arith, low))

  -- what is found of these records
  abbrev in_these : List Placed → Option ℕ
  in_these ps = first_without ps (chosen instance t ps)

  -- where nothing is found of the next region either
  pub none_more : (signs : List (List PlacedSign)) (n : ℕ) (ss : List PlacedSign) (o : Option ℕ) → ((journal : ℕ → List Placed) → AllTell signs journal → NoneNeeds instance t journal n) → ss ≡ signs_of signs n
      → ((js : List Placed) → Say ss js → o ≡ first_without js (chosen instance t js)) → o ≡ None → (journal : ℕ → List Placed) → AllTell signs journal → NoneNeeds instance t journal (n + 1)
  none_more signs n ss o before is found none journal say r low = by (nat_lt r n) refl
    where
      by : (b : Bool) → nat_lt r n ≡ b → in_these (journal r) ≡ None
      by true less = before journal say r (grind (arith, nat_tests, less))
      by false not_less =
          let same : r ≡ n = grind (arith, nat_tests, not_less, low) in
          ap (λ (k : ℕ). in_these (journal k)) same ∙ sym (found (journal n) (subst (λ (xs : List PlacedSign). Say xs (journal n)) (sym is) (say n))) ∙ none

  -- a region of which nothing is found goes back to the epoch that it has chosen
  pub goes_back : (journal : ℕ → List Placed) (n : ℕ) → NoneNeeds instance t journal n → (r : ℕ) → r < n → NeedsForward instance t (journal r) → ⊥
  goes_back journal n none r low needs = let no : true ≡ false = sym needs ∙ ap is_some (none r low) in cc

  -- and one that is found needs forward recovery
  pub needs_forward : (journal : ℕ → List Placed) (n : ℕ) (x : WithoutImages) → IsFirstWithout instance t journal n x → NeedsForward instance t (journal x.region)
  needs_forward journal n x found = ap is_some found.without

  -- the first one that is found
  pub found_first : (signs : List (List PlacedSign)) (n many : ℕ) (ss : List PlacedSign) (o : Option ℕ) (x : WithoutImages) → n < many → x.region ≡ n → ((journal : ℕ → List Placed) → AllTell signs journal → NoneNeeds instance t journal n) → ss ≡ signs_of signs n
      → ((js : List Placed) → Say ss js → o ≡ first_without js (chosen instance t js)) → o ≡ Some x.generation → (journal : ℕ → List Placed) → AllTell signs journal → IsFirstWithout instance t journal many x
  found_first signs n many ss o x low at before is found some journal say = record {
    below = omega (arith, at, low);
    without = ap (λ (k : ℕ). in_these (journal k)) at ∙ sym (found (journal n) (subst (λ (xs : List PlacedSign). Say xs (journal n)) (sym is) (say n))) ∙ some;
    earlier = λ r less. before journal say r (omega (arith, less, at));
  }

  -- what is told of the records that are kept is so of all
  pub none_whole : (signs : List (List PlacedSign)) (n : ℕ) → ((journal : ℕ → List Placed) → AllTell signs journal → NoneNeeds instance t journal n) → (journal : ℕ → List Placed) → AllSay instance t signs journal → NoneNeeds instance t journal n
  none_whole signs n none journal say r low = sym (forward_same instance t say.told (journal r) (say.kept r) (say.thinned r)) ∙ none say.kept say.say r low

  pub first_whole : (signs : List (List PlacedSign)) (n : ℕ) (x : WithoutImages) → ((journal : ℕ → List Placed) → AllTell signs journal → IsFirstWithout instance t journal n x) → (journal : ℕ → List Placed) → AllSay instance t signs journal
      → IsFirstWithout instance t journal n x
  first_whole signs n x found journal say =
      let first = found say.kept say.say in
      record {
        below = first.below;
        without = sym (forward_same instance t say.told (journal x.region) (say.kept x.region) (say.thinned x.region)) ∙ first.without;
        earlier = λ r low. sym (forward_same instance t say.told (journal r) (say.kept r) (say.thinned r)) ∙ first.earlier r low;
      }
