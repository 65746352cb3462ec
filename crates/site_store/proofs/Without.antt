-- Regions that need forward recovery for a target, by what signs say.
use Rattle.std.proofs.Common.{◌≡◌, ℕ, ◌≤◌, List, length, Option, Some, None, IfSome, arith}
use Rattle.disk_defs.specs.Disk.{Files}
use Rattle.journal_defs.specs.Instance.{InstanceRecord, regions}
use Rattle.journal_defs.specs.Sequence.{Placed}
use Rattle.entry_index.specs.declared.placed.PlacedSign.{PlacedSign}
use Rattle.entry_index.specs.Thinned.{AreKept}
use Rattle.entry_index.proofs.Thin.{kept_for}
use Rattle.region_opening.specs.declared.needing.WithoutImages.{WithoutImages}
use Rattle.region_opening.specs.Forward as opening
use Rattle.region_opening.specs.Signs.{AllSay}
use Rattle.region_opening.proofs.Said.{all_say}
use Rattle.site_store.specs.Needing.{IsFirstWithout, NoneIsWithout}

-- signs of the records that are kept say what these do
pub signs_say : (files : Files) (instance : List InstanceRecord) (lowest t n : ℕ) (signs : List (List PlacedSign)) (journal : ℕ → List Placed) → ((m : ℕ) → m ≤ lowest → m ≤ n → m ≤ t) → AreKept files instance lowest n signs journal
    → AllSay instance t signs journal
signs_say files instance lowest t n signs journal up_to is =
    let for = kept_for instance lowest t n up_to files signs journal is in
    record { told = n; kept = for.kept; say = all_say files signs for.kept for.are; thinned = for.thinned }

module _ (rs : List InstanceRecord) (t n : ℕ) (journal : ℕ → List Placed) (many : n ≡ length (regions rs)) where
  pub none_is : opening.NoneNeeds rs t journal n → NoneIsWithout (record { instance = rs; journal = journal }) t
  none_is none r here = none r (omega (arith, here, many))

  pub first_is : (x : WithoutImages) → opening.IsFirstWithout rs t journal n x → IsFirstWithout (record { instance = rs; journal = journal }) t x.region x.generation
  first_is x found = record {
    there = (let below = found.below in omega (arith, below, many));
    needs = found.without;
    earlier = λ q before. found.earlier q before;
  }

-- of each list of records by which P is told
pub first_told : (rs : List InstanceRecord) (t n : ℕ) → n ≡ length (regions rs) → (P Q : (ℕ → List Placed) → Type 0) → ((journal : ℕ → List Placed) → P journal → Q journal) → (o : Option WithoutImages)
    → IfSome o (λ x. (journal : ℕ → List Placed) → Q journal → opening.IsFirstWithout rs t journal n x) → IfSome o (λ x. (journal : ℕ → List Placed) → P journal → IsFirstWithout (record { instance = rs; journal = journal }) t x.region x.generation)
first_told rs t n many P Q more None first = tt
first_told rs t n many P Q more (Some x) first = λ journal p. first_is rs t n journal many x (first journal (more journal p))
