-- What holds of a region over the records that are kept holds over all its records.
use Rattle.std.proofs.Common.{◌≡◌, ◌⊎◌, inl, inr, ℕ, ◌<◌, ◌≤◌, List, Option, None, length, sym, ◌∙◌, ap, subst}
use Rattle.std.specs.Prelude.{IsSome, take}
use Rattle.disk_defs.specs.Disk.{Files}
use Rattle.global_defs.specs.Entry.{Globals, Sequence}
use Rattle.journal_defs.specs.Numbers.{database_file}
use Rattle.journal_defs.specs.Instance.{InstanceRecord}
use Rattle.journal_defs.specs.Directory.{patterns}
use Rattle.journal_defs.specs.Sequence.{Placed}
use Rattle.journal_defs.specs.Epochs.{Blocks, Chosen, chosen, image_state, block_of, NeedsForward}
use Rattle.journal_defs.specs.Sound.{Restores, IsSound, region_state}
use Rattle.region_store.specs.Region.{Standing, HoldsRegion}
use Rattle.site_defs.specs.OutsideBlocks.{IsOutsideAt, AreOutside}
use Rattle.entry_index.specs.Thinned.{IsThinned}
use Rattle.region_opening.specs.Opening.{blocks_of, IsInside, IsHeldFrom, IsOpened, IsRefused, AreRefused}
use Rattle.region_opening.proofs.Thinning.{IsSameEpoch, chosen_same, image_same, state_same, forward_same}

-- a region's blocks against an epoch and the database file
holds_same : (instance : List InstanceRecord) (t n : ℕ) (whole kept : Chosen) (bytes : List ℕ) (s : Standing) → IsSameEpoch instance t n whole kept → HoldsRegion kept bytes s → HoldsRegion whole bytes s
holds_same instance t n whole kept bytes s same holds =
    let image = λ (b : ℕ). image_same instance t n b None whole.after kept.after same.last same.after in
    let low = λ (b : ℕ) (is : b < whole.blocks). subst (λ (k : ℕ). b < k) (sym same.blocks) is in
    record {
      clean = holds.clean;
      blocks = subst (λ (k : ℕ). k ≤ length s.pool.leaves) same.blocks holds.blocks;
      knows = record {
        blocks = holds.knows.blocks ∙ same.blocks;
        imaged = λ b is marked. subst (λ (o : Option (List ℕ)). IsSome o) (image b) (holds.knows.imaged b (low b is) marked);
        others = λ b is unmarked. sym (image b) ∙ holds.knows.others b (low b is) unmarked;
      };
      whole = λ b is. holds.whole b (low b is);
    }

module _ (instance : List InstanceRecord) (t n : ℕ) (js ks : List Placed) (thin : IsThinned instance t n None js ks) where
  -- the epoch that is chosen over all records, and over those that are kept
  abbrev whole : Chosen
  whole = chosen instance t js

  abbrev kept : Chosen
  kept = chosen instance t ks

  same : IsSameEpoch instance t n whole kept
  same = chosen_same instance t n js ks thin

  needs : NeedsForward instance t ks → NeedsForward instance t js
  needs = subst (λ (o : Option ℕ). IsSome o) (forward_same instance t n js ks thin)

  needs_back : NeedsForward instance t js → NeedsForward instance t ks
  needs_back = subst (λ (o : Option ℕ). IsSome o) (sym (forward_same instance t n js ks thin))

  module _ (r : ℕ) (files : Files) where
    abbrev database : Blocks
    database = block_of (files (database_file r))

    blocks_same : blocks_of instance t ks r files ≡ blocks_of instance t js r files
    blocks_same = state_same instance t n whole kept database same

    pub inside_whole : IsInside instance t ks r files → IsInside instance t js r files
    inside_whole (inl forward) = inl (needs forward)
    inside_whole (inr inside) = inr (λ b out. inside b (subst (λ (f : ℕ → Option (List ℕ)). IsOutsideAt f b) (sym blocks_same) out))

    held_whole : (s : Standing) → IsHeldFrom instance t ks r s files → IsHeldFrom instance t js r s files
    held_whole s (inl forward) = inl (needs forward)
    held_whole s (inr holds) = inr (holds_same instance t n whole kept (files (database_file r)) s same holds)

    sound_kept : (of : Sequence → Globals) (seq : Sequence) → IsSound of instance seq js database t → IsSound of instance seq ks database t
    sound_kept of seq (inl forward) = inl (needs_back forward)
    sound_kept of seq (inr restores) = inr (subst (λ (k : ℕ). Restores (image_state kept database) (of (take k seq))) (sym same.number)
        (subst (λ (f : ℕ → Option (List ℕ)). Restores f (of (take whole.number seq))) (sym blocks_same) restores))

    pub opened_whole : (seq : Sequence) (s : Standing) → IsOpened instance t seq ks r s files → IsOpened instance t seq js r s files
    opened_whole seq s opened = record {
      holds = held_whole s opened.holds;
      inside = inside_whole opened.inside;
      state = λ sound. opened.state (sound_kept (region_state (patterns instance) r) seq sound);
    }

    pub refused_whole : (seq : Sequence) (f offset : ℕ) → IsRefused instance t seq ks r f offset files → IsRefused instance t seq js r f offset files
    refused_whole seq f offset refused = record {
      goes_back = λ forward. refused.goes_back (needs_back forward);
      block = refused.block;
      outside = subst (λ (k : ℕ). AreOutside (blocks_of instance t js r files) (region_state (patterns instance) r (take k seq)) refused.block) same.number
          (subst (λ (f : ℕ → Option (List ℕ)). AreOutside f (region_state (patterns instance) r (take kept.number seq)) refused.block) blocks_same refused.outside);
      file_is = refused.file_is;
      offset_is = refused.offset_is;
    }

pub all_refused_whole : (instance : List InstanceRecord) (t n : ℕ) (journal keeps : ℕ → List Placed) → ((r : ℕ) → IsThinned instance t n None (journal r) (keeps r)) → (seq : Sequence) (count f offset : ℕ) (files : Files)
    → AreRefused instance t seq keeps count f offset files → AreRefused instance t seq journal count f offset files
all_refused_whole instance t n journal keeps thin seq count f offset files all = record {
  region = all.region;
  below = all.below;
  earlier = λ q less. inside_whole instance t n (journal q) (keeps q) (thin q) q files (all.earlier q less);
  refused = refused_whole instance t n (journal all.region) (keeps all.region) (thin all.region) all.region files seq f offset all.refused;
}
