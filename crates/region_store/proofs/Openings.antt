-- A region that is opened.
use Rattle.std.proofs.Common.{◌≡◌, ℕ, ◌*◌, List, map, max, fold, Option, is_some}
use Rattle.std.specs.Prelude.{IfSome}
use Rattle.disk_defs.specs.Disk.{Files}
use Rattle.disk_defs.proofs.Told.{weaker_told}
use Rattle.global_defs.specs.Entry.{Globals, Update, apply}
use Rattle.journal_defs.specs.Epochs.{Chosen, image_state, block_of}
use Rattle.journal_defs.specs.Sound.{Restores}
use Rattle.site_defs.specs.OutsideBlocks.{IsOutsideAt}
use Rattle.block_laws.specs.Nodes.{HaveKeys}
use Rattle.block_pool.specs.Code.{Pool}
use Rattle.before_image.specs.Undoing.{Oldest, Undoes}
use Rattle.gvt_leaf.specs.Clean.{KeepsClean}
use Rattle.jnl_record.specs.declared.placed.PlacedRecord.{PlacedRecord}
use Rattle.region_store.specs.Laid.{epoch_at, AreLaid}
use Rattle.region_store.specs.Region.{Standing, HoldsRegion, IsReplayed}
use Rattle.region_store.proofs.Held.{opened, applied}

module _ (o : Option Files) (us : Oldest) (f blocks : ℕ) (behind : List PlacedRecord) (undone : (number : ℕ) → Undoes us (epoch_at number blocks behind)) where
  -- its blocks are the epoch's and the file's
  pub open_holds : (p : Pool) (s t : Standing) → IfSome o (λ files. (e : Chosen) → Undoes us e → AreLaid e (files f) p (max 1 blocks)) → s.pool.leaves ≡ p.leaves → s.pool.dirty ≡ p.dirty → s.imaged ≡ map is_some us
      → KeepsClean s.pool t.pool → t.imaged ≡ s.imaged → IfSome o (λ files. (number : ℕ) → HoldsRegion (epoch_at number blocks behind) (files f) t)
  open_holds p s t told leaves dirty imaged keeps same =
      weaker_told o (λ files. (e : Chosen) → Undoes us e → AreLaid e (files f) p (max 1 blocks)) (λ files. (number : ℕ) → HoldsRegion (epoch_at number blocks behind) (files f) t) told
      (λ files is number. let e = epoch_at number blocks behind in applied e (files f) s t keeps same (opened e (files f) p us s (is e (undone number)) (undone number) leaves dirty imaged))

  -- its globals are those of the epoch's blocks with the updates
  pub open_globals : (p : Pool) (g h : Globals) (ups : List Update) → IfSome o (λ files. (e : Chosen) → Undoes us e → AreLaid e (files f) p (max 1 blocks))
      → ((e : Chosen) (bytes : List ℕ) → AreLaid e bytes p (max 1 e.blocks) → Restores (image_state e (block_of bytes)) g) → HaveKeys g → h ≡ fold apply g ups
      → IfSome o (λ files. (number : ℕ) → IsReplayed (image_state (epoch_at number blocks behind) (block_of (files f))) ups h)
  open_globals p g h ups told restores keys made =
      weaker_told o (λ files. (e : Chosen) → Undoes us e → AreLaid e (files f) p (max 1 blocks)) (λ files. (number : ℕ) → IsReplayed (image_state (epoch_at number blocks behind) (block_of (files f))) ups h) told
      (λ files is number. record { restored = g; keys = keys; restores = restores (epoch_at number blocks behind) (files f) (is (epoch_at number blocks behind) (undone number)); made = made })

  -- a block that was read is outside the format
  pub read_outside : (offset : ℕ) → IfSome o (λ files. (e : Chosen) → Undoes us e → (b : ℕ) × (offset ≡ 4096 * b) × IsOutsideAt (image_state e (block_of (files f))) b)
      → IfSome o (λ files. (number : ℕ) → (b : ℕ) × (offset ≡ 4096 * b) × IsOutsideAt (image_state (epoch_at number blocks behind) (block_of (files f))) b)
  read_outside offset told =
      weaker_told o (λ files. (e : Chosen) → Undoes us e → (b : ℕ) × (offset ≡ 4096 * b) × IsOutsideAt (image_state e (block_of (files f))) b)
      (λ files. (number : ℕ) → (b : ℕ) × (offset ≡ 4096 * b) × IsOutsideAt (image_state (epoch_at number blocks behind) (block_of (files f))) b) told (λ files is number. is (epoch_at number blocks behind) (undone number))

  -- the chain of the blocks that were read breaks
  pub chain_outside : (offset : ℕ) (p : Pool) → IfSome o (λ files. (e : Chosen) → Undoes us e → AreLaid e (files f) p (max 1 blocks))
      → ((e : Chosen) (bytes : List ℕ) → AreLaid e bytes p (max 1 e.blocks) → (b : ℕ) × (offset ≡ 4096 * b) × IsOutsideAt (image_state e (block_of bytes)) b)
      → IfSome o (λ files. (number : ℕ) → (b : ℕ) × (offset ≡ 4096 * b) × IsOutsideAt (image_state (epoch_at number blocks behind) (block_of (files f))) b)
  chain_outside offset p told breaks =
      weaker_told o (λ files. (e : Chosen) → Undoes us e → AreLaid e (files f) p (max 1 blocks))
      (λ files. (number : ℕ) → (b : ℕ) × (offset ≡ 4096 * b) × IsOutsideAt (image_state (epoch_at number blocks behind) (block_of (files f))) b) told
      (λ files is number. breaks (epoch_at number blocks behind) (files f) (is (epoch_at number blocks behind) (undone number)))
