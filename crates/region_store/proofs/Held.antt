-- A region's blocks against an epoch and the file, when they are read and when they change.
use Rattle.std.proofs.Common.{◌≡◌, ℕ, List, [], Bool, map, max, is_some, false, sym, ap, subst, ◌∙◌, arith, get_or, length}
use Rattle.journal_defs.specs.Epochs.{Chosen, block_of}
use Rattle.journal_defs.specs.Leaves.{Leaf, IsBlock}
use Rattle.block_pool.specs.Code.{Pool}
use Rattle.before_image.specs.Images.{is_free, Knows}
use Rattle.before_image.specs.Undoing.{Oldest, Undoes}
use Rattle.before_image.proofs.OldestImages.{knows_undone}
use Rattle.gvt_leaf.specs.Clean.{KeepsClean}
use Rattle.region_store.specs.Laid.{AreLaid}
use Rattle.region_store.specs.Region.{Standing, HoldsRegion, IsChanged}

pub opened : (e : Chosen) (file : List ℕ) (p : Pool) (us : Oldest) (s : Standing) → AreLaid e file p (max 1 e.blocks) → Undoes us e → s.pool.leaves ≡ p.leaves → s.pool.dirty ≡ p.dirty → s.imaged ≡ map is_some us → HoldsRegion e file s
opened e file p us s were u leaves dirty imaged = record {
  clean = λ b low h. subst (λ (ls : List Leaf). IsBlock (block_of file b) (get_or ls b (record { next = 0; cells = [] }))) (sym leaves)
      (were.clean b (omega (arith, low, ap length leaves, were.count)) (ap (λ (ds : List Bool). get_or ds b false) (sym dirty) ∙ h));
  blocks = omega (arith, ap length leaves, were.count);
  knows = knows;
  whole = λ b low free. were.whole b (omega (arith, low)) low (knows.others b low free);
}
  where
    knows : Knows s.imaged e
    knows = subst (λ (ms : List Bool). Knows ms e) (sym imaged) (knows_undone us e u)

pub applied : (e : Chosen) (bytes : List ℕ) (s t : Standing) → KeepsClean s.pool t.pool → t.imaged ≡ s.imaged → HoldsRegion e bytes s → HoldsRegion e bytes t
applied e bytes s t keeps imaged h = record {
  clean = λ b low is.
      let still = keeps.clean b low is in
      subst (λ (l : Leaf). IsBlock (block_of bytes b) l) (sym still.same) (h.clean b still.there still.clean);
  blocks = omega (arith, h.blocks, keeps.grows);
  knows = subst (λ (ms : List Bool). Knows ms e) (sym imaged) h.knows;
  whole = λ b low free. h.whole b low (ap (λ (ms : List Bool). is_free ms b) (sym imaged) ∙ free);
}

-- a change of the blocks that marks what it changes
pub changed_is : (s t : Standing) → KeepsClean s.pool t.pool → t.file ≡ s.file → t.imaged ≡ s.imaged → IsChanged s t
changed_is s t keeps file imaged = record { file = file; imaged = imaged; holds = λ e bytes h. applied e bytes s t keeps imaged h }
