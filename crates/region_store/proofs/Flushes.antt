-- Blocks that are written out, and what the file has of the region then.
use Rattle.std.proofs.Common.{◌≡◌, ◌⊎◌, inl, inr, ⊎_elim, ℕ, zero, suc, ◌+◌, ◌*◌, ◌≤◌, true, false, List, length, drop, replicate, Option, Some, refl, sym, ap, subst, ◌∙◌, arith, get_or}
use Rattle.std.specs.Prelude.{IfSome}
use Rattle.std.proofs.lemmas.Bool.{cases_lt}
use Rattle.std.proofs.lemmas.List.{length-take, length-drop}
use Rattle.disk_defs.specs.Disk.{Files, View, Image, From, OnFile, AtEachMoment, ReadsAfter}
use Rattle.disk_defs.proofs.Told.{weaker_told, both_weak, told_at, reads_after}
use Rattle.disk_defs.proofs.Moments.{weaker}
use Rattle.disk_defs.proofs.Frames.{reads_weaker}
use Rattle.global_defs.specs.Entry.{Globals}
use Rattle.journal_defs.specs.Journal.{Mark}
use Rattle.journal_defs.specs.Epochs.{Chosen, image_state, block_of}
use Rattle.journal_defs.specs.Leaves.{IsBlock, StandsAt, Decodes, spelled_leaf}
use Rattle.journal_defs.specs.Undo.{fresh}
use Rattle.journal_defs.specs.Sound.{AreWhole, Restores}
use Rattle.block_laws.proofs.Chains.{block_is_whole}
use Rattle.block_laws.proofs.Found.{walk}
use Rattle.block_pool.specs.Code.{Pool}
use Rattle.block_pool.specs.Pool.{leaf_at, is_dirty, AllStand, ChangesDirty}
use Rattle.block_pool.proofs.Written.{block_inside}
use Rattle.before_image.specs.Images.{is_free, Knows}
use Rattle.before_image.proofs.Marks.{no_both, knows_fresh, may_change}
use Rattle.gvt_leaf.specs.Stored.{blocks_in}
use Rattle.region_store.specs.Region.{Standing, HoldsRegion, AreLogged, IsFlushed, IsCutShort, flushed, with_marks}
use Rattle.region_store.proofs.Stood.{block_there, none_there, not_both, same_bytes, state_past}
use Rattle.before_image.proofs.OldestImages.{state_inside}

-- ---- no block has changed

none_dirty : (n b : ℕ) → get_or (replicate n false) b false ≡ false
none_dirty zero b = refl
none_dirty (suc n) zero = refl
none_dirty (suc n) (suc b) = none_dirty n b

pub is_flushed : (s : Standing) → IsFlushed (flushed s)
is_flushed s b = none_dirty (length s.pool.leaves) b

pub clean_logged : (s : Standing) → IsFlushed s → AreLogged s
clean_logged s clean b is = absurd (no_both (is_dirty s.pool b) is (clean b))

-- ---- what is written

-- blocks that were dirty have other bytes, and each of them may be written
cut_short : (s : Standing) (old new : List ℕ) → AreLogged s → ChangesDirty s.pool old new → IsCutShort s old new
cut_short s old new log changes = record {
  changed = changes;
  may = λ e knows. may_change s.imaged e (block_of old) (block_of new) knows (λ b. ⊎_elim (λ is. inl (log b is)) (λ same. inr same) (changes b));
}

cut_file : (s : Standing) → AreLogged s → (a b : Files) → OnFile s.file (ChangesDirty s.pool) a b → OnFile s.file (IsCutShort s) a b
cut_file s log a b on = record { here = cut_short s (a s.file) (b s.file) log on.here; others = on.others }

pub cut_reads : (o n : Option Files) (s : Standing) → AreLogged s → ReadsAfter (OnFile s.file (ChangesDirty s.pool)) o n → ReadsAfter (OnFile s.file (IsCutShort s)) o n
cut_reads o n s log after = reads_weaker o n (OnFile s.file (ChangesDirty s.pool)) (OnFile s.file (IsCutShort s)) (cut_file s log) after

pub cut_moments : (v w : View) (s : Standing) → AreLogged s → AtEachMoment v w (From (Image v) (OnFile s.file (ChangesDirty s.pool))) → AtEachMoment v w (From (Image v) (OnFile s.file (IsCutShort s)))
cut_moments v w s log run = weaker v w (From (Image v) (OnFile s.file (ChangesDirty s.pool))) (From (Image v) (OnFile s.file (IsCutShort s))) (λ c from. (from.0, from.1, cut_file s log from.0 c from.2)) run

whole_block : (file : List ℕ) (b : ℕ) → 4096 * b + 4096 ≤ length file → length (block_of file b) ≡ 4096
whole_block file b whole = omega (arith, whole, length-take 4096 (drop (4096 * b) file), length-drop (4096 * b) file)

whole_then : (old new : List ℕ) (b : ℕ) → 4096 * b + 4096 ≤ length old → block_of new b ≡ block_of old b → 4096 * b + 4096 ≤ length new
whole_then old new b whole same = block_inside new b (ap length same ∙ whole_block old b whole)

-- the region is still the file's after some of its changed blocks were written
wrote : (e : Chosen) (old new : List ℕ) (s : Standing) → AreLogged s → HoldsRegion e old s → ChangesDirty s.pool old new → HoldsRegion e new s
wrote e old new s log h changes = record {
  clean = λ b low is. subst (λ (x : List ℕ). IsBlock x (leaf_at s.pool b)) (sym (same_clean b is (changes b))) (h.clean b low is);
  blocks = h.blocks;
  knows = h.knows;
  whole = λ b low free. whole_then old new b (h.whole b low free) (same_taken b free (changes b));
}
  where
    same_clean : (b : ℕ) → is_dirty s.pool b ≡ false → (is_dirty s.pool b ≡ true) ⊎ (block_of new b ≡ block_of old b) → block_of new b ≡ block_of old b
    same_clean b is (inl dirty) = absurd (no_both (is_dirty s.pool b) dirty is)
    same_clean b is (inr same) = same

    same_taken : (b : ℕ) → is_free s.imaged b ≡ false → (is_dirty s.pool b ≡ true) ⊎ (block_of new b ≡ block_of old b) → block_of new b ≡ block_of old b
    same_taken b free (inl dirty) = absurd (no_both (is_free s.imaged b) (log b dirty) free)
    same_taken b free (inr same) = same

-- and with no changed block once all were
wrote_all : (e : Chosen) (bytes : List ℕ) (s : Standing) → HoldsRegion e bytes s → AllStand s.pool bytes → HoldsRegion e bytes (flushed s)
wrote_all e bytes s h all = record {
  clean = λ b low is. all b low;
  blocks = h.blocks;
  knows = h.knows;
  whole = h.whole;
}

pub holds_cut : (o n : Option Files) (s : Standing) (e : Chosen) → AreLogged s → ReadsAfter (OnFile s.file (ChangesDirty s.pool)) o n → IfSome o (λ files. HoldsRegion e (files s.file) s) → IfSome n (λ files. HoldsRegion e (files s.file) s)
holds_cut o n s e log after held = reads_after o n (OnFile s.file (ChangesDirty s.pool)) (λ files. HoldsRegion e (files s.file) s) (λ files. HoldsRegion e (files s.file) s) after held (λ a b h on. wrote e (a s.file) (b s.file) s log h on.here)

pub holds_all : (o n : Option Files) (s : Standing) (e : Chosen) → AreLogged s → ReadsAfter (OnFile s.file (ChangesDirty s.pool)) o n → IfSome n (λ files. AllStand s.pool (files s.file)) → IfSome o (λ files. HoldsRegion e (files s.file) s)
    → IfSome n (λ files. HoldsRegion e (files s.file) (flushed s))
holds_all o n s e log after stand held =
    both_weak n (λ files. HoldsRegion e (files s.file) s) (λ files. AllStand s.pool (files s.file)) (λ files. HoldsRegion e (files s.file) (flushed s)) (holds_cut o n s e log after held) stand
    (λ files h all. wrote_all e (files s.file) s h all)

-- ---- behind the EPOCH

-- a block that decodes is there
some_there : (p : Pool) (g : Globals) → Decodes (blocks_in p.leaves) g → 1 ≤ length p.leaves
some_there p g d = elim (cases_lt 0 (length p.leaves)) [
  | inl low ↦ omega (arith, low)
  | inr none ↦
      let w = walk (blocks_in p.leaves) 0 d.0 d.1 in
      let s : StandsAt (blocks_in p.leaves) 0 w.0 = w.3 in
      absurd (not_both (blocks_in p.leaves 0) s.0 (none_there p 0 none) s.1)
]

-- where all blocks stand on the file, those below an EPOCH that counts them are the pool's
same_blocks : (p : Pool) (m : Mark) (bytes : List ℕ) → AllStand p bytes → m.blocks ≡ length p.leaves → 1 ≤ length p.leaves → (b : ℕ) → image_state (fresh m) (block_of bytes) b ≡ blocks_in p.leaves b
same_blocks p m bytes all count some b = elim (cases_lt b (length p.leaves)) [
  | inl low ↦ state_inside (fresh m) (block_of bytes) b (omega (arith, low, count)) ∙ ap (λ (x : List ℕ). Some x) (all b low).spelled ∙ sym (block_there p b low)
  | inr far ↦ state_past (fresh m) (block_of bytes) b (omega (arith, far, count)) (omega (arith, far, some)) ∙ sym (none_there p b far)
]

whole_there : (p : Pool) (bytes : List ℕ) → AllStand p bytes → AreWhole (blocks_in p.leaves)
whole_there p bytes all b x is = elim (cases_lt b (length p.leaves)) [
  | inl low ↦
      let same : x ≡ block_of bytes b = same_bytes (blocks_in p.leaves b) x (spelled_leaf (leaf_at p b)) is (block_there p b low) ∙ sym (all b low).spelled in
      ap length same ∙ block_is_whole (block_of bytes b) (leaf_at p b) (all b low)
  | inr far ↦ absurd (not_both (blocks_in p.leaves b) x (none_there p b far) is)
]

-- and they restore the globals to which the pool's decode
flushed_restores : (p : Pool) (m : Mark) (bytes : List ℕ) (g : Globals) → AllStand p bytes → m.blocks ≡ length p.leaves → Decodes (blocks_in p.leaves) g → Restores (image_state (fresh m) (block_of bytes)) g
flushed_restores p m bytes g all count d =
    let same : image_state (fresh m) (block_of bytes) ≡ blocks_in p.leaves = λ i b. same_blocks p m bytes all count (some_there p g d) b i in
    subst (λ (bs : ℕ → Option (List ℕ)). Restores bs g) (sym same) (whole_there p bytes all, d)

pub restored : (n : Option Files) (s : Standing) → IfSome n (λ files. AllStand s.pool (files s.file)) → Decodes (blocks_in s.pool.leaves) s.globals
    → IfSome n (λ files. (m : Mark) → m.blocks ≡ length s.pool.leaves → Restores (image_state (fresh m) (block_of (files s.file))) s.globals)
restored n s stand d =
    weaker_told n (λ files. AllStand s.pool (files s.file)) (λ files. (m : Mark) → m.blocks ≡ length s.pool.leaves → Restores (image_state (fresh m) (block_of (files s.file))) s.globals) stand
    (λ files all m count. flushed_restores s.pool m (files s.file) s.globals all count d)

-- the region is the EPOCH's
pub begun : (e : Chosen) (bytes : List ℕ) (m : Mark) (s : Standing) → IsFlushed s → m.blocks ≡ length s.pool.leaves → HoldsRegion e bytes s → HoldsRegion (fresh m) bytes (with_marks s (replicate (length s.pool.leaves) false))
begun e bytes m s clean count h = record {
  clean = h.clean;
  blocks = omega (arith, count);
  knows = subst (λ (n : ℕ). Knows (replicate n false) (fresh m)) count (knows_fresh m);
  whole = λ b low free.
      let is : IsBlock (block_of bytes b) (leaf_at s.pool b) = h.clean b (omega (arith, low, count)) (clean b) in
      block_inside bytes b (block_is_whole (block_of bytes b) (leaf_at s.pool b) is);
}

-- ---- the region behind a call

-- it is as it was, and the file's
pub still_holds : (o n : Option Files) (s t : Standing) (e : Chosen) → t ≡ s → AreLogged s → ReadsAfter (OnFile s.file (ChangesDirty s.pool)) o n → IfSome o (λ files. HoldsRegion e (files s.file) s)
    → IfSome n (λ files. HoldsRegion e (files s.file) t)
still_holds o n s t e same log after held = subst (λ (x : Standing). IfSome n (λ files. HoldsRegion e (files s.file) x)) (sym same) (holds_cut o n s e log after held)

-- all its blocks stand on the file
pub flushed_holds : (o m n : Option Files) (s t : Standing) (e : Chosen) → t ≡ flushed s → n ≡ m → AreLogged s → ReadsAfter (OnFile s.file (ChangesDirty s.pool)) o m → IfSome m (λ files. AllStand s.pool (files s.file))
    → IfSome o (λ files. HoldsRegion e (files s.file) s) → IfSome n (λ files. HoldsRegion e (files s.file) t)
flushed_holds o m n s t e same content log after stand held =
    told_at n m (λ files. HoldsRegion e (files s.file) t) (sym content)
    (subst (λ (x : Standing). IfSome m (λ files. HoldsRegion e (files s.file) x)) (sym same) (holds_all o m s e log after stand held))
