-- Blocks that are laid into a pool, and what they decode to.
use Rattle.std.proofs.Common.{◌≡◌, ◌≢◌, ◌⊎◌, inl, inr, ⊎_elim, ℕ, ◌+◌, ◌*◌, ◌<◌, ◌≤◌, Bool, false, List, [], ◌∷◌, ◌++◌, length, max, Option, Some, None, refl, sym, ap, subst, ◌∙◌, arith, length-append, get_or}
use Rattle.std.proofs.lemmas.Bool.{cases_lt}
use Rattle.std.proofs.lemmas.List.{get_or_append_left}
use Rattle.std.proofs.Math.Seq.{get_or-append_seam}
use Rattle.std.specs.List.{AllByRecursion}
use Rattle.global_defs.specs.Entry.{Globals}
use Rattle.journal_defs.specs.Epochs.{Chosen, image_of, image_state, block_of}
use Rattle.journal_defs.specs.Leaves.{Leaf, IsLeaf, IsBlock, StandsAt, IsChain, HaveCells, Decodes, spelled_leaf}
use Rattle.journal_defs.specs.Sound.{AreWhole, Restores}
use Rattle.journal_laws.proofs.BlockReading as reading
use Rattle.block_fmt.specs.Cells.{blank}
use Rattle.block_pool.specs.Code.{Pool}
use Rattle.block_pool.specs.Pool.{leaf_at, is_dirty, IsAdded}
use Rattle.gvt_leaf.specs.Stored.{blocks_in}
use Rattle.region_store.specs.Laid.{IsBlank, IsLaid, AreLaid}
use Rattle.region_store.proofs.Stood.{block_there, none_there, not_both, same_bytes, state_past}

pub none_laid : (e : Chosen) (file : List ℕ) (p : Pool) → length p.leaves ≡ 0 → length p.dirty ≡ 0 → AreLaid e file p 0
none_laid e file p leaves dirty = record {
  count = leaves;
  marks = dirty;
  laid = λ b low. absurd (omega (arith, low));
  clean = λ b low h. absurd (omega (arith, low));
  whole = λ b low inside none. absurd (omega (arith, low));
}

module _ (e : Chosen) (file : List ℕ) (p q : Pool) (n : ℕ) (l : Leaf) (d : Bool) (added : IsAdded p q l d) (were : AreLaid e file p n) where
  leaf_before : (b : ℕ) → b < n → leaf_at q b ≡ leaf_at p b
  leaf_before b low = ap (λ (ls : List Leaf). get_or ls b blank) added.leaves ∙ get_or_append_left p.leaves (l ∷ []) blank b (omega (arith, low, were.count))

  mark_before : (b : ℕ) → b < n → is_dirty q b ≡ is_dirty p b
  mark_before b low = ap (λ (ds : List Bool). get_or ds b false) added.dirty ∙ get_or_append_left p.dirty (d ∷ []) false b (omega (arith, low, were.marks))

  leaf_here : leaf_at q n ≡ l
  leaf_here = ap (λ (ls : List Leaf). get_or ls n blank) added.leaves ∙ ap (λ (k : ℕ). get_or (p.leaves ++ l ∷ []) k blank) (sym were.count) ∙ get_or-append_seam p.leaves l [] blank

  mark_here : is_dirty q n ≡ d
  mark_here = ap (λ (ds : List Bool). get_or ds n false) added.dirty ∙ ap (λ (k : ℕ). get_or (p.dirty ++ d ∷ []) k false) (sym were.marks) ∙ get_or-append_seam p.dirty d [] false

  laid_before : (b : ℕ) → b < n → IsLaid (image_state e (block_of file)) q b
  laid_before b low =
      let was : IsLaid (image_state e (block_of file)) p b = were.laid b low in
      record {
        bytes = was.bytes;
        there = was.there;
        whole = was.whole;
        stands = subst (λ (m : Leaf). IsBlock was.bytes m ⊎ IsBlank was.bytes b m) (sym (leaf_before b low)) was.stands;
      }

  -- a block more is laid
  pub laid_more : (bytes : List ℕ) → image_state e (block_of file) n ≡ Some bytes → length bytes ≡ 4096 → IsBlock bytes l ⊎ IsBlank bytes n l → (d ≡ false → IsBlock (block_of file n) l)
      → (n < e.blocks → image_of e.after n ≡ None → 4096 * n + 4096 ≤ length file) → AreLaid e file q (n + 1)
  laid_more bytes there whole stands clean on_file = record {
    count = ap length added.leaves ∙ length-append p.leaves (l ∷ []) ∙ ap (λ (k : ℕ). k + 1) were.count;
    marks = ap length added.dirty ∙ length-append p.dirty (d ∷ []) ∙ ap (λ (k : ℕ). k + 1) were.marks;
    laid = λ b low. elim (cases_lt b n) [
      | inl less ↦ laid_before b less
      | inr more ↦ let same : n ≡ b = omega (arith, low, more) in subst (λ (c : ℕ). IsLaid (image_state e (block_of file)) q c) same here
    ];
    clean = λ b low h. elim (cases_lt b n) [
      | inl less ↦ subst (λ (m : Leaf). IsBlock (block_of file b) m) (sym (leaf_before b less)) (were.clean b less (sym (mark_before b less) ∙ h))
      | inr more ↦
          let same : n ≡ b = omega (arith, low, more) in
          let is : d ≡ false = sym mark_here ∙ ap (is_dirty q) same ∙ h in
          subst (λ (c : ℕ). IsBlock (block_of file c) (leaf_at q c)) same (subst (λ (m : Leaf). IsBlock (block_of file n) m) (sym leaf_here) (clean is))
    ];
    whole = λ b low inside none. elim (cases_lt b n) [
      | inl less ↦ were.whole b less inside none
      | inr more ↦
          let same : n ≡ b = omega (arith, low, more) in
          let at = on_file (omega (arith, same, inside)) (ap (image_of e.after) same ∙ none) in
          omega (arith, same, at)
    ];
  }
    where
      here : IsLaid (image_state e (block_of file)) q n
      here = record { bytes = bytes; there = there; whole = whole; stands = subst (λ (m : Leaf). IsBlock bytes m ⊎ IsBlank bytes n m) (sym leaf_here) stands }

blank_form : IsLeaf blank
blank_form = record { next = omega arith; fits = omega arith; cells = tt; rising = tt }

module _ (blocks : ℕ → Option (List ℕ)) (p : Pool) (laid : (b : ℕ) → b < length p.leaves → IsLaid blocks p b) (past : (b : ℕ) → length p.leaves ≤ b → blocks b ≡ None) where
  stands_inside : (b : ℕ) (l : Leaf) → b < length p.leaves → StandsAt (blocks_in p.leaves) b l → b ≡ 0 ⊎ l.cells ≢ [] → StandsAt blocks b l
  stands_inside b l low s filled = by here.stands
    where
      here : IsLaid blocks p b
      here = laid b low

      spelled : s.0 ≡ spelled_leaf (leaf_at p b)
      spelled = same_bytes (blocks_in p.leaves b) s.0 (spelled_leaf (leaf_at p b)) s.1 (block_there p b low)

      by : IsBlock here.bytes (leaf_at p b) ⊎ IsBlank here.bytes b (leaf_at p b) → StandsAt blocks b l
      by (inl is) =
          let same : leaf_at p b ≡ l = reading.block s.0 (leaf_at p b) l (record { form = is.form; spelled = spelled }) s.2 in
          (here.bytes, here.there, subst (IsBlock here.bytes) same is)
      by (inr none) =
          let same : blank ≡ l = reading.block s.0 blank l (record { form = blank_form; spelled = spelled ∙ ap spelled_leaf none.empty }) s.2 in
          absurd (⊎_elim (λ (z : b ≡ 0). let n : 1 ≤ b = none.behind in let no : ⊥ = omega (arith, z, n) in no) (λ (f : l.cells ≢ []). f (sym (ap (λ (m : Leaf). m.cells) same))) filled)

  -- a leaf of the pool that isn't in the place of bytes that are none stands among the blocks
  pub stands_over : (b : ℕ) (l : Leaf) → StandsAt (blocks_in p.leaves) b l → b ≡ 0 ⊎ l.cells ≢ [] → StandsAt blocks b l
  stands_over b l s filled = elim (cases_lt b (length p.leaves)) [
    | inl low ↦ stands_inside b l low s filled
    | inr far ↦ absurd (not_both (blocks_in p.leaves b) s.0 (none_there p b far) s.1)
  ]

  chain_over : (b : ℕ) (l : Leaf) (ls : List Leaf) → IsChain (blocks_in p.leaves) b (l ∷ ls) → b ≡ 0 ⊎ l.cells ≢ [] → AllByRecursion (λ (m : Leaf). m.cells ≢ []) ls → IsChain blocks b (l ∷ ls)
  chain_over b l [] h filled others = (stands_over b l h.0 filled, h.1)
  chain_over b l (m ∷ ls) h filled others = (stands_over b l h.0 filled, h.1, chain_over l.next m ls h.2 (inr others.0) others.1)

  from_first : (ls : List Leaf) → IsChain (blocks_in p.leaves) 0 ls → HaveCells ls → IsChain blocks 0 ls
  from_first [] h cells = absurd h
  from_first (l ∷ ls) h cells = chain_over 0 l ls h (inl refl) cells

  whole_over : AreWhole blocks
  whole_over b x is = elim (cases_lt b (length p.leaves)) [
    | inl low ↦ let here = laid b low in ap length (same_bytes (blocks b) x here.bytes is here.there) ∙ here.whole
    | inr far ↦ absurd (not_both (blocks b) x (past b far) is)
  ]

  -- so the blocks restore what the pool's decode to
  pub restores_over : (g : Globals) → Decodes (blocks_in p.leaves) g → Restores blocks g
  restores_over g d = (whole_over, (d.0, from_first d.0 d.1 d.2, d.2, d.3))

-- past the blocks below an epoch there are none
pub past_laid : (e : Chosen) (file : List ℕ) (p : Pool) (n : ℕ) → AreLaid e file p n → n ≡ max 1 e.blocks → (b : ℕ) → length p.leaves ≤ b → image_state e (block_of file) b ≡ None
past_laid e file p n were is b far = state_past e (block_of file) b (omega (arith, far, were.count, is)) (omega (arith, far, were.count, is))

pub laid_all : (e : Chosen) (file : List ℕ) (p : Pool) (n : ℕ) → AreLaid e file p n → (b : ℕ) → b < length p.leaves → IsLaid (image_state e (block_of file)) p b
laid_all e file p n were b low = were.laid b (omega (arith, low, were.count))

-- the blocks that were read restore what they decode to in the pool
pub opened_restores : (e : Chosen) (bytes : List ℕ) (p : Pool) (g : Globals) → AreLaid e bytes p (max 1 e.blocks) → Decodes (blocks_in p.leaves) g → Restores (image_state e (block_of bytes)) g
opened_restores e bytes p g were d = restores_over (image_state e (block_of bytes)) p (laid_all e bytes p (max 1 e.blocks) were) (past_laid e bytes p (max 1 e.blocks) were refl) g d
