-- Where a chain of blocks breaks.
use Rattle.std.proofs.Common.{◌≡◌, ◌≢◌, ◌⊎◌, inl, inr, ℕ, ◌<◌, ◌≤◌, List, [], ◌∷◌, ◌++◌, length, drop, map, Option, Some, None, refl, sym, ap, subst, ◌∙◌, arith, append_assoc, flat_map, max}
use Rattle.std.proofs.lemmas.Bool.{cases_lt}
use Rattle.std.proofs.lemmas.List.{map-append}
use Rattle.std.specs.List.{AllByRecursion}
use Rattle.global_defs.specs.Entry.{Globals}
use Rattle.journal_defs.specs.Epochs.{Chosen, image_state, block_of}
use Rattle.journal_defs.specs.Leaves.{Leaf, Cell, IsLeaf, IsBlock, StandsAt, IsChain, HaveCells, cells_of}
use Rattle.journal_defs.specs.Sound.{Restores}
use Rattle.site_defs.specs.OutsideBlocks.{Lead, GoOn, BreaksAt, IsOutsideAt, Short, Broken}
use Rattle.journal_laws.proofs.BlockReading as reading
use Rattle.block_laws.specs.Nodes.{HaveKeys}
use Rattle.block_laws.proofs.Chains.{cells_rise}
use Rattle.block_pool.specs.Code.{Pool}
use Rattle.block_pool.specs.Pool.{leaf_at}
use Rattle.gvt_leaf.specs.Chained.{all_cells}
use Rattle.gvt_leaf.specs.Links as links
use Rattle.gvt_leaf.specs.Links.{first_or}
use Rattle.gvt_leaf.specs.Order.{Rise, AreRising}
use Rattle.gvt_leaf.specs.Walked as walked
use Rattle.gvt_leaf.specs.Walked.{leaves_of}
use Rattle.gvt_leaf.proofs.Bytes.{rise_first}
use Rattle.gvt_leaf.proofs.Backed.{keys_rise}
use Rattle.gvt_leaf.proofs.Walks.{all_rise}
use Rattle.region_store.specs.Laid.{IsBlank, IsLaid, AreLaid}
use Rattle.region_store.proofs.Stood.{not_both, same_bytes}
use Rattle.region_store.proofs.Lays.{laid_all, past_laid}

cells_map : (p : Pool) (xs : List ℕ) → map (λ (l : Leaf). l.cells) (map (leaf_at p) xs) ≡ leaves_of p xs
cells_map p [] = refl
cells_map p (x ∷ xs) = ap (λ (ls : List (List Cell)). (leaf_at p x).cells ∷ ls) (cells_map p xs)

flat_cells : (ls : List Leaf) → flat_map (λ (l : Leaf). l.cells) ls ≡ all_cells (map (λ (l : Leaf). l.cells) ls)
flat_cells [] = refl
flat_cells (l ∷ ls) = ap (λ (x : List Cell). l.cells ++ x) (flat_cells ls)

-- leaves of which each has a cell, by their cells
cells_filled : (ls : List Leaf) → AllByRecursion (λ (l : Leaf). l.cells ≢ []) ls → AllByRecursion (λ l. l ≢ []) (map (λ (l : Leaf). l.cells) ls)
cells_filled [] h = tt
cells_filled (l ∷ ls) h = (h.0, cells_filled ls h.1)

leaves_filled : (ls : List Leaf) → AllByRecursion (λ l. l ≢ []) (map (λ (l : Leaf). l.cells) ls) → AllByRecursion (λ (l : Leaf). l.cells ≢ []) ls
leaves_filled [] h = tt
leaves_filled (l ∷ ls) h = (h.0, leaves_filled ls h.1)

-- leaves that go on are those whose cells rise
rising : (ls : List Leaf) → GoOn ls → AreRising (map (λ (l : Leaf). l.cells) ls)
rising [] go = record { rise = tt; filled = tt }
rising (l ∷ ls) go = record {
  rise = subst Rise (flat_cells (l ∷ ls)) (all_rise (flat_map (λ (m : Leaf). m.cells) (l ∷ ls)) go.0);
  filled = cells_filled ls go.1;
}

going_on : (ls : List Leaf) → AreRising (map (λ (l : Leaf). l.cells) ls) → GoOn ls
going_on [] r = (tt, tt)
going_on (l ∷ ls) r = (keys_rise (flat_map (λ (m : Leaf). m.cells) (l ∷ ls)) (subst Rise (sym (flat_cells (l ∷ ls))) r.rise), leaves_filled ls r.filled)

module _ (blocks : ℕ → Option (List ℕ)) (p : Pool) (laid : (b : ℕ) → b < length p.leaves → IsLaid blocks p b) (past : (b : ℕ) → length p.leaves ≤ b → blocks b ≡ None) where
  stands_here : (c : ℕ) → c < length p.leaves → c ≡ 0 ⊎ (leaf_at p c).cells ≢ [] → StandsAt blocks c (leaf_at p c)
  stands_here c low filled = by here.stands filled
    where
      here : IsLaid blocks p c
      here = laid c low

      by : IsBlock here.bytes (leaf_at p c) ⊎ IsBlank here.bytes c (leaf_at p c) → c ≡ 0 ⊎ (leaf_at p c).cells ≢ [] → StandsAt blocks c (leaf_at p c)
      by (inl is) filled = (here.bytes, here.there, is)
      by (inr none) (inl first) = absurd (let behind : 1 ≤ c = none.behind in let no : ⊥ = omega (arith, first, behind) in no)
      by (inr none) (inr some) = absurd (some (ap (λ (l : Leaf). l.cells) none.empty))

  others_stand : (xs : List ℕ) → AllByRecursion (λ c. c < length p.leaves) xs → AllByRecursion (λ l. l ≢ []) (leaves_of p xs) → AllByRecursion (λ c. StandsAt blocks c (leaf_at p c)) xs
  others_stand [] low filled = tt
  others_stand (x ∷ xs) low filled = (stands_here x low.0 (inr filled.0), others_stand xs low.1 filled.1)

  all_stand : (b : ℕ) (xs : List ℕ) → first_or b xs ≡ 0 → AllByRecursion (λ c. c < length p.leaves) xs → AllByRecursion (λ l. l ≢ []) (drop 1 (leaves_of p xs)) → AllByRecursion (λ c. StandsAt blocks c (leaf_at p c)) xs
  all_stand b [] first low filled = tt
  all_stand b (x ∷ xs) first low filled = (stands_here x low.0 (inl first), others_stand xs low.1 filled)

  not_first : (b : ℕ) (xs : List ℕ) → AllByRecursion (λ c. c ≢ 0) (xs ++ b ∷ []) → first_or b xs ≢ 0
  not_first b [] others = others.0
  not_first b (x ∷ xs) others = others.0

  less_one : (b : ℕ) (xs : List ℕ) → AllByRecursion (λ c. c ≢ 0) (xs ++ b ∷ []) → AllByRecursion (λ c. c ≢ 0) (drop 1 (xs ++ b ∷ []))
  less_one b [] others = tt
  less_one b (x ∷ xs) others = others.1

  led_so : (b : ℕ) (xs : List ℕ) → links.Lead (leaf_at p) xs b → AllByRecursion (λ c. c ≢ 0) (drop 1 (xs ++ b ∷ [])) → AllByRecursion (λ c. StandsAt blocks c (leaf_at p c)) xs → Lead blocks (first_or b xs) (map (leaf_at p) xs) b
  led_so b [] led others stand = refl
  led_so b (x ∷ xs) led others stand =
      (stand.0, (λ e. not_first b xs others (sym led.0 ∙ e)), subst (λ (n : ℕ). Lead blocks n (map (leaf_at p) xs) b) (sym led.0) (led_so b xs led.1 (less_one b xs others) stand.1))

  -- where the pool's chain breaks, that of the blocks does
  pub breaks_so : (b : ℕ) → walked.BreaksAt p b → BreaksAt blocks b
  breaks_so b k = record {
    before = map (leaf_at p) k.before;
    led = subst (λ (n : ℕ). Lead blocks n (map (leaf_at p) k.before) b) k.first (led_so b k.before k.led k.others (all_stand b k.before k.first k.inside k.risen.filled));
    risen = going_on (map (leaf_at p) k.before) (subst AreRising (sym (cells_map p k.before)) k.risen);
    broken = λ l s go. elim (cases_lt b (length p.leaves)) [
      | inl low ↦ here l s go low (laid b low).stands k.broken
      | inr far ↦ not_both (blocks b) s.0 (past b far) s.1
    ];
  }
    where
      here : (l : Leaf) (s : StandsAt blocks b l) → GoOn (map (leaf_at p) k.before ++ l ∷ []) → (low : b < length p.leaves) → IsBlock (laid b low).bytes (leaf_at p b) ⊎ IsBlank (laid b low).bytes b (leaf_at p b)
          → length p.leaves ≤ b ⊎ (IsLeaf (leaf_at p b) × (AreRising (leaves_of p (k.before ++ b ∷ [])) → ⊥)) → ⊥
      here l s go low stands (inl far) = let no : ⊥ = omega (arith, low, far) in no
      here l s go low (inl is) (inr falls) =
          let bytes : s.0 ≡ (laid b low).bytes = same_bytes (blocks b) s.0 (laid b low).bytes s.1 (laid b low).there in
          let same : l ≡ leaf_at p b = reading.block (laid b low).bytes l (leaf_at p b) (subst (λ (x : List ℕ). IsBlock x l) bytes s.2) is in
          let all : map (leaf_at p) k.before ++ l ∷ [] ≡ map (leaf_at p) (k.before ++ b ∷ []) =
          ap (λ (m : Leaf). map (leaf_at p) k.before ++ m ∷ []) same ∙ sym (map-append (leaf_at p) k.before (b ∷ [])) in
          falls.1 (subst AreRising (ap (map (λ (m : Leaf). m.cells)) all ∙ cells_map p (k.before ++ b ∷ [])) (rising (map (leaf_at p) k.before ++ l ∷ []) go))
      here l s go low (inr none) (inr falls) =
          let bytes : s.0 ≡ (laid b low).bytes = same_bytes (blocks b) s.0 (laid b low).bytes s.1 (laid b low).there in
          none.none l (subst (λ (x : List ℕ). IsBlock x l) bytes s.2)

-- no leaf stands at block 0
pub breaks_at_first : (blocks : ℕ → Option (List ℕ)) (bytes : List ℕ) → blocks 0 ≡ Some bytes → ((l : Leaf) → IsBlock bytes l → ⊥) → BreaksAt blocks 0
breaks_at_first blocks bytes there none = record {
  before = [];
  led = refl;
  risen = (tt, tt);
  broken = λ l s go. none l (subst (λ (x : List ℕ). IsBlock x l) (same_bytes (blocks 0) s.0 bytes s.1 there) s.2);
}

-- ---- blocks of which one is outside the format hold no globals

-- a chain from a leaf on that others lead to
record GoesOn (blocks : ℕ → Option (List ℕ)) (before : List Leaf) (b : ℕ) (ls : List Leaf) : Type 0 where
  leaf : Leaf
  rest : List Leaf
  are : ls ≡ before ++ leaf ∷ rest
  stands : StandsAt blocks b leaf

stand_one : (blocks : ℕ → Option (List ℕ)) (c : ℕ) (l m : Leaf) → StandsAt blocks c l → StandsAt blocks c m → l ≡ m
stand_one blocks c l m s t = reading.block t.0 l m (subst (λ (x : List ℕ). IsBlock x l) (same_bytes (blocks c) s.0 t.0 s.1 t.1) s.2) t.2

goes_along : (blocks : ℕ → Option (List ℕ)) (before : List Leaf) (c b : ℕ) (ls : List Leaf) → Lead blocks c before b → IsChain blocks c ls → GoesOn blocks before b ls
goes_along blocks before c b [] led chain = absurd chain
goes_along blocks [] c b (l ∷ []) led chain = record { leaf = l; rest = []; are = refl; stands = subst (λ (n : ℕ). StandsAt blocks n l) led chain.0 }
goes_along blocks [] c b (l ∷ m ∷ ls) led chain = record { leaf = l; rest = m ∷ ls; are = refl; stands = subst (λ (n : ℕ). StandsAt blocks n l) led chain.0 }
goes_along blocks (x ∷ xs) c b (l ∷ []) led chain =
    let same : l ≡ x = stand_one blocks c l x chain.0 led.0 in
    absurd (led.1 (sym (ap (λ (n : Leaf). n.next) same) ∙ chain.1))
goes_along blocks (x ∷ xs) c b (l ∷ m ∷ ls) led chain =
    let same : l ≡ x = stand_one blocks c l x chain.0 led.0 in
    let more = goes_along blocks xs x.next b (m ∷ ls) led.2 (subst (λ (n : ℕ). IsChain blocks n (m ∷ ls)) (ap (λ (n : Leaf). n.next) same) chain.2) in
    record { leaf = more.leaf; rest = more.rest; are = λ i. same i ∷ more.are i; stands = more.stands }

flat-append : (ls ms : List Leaf) → flat_map (λ (l : Leaf). l.cells) (ls ++ ms) ≡ flat_map (λ (l : Leaf). l.cells) ls ++ flat_map (λ (l : Leaf). l.cells) ms
flat-append [] ms = refl
flat-append (l ∷ ls) ms = ap (λ (x : List Cell). l.cells ++ x) (flat-append ls ms) ∙ sym (append_assoc l.cells (flat_map (λ (l : Leaf). l.cells) ls) (flat_map (λ (l : Leaf). l.cells) ms))

all_filled : (ls ms : List Leaf) → AllByRecursion (λ (m : Leaf). m.cells ≢ []) (ls ++ ms) → AllByRecursion (λ (m : Leaf). m.cells ≢ []) ls
all_filled [] ms h = tt
all_filled (l ∷ ls) ms h = (h.0, all_filled ls ms h.1)

some_filled : (ls ms : List Leaf) → HaveCells (ls ++ ms) → AllByRecursion (λ (m : Leaf). m.cells ≢ []) (drop 1 ls)
some_filled [] ms h = tt
some_filled (l ∷ ls) ms h = all_filled ls ms h

front_goes_on : (g : Globals) (ls front rest : List Leaf) → HaveKeys g → ls ≡ front ++ rest → HaveCells ls → flat_map (λ (l : Leaf). l.cells) ls ≡ cells_of g → GoOn front
front_goes_on g ls front rest keys are filled cells =
    let both : flat_map (λ (l : Leaf). l.cells) front ++ flat_map (λ (l : Leaf). l.cells) rest ≡ cells_of g = sym (flat-append front rest) ∙ sym (ap (flat_map (λ (l : Leaf). l.cells)) are) ∙ cells in (
      keys_rise (flat_map (λ (l : Leaf). l.cells) front)
          (rise_first (flat_map (λ (l : Leaf). l.cells) front) (flat_map (λ (l : Leaf). l.cells) rest) (subst Rise (sym both) (all_rise (cells_of g) (cells_rise g keys)))),
      some_filled front rest (subst HaveCells are filled),
    )

pub nothing_outside : (blocks : ℕ → Option (List ℕ)) (b : ℕ) (g : Globals) → IsOutsideAt blocks b → HaveKeys g → Restores blocks g → ⊥
nothing_outside blocks b g (Short bytes there short) keys r = short (r.0 b bytes there)
nothing_outside blocks b g (Broken k) keys r =
    let d = r.1 in
    let on = goes_along blocks k.before 0 b d.0 k.led d.1 in
    let are : d.0 ≡ (k.before ++ on.leaf ∷ []) ++ on.rest = on.are ∙ sym (append_assoc k.before (on.leaf ∷ []) on.rest) in
    k.broken on.leaf on.stands (front_goes_on g d.0 (k.before ++ on.leaf ∷ []) on.rest keys are d.2 d.3)

-- where the chain of blocks that were read breaks, the block is outside the format
pub opened_breaks : (e : Chosen) (bytes : List ℕ) (p : Pool) (b : ℕ) → AreLaid e bytes p (max 1 e.blocks) → walked.BreaksAt p b → IsOutsideAt (image_state e (block_of bytes)) b
opened_breaks e bytes p b were k = Broken (breaks_so (image_state e (block_of bytes)) p (laid_all e bytes p (max 1 e.blocks) were) (past_laid e bytes p (max 1 e.blocks) were refl) b k)
