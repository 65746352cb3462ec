-- A walk over cells from their first one on.
use Rattle.std.proofs.Common.{◌≡◌, ℕ, zero, suc, ◌+◌, ◌-◌, ◌≤◌, ◌<◌, List, [], ◌∷◌, ◌++◌, length, take, drop, get_or, flat_map, refl, sym, ◌∙◌, ap, subst, arith, length-append, length-drop}
use Rattle.std.proofs.lemmas.List.{append-nil, drop-drop, length-take-le, take_all, take-append-drop, drop_at, get_or-take}
use Rattle.std.proofs.lemmas.Grind.{flat_map-append}
use Rattle.std.proofs.Math.Seq.{take-append_seam, take-add, get_or-append_seam}
use Rattle.std.specs.declared.cmp.Ordering.TheVariants.{Less}
use Rattle.std.specs.Ordering.{nat_cmp}
use Rattle.std.specs.Cmp.Lexicographic.{slice_cmp}
use Rattle.std.specs.List.{AllByRecursion}
use Rattle.journal_defs.specs.Leaves.{Cell, spelled_cell, IsCell, IsEncoded, KeysRise}
use Rattle.block_fmt.specs.Cells.{cell_at}
use Rattle.block_fmt.specs.Read.{first_cell, cells_in, places, BeginWithCell, AreCells, IsNextCell}
use Rattle.block_fmt.proofs.Lists.{all_at, all_join, drop_next}
use Rattle.block_fmt.proofs.ReadBack.{first_is, begins, first_short, first_parts, length-spelled_cell, cells_in_front}

pub length-cells_in : (n : ℕ) (bytes : List ℕ) → length (cells_in n bytes) ≡ n
length-cells_in zero bytes = refl
length-cells_in (suc n) bytes = ap suc (length-cells_in n (drop (length (spelled_cell (first_cell bytes))) bytes))

-- one cell more is read behind those that were read
pub cells_in-more : (n at : ℕ) (bytes : List ℕ) → at ≡ length (flat_map spelled_cell (cells_in n bytes)) → cells_in (n + 1) bytes ≡ cells_in n bytes ++ first_cell (drop at bytes) ∷ []
cells_in-more n at bytes is = let next : n + 1 ≡ suc n = omega arith in ap (λ (k : ℕ). cells_in k bytes) next ∙ more n bytes ∙ ap (λ (k : ℕ). cells_in n bytes ++ first_cell (drop k bytes) ∷ []) (sym is)
  where
    more : (n : ℕ) (bytes : List ℕ) → cells_in (suc n) bytes ≡ cells_in n bytes ++ first_cell (drop (length (flat_map spelled_cell (cells_in n bytes))) bytes) ∷ []
    more zero bytes = refl
    more (suc n) bytes =
        let c = first_cell bytes in
        let s = length (spelled_cell c) in
        let rest = drop s bytes in
        let size : s + length (flat_map spelled_cell (cells_in n rest)) ≡ length (flat_map spelled_cell (cells_in (suc n) bytes)) = sym (length-append (spelled_cell c) (flat_map spelled_cell (cells_in n rest))) in
        let same : drop (length (flat_map spelled_cell (cells_in n rest))) rest ≡ drop (length (flat_map spelled_cell (cells_in (suc n) bytes))) bytes =
        drop-drop (length (flat_map spelled_cell (cells_in n rest))) s bytes ∙ ap (λ (k : ℕ). drop k bytes) size in
        ap (λ (l : List Cell). c ∷ l) (more n rest ∙ ap (λ (l : List ℕ). cells_in n rest ++ first_cell l ∷ []) same)

pub places-append : (at : ℕ) (cs ds : List Cell) → places at (cs ++ ds) ≡ places at cs ++ places (at + length (flat_map spelled_cell cs)) ds
places-append at [] ds = let same : at ≡ at + 0 = omega arith in ap (λ (k : ℕ). places k ds) same
places-append at (c ∷ cs) ds =
    let s = length (spelled_cell c) in
    let size : at + s + length (flat_map spelled_cell cs) ≡ at + length (flat_map spelled_cell (c ∷ cs)) = omega (arith, length-append (spelled_cell c) (flat_map spelled_cell cs)) in
    ap (λ (l : List ℕ). at ∷ l) (places-append (at + s) cs ds ∙ ap (λ (k : ℕ). places (at + s) cs ++ places k ds) size)

-- a cell more whose key is past the last one
pub rise_more : (cs : List Cell) (c : Cell) → KeysRise cs → (0 < length cs → slice_cmp nat_cmp (cell_at cs (length cs - 1)).0 c.0 ≡ Less) → KeysRise (cs ++ c ∷ [])
rise_more [] c rise past = tt
rise_more (d ∷ []) c rise past = (past (omega arith), tt)
rise_more (d ∷ e ∷ cs) c rise past = (
  rise.0,
  rise_more (e ∷ cs) c rise.1 (λ some. let same : length (d ∷ e ∷ cs) - 1 ≡ suc (length (e ∷ cs) - 1) = omega arith in
      subst (λ (k : ℕ). slice_cmp nat_cmp (get_or (d ∷ e ∷ cs) k ([], [])).0 c.0 ≡ Less) same (past (omega arith))),
)

-- neighbours rise
pub rise_at : (cs : List Cell) (n : ℕ) → KeysRise cs → n + 1 < length cs → slice_cmp nat_cmp (cell_at cs n).0 (cell_at cs (n + 1)).0 ≡ Less
rise_at [] n rise inside = absurd (omega arith)
rise_at (c ∷ []) n rise inside = absurd (omega arith)
rise_at (c ∷ d ∷ cs) zero rise inside = rise.0
rise_at (c ∷ d ∷ cs) (suc n) rise inside =
    let next : suc n + 1 ≡ suc (n + 1) = omega arith in
    subst (λ (k : ℕ). slice_cmp nat_cmp (get_or (d ∷ cs) n ([], [])).0 (get_or (c ∷ d ∷ cs) k ([], [])).0 ≡ Less) (sym next) (rise_at (d ∷ cs) n rise.1 (omega arith))

-- How far a walk has come: n cells are read, up to this place.
pub record IsWalked (bytes : List ℕ) (n at : ℕ) : Type 0 where
  pub inside : at ≤ length bytes
  pub front : take at bytes ≡ flat_map spelled_cell (cells_in n bytes)
  pub forms : AllByRecursion IsCell (cells_in n bytes)
  pub rising : KeysRise (cells_in n bytes)

pub walked_size : (bytes : List ℕ) (n at : ℕ) → IsWalked bytes n at → at ≡ length (flat_map spelled_cell (cells_in n bytes))
walked_size bytes n at h = sym (length-take-le at bytes h.inside) ∙ ap length h.front

pub walked_none : (bytes : List ℕ) → IsWalked bytes 0 0
walked_none bytes = record { inside = omega arith; front = refl; forms = tt; rising = tt }

pub walked_more : (bytes : List ℕ) (n at size : ℕ) → IsWalked bytes n at → BeginWithCell (drop at bytes) → size ≡ length (spelled_cell (first_cell (drop at bytes))) → IsEncoded (first_cell (drop at bytes)).0
    → (0 < n → slice_cmp nat_cmp (cell_at (cells_in n bytes) (n - 1)).0 (first_cell (drop at bytes)).0 ≡ Less) → IsWalked bytes (n + 1) (at + size)
walked_more bytes n at size h begin is key past =
    let c = first_cell (drop at bytes) in
    let more = cells_in-more n at bytes (walked_size bytes n at h) in
    let parts = first_parts (drop at bytes) begin in
    let long = length-spelled_cell c in
    let inside : at + size ≤ length bytes = let low = h.inside in omega (arith, low, parts, long, is, length-drop at bytes) in
    let rest = drop (length (spelled_cell c)) (drop at bytes) in
    let first : take size (drop at bytes) ≡ spelled_cell c = ap (take size) (begins (drop at bytes) begin) ∙ ap (λ (k : ℕ). take k (spelled_cell c ++ rest)) is ∙ take-append_seam (spelled_cell c) rest in
    let read : flat_map spelled_cell (cells_in n bytes ++ c ∷ []) ≡ flat_map spelled_cell (cells_in n bytes) ++ spelled_cell c =
    flat_map-append spelled_cell (cells_in n bytes) (c ∷ []) ∙ ap (λ (l : List ℕ). flat_map spelled_cell (cells_in n bytes) ++ l) (append-nil (spelled_cell c)) in
    let count = length-cells_in n bytes in
    record {
      inside = inside;
      front = take-add at size bytes ∙ ap (λ (l : List ℕ). l ++ take size (drop at bytes)) h.front ∙ ap (λ (l : List ℕ). flat_map spelled_cell (cells_in n bytes) ++ l) first
          ∙ sym read ∙ ap (λ (l : List Cell). flat_map spelled_cell l) (sym more);
      forms = subst (AllByRecursion IsCell) (sym more) (all_join IsCell (cells_in n bytes) (c ∷ []) h.forms ((key, first_short (drop at bytes) begin), tt));
      rising = subst KeysRise (sym more) (rise_more (cells_in n bytes) c h.rising (λ some. subst (λ (k : ℕ). slice_cmp nat_cmp (cell_at (cells_in n bytes) (k - 1)).0 c.0 ≡ Less) (sym count) (past (omega (arith, some, count)))));
    }

-- cells have bytes
pub walked_some : (bytes : List ℕ) (n at : ℕ) → IsWalked bytes n at → 0 < n → 0 < at
walked_some bytes zero at h some = absurd (omega (arith, some))
walked_some bytes (suc n) at h some =
    let c = first_cell bytes in
    omega (arith, walked_size bytes (suc n) at h, length-spelled_cell c, length-append (spelled_cell c) (flat_map spelled_cell (cells_in n (drop (length (spelled_cell c)) bytes))))

-- the last cell read is the one at the place before
pub last_more : (bytes : List ℕ) (n at : ℕ) → IsWalked bytes n at → first_cell (drop at bytes) ≡ cell_at (cells_in (n + 1) bytes) (n + 1 - 1)
last_more bytes n at h =
    let c = first_cell (drop at bytes) in
    let index : n + 1 - 1 ≡ length (cells_in n bytes) = omega (arith, length-cells_in n bytes) in
    sym (ap (λ (k : ℕ). cell_at (cells_in (n + 1) bytes) k) index ∙ ap (λ (l : List Cell). cell_at l (length (cells_in n bytes))) (cells_in-more n at bytes (walked_size bytes n at h)) ∙ get_or-append_seam (cells_in n bytes) c [] ([], []))

pub places_more : (bytes : List ℕ) (n at : ℕ) → IsWalked bytes n at → places 0 (cells_in (n + 1) bytes) ≡ places 0 (cells_in n bytes) ++ at ∷ []
places_more bytes n at h =
    let size : 0 + length (flat_map spelled_cell (cells_in n bytes)) ≡ at = omega (arith, walked_size bytes n at h) in
    ap (places 0) (cells_in-more n at bytes (walked_size bytes n at h)) ∙ places-append 0 (cells_in n bytes) (first_cell (drop at bytes) ∷ []) ∙ ap (λ (k : ℕ). places 0 (cells_in n bytes) ++ k ∷ []) size

-- the cells of a block are those that are read
cells_read : (bytes : List ℕ) (count n : ℕ) (h : AreCells count bytes) → n ≤ count → cells_in n bytes ≡ take n h.cells
cells_read bytes count n h few =
    let size = h.count in
    ap (cells_in n) (h.is ∙ sym (append-nil (flat_map spelled_cell h.cells))) ∙ cells_in_front n h.cells [] (omega (arith, few, size)) h.forms

rest_is : (bytes : List ℕ) (count n at : ℕ) (h : AreCells count bytes) → IsWalked bytes n at → n < count
    → drop at bytes ≡ spelled_cell (cell_at h.cells n) ++ flat_map spelled_cell (drop (n + 1) h.cells)
rest_is bytes count n at h w low =
    let cs = h.cells in
    let size = h.count in
    let split : bytes ≡ flat_map spelled_cell (take n cs) ++ flat_map spelled_cell (drop n cs) =
    h.is ∙ ap (λ (l : List Cell). flat_map spelled_cell l) (sym (take-append-drop n cs)) ∙ flat_map-append spelled_cell (take n cs) (drop n cs) in
    let place : length (flat_map spelled_cell (take n cs)) ≡ at = sym (walked_size bytes n at w ∙ ap (λ (l : List Cell). length (flat_map spelled_cell l)) (cells_read bytes count n h (omega arith))) in
    ap (drop at) split ∙ drop_at (flat_map spelled_cell (take n cs)) (flat_map spelled_cell (drop n cs)) at place
    ∙ ap (λ (l : List Cell). flat_map spelled_cell l) (drop_next cs n ([], []) (omega (arith, low, size)))

-- the next cell of a block stands where the walk has come to
pub next_there : (bytes : List ℕ) (count n at last : ℕ) → IsWalked bytes n at → n < count → (0 < at → first_cell (drop last bytes) ≡ cell_at (cells_in n bytes) (n - 1)) → AreCells count bytes → IsNextCell bytes last at
next_there bytes count n at last w low last_is h =
    let cs = h.cells in
    let size = h.count in
    let c = cell_at cs n in
    let form : IsCell c = all_at IsCell cs n ([], []) h.forms (omega (arith, low, size)) in
    let few = form.1 in
    let is = rest_is bytes count n at h w low in
    let first : first_cell (drop at bytes) ≡ c = ap first_cell is ∙ first_is c (flat_map spelled_cell (drop (n + 1) cs)) (omega (arith, few)) in
    record {
      begin = record { cell = c; rest = flat_map spelled_cell (drop (n + 1) cs); short = few; is = is };
      key = subst (λ (d : Cell). IsEncoded d.0) (sym first) form.0;
      past = λ some.
          let there : 0 < n = some_read n at (walked_size bytes n at w) some in
          let next : n - 1 + 1 ≡ n = omega arith in
          let before : first_cell (drop last bytes) ≡ cell_at cs (n - 1) = last_is some ∙ ap (λ (l : List Cell). cell_at l (n - 1)) (cells_read bytes count n h (omega arith)) ∙ get_or-take n cs (n - 1) ([], []) (omega arith) in
          let rise : slice_cmp nat_cmp (cell_at cs (n - 1)).0 (cell_at cs (n - 1 + 1)).0 ≡ Less = rise_at cs (n - 1) h.rising (omega (arith, low, size)) in
          subst (λ (d : Cell). slice_cmp nat_cmp d.0 (first_cell (drop at bytes)).0 ≡ Less) (sym before) (subst (λ (d : Cell). slice_cmp nat_cmp (cell_at cs (n - 1)).0 d.0 ≡ Less) (sym (first ∙ ap (cell_at cs) (sym next))) rise);
    }
  where
    some_read : (n at : ℕ) → at ≡ length (flat_map spelled_cell (cells_in n bytes)) → 0 < at → 0 < n
    some_read zero at is some = absurd (omega (arith, is, some))
    some_read (suc n) at is some = omega arith

-- a walk to the end has read all cells
pub walked_all : (bytes : List ℕ) (n at : ℕ) → IsWalked bytes n at → at ≡ length bytes → AreCells n bytes
walked_all bytes n at h end = record {
  cells = cells_in n bytes;
  count = length-cells_in n bytes;
  is = sym (take_all at bytes (omega (arith, end))) ∙ h.front;
  forms = h.forms;
  rising = h.rising;
}

-- and all cells of a block end at its end
pub ends_there : (bytes : List ℕ) (n at : ℕ) → IsWalked bytes n at → AreCells n bytes → at ≡ length bytes
ends_there bytes n at w h =
    let size = h.count in
    walked_size bytes n at w ∙ ap (λ (l : List Cell). length (flat_map spelled_cell l)) (cells_read bytes n n h (omega arith) ∙ take_all n h.cells (omega (arith, size))) ∙ ap length (sym h.is)
