-- What a block in memory holds once it was changed.
use Rattle.std.proofs.Common.{◌≡◌, ℕ, ◌+◌, ◌-◌, ◌≤◌, ◌<◌, ◌^◌, List, [], ◌∷◌, ◌++◌, length, take, drop, map, flat_map, vec_capacity, refl, sym, ◌∙◌, ap, subst, arith, suc, length-append, length-drop}
use Rattle.std.proofs.lemmas.List.{length-take-le}
use Rattle.std.proofs.lemmas.Grind.{flat_map-append}
use Rattle.std.specs.List.{AllByRecursion}
use Rattle.std.specs.Ordering.{nat_cmp}
use Rattle.std.specs.Cmp.Lexicographic.{slice_cmp}
use Rattle.std.specs.FinMap as globals
use Rattle.global_defs.specs.declared.limits.TheConstants.{LONGEST_VALUE}
use Rattle.journal_defs.specs.Leaves.{Cell, Leaf, cell_bytes, spelled_cell, IsCell, IsEncoded, IsLeaf, KeysRise}
use Rattle.block_fmt.specs.Cells.{size_of, with_cells, with_cell, without_between, TakesPlace}
use Rattle.block_fmt.specs.Read.{cells_in, places, moved, CanMove, AreCells}
use Rattle.block_fmt.specs.Inside.{Holds}
use Rattle.block_fmt.specs.declared.block.Block.TheInside.{Inside}
use Rattle.block_fmt.proofs.Lists.{all_take, all_drop, all_join}
use Rattle.block_fmt.proofs.ReadBack.{length-spelled_cell, cells_in_is}
use Rattle.block_fmt.proofs.Walk.{places-append}
use Rattle.block_fmt.proofs.CellPlaces.{size_cons, places_take, places_drop, places_moved, places_back, can_move, are_behind, bytes_take, bytes_drop, size_split, size_grows, few_cells, length-places}
use Rattle.block_fmt.proofs.Order.{rise_take, rise_drop, rise_put, rise_cut}

-- a block has at most 817 cells, of at most 4,088 bytes
pub few_held : (b : Inside) (l : Leaf) → Holds b l → (length l.cells ≤ 817) × (length b.bytes.items ≤ 4088)
few_held b l h =
    let fits = h.form.fits in
    let few = few_cells l.cells h.form.cells in
    (omega (arith, fits, few), omega (arith, fits, ap length h.bytes))

-- PUTTING

pub put_form : (l : Leaf) (key value : List ℕ) (i j : ℕ) → IsLeaf l → TakesPlace l.cells key i j → IsEncoded key → length value ≤ LONGEST_VALUE → length (cell_bytes (with_cell l key value)) ≤ 4088 → IsLeaf (with_cell l key value)
put_form l key value i j form t named few fits =
    let is = t.put value in
    record {
      next = form.next;
      fits = fits;
      cells = subst (AllByRecursion IsCell) (sym is) (all_join IsCell (take i l.cells) ((key, value) ∷ drop j l.cells) (all_take IsCell i l.cells form.cells) ((named, few), all_drop IsCell j l.cells form.cells));
      rising = subst KeysRise (sym is) (rise_put l.cells (key, value) i j form.rising t.before t.after);
    }

pub put_size : (cs : List Cell) (key value : List ℕ) (i j : ℕ) → TakesPlace cs key i j
    → size_of (globals.put (slice_cmp nat_cmp) key value cs) + size_of (take j cs) ≡ size_of cs + size_of (take i cs) + (length key + length value + 3)
put_size cs key value i j t =
    let front = flat_map spelled_cell (take i cs) in
    let c : Cell = (key, value) in
    let made : size_of (globals.put (slice_cmp nat_cmp) key value cs) ≡ size_of (take i cs) + size_of (c ∷ drop j cs) =
    ap size_of (t.put value) ∙ ap length (flat_map-append spelled_cell (take i cs) (c ∷ drop j cs)) ∙ length-append front (flat_map spelled_cell (c ∷ drop j cs)) in
    omega (arith, made, size_cons c (drop j cs), length-spelled_cell c, size_split j cs)

pub put_bytes_are : (cs new : List Cell) (key value bytes made : List ℕ) (i j from to : ℕ) → bytes ≡ flat_map spelled_cell cs → from ≡ size_of (take i cs) → to ≡ size_of (take j cs) → new ≡ take i cs ++ (key, value) ∷ drop j cs
    → made ≡ take from bytes ++ (spelled_cell (key, value) ++ drop to bytes) → made ≡ flat_map spelled_cell new
put_bytes_are cs new key value bytes made i j from to is from_is to_is new_is made_is =
    let front : take from bytes ≡ flat_map spelled_cell (take i cs) = ap (λ (n : ℕ). take n bytes) from_is ∙ ap (take (size_of (take i cs))) is ∙ bytes_take i cs in
    let back : drop to bytes ≡ flat_map spelled_cell (drop j cs) = ap (λ (n : ℕ). drop n bytes) to_is ∙ ap (drop (size_of (take j cs))) is ∙ bytes_drop j cs in
    made_is
    ∙ ap (λ (l : List ℕ). l ++ (spelled_cell (key, value) ++ drop to bytes)) front
    ∙ ap (λ (l : List ℕ). flat_map spelled_cell (take i cs) ++ (spelled_cell (key, value) ++ l)) back
    ∙ sym (flat_map-append spelled_cell (take i cs) ((key, value) ∷ drop j cs))
    ∙ ap (λ (l : List Cell). flat_map spelled_cell l) (sym new_is)

-- the places from j on, which stand from `to` on
pub tail_places : (cs : List Cell) (ps : List ℕ) (j to : ℕ) → ps ≡ places 0 cs → to ≡ size_of (take j cs) → drop j ps ≡ places (to + 0) (drop j cs)
tail_places cs ps j to is to_is =
    let same : 0 + size_of (take j cs) ≡ to + 0 = omega (arith, to_is) in
    ap (drop j) is ∙ places_drop j 0 cs ∙ ap (λ (n : ℕ). places n (drop j cs)) same

pub tail_can_move : (cs : List Cell) (ps : List ℕ) (j to new : ℕ) → ps ≡ places 0 cs → to ≡ size_of (take j cs) → new + size_of (drop j cs) < 2 ^ 16 → CanMove to new (drop j ps)
tail_can_move cs ps j to new is to_is near = subst (CanMove to new) (sym (tail_places cs ps j to is to_is)) (can_move to new 0 (drop j cs) (omega (arith, near)))

tail_moved : (cs : List Cell) (ps : List ℕ) (j to new : ℕ) → ps ≡ places 0 cs → to ≡ size_of (take j cs) → map (moved to new) (drop j ps) ≡ places new (drop j cs)
tail_moved cs ps j to new is to_is =
    let same : new + 0 ≡ new = omega arith in
    ap (map (moved to new)) (tail_places cs ps j to is to_is) ∙ places_moved to new 0 (drop j cs) ∙ ap (λ (n : ℕ). places n (drop j cs)) same

pub put_places_are : (cs new : List Cell) (key value ps made : List ℕ) (i j from to size : ℕ) → ps ≡ places 0 cs → from ≡ size_of (take i cs) → to ≡ size_of (take j cs) → size ≡ length key + length value + 3
    → new ≡ take i cs ++ (key, value) ∷ drop j cs → made ≡ take i ps ++ from ∷ map (moved to (from + size)) (drop j ps) → made ≡ places 0 new
put_places_are cs new key value ps made i j from to size is from_is to_is size_is new_is made_is =
    let c : Cell = (key, value) in
    let front : take i ps ≡ places 0 (take i cs) = ap (take i) is ∙ places_take i 0 cs in
    let tail : map (moved to (from + size)) (drop j ps) ≡ places (from + size) (drop j cs) = tail_moved cs ps j to (from + size) is to_is in
    let next : from + size ≡ from + length (spelled_cell c) = omega (arith, size_is, length-spelled_cell c) in
    let here : from ≡ 0 + size_of (take i cs) = omega (arith, from_is) in
    made_is
    ∙ ap (λ (l : List ℕ). l ++ from ∷ map (moved to (from + size)) (drop j ps)) front
    ∙ ap (λ (l : List ℕ). places 0 (take i cs) ++ from ∷ l) (tail ∙ ap (λ (n : ℕ). places n (drop j cs)) next)
    ∙ ap (λ (n : ℕ). places 0 (take i cs) ++ places n (c ∷ drop j cs)) here
    ∙ sym (places-append 0 (take i cs) (c ∷ drop j cs))
    ∙ ap (places 0) (sym new_is)

-- CUTTING

pub cut_form : (l : Leaf) (i j : ℕ) → IsLeaf l → i ≤ j → IsLeaf (with_cells l (without_between l.cells i j))
cut_form l i j form order =
    let cs = l.cells in
    let fits = form.fits in
    let size : size_of (take i cs ++ drop j cs) ≡ size_of (take i cs) + size_of (drop j cs) =
    ap length (flat_map-append spelled_cell (take i cs) (drop j cs)) ∙ length-append (flat_map spelled_cell (take i cs)) (flat_map spelled_cell (drop j cs)) in
    record {
      next = form.next;
      fits = omega (arith, fits, size, size_split j cs, size_grows i j cs order);
      cells = all_join IsCell (take i cs) (drop j cs) (all_take IsCell i cs form.cells) (all_drop IsCell j cs form.cells);
      rising = rise_cut cs i j form.rising order;
    }

pub cut_bytes_are : (cs : List Cell) (bytes made : List ℕ) (i j from to : ℕ) → bytes ≡ flat_map spelled_cell cs → from ≡ size_of (take i cs) → to ≡ size_of (take j cs)
    → made ≡ take from bytes ++ drop to bytes → made ≡ flat_map spelled_cell (take i cs ++ drop j cs)
cut_bytes_are cs bytes made i j from to is from_is to_is made_is =
    let front : take from bytes ≡ flat_map spelled_cell (take i cs) = ap (λ (n : ℕ). take n bytes) from_is ∙ ap (take (size_of (take i cs))) is ∙ bytes_take i cs in
    let back : drop to bytes ≡ flat_map spelled_cell (drop j cs) = ap (λ (n : ℕ). drop n bytes) to_is ∙ ap (drop (size_of (take j cs))) is ∙ bytes_drop j cs in
    made_is ∙ ap (λ (l : List ℕ). l ++ drop to bytes) front ∙ ap (λ (l : List ℕ). flat_map spelled_cell (take i cs) ++ l) back ∙ sym (flat_map-append spelled_cell (take i cs) (drop j cs))

pub cut_places_are : (cs : List Cell) (ps made : List ℕ) (i j from to : ℕ) → ps ≡ places 0 cs → from ≡ size_of (take i cs) → to ≡ size_of (take j cs)
    → made ≡ take i ps ++ map (moved to from) (drop j ps) → made ≡ places 0 (take i cs ++ drop j cs)
cut_places_are cs ps made i j from to is from_is to_is made_is =
    let front : take i ps ≡ places 0 (take i cs) = ap (take i) is ∙ places_take i 0 cs in
    let here : from ≡ 0 + size_of (take i cs) = omega (arith, from_is) in
    made_is
    ∙ ap (λ (l : List ℕ). l ++ map (moved to from) (drop j ps)) front
    ∙ ap (λ (l : List ℕ). places 0 (take i cs) ++ l) (tail_moved cs ps j to from is to_is ∙ ap (λ (n : ℕ). places n (drop j cs)) here)
    ∙ sym (places-append 0 (take i cs) (drop j cs))

-- THE FIRST CELLS ALONE, AND THE LAST ONES

pub take_form : (l : Leaf) (i : ℕ) → IsLeaf l → IsLeaf (with_cells l (take i l.cells))
take_form l i form =
    let fits = form.fits in
    record {
      next = form.next;
      fits = omega (arith, fits, size_split i l.cells);
      cells = all_take IsCell i l.cells form.cells;
      rising = rise_take i l.cells form.rising;
    }

pub taken_bytes : (cs : List Cell) (bytes : List ℕ) (i from : ℕ) → bytes ≡ flat_map spelled_cell cs → from ≡ size_of (take i cs) → take from bytes ≡ flat_map spelled_cell (take i cs)
taken_bytes cs bytes i from is from_is = ap (λ (n : ℕ). take n bytes) from_is ∙ ap (take (size_of (take i cs))) is ∙ bytes_take i cs

pub taken_places : (cs : List Cell) (ps : List ℕ) (i : ℕ) → ps ≡ places 0 cs → take i ps ≡ places 0 (take i cs)
taken_places cs ps i is = ap (take i) is ∙ places_take i 0 cs

-- The cells from i on, by themselves: their bytes and places.
module _ (b : Inside) (l : Leaf) (h : Holds b l) (i at : ℕ) (bytes ps : List ℕ) (at_is : at ≡ size_of (take i l.cells)) (bytes_are : bytes ≡ drop at b.bytes.items) (ps_are : ps ≡ drop i b.places.items) where
  tail_bytes : bytes ≡ flat_map spelled_cell (drop i l.cells)
  tail_bytes = bytes_are ∙ ap (λ (n : ℕ). drop n b.bytes.items) at_is ∙ ap (drop (size_of (take i l.cells))) h.bytes ∙ bytes_drop i l.cells

  tail_ps : ps ≡ places at (drop i l.cells)
  tail_ps =
      let here : 0 + size_of (take i l.cells) ≡ at = omega (arith, at_is) in
      ps_are ∙ ap (drop i) h.places ∙ places_drop i 0 l.cells ∙ ap (λ (n : ℕ). places n (drop i l.cells)) here

  tail_count : length ps ≡ length (drop i l.cells)
  tail_count = ap length tail_ps ∙ length-places at (drop i l.cells)

  pub tail_are_cells : AreCells (length ps) bytes
  tail_are_cells = record {
    cells = drop i l.cells;
    count = sym tail_count;
    is = tail_bytes;
    forms = all_drop IsCell i l.cells h.form.cells;
    rising = rise_drop i l.cells h.form.rising;
  }

  pub tail_cells : cells_in (length ps) bytes ≡ drop i l.cells
  tail_cells = ap (λ (n : ℕ). cells_in n bytes) tail_count ∙ ap (cells_in (length (drop i l.cells))) tail_bytes ∙ cells_in_is (drop i l.cells) (all_drop IsCell i l.cells h.form.cells)

  pub tail_are_places : ps ≡ places at (cells_in (length ps) bytes)
  tail_are_places = tail_ps ∙ ap (places at) (sym tail_cells)

-- FILLING

-- the cells of these bytes are those that are read from them
pub cells_of : (n : ℕ) (bytes : List ℕ) (h : AreCells n bytes) → cells_in n bytes ≡ h.cells
cells_of n bytes h = ap (λ (k : ℕ). cells_in k bytes) (sym h.count) ∙ ap (cells_in (length h.cells)) h.is ∙ cells_in_is h.cells h.forms

pub filled_form : (next n : ℕ) (bytes : List ℕ) → next < 2 ^ 32 → length bytes ≤ 4088 → AreCells n bytes → IsLeaf (record { next = next; cells = cells_in n bytes })
filled_form next n bytes near fit h =
    let is = cells_of n bytes h in
    record {
      next = near;
      fits = omega (arith, fit, ap size_of is, ap length h.is);
      cells = subst (AllByRecursion IsCell) (sym is) h.forms;
      rising = subst KeysRise (sym is) h.rising;
    }

pub filled_bytes : (n : ℕ) (bytes : List ℕ) (h : AreCells n bytes) → bytes ≡ flat_map spelled_cell (cells_in n bytes)
filled_bytes n bytes h = h.is ∙ ap (λ (l : List Cell). flat_map spelled_cell l) (sym (cells_of n bytes h))

pub filled_places : (n back : ℕ) (bytes ps : List ℕ) → ps ≡ places back (cells_in n bytes) → map (λ p. p - back) ps ≡ places 0 (cells_in n bytes)
filled_places n back bytes ps is =
    let same : back ≡ back + 0 = omega arith in
    ap (map (λ p. p - back)) (is ∙ ap (λ (k : ℕ). places k (cells_in n bytes)) same) ∙ places_back back 0 (cells_in n bytes)

pub filled_behind : (n back : ℕ) (bytes ps : List ℕ) → ps ≡ places back (cells_in n bytes) → AllByRecursion (λ p. back ≤ p) ps
filled_behind n back bytes ps is =
    let same : back ≡ back + 0 = omega arith in
    subst (AllByRecursion (λ p. back ≤ p)) (sym (is ∙ ap (λ (k : ℕ). places k (cells_in n bytes)) same)) (are_behind back 0 (cells_in n bytes))

-- so many cells of so many bytes
pub filled_count : (n : ℕ) (bytes : List ℕ) → AreCells n bytes → length bytes ≤ 4088 → n ≤ 817
filled_count n bytes h fit =
    let few = few_cells h.cells h.forms in
    omega (arith, few, fit, ap length h.is, h.count)

-- a leaf has few cells
pub leaf_few : (l : Leaf) → IsLeaf l → length l.cells ≤ 817
leaf_few l form =
    let fits = form.fits in
    let few = few_cells l.cells form.cells in
    omega (arith, fits, few)

-- a new cell has room too
pub put_few : (l : Leaf) (key value : List ℕ) (i j : ℕ) → TakesPlace l.cells key i j → IsLeaf (with_cell l key value) → i ≡ j → length l.cells < 817
put_few l key value i j t form none =
    let inside = t.inside in
    let count : length (globals.put (slice_cmp nat_cmp) key value l.cells) ≡ length (take i l.cells) + suc (length (drop j l.cells)) = ap length (t.put value) ∙ length-append (take i l.cells) ((key, value) ∷ drop j l.cells) in
    omega (arith, inside, none, count, leaf_few (with_cell l key value) form, length-take-le i l.cells (omega (arith, inside, none)), length-drop j l.cells)

-- WHAT A BLOCK HOLDS AFTER EACH CHANGE

module _ (b made : Inside) (l : Leaf) (h : Holds b l) (next : made.next ≡ b.next) (byte_room : vec_capacity b.bytes ≤ vec_capacity made.bytes) (place_room : vec_capacity b.places ≤ vec_capacity made.places) where
  room_kept : (4088 ≤ vec_capacity made.bytes) × (817 ≤ vec_capacity made.places)
  room_kept = let bytes = h.byte_room in let cells = h.place_room in (omega (arith, bytes, byte_room), omega (arith, cells, place_room))

  pub put_holds : (key value : List ℕ) (i j from to size : ℕ) → TakesPlace l.cells key i j → from ≡ size_of (take i l.cells) → to ≡ size_of (take j l.cells) → size ≡ length key + length value + 3
      → IsEncoded key → length value ≤ LONGEST_VALUE → length (cell_bytes (with_cell l key value)) ≤ 4088
      → made.bytes.items ≡ take from b.bytes.items ++ (spelled_cell (key, value) ++ drop to b.bytes.items)
      → made.places.items ≡ take i b.places.items ++ from ∷ map (moved to (from + size)) (drop j b.places.items) → Holds made (with_cell l key value)
  put_holds key value i j from to size t from_is to_is size_is named few fits bytes cells = record {
    next = next ∙ h.next;
    bytes = put_bytes_are l.cells (with_cell l key value).cells key value b.bytes.items made.bytes.items i j from to h.bytes from_is to_is (t.put value) bytes;
    places = put_places_are l.cells (with_cell l key value).cells key value b.places.items made.places.items i j from to size h.places from_is to_is size_is (t.put value) cells;
    form = put_form l key value i j h.form t named few fits;
    byte_room = room_kept.0;
    place_room = room_kept.1;
  }

  pub cut_holds : (i j from to : ℕ) → i ≤ j → from ≡ size_of (take i l.cells) → to ≡ size_of (take j l.cells) → made.bytes.items ≡ take from b.bytes.items ++ drop to b.bytes.items
      → made.places.items ≡ take i b.places.items ++ map (moved to from) (drop j b.places.items) → Holds made (with_cells l (without_between l.cells i j))
  cut_holds i j from to order from_is to_is bytes cells = record {
    next = next ∙ h.next;
    bytes = cut_bytes_are l.cells b.bytes.items made.bytes.items i j from to h.bytes from_is to_is bytes;
    places = cut_places_are l.cells b.places.items made.places.items i j from to h.places from_is to_is cells;
    form = cut_form l i j h.form order;
    byte_room = room_kept.0;
    place_room = room_kept.1;
  }

  pub take_holds : (i from : ℕ) → from ≡ size_of (take i l.cells) → made.bytes.items ≡ take from b.bytes.items → made.places.items ≡ take i b.places.items → Holds made (with_cells l (take i l.cells))
  take_holds i from from_is bytes cells = record {
    next = next ∙ h.next;
    bytes = bytes ∙ taken_bytes l.cells b.bytes.items i from h.bytes from_is;
    places = cells ∙ taken_places l.cells b.places.items i h.places;
    form = take_form l i h.form;
    byte_room = room_kept.0;
    place_room = room_kept.1;
  }

  pub fill_holds : (n back : ℕ) (bytes ps : List ℕ) → l.cells ≡ [] → AreCells n bytes → length bytes ≤ 4088 → ps ≡ places back (cells_in n bytes)
      → made.bytes.items ≡ b.bytes.items ++ bytes → made.places.items ≡ b.places.items ++ map (λ p. p - back) ps → Holds made (with_cells l (cells_in n bytes))
  fill_holds n back bytes ps empty are fit ps_is bytes_are places_are = record {
    next = next ∙ h.next;
    bytes = bytes_are ∙ ap (λ (x : List ℕ). x ++ bytes) (h.bytes ∙ ap (λ (cs : List Cell). flat_map spelled_cell cs) empty) ∙ filled_bytes n bytes are;
    places = places_are ∙ ap (λ (x : List ℕ). x ++ map (λ p. p - back) ps) (h.places ∙ ap (places 0) empty) ∙ filled_places n back bytes ps ps_is;
    form = filled_form l.next n bytes h.form.next fit are;
    byte_room = room_kept.0;
    place_room = room_kept.1;
  }

-- a block made of cells and their places
pub filled_made : (b : Inside) (n : ℕ) (bytes : List ℕ) → b.next < 2 ^ 32 → AreCells n bytes → length bytes ≤ 4088 → b.bytes.items ≡ bytes → b.places.items ≡ places 0 (cells_in n bytes) → 4088 ≤ vec_capacity b.bytes → 817 ≤ vec_capacity b.places
    → Holds b (record { next = b.next; cells = cells_in n bytes })
filled_made b n bytes near are fit items of byte_room place_room = record {
  next = refl;
  bytes = items ∙ filled_bytes n bytes are;
  places = of;
  form = filled_form b.next n bytes near fit are;
  byte_room = byte_room;
  place_room = place_room;
}
