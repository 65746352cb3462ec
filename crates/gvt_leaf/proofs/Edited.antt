-- Leaves after a cell was put into one of them.
use Rattle.std.proofs.Common.{◌≡◌, ◌≢◌, ℕ, ◌+◌, ◌*◌, ◌<◌, ◌≤◌, Bool, true, false, List, [], ◌∷◌, ◌++◌, length, take, drop, refl, sym, ap, subst, ◌∙◌, arith, append-nil, add-zero, inl, inr, true≢false}
use Rattle.std.specs.Prelude.{Result, Ok, Err, IfOk, IfErr, is_err}
use Rattle.std.proofs.lemmas.Bool.{cases_order}
use Rattle.std.proofs.lemmas.List.{drop_all}
use Rattle.std.specs.List.{AllByRecursion}
use Rattle.std.specs.FinMap as globals
use Rattle.journal_defs.specs.Leaves.{Cell, ROOM}
use Rattle.block_fmt.specs.Cells.{StandsIn, BelongsAt, size_of, without_between}
use Rattle.block_fmt.proofs.CellPlaces.{size_split}
use Rattle.block_fmt.proofs.ReadBack.{length-spelled_cell}
use Rattle.std.specs.Int.{from_bool}
use Rattle.gvt_leaf.specs.Links.{one_if}
use Rattle.gvt_leaf.specs.Chained.{leaf_cells, all_cells, replaced}
use Rattle.gvt_leaf.specs.Order.{Rise, AreRising, IsSeat}
use Rattle.gvt_leaf.specs.Edits.{cell_size, Fits, HasPut, IsOpened}
use Rattle.gvt_leaf.specs.declared.edits.Cut.{Cut}
use Rattle.gvt_leaf.proofs.LeafLists.{cut_leaf, filled-replaced}
use Rattle.gvt_leaf.proofs.Updates.{put_again, belongs_there}
use Rattle.gvt_leaf.proofs.Apart.{replaced_there, second_there, length-replaced, replaced_again, replaced_second, put_size, new_size, put_ahead, put_after, both_some, put_some, length_new, length_over}
use Rattle.gvt_leaf.proofs.Counted.{byte_is}
use Rattle.gvt_leaf.proofs.Risen.{rise_put}
use Rattle.gvt_leaf.proofs.Seated.{put_here, count-replaced}
use Rattle.global_defs.proofs.Basics.{bytes_cmp}

-- ---- where a leaf is cut

module _ (cells : List Cell) (place size : ℕ) (fits : size_of cells ≤ ROOM) (small : size ≤ 1758) where
  pub fits_alone : place ≡ length cells → Fits cells place size (record { at = place; behind = true })
  fits_alone last =
      let none : size_of (drop place cells) ≡ 0 = ap size_of (drop_all place cells (omega (arith, last))) in
      record { inside = omega (arith, last); ahead = λ e. omega arith; behind = λ e. omega arith; before = omega (arith, size_split place cells); after = omega (arith, none) }

  pub fits_ahead : (at : ℕ) → at ≤ length cells → place ≤ at → 2 * size_of (take at cells) ≤ size_of cells → Fits cells place size (record { at = at; behind = false })
  fits_ahead at inside side half = record { inside = inside; ahead = λ e. side; behind = λ e. cc; before = omega (arith, half); after = omega (arith, size_split at cells) }

  pub fits_after : (at : ℕ) → at ≤ length cells → at ≤ place → size_of cells + size ≤ ROOM + size_of (take at cells) → Fits cells place size (record { at = at; behind = true })
  fits_after at inside side room = record { inside = inside; ahead = λ e. cc; behind = λ e. side; before = omega (arith, size_split at cells); after = omega (arith, size_split at cells, room) }

  pub fits_next : (at : ℕ) → at ≤ length cells → at ≤ place → size_of cells < 2 * size_of (take at cells) → Fits cells place size (record { at = at; behind = true })
  fits_next at inside side more = record { inside = inside; ahead = λ e. cc; behind = λ e. side; before = omega (arith, size_split at cells); after = omega (arith, size_split at cells, more) }

-- ---- a leaf cut in two

module _ (old mid new : List (List Cell)) (i at place : ℕ) (key value : List ℕ) (low : i < length old) (belongs : BelongsAt (leaf_cells old i) key place)
    (full : ROOM < size_of (leaf_cells old i) + cell_size (key, value)) (cut : mid ≡ replaced old i (take at (leaf_cells old i) ∷ drop at (leaf_cells old i) ∷ [])) where
  abbrev cells : List Cell
  cells = leaf_cells old i

  too_full : ROOM < size_of (globals.put bytes_cmp key value cells)
  too_full = omega (arith, new_size key value cells place belongs, full)

  put_two : (first second : List Cell) → first ++ second ≡ globals.put bytes_cmp key value cells → size_of first ≤ ROOM → size_of second ≤ ROOM → new ≡ replaced old i (first ∷ second ∷ []) → HasPut old new i key value
  put_two first second together small few are =
      let some = both_some first second (globals.put bytes_cmp key value cells) together too_full small few in
      record { first = first; more = second ∷ []; are = are; together = ap (λ (l : List Cell). first ++ l) (append-nil second) ∙ together; some = some.0; others = (some.1, tt) }

  pub put_by : (behind : Bool) → Fits cells place (cell_size (key, value)) (record { at = at; behind = behind })
      → new ≡ replaced mid (i + one_if behind) (globals.put bytes_cmp key value (leaf_cells mid (i + one_if behind)) ∷ []) → HasPut old new i key value
  put_by true f is =
      let there : leaf_cells mid (i + 1) ≡ drop at cells = ap (λ (ls : List (List Cell)). leaf_cells ls (i + 1)) cut ∙ second_there old i (take at cells) (drop at cells) low in
      put_two (take at cells) (globals.put bytes_cmp key value (drop at cells)) (put_after key value cells place at belongs (f.behind refl)) (omega (arith, f.before)) (omega (arith, f.after, put_size key value (drop at cells)))
      (is ∙ ap (λ (l : List Cell). replaced mid (i + 1) (globals.put bytes_cmp key value l ∷ [])) there
      ∙ ap (λ (ls : List (List Cell)). replaced ls (i + 1) (globals.put bytes_cmp key value (drop at cells) ∷ [])) cut
      ∙ replaced_second old i (take at cells) (drop at cells) (globals.put bytes_cmp key value (drop at cells)) low)
  put_by false f is =
      let same : i + 0 ≡ i = add-zero i in
      let there : leaf_cells mid i ≡ take at cells = ap (λ (ls : List (List Cell)). leaf_cells ls i) cut ∙ replaced_there old i (take at cells) (drop at cells ∷ []) low in
      put_two (globals.put bytes_cmp key value (take at cells)) (drop at cells) (put_ahead key value cells place at belongs (f.ahead refl)) (omega (arith, f.before, put_size key value (take at cells))) (omega (arith, f.after))
      (is ∙ ap (λ n. replaced mid n (globals.put bytes_cmp key value (leaf_cells mid n) ∷ [])) same
      ∙ ap (λ (l : List Cell). replaced mid i (globals.put bytes_cmp key value l ∷ [])) there
      ∙ ap (λ (ls : List (List Cell)). replaced ls i (globals.put bytes_cmp key value (take at cells) ∷ [])) cut
      ∙ replaced_again old i (take at cells) (drop at cells ∷ []) (globals.put bytes_cmp key value (take at cells) ∷ []) low)

  -- the part that takes the cell is there, and has room for it
  pub part_inside : (behind : Bool) → i + one_if behind < length mid
  part_inside true = omega (arith, ap (λ (ls : List (List Cell)). length ls) cut, length-replaced old i (take at cells ∷ drop at cells ∷ []) low)
  part_inside false = omega (arith, ap (λ (ls : List (List Cell)). length ls) cut, length-replaced old i (take at cells ∷ drop at cells ∷ []) low)

  pub part_fits : (behind : Bool) → Fits cells place (cell_size (key, value)) (record { at = at; behind = behind }) → size_of (globals.put bytes_cmp key value (leaf_cells mid (i + one_if behind))) ≤ ROOM
  part_fits true f =
      let there : leaf_cells mid (i + 1) ≡ drop at cells = ap (λ (ls : List (List Cell)). leaf_cells ls (i + 1)) cut ∙ second_there old i (take at cells) (drop at cells) low in
      let same : size_of (globals.put bytes_cmp key value (leaf_cells mid (i + 1))) ≡ size_of (globals.put bytes_cmp key value (drop at cells)) = ap (λ (l : List Cell). size_of (globals.put bytes_cmp key value l)) there in
      omega (arith, same, f.after, put_size key value (drop at cells))
  part_fits false f =
      let there : leaf_cells mid (i + 0) ≡ take at cells = ap (leaf_cells mid) (add-zero i) ∙ ap (λ (ls : List (List Cell)). leaf_cells ls i) cut ∙ replaced_there old i (take at cells) (drop at cells ∷ []) low in
      let same : size_of (globals.put bytes_cmp key value (leaf_cells mid (i + 0))) ≡ size_of (globals.put bytes_cmp key value (take at cells)) = ap (λ (l : List Cell). size_of (globals.put bytes_cmp key value l)) there in
      omega (arith, same, f.before, put_size key value (take at cells))

-- the size of a cell as it is counted, and the part that takes it
pub cut_fits : (leaf cells : List Cell) (place : ℕ) (key value : List ℕ) (cut : Cut) → leaf ≡ cells → Fits leaf place (3 + length key + length value) cut → Fits cells place (cell_size (key, value)) cut
cut_fits leaf cells place key value cut are f =
    let size : 3 + length key + length value ≡ cell_size (key, value) = omega (arith, length-spelled_cell (key, value)) in
    subst (λ (l : List Cell). Fits l place (cell_size (key, value)) cut) are (subst (λ n. Fits leaf place n cut) size f)

pub part_is : (i n : ℕ) (behind : Bool) → n ≡ from_bool behind → i + n ≡ i + one_if behind
part_is i n behind is = ap (λ m. i + m) (is ∙ byte_is behind)

-- ---- a leaf without a key's cell

pub leaf_again : (leaves : List (List Cell)) (i : ℕ) → i < length leaves → leaves ≡ replaced leaves i (leaf_cells leaves i ∷ [])
leaf_again leaves i low = cut_leaf leaves i low

pub opened_there : (old new : List (List Cell)) (i : ℕ) (key : List ℕ) (place : ℕ) → StandsIn (leaf_cells old i) key place
    → new ≡ replaced old i (without_between (leaf_cells old i) place (place + 1) ∷ []) → IsOpened old new i key place
opened_there old new i key place s is =
    record { rest = without_between (leaf_cells old i) place (place + 1); are = is; belongs = belongs_there key (leaf_cells old i) place s; same = λ value. put_again key value (leaf_cells old i) place s }

pub opened_already : (old : List (List Cell)) (i : ℕ) (key : List ℕ) (place : ℕ) → i < length old → BelongsAt (leaf_cells old i) key place → IsOpened old old i key place
opened_already old i key place low b = record { rest = leaf_cells old i; are = leaf_again old i low; belongs = b; same = λ value. refl }

-- ---- a cell put into a leaf

pub not_fits : (r : Bool) (n : ℕ) → ((r ≡ true → n ≤ ROOM) × (n ≤ ROOM → r ≡ true)) → r ≡ false → ROOM < n
not_fits r n h small = elim (cases_order n ROOM) [
  | inl e ↦ absurd (true≢false (sym (h.1 (omega (arith, e))) ∙ small))
  | inr apart ↦ elim apart [
    | inl low ↦ absurd (true≢false (sym (h.1 (omega (arith, low))) ∙ small))
    | inr high ↦ high
  ]
]

pub put_alone : (old new : List (List Cell)) (i : ℕ) (key value : List ℕ) → new ≡ replaced old i (globals.put bytes_cmp key value (leaf_cells old i) ∷ []) → HasPut old new i key value
put_alone old new i key value is = record {
  first = globals.put bytes_cmp key value (leaf_cells old i);
  more = [];
  are = is;
  together = append-nil (globals.put bytes_cmp key value (leaf_cells old i));
  some = put_some key value (leaf_cells old i);
  others = tt;
}

module _ (old mid : List (List Cell)) (i : ℕ) (key value : List ℕ) (place : ℕ) (low : i < length old) (open_leaf : IsOpened old mid i key place) where
  pub opened_cells : leaf_cells mid i ≡ open_leaf.rest
  opened_cells = ap (λ (ls : List (List Cell)). leaf_cells ls i) open_leaf.are ∙ replaced_there old i open_leaf.rest [] low

  pub opened_inside : i < length mid
  opened_inside = omega (arith, ap (λ (ls : List (List Cell)). length ls) open_leaf.are, length-replaced old i (open_leaf.rest ∷ []) low)

  pub opened_belongs : BelongsAt (leaf_cells mid i) key place
  opened_belongs = subst (λ (l : List Cell). BelongsAt l key place) (sym opened_cells) open_leaf.belongs

  pub opened_full : ROOM < size_of (globals.put bytes_cmp key value (leaf_cells old i)) → ROOM < size_of (leaf_cells mid i) + cell_size (key, value)
  opened_full full =
      let same : size_of (globals.put bytes_cmp key value (leaf_cells mid i)) ≡ size_of (globals.put bytes_cmp key value (leaf_cells old i)) = ap (λ (l : List Cell). size_of (globals.put bytes_cmp key value l)) opened_cells ∙ ap size_of (open_leaf.same value) in
      omega (arith, full, same, new_size key value (leaf_cells mid i) place opened_belongs)

  pub opened_put : (new : List (List Cell)) → HasPut mid new i key value → HasPut old new i key value
  opened_put new p = record {
    first = p.first;
    more = p.more;
    are = p.are ∙ ap (λ (ls : List (List Cell)). replaced ls i (p.first ∷ p.more)) open_leaf.are ∙ replaced_again old i open_leaf.rest [] (p.first ∷ p.more) low ∙ ap (replaced old i) (append-nil (p.first ∷ p.more));
    together = p.together ∙ ap (globals.put bytes_cmp key value) opened_cells ∙ open_leaf.same value;
    some = p.some;
    others = p.others;
  }

-- ---- what setting a key leaves

module _ (old new : List (List Cell)) (i : ℕ) (key value : List ℕ) (rising : AreRising old) (seat : IsSeat old key i) (p : HasPut old new i key value) where
  pub set_cells : all_cells new ≡ globals.put bytes_cmp key value (all_cells old)
  set_cells = ap all_cells p.are ∙ put_here old key i seat value (p.first ∷ p.more) p.together

  pub set_rising : AreRising new
  set_rising = record {
    rise = subst Rise (sym set_cells) (rise_put key value (all_cells old) rising.rise);
    filled = subst (λ (ls : List (List Cell)). AllByRecursion (λ l. l ≢ []) (drop 1 ls)) (sym p.are) (filled-replaced old i p.first p.more rising.filled seat.inside (λ _. p.some) p.others);
  }

  pub set_count : (found : Result ℕ ℕ) → IfOk found (StandsIn (leaf_cells old i) key) → IfErr found (BelongsAt (leaf_cells old i) key) → length (all_cells new) ≡ length (all_cells old) + one_if (is_err found)
  set_count (Ok place) stands belongs =
      omega (arith, ap (λ (ls : List (List Cell)). length (all_cells ls)) p.are, count-replaced old i (p.first ∷ p.more) seat.inside, ap (λ (l : List Cell). length l) p.together, length_over key value (leaf_cells old i) place stands)
  set_count (Err place) stands belongs =
      omega (arith, ap (λ (ls : List (List Cell)). length (all_cells ls)) p.are, count-replaced old i (p.first ∷ p.more) seat.inside, ap (λ (l : List Cell). length l) p.together, length_new key value (leaf_cells old i) place belongs)
