-- Where a key stands among cells whose keys rise.
use Rattle.std.proofs.Common.{◌≡◌, inl, inr, ℕ, zero, suc, ◌+◌, ◌≤◌, ◌<◌, cond, List, [], ◌∷◌, ◌++◌, length, take, drop, Some, None, refl, sym, ◌∙◌, ap, subst, arith}
use Rattle.std.proofs.lemmas.List.{append-nil, drop_all, take-append-drop}
use Rattle.std.specs.declared.cmp.Ordering.{Ordering}
use Rattle.std.specs.declared.cmp.Ordering.TheVariants.{Less, Equal, Greater}
use Rattle.std.specs.Ordering.{nat_cmp, ordering_reverse, is_eq}
use Rattle.std.specs.Cmp.Lexicographic.{slice_cmp, nat_list_cmp_total}
use Rattle.std.specs.FinMap as globals
use Rattle.std.specs.FinMap.Entries.{by_order}
use Rattle.std.proofs.lemmas.Cmp.{tied_itself}
use Rattle.std.proofs.lemmas.Bool.{cases_lt}
use Rattle.journal_defs.specs.Leaves.{Cell, KeysRise}
use Rattle.block_fmt.specs.Cells.{cell_at, AreBelow, AreAbove, StandsIn, BelongsAt, TakesPlace}
use Rattle.block_fmt.proofs.Lists.{all_take, drop_next, take_fewer}

turned : (a b : List ℕ) (o : Ordering) → slice_cmp nat_cmp a b ≡ o → slice_cmp nat_cmp b a ≡ ordering_reverse o
turned a b o is = nat_list_cmp_total.antisymm b a ∙ ap ordering_reverse is

pub less_greater : (a b : List ℕ) → slice_cmp nat_cmp a b ≡ Less → slice_cmp nat_cmp b a ≡ Greater
less_greater a b is = turned a b Less is

pub greater_less : (a b : List ℕ) → slice_cmp nat_cmp a b ≡ Greater → slice_cmp nat_cmp b a ≡ Less
greater_less a b is = turned a b Greater is

-- a key before one that is greater is greater too
greater_on : (a b k : List ℕ) → slice_cmp nat_cmp a b ≡ Less → slice_cmp nat_cmp a k ≡ Greater → slice_cmp nat_cmp b k ≡ Greater
greater_on a b k less greater = less_greater k b (nat_list_cmp_total.trans k a b (greater_less a k greater) less)

pub rise_tail : (c : Cell) (cs : List Cell) → KeysRise (c ∷ cs) → KeysRise cs
rise_tail c [] rise = tt
rise_tail c (d ∷ cs) rise = rise.1

pub rise_take : (i : ℕ) (cs : List Cell) → KeysRise cs → KeysRise (take i cs)
rise_take zero cs rise = tt
rise_take (suc i) [] rise = tt
rise_take (suc zero) (c ∷ cs) rise = tt
rise_take (suc (suc i)) (c ∷ []) rise = tt
rise_take (suc (suc i)) (c ∷ d ∷ cs) rise = (rise.0, rise_take (suc i) (d ∷ cs) rise.1)

pub rise_drop : (i : ℕ) (cs : List Cell) → KeysRise cs → KeysRise (drop i cs)
rise_drop zero cs rise = rise
rise_drop (suc i) [] rise = tt
rise_drop (suc i) (c ∷ cs) rise = rise_drop i cs (rise_tail c cs rise)

-- all cells are past the first one
above_first : (c : Cell) (cs : List Cell) (key : List ℕ) → KeysRise (c ∷ cs) → slice_cmp nat_cmp c.0 key ≡ Greater → AreAbove cs key
above_first c [] key rise greater = tt
above_first c (d ∷ cs) key rise greater = let next = greater_on c.0 d.0 key rise.0 greater in (next, above_first d cs key rise.1 next)

-- and past the first one's key itself
pub above_own : (c : Cell) (cs : List Cell) → KeysRise (c ∷ cs) → AreAbove cs c.0
above_own c [] rise = tt
above_own c (d ∷ cs) rise = let next = less_greater c.0 d.0 rise.0 in (next, above_first d cs c.0 rise.1 next)

-- the cells up to one that is smaller are smaller
pub rise_below : (cs : List Cell) (m : ℕ) (key : List ℕ) → KeysRise cs → m < length cs → slice_cmp nat_cmp (cell_at cs m).0 key ≡ Less → AreBelow (take (suc m) cs) key
rise_below [] m key rise inside less = absurd (omega arith)
rise_below (c ∷ cs) zero key rise inside less = (less, tt)
rise_below (c ∷ []) (suc m) key rise inside less = absurd (omega arith)
rise_below (c ∷ d ∷ cs) (suc m) key rise inside less =
    let rest = rise_below (d ∷ cs) m key rise.1 (omega arith) less in
    (nat_list_cmp_total.trans c.0 d.0 key rise.0 rest.0, rest)

-- the first cell is smaller than each other
rise_first : (c : Cell) (cs : List Cell) (n : ℕ) → KeysRise (c ∷ cs) → n < length cs → slice_cmp nat_cmp c.0 (cell_at cs n).0 ≡ Less
rise_first c [] n rise inside = absurd (omega arith)
rise_first c (d ∷ cs) zero rise inside = rise.0
rise_first c (d ∷ cs) (suc n) rise inside = nat_list_cmp_total.trans c.0 d.0 (cell_at cs n).0 rise.0 (rise_first d cs n rise.1 (omega arith))

-- the cells before one are smaller than it
pub rise_before : (cs : List Cell) (m : ℕ) → KeysRise cs → m < length cs → AreBelow (take m cs) (cell_at cs m).0
rise_before [] m rise inside = absurd (omega arith)
rise_before (c ∷ cs) zero rise inside = tt
rise_before (c ∷ []) (suc m) rise inside = absurd (omega arith)
rise_before (c ∷ d ∷ cs) (suc m) rise inside = (rise_first c (d ∷ cs) m rise (omega arith), rise_before (d ∷ cs) m rise.1 (omega arith))

-- the cells from one that is greater on are greater
pub rise_above : (cs : List Cell) (m : ℕ) (key : List ℕ) → KeysRise cs → m < length cs → slice_cmp nat_cmp (cell_at cs m).0 key ≡ Greater → AreAbove (drop m cs) key
rise_above cs m key rise inside greater =
    let next = drop_next cs m ([], []) inside in
    let rest : KeysRise (cell_at cs m ∷ drop (m + 1) cs) = subst KeysRise next (rise_drop m cs rise) in
    subst (λ (l : List Cell). AreAbove l key) (sym next) (greater, above_first (cell_at cs m) (drop (m + 1) cs) key rest greater)

pub rise_stands : (cs : List Cell) (m : ℕ) (key : List ℕ) → KeysRise cs → m < length cs → slice_cmp nat_cmp (cell_at cs m).0 key ≡ Equal → StandsIn cs key m
rise_stands cs m key rise inside equal =
    let same : (cell_at cs m).0 ≡ key = globals.slice_cmp-IsAntisymmetric globals.nat_cmp-IsAntisymmetric (cell_at cs m).0 key equal in
    let rest : KeysRise (cell_at cs m ∷ drop (m + 1) cs) = subst KeysRise (drop_next cs m ([], []) inside) (rise_drop m cs rise) in
    record {
      inside = inside;
      here = same;
      before = subst (λ (k : List ℕ). AreBelow (take m cs) k) same (rise_before cs m rise inside);
      after = subst (λ (k : List ℕ). AreAbove (drop (m + 1) cs) k) same (above_own (cell_at cs m) (drop (m + 1) cs) rest);
    }

-- What stands behind cells whose keys are smaller.
module _ (key : List ℕ) where
  pub put_behind : (value : List ℕ) (front rest : List Cell) → AreBelow front key → globals.put (slice_cmp nat_cmp) key value (front ++ rest) ≡ front ++ globals.put (slice_cmp nat_cmp) key value rest
  put_behind value [] rest below = refl
  put_behind value (c ∷ front) rest below =
      ap (λ (o : Ordering). by_order o ((key, value) ∷ c ∷ (front ++ rest)) ((c.0, value) ∷ (front ++ rest)) (c ∷ globals.put (slice_cmp nat_cmp) key value (front ++ rest))) (less_greater c.0 key below.0)
      ∙ ap (λ (l : List Cell). c ∷ l) (put_behind value front rest below.1)

  pub find_behind : (front rest : List Cell) → AreBelow front key → globals.find (slice_cmp nat_cmp) key (front ++ rest) ≡ globals.find (slice_cmp nat_cmp) key rest
  find_behind [] rest below = refl
  find_behind (c ∷ front) rest below =
      ap (λ (o : Ordering). cond (is_eq o) (Some c.1) (globals.find (slice_cmp nat_cmp) key (front ++ rest))) (less_greater c.0 key below.0) ∙ find_behind front rest below.1

  pub put_above : (value : List ℕ) (rest : List Cell) → AreAbove rest key → globals.put (slice_cmp nat_cmp) key value rest ≡ (key, value) ∷ rest
  put_above value [] above = refl
  put_above value (c ∷ rest) above =
      ap (λ (o : Ordering). by_order o ((key, value) ∷ c ∷ rest) ((c.0, value) ∷ rest) (c ∷ globals.put (slice_cmp nat_cmp) key value rest)) (greater_less c.0 key above.0)

  pub find_above : (rest : List Cell) → AreAbove rest key → globals.find (slice_cmp nat_cmp) key rest ≡ None
  find_above [] above = refl
  find_above (c ∷ rest) above =
      ap (λ (o : Ordering). cond (is_eq o) (Some c.1) (globals.find (slice_cmp nat_cmp) key rest)) (greater_less c.0 key above.0) ∙ find_above rest above.1

  tied : (other : List ℕ) → other ≡ key → slice_cmp nat_cmp key other ≡ Equal
  tied other same = subst (λ (k : List ℕ). slice_cmp nat_cmp key k ≡ Equal) (sym same) (tied_itself nat_list_cmp_total key)

  pub put_here : (value : List ℕ) (c : Cell) (rest : List Cell) → c.0 ≡ key → globals.put (slice_cmp nat_cmp) key value (c ∷ rest) ≡ (key, value) ∷ rest
  put_here value c rest same =
      ap (λ (o : Ordering). by_order o ((key, value) ∷ c ∷ rest) ((c.0, value) ∷ rest) (c ∷ globals.put (slice_cmp nat_cmp) key value rest)) (tied c.0 same)
      ∙ ap (λ (k : List ℕ). (k, value) ∷ rest) same

  pub find_here : (c : Cell) (rest : List Cell) → c.0 ≡ key → globals.find (slice_cmp nat_cmp) key (c ∷ rest) ≡ Some c.1
  find_here c rest same = ap (λ (o : Ordering). cond (is_eq o) (Some c.1) (globals.find (slice_cmp nat_cmp) key rest)) (tied c.0 same)

-- a key that stands at i, or belongs there
stands_split : (cs : List Cell) (key : List ℕ) (i : ℕ) → StandsIn cs key i → cs ≡ take i cs ++ cell_at cs i ∷ drop (i + 1) cs
stands_split cs key i h = sym (take-append-drop i cs) ∙ ap (λ (l : List Cell). take i cs ++ l) (drop_next cs i ([], []) h.inside)

pub find_stands : (cs : List Cell) (key : List ℕ) (i : ℕ) → StandsIn cs key i → globals.find (slice_cmp nat_cmp) key cs ≡ Some (cell_at cs i).1
find_stands cs key i h =
    ap (globals.find (slice_cmp nat_cmp) key) (stands_split cs key i h) ∙ find_behind key (take i cs) (cell_at cs i ∷ drop (i + 1) cs) h.before ∙ find_here key (cell_at cs i) (drop (i + 1) cs) h.here

pub find_belongs : (cs : List Cell) (key : List ℕ) (i : ℕ) → BelongsAt cs key i → globals.find (slice_cmp nat_cmp) key cs ≡ None
find_belongs cs key i h =
    ap (globals.find (slice_cmp nat_cmp) key) (sym (take-append-drop i cs)) ∙ find_behind key (take i cs) (drop i cs) h.before ∙ find_above key (drop i cs) h.after

pub put_stands : (cs : List Cell) (key value : List ℕ) (i : ℕ) → StandsIn cs key i → globals.put (slice_cmp nat_cmp) key value cs ≡ take i cs ++ (key, value) ∷ drop (i + 1) cs
put_stands cs key value i h =
    ap (globals.put (slice_cmp nat_cmp) key value) (stands_split cs key i h) ∙ put_behind key value (take i cs) (cell_at cs i ∷ drop (i + 1) cs) h.before
    ∙ ap (λ (l : List Cell). take i cs ++ l) (put_here key value (cell_at cs i) (drop (i + 1) cs) h.here)

pub put_belongs : (cs : List Cell) (key value : List ℕ) (i : ℕ) → BelongsAt cs key i → globals.put (slice_cmp nat_cmp) key value cs ≡ take i cs ++ (key, value) ∷ drop i cs
put_belongs cs key value i h =
    ap (globals.put (slice_cmp nat_cmp) key value) (sym (take-append-drop i cs)) ∙ put_behind key value (take i cs) (drop i cs) h.before ∙ ap (λ (l : List Cell). take i cs ++ l) (put_above key value (drop i cs) h.after)

pub taken_stands : (cs : List Cell) (key : List ℕ) (i : ℕ) → StandsIn cs key i → TakesPlace cs key i (i + 1)
taken_stands cs key i h =
    let low = h.inside in
    record {
      order = omega arith;
      one = omega arith;
      inside = omega (arith, low);
      before = h.before;
      after = h.after;
      put = λ value. put_stands cs key value i h;
    }

pub taken_belongs : (cs : List Cell) (key : List ℕ) (i : ℕ) → BelongsAt cs key i → TakesPlace cs key i i
taken_belongs cs key i h = record {
  order = omega arith;
  one = omega arith;
  inside = h.inside;
  before = h.before;
  after = h.after;
  put = λ value. put_belongs cs key value i h;
}

-- a key behind a smaller one
pub rise_behind : (cs : List Cell) (m : ℕ) (key : List ℕ) → KeysRise cs → m < length cs → slice_cmp nat_cmp (cell_at cs m).0 key ≡ Less → AreBelow (take (m + 1) cs) key
rise_behind cs m key rise inside less = let next : suc m ≡ m + 1 = omega arith in subst (λ (k : ℕ). AreBelow (take k cs) key) next (rise_below cs m key rise inside less)

-- all cells before a place are smaller, and all from there on greater
pub belongs : (cs : List Cell) (low high : ℕ) (key : List ℕ) → low ≤ high → high ≤ low → high ≤ length cs → AreBelow (take low cs) key → AreAbove (drop high cs) key → BelongsAt cs key low
belongs cs low high key order meet inside below above =
    let same : high ≡ low = omega arith in
    record { inside = omega (arith, order, inside); before = below; after = subst (λ (k : ℕ). AreAbove (drop k cs) key) same above }

-- lists of cells joined

pub rise_join : (xs : List Cell) (d : Cell) (ds : List Cell) → KeysRise xs → AreBelow xs d.0 → KeysRise (d ∷ ds) → KeysRise (xs ++ d ∷ ds)
rise_join [] d ds rise below more = more
rise_join (x ∷ []) d ds rise below more = (below.0, more)
rise_join (x ∷ y ∷ xs) d ds rise below more = (rise.0, rise_join (y ∷ xs) d ds rise.1 below.1 more)

rise_cons : (c : Cell) (ds : List Cell) → AreAbove ds c.0 → KeysRise ds → KeysRise (c ∷ ds)
rise_cons c [] above rise = tt
rise_cons c (d ∷ ds) above rise = (greater_less d.0 c.0 above.0, rise)

-- with a cell in place of those from i up to j
pub rise_put : (cs : List Cell) (c : Cell) (i j : ℕ) → KeysRise cs → AreBelow (take i cs) c.0 → AreAbove (drop j cs) c.0 → KeysRise (take i cs ++ c ∷ drop j cs)
rise_put cs c i j rise below above = rise_join (take i cs) c (drop j cs) (rise_take i cs rise) below (rise_cons c (drop j cs) above (rise_drop j cs rise))

-- without the cells from i up to j
pub rise_cut : (cs : List Cell) (i j : ℕ) → KeysRise cs → i ≤ j → KeysRise (take i cs ++ drop j cs)
rise_cut cs i j rise order = elim (cases_lt j (length cs)) [
  | inl inside ↦
      let d = cell_at cs j in
      let next = drop_next cs j ([], []) inside in
      let below : AreBelow (take i cs) d.0 = subst (λ (l : List Cell). AreBelow l d.0) (take_fewer i j cs order) (all_take (λ (c : Cell). slice_cmp nat_cmp c.0 d.0 ≡ Less) i (take j cs) (rise_before cs j rise inside)) in
      let more : KeysRise (d ∷ drop (j + 1) cs) = subst KeysRise next (rise_drop j cs rise) in
      subst (λ (l : List Cell). KeysRise (take i cs ++ l)) (sym next) (rise_join (take i cs) d (drop (j + 1) cs) (rise_take i cs rise) below more)
  | inr outside ↦ subst (λ (l : List Cell). KeysRise (take i cs ++ l)) (sym (drop_all j cs outside)) (subst KeysRise (sym (append-nil (take i cs))) (rise_take i cs rise))
]
