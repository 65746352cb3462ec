-- The walk along a chain of leaves.
use Rattle.std.proofs.Common.{◌≡◌, ◌≢◌, ◌⊎◌, inl, inr, ℕ, zero, suc, ◌+◌, ◌-◌, ◌<◌, ◌≤◌, ◌==◌, Bool, true, false, ◌&&◌, ◌||◌, List, [], ◌∷◌, ◌++◌, length, take, drop, get_or, set, replicate, refl, sym, ap, subst, ◌∙◌, arith, append_assoc, append-nil}
use Rattle.std.specs.Prelude.{not, count_by}
use Rattle.std.proofs.lemmas.Bool.{cases_Bool, cases_eq, and_parts}
use Rattle.std.proofs.lemmas.Bool.Decides.{nat_tests}
use Rattle.std.proofs.lemmas.List.{map-append, take_more, take_all, length-append, length-set, get_or-set_same, get_or-set_other, get_or_default, get_or-replicate, length-replicate}
use Rattle.std.proofs.lemmas.List.Sums.{sum_by-set}
use Rattle.std.specs.declared.cmp.Ordering.{Ordering}
use Rattle.std.specs.declared.cmp.Ordering.TheVariants.{Less, Equal, Greater}
use Rattle.std.specs.Ordering.{is_lt}
use Rattle.std.specs.Cmp.Lexicographic.{nat_list_cmp_total}
use Rattle.std.proofs.lemmas.Cmp.{tied_itself}
use Rattle.std.specs.List.{AllByRecursion}
use Rattle.journal_defs.specs.Leaves.{Leaf, Cell, IsLeaf, KeysRise}
use Rattle.block_fmt.specs.Cells.{AreBelow, AreAbove, cell_at}
use Rattle.block_pool.specs.Code.{Pool}
use Rattle.block_pool.specs.Pool.{leaf_at}
use Rattle.gvt_leaf.specs.Links.{first_or, Lead, times, one_if}
use Rattle.gvt_leaf.specs.Chained.{all_cells}
use Rattle.gvt_leaf.specs.Order.{Rise, AreRising}
use Rattle.gvt_leaf.specs.Walked.{leaves_of, go_on, Follows, Breaks, BreaksAt, IsWalked}
use Rattle.gvt_leaf.proofs.Links.{times-append, Lead_joined, all-append}
use Rattle.gvt_leaf.proofs.Bytes.{above_flips, below_flips, rise_before, rise_second, above_less}
use Rattle.gvt_leaf.proofs.LeafLists.{cells-append}
use Rattle.journal_laws.proofs.ImageSteps.{all_both as all_joined}
use Rattle.global_defs.proofs.Basics.{bytes_cmp}

-- ---- rising cells

pub all_rise : (cs : List Cell) → KeysRise cs → Rise cs
all_rise [] h = tt
all_rise (c ∷ []) h = (tt, tt)
all_rise (c ∷ d ∷ cs) h =
    let rest = all_rise (d ∷ cs) h.1 in
    let high : bytes_cmp d.0 c.0 ≡ Greater = below_flips c.0 d.0 h.0 in
    ((high, above_less cs d.0 c.0 high rest.0), rest)

rise_both : (xs ys : List Cell) → Rise xs → Rise ys → AllByRecursion (λ (x : Cell). AreAbove ys x.0) xs → Rise (xs ++ ys)
rise_both [] ys h k a = k
rise_both (x ∷ xs) ys h k a = (all_joined (λ (d : Cell). bytes_cmp d.0 x.0 ≡ Greater) xs ys h.0 a.0, rise_both xs ys h.1 k a.1)

above_earlier : (zs : List Cell) (x : Cell) (ys : List Cell) → AreBelow zs x.0 → AreAbove ys x.0 → AllByRecursion (λ (z : Cell). AreAbove ys z.0) zs
above_earlier [] x ys h a = tt
above_earlier (z ∷ zs) x ys h a = (above_less ys x.0 z.0 (below_flips z.0 x.0 h.0) a, above_earlier zs x ys h.1 a)

-- cells of which the last is before the first of others
pub rise_joined : (zs : List Cell) (x y : Cell) (ys : List Cell) → Rise (zs ++ x ∷ []) → Rise (y ∷ ys) → bytes_cmp x.0 y.0 ≡ Less → Rise ((zs ++ x ∷ []) ++ (y ∷ ys))
rise_joined zs x y ys h k low =
    let high : bytes_cmp y.0 x.0 ≡ Greater = below_flips x.0 y.0 low in
    let above : AreAbove (y ∷ ys) x.0 = (high, above_less ys y.0 x.0 high k.0) in
    rise_both (zs ++ x ∷ []) (y ∷ ys) h k
    (all_joined (λ (z : Cell). AreAbove (y ∷ ys) z.0) zs (x ∷ []) (above_earlier zs x (y ∷ ys) (rise_before zs x [] h) above) (above, tt))

pub last_there : (cs : List Cell) → 0 < length cs → cs ≡ take (length cs - 1) cs ++ cell_at cs (length cs - 1) ∷ []
last_there cs some =
    sym (take_all (length cs - 1 + 1) cs (omega arith)) ∙ take_more cs (length cs - 1) ([], []) (omega arith)

-- ---- one leaf more

pub leaves-append : (p : Pool) (xs ys : List ℕ) → leaves_of p (xs ++ ys) ≡ leaves_of p xs ++ leaves_of p ys
leaves-append p xs ys = map-append (λ b. (leaf_at p b).cells) xs ys

pub cells_more : (p : Pool) (xs : List ℕ) (b : ℕ) → all_cells (leaves_of p (xs ++ b ∷ [])) ≡ all_cells (leaves_of p xs) ++ (leaf_at p b).cells
cells_more p xs b =
    ap all_cells (leaves-append p xs (b ∷ [])) ∙ cells-append (leaves_of p xs) ((leaf_at p b).cells ∷ [])
    ∙ ap (λ (l : List Cell). all_cells (leaves_of p xs) ++ l) (append-nil (leaf_at p b).cells)

filled_more : (ls : List (List Cell)) (l : List Cell) → 0 < length ls → AllByRecursion (λ l. l ≢ []) (drop 1 ls) → l ≢ [] → AllByRecursion (λ l. l ≢ []) (drop 1 (ls ++ l ∷ []))
filled_more [] l some h k = absurd (omega arith)
filled_more (x ∷ ls) l some h k = all_joined (λ (l : List Cell). l ≢ []) ls (l ∷ []) h (k, tt)

filled_last : (ls : List (List Cell)) (l : List Cell) → 0 < length ls → AllByRecursion (λ l. l ≢ []) (drop 1 (ls ++ l ∷ [])) → l ≢ []
filled_last [] l some h = absurd (omega arith)
filled_last (x ∷ ls) l some h = (all-append (λ (l : List Cell). l ≢ []) ls (l ∷ []) h).1.0

some_leaves : (p : Pool) (front : List ℕ) (last : ℕ) → 0 < length (leaves_of p (front ++ last ∷ []))
some_leaves p [] last = omega arith
some_leaves p (f ∷ front) last = omega arith

-- only the first leaf may be empty, so before an empty one none stands
empty_first : (p : Pool) (front : List ℕ) (last : ℕ) → AreRising (leaves_of p (front ++ last ∷ [])) → length (leaf_at p last).cells ≡ 0 → all_cells (leaves_of p (front ++ last ∷ [])) ≡ []
empty_first p [] last r none = ap (λ (l : List Cell). l ++ []) (nothing (leaf_at p last).cells none)
  where
    nothing : (cs : List Cell) → length cs ≡ 0 → cs ≡ []
    nothing [] h = refl
    nothing (c ∷ cs) h = absurd (omega arith)
empty_first p (f ∷ front) last r none =
    let full : (leaf_at p last).cells ≢ [] = (all-append (λ (l : List Cell). l ≢ []) (leaves_of p front) ((leaf_at p last).cells ∷ []) (subst (λ (ls : List (List Cell)). AllByRecursion (λ l. l ≢ []) ls) (leaves-append p front (last ∷ [])) r.filled)).1.0 in
    absurd (full (nothing (leaf_at p last).cells none))
  where
    nothing : (cs : List Cell) → length cs ≡ 0 → cs ≡ []
    nothing [] h = refl
    nothing (c ∷ cs) h = absurd (omega arith)

not_empty : (cs : List Cell) → not (length cs == 0) ≡ true → (y : Cell) × (ys : List Cell) × (cs ≡ y ∷ ys)
not_empty [] h = absurd (let no : false ≡ true = h in cc)
not_empty (c ∷ cs) h = (c, cs, refl)

or_other : (a b : Bool) → a ≡ false → (a || b) ≡ true → b ≡ true
or_other true b e h = cc
or_other false b e h = h

less_of : (o : Ordering) → is_lt o ≡ true → o ≡ Less
less_of Less h = refl
less_of Equal h = cc
less_of Greater h = cc

pub rises_more : (p : Pool) (front : List ℕ) (last b : ℕ) → AreRising (leaves_of p (front ++ last ∷ [])) → IsLeaf (leaf_at p b) → go_on (leaf_at p last).cells (leaf_at p b).cells ≡ true
    → AreRising (leaves_of p ((front ++ last ∷ []) ++ b ∷ []))
rises_more p front last b r form goes =
    let xs : List Cell = (leaf_at p last).cells in
    let cs : List Cell = (leaf_at p b).cells in
    let parts = and_parts (not (length cs == 0)) (length xs == 0 || is_lt (bytes_cmp (cell_at xs (length xs - 1)).0 (cell_at cs 0).0)) goes in
    let some = not_empty cs parts.0 in
    let y : Cell = some.0 in
    let ys : List Cell = some.1 in
    let risen : Rise (y ∷ ys) = subst Rise some.2 (all_rise cs form.rising) in
    record {
      rise = subst Rise (sym (cells_more p (front ++ last ∷ []) b)) (subst (λ (l : List Cell). Rise (all_cells (leaves_of p (front ++ last ∷ [])) ++ l)) (sym some.2)
          (elim (cases_Bool (length xs == 0)) [
            | inl none ↦
                let empty : length xs ≡ 0 = grind (arith, nat_tests, none) in
                subst (λ (l : List Cell). Rise (l ++ (y ∷ ys))) (sym (empty_first p front last r empty)) risen
            | inr full ↦
                let size : 0 < length xs = grind (arith, nat_tests, full) in
                let low : bytes_cmp (cell_at xs (length xs - 1)).0 (cell_at cs 0).0 ≡ Less = less_of (bytes_cmp (cell_at xs (length xs - 1)).0 (cell_at cs 0).0) (or_other (length xs == 0) (is_lt (bytes_cmp (cell_at xs (length xs - 1)).0 (cell_at cs 0).0)) full parts.1) in
                let before : all_cells (leaves_of p (front ++ last ∷ [])) ≡ (all_cells (leaves_of p front) ++ take (length xs - 1) xs) ++ cell_at xs (length xs - 1) ∷ [] =
                cells_more p front last ∙ ap (λ (l : List Cell). all_cells (leaves_of p front) ++ l) (last_there xs size) ∙ sym (append_assoc (all_cells (leaves_of p front)) (take (length xs - 1) xs) (cell_at xs (length xs - 1) ∷ [])) in
                subst (λ (l : List Cell). Rise (l ++ (y ∷ ys))) (sym before)
                (rise_joined (all_cells (leaves_of p front) ++ take (length xs - 1) xs) (cell_at xs (length xs - 1)) y ys (subst Rise before r.rise) risen (ap (λ (c : Cell). bytes_cmp (cell_at xs (length xs - 1)).0 c.0) (sym (ap (λ (l : List Cell). cell_at l 0) some.2)) ∙ low))
          ]));
      filled = subst (λ (ls : List (List Cell)). AllByRecursion (λ l. l ≢ []) (drop 1 ls)) (sym (leaves-append p (front ++ last ∷ []) (b ∷ [])))
          (filled_more (leaves_of p (front ++ last ∷ [])) cs (some_leaves p front last) r.filled (λ e. let no : y ∷ ys ≡ [] = sym some.2 ∙ e in cc));
    }

-- where the keys rise on, the walk goes on
pub goes_with : (p : Pool) (front : List ℕ) (last b : ℕ) → AreRising (leaves_of p ((front ++ last ∷ []) ++ b ∷ [])) → go_on (leaf_at p last).cells (leaf_at p b).cells ≡ true
goes_with p front last b r =
    let xs : List Cell = (leaf_at p last).cells in
    let cs : List Cell = (leaf_at p b).cells in
    let full : cs ≢ [] = filled_last (leaves_of p (front ++ last ∷ [])) cs (some_leaves p front last) (subst (λ (ls : List (List Cell)). AllByRecursion (λ l. l ≢ []) (drop 1 ls)) (leaves-append p (front ++ last ∷ []) (b ∷ [])) r.filled) in
    some cs full refl
  where
    some : (cs : List Cell) → cs ≢ [] → (leaf_at p b).cells ≡ cs → go_on (leaf_at p last).cells cs ≡ true
    some [] full is = absurd (full refl)
    some (y ∷ ys) full is =
        let xs : List Cell = (leaf_at p last).cells in
        let filled : (length (y ∷ ys) == 0) ≡ false = grind (arith, nat_tests) in
        ap (λ (e : Bool). not e && (length xs == 0 || is_lt (bytes_cmp (cell_at xs (length xs - 1)).0 y.0))) filled ∙ elim (cases_Bool (length xs == 0)) [
          | inl none ↦ ap (λ t. true && (t || is_lt (bytes_cmp (cell_at xs (length xs - 1)).0 y.0))) none
          | inr there ↦
              let size : 0 < length xs = grind (arith, nat_tests, there) in
              let zs : List Cell = all_cells (leaves_of p front) ++ take (length xs - 1) xs in
              let x : Cell = cell_at xs (length xs - 1) in
              let cells : all_cells (leaves_of p ((front ++ last ∷ []) ++ b ∷ [])) ≡ zs ++ (x ∷ (y ∷ ys)) =
              cells_more p (front ++ last ∷ []) b
              ∙ (λ i. (cells_more p front last ∙ ap (λ (l : List Cell). all_cells (leaves_of p front) ++ l) (last_there xs size) ∙ sym (append_assoc (all_cells (leaves_of p front)) (take (length xs - 1) xs) (x ∷ []))) i ++ is i)
              ∙ append_assoc zs (x ∷ []) (y ∷ ys) in
              let high : bytes_cmp y.0 x.0 ≡ Greater = (rise_second zs (x ∷ (y ∷ ys)) (subst Rise cells r.rise)).0.0 in
              ap (λ t. true && (t || is_lt (bytes_cmp x.0 y.0))) there ∙ ap is_lt (above_flips y.0 x.0 high)
        ]

-- ---- a leaf that the walk has been at

pub split_times : (n : ℕ) (xs : List ℕ) → 1 ≤ times n xs → (ys : List ℕ) × (zs : List ℕ) × (xs ≡ ys ++ n ∷ zs)
split_times n [] h = absurd (omega arith)
split_times n (x ∷ xs) h = elim (cases_eq x n) [
  | inl e ↦ ([], xs, ap (λ (y : ℕ). y ∷ xs) e)
  | inr other ↦
      let none : one_if (x == n) ≡ 0 = ap one_if (let no : (x == n) ≡ false = grind (arith, nat_tests, other) in no) in
      let rest = split_times n xs (omega (arith, h, none)) in
      (x ∷ rest.0, rest.1, ap (λ (l : List ℕ). x ∷ l) rest.2)
]

pub not_twice : (p : Pool) (xs : List ℕ) (b : ℕ) → 1 ≤ times b xs → AreRising (leaves_of p (xs ++ b ∷ [])) → ⊥
not_twice p xs b among r =
    let s = split_times b xs among in
    let full : (leaf_at p b).cells ≢ [] = filled_last (leaves_of p xs) (leaf_at p b).cells (long s.0 s.1 xs s.2) (subst (λ (ls : List (List Cell)). AllByRecursion (λ l. l ≢ []) (drop 1 ls)) (leaves-append p xs (b ∷ [])) r.filled) in
    some (leaf_at p b).cells full refl
  where
    long : (ys zs xs : List ℕ) → xs ≡ ys ++ b ∷ zs → 0 < length (leaves_of p xs)
    long ys zs [] e = absurd (let size : 0 ≡ length (ys ++ b ∷ zs) = ap length e in omega (arith, size, length-append ys (b ∷ zs)))
    long ys zs (x ∷ xs) e = omega arith

    some : (cs : List Cell) → cs ≢ [] → (leaf_at p b).cells ≡ cs → ⊥
    some [] full is = full refl
    some (y ∷ ys) full is =
        let s = split_times b xs among in
        let zs : List Cell = all_cells (leaves_of p s.0) in
        let ws : List Cell = all_cells (leaves_of p s.1) in
        let front : all_cells (leaves_of p xs) ≡ zs ++ ((y ∷ ys) ++ ws) =
        ap (λ (l : List ℕ). all_cells (leaves_of p l)) s.2 ∙ ap all_cells (leaves-append p s.0 (b ∷ s.1)) ∙ cells-append (leaves_of p s.0) (leaves_of p (b ∷ s.1)) ∙ ap (λ (l : List Cell). zs ++ (l ++ ws)) is in
        let cells : all_cells (leaves_of p (xs ++ b ∷ [])) ≡ (zs ++ ((y ∷ ys) ++ ws)) ++ (y ∷ ys) = cells_more p xs b ∙ (λ i. front i ++ is i) in
        let below : AreBelow (zs ++ ((y ∷ ys) ++ ws)) y.0 = rise_before (zs ++ ((y ∷ ys) ++ ws)) y ys (subst Rise cells r.rise) in
        let here : bytes_cmp y.0 y.0 ≡ Less = (all-append (λ (c : Cell). bytes_cmp c.0 y.0 ≡ Less) zs ((y ∷ ys) ++ ws) below).1.0 in
        let same : bytes_cmp y.0 y.0 ≡ Equal = tied_itself nat_list_cmp_total y.0 in
        let no : Equal ≡ Less = sym same ∙ here in
        cc

-- ---- marks

pub count-set : (xs : List Bool) (n : ℕ) → n < length xs → get_or xs n true ≡ false → count_by (λ s. s) (set xs n true) ≡ count_by (λ s. s) xs + 1
count-set xs n low h =
    let none : one_if (get_or xs n true) ≡ 0 = ap one_if h in
    let all : count_by (λ s. s) (set xs n true) + one_if (get_or xs n true) ≡ count_by (λ s. s) xs + 1 = sum_by-set one_if xs n true true low in
    omega (arith, all, none)

set_mark : (b n : ℕ) (seen : List Bool) → n < length seen → get_or seen n true ≡ false → one_if (get_or (set seen n true) b false) ≡ one_if (get_or seen b false) + one_if (n == b)
set_mark b n seen low h = elim (cases_eq n b) [
  | inl e ↦
      let now : get_or (set seen n true) b false ≡ true = ap (λ k. get_or (set seen n true) k false) (sym e) ∙ get_or-set_same seen n true false low in
      let was : get_or seen b false ≡ false = ap (λ k. get_or seen k false) (sym e) ∙ get_or_default seen n false true low ∙ h in
      let is : (n == b) ≡ true = grind (arith, nat_tests, e) in
      omega (arith, ap one_if now, ap one_if was, ap one_if is)
  | inr other ↦
      let same : get_or (set seen n true) b false ≡ get_or seen b false = get_or-set_other seen n b true false (λ e. other (sym e)) in
      let no : (n == b) ≡ false = grind (arith, nat_tests, other) in
      omega (arith, ap one_if same, ap one_if no)
]

marks_none : (b n : ℕ) → get_or (replicate n false) b false ≡ false
marks_none b zero = refl
marks_none zero (suc n) = refl
marks_none (suc b) (suc n) = marks_none b n

count_none : (n : ℕ) → count_by (λ s. s) (replicate n false) ≡ 0
count_none zero = refl
count_none (suc n) = omega (arith, count_none n)

-- the walk begins at block 0
pub walk_begins : (p : Pool) → 0 < length p.leaves → IsLeaf (leaf_at p 0) → IsWalked p (0 ∷ []) (set (replicate (length p.leaves) false) 0 true) 0
walk_begins p some form =
    let marks : List Bool = replicate (length p.leaves) false in
    let long : length marks ≡ length p.leaves = length-replicate (length p.leaves) false in
    let not_yet : get_or marks 0 true ≡ false = get_or-replicate (length p.leaves) 0 false true some in
    record {
      first = refl;
      ends = ([], refl);
      led = (refl, tt);
      others = tt;
      inside = (some, tt);
      forms = (form, tt);
      risen = record { rise = subst Rise (sym (append-nil (leaf_at p 0).cells)) (all_rise (leaf_at p 0).cells form.rising); filled = tt };
      marks = length-set marks 0 true ∙ long;
      apart = λ b. let mark = set_mark b 0 marks (omega (arith, long, some)) not_yet in omega (arith, mark, ap one_if (marks_none b (length p.leaves)));
      count = omega (arith, count-set marks 0 (omega (arith, long, some)) not_yet, count_none (length p.leaves));
    }

led_more : (leaf : ℕ → Leaf) (front : List ℕ) (last b : ℕ) → Lead leaf (front ++ last ∷ []) (leaf last).next → (leaf last).next ≡ b → Lead leaf ((front ++ last ∷ []) ++ b ∷ []) (leaf b).next
led_more leaf front last b h is = Lead_joined leaf (front ++ last ∷ []) (b ∷ []) (leaf b).next (subst (λ n. Lead leaf (front ++ last ∷ []) n) is h) (refl, tt)

first_more : (xs : List ℕ) (b e : ℕ) → 0 < length xs → first_or e xs ≡ 0 → first_or e (xs ++ b ∷ []) ≡ 0
first_more [] b e some h = absurd (omega arith)
first_more (x ∷ xs) b e some h = h

others_more : (front : List ℕ) (last b : ℕ) → AllByRecursion (λ c. c ≢ 0) (drop 1 (front ++ last ∷ [])) → b ≢ 0 → AllByRecursion (λ c. c ≢ 0) (drop 1 ((front ++ last ∷ []) ++ b ∷ []))
others_more [] last b h k = (k, tt)
others_more (f ∷ front) last b h k = all_joined (λ (c : ℕ). c ≢ 0) (front ++ last ∷ []) (b ∷ []) h (k, tt)

long_ends : (front : List ℕ) (last : ℕ) → 0 < length (front ++ last ∷ [])
long_ends front last = omega (arith, length-append front (last ∷ []))

-- and goes on to the next one
pub walk_goes_on : (p : Pool) (order : List ℕ) (seen : List Bool) (last b : ℕ) → IsWalked p order seen last → (leaf_at p last).next ≡ b → b ≢ 0 → Follows p seen last b → IsWalked p (order ++ b ∷ []) (set seen b true) b
walk_goes_on p order seen last b w is other f =
    let front : List ℕ = w.ends.0 in
    let ends : order ≡ front ++ last ∷ [] = w.ends.1 in
    let inside : b < length seen = omega (arith, w.marks, f.there) in
    record {
      first = first_more order b 1 (subst (λ (l : List ℕ). 0 < length l) (sym ends) (long_ends front last)) w.first;
      ends = (order, refl);
      led = subst (λ (l : List ℕ). Lead (leaf_at p) (l ++ b ∷ []) (leaf_at p b).next) (sym ends) (led_more (leaf_at p) front last b (subst (λ (l : List ℕ). Lead (leaf_at p) l (leaf_at p last).next) ends w.led) is);
      others = subst (λ (l : List ℕ). AllByRecursion (λ c. c ≢ 0) (drop 1 (l ++ b ∷ []))) (sym ends) (others_more front last b (subst (λ (l : List ℕ). AllByRecursion (λ c. c ≢ 0) (drop 1 l)) ends w.others) other);
      inside = all_joined (λ c. c < length p.leaves) order (b ∷ []) w.inside (f.there, tt);
      forms = all_joined (λ c. IsLeaf (leaf_at p c)) order (b ∷ []) w.forms (f.form, tt);
      risen = subst (λ (l : List ℕ). AreRising (leaves_of p (l ++ b ∷ []))) (sym ends) (rises_more p front last b (subst (λ (l : List ℕ). AreRising (leaves_of p l)) ends w.risen) f.form f.rising);
      marks = length-set seen b true ∙ w.marks;
      apart = λ c. let mark = set_mark c b seen inside f.new in omega (arith, mark, w.apart c, times-append c order (b ∷ []));
      count = let more = count-set seen b inside f.new in omega (arith, more, w.count, length-append order (b ∷ []));
    }

-- or the chain breaks there

breaks : (p : Pool) (order : List ℕ) (seen : List Bool) (last b : ℕ) → IsWalked p order seen last → (leaf_at p last).next ≡ b → b ≢ 0
    → (length p.leaves ≤ b) ⊎ (IsLeaf (leaf_at p b) × (AreRising (leaves_of p (order ++ b ∷ [])) → ⊥)) → BreaksAt p b
breaks p order seen last b w is other broken =
    let front : List ℕ = w.ends.0 in
    let ends : order ≡ front ++ last ∷ [] = w.ends.1 in
    record {
      before = order;
      first = same_first order (subst (λ (l : List ℕ). 0 < length l) (sym ends) (long_ends front last)) w.first;
      led = subst (λ n. Lead (leaf_at p) order n) is w.led;
      others = subst (λ (l : List ℕ). AllByRecursion (λ c. c ≢ 0) (drop 1 (l ++ b ∷ []))) (sym ends) (others_more front last b (subst (λ (l : List ℕ). AllByRecursion (λ c. c ≢ 0) (drop 1 l)) ends w.others) other);
      inside = w.inside;
      forms = w.forms;
      risen = w.risen;
      broken = broken;
    }
  where
    same_first : (xs : List ℕ) → 0 < length xs → first_or 1 xs ≡ 0 → first_or b xs ≡ 0
    same_first [] some h = absurd (omega arith)
    same_first (x ∷ xs) some h = h

breaks_outside : (p : Pool) (order : List ℕ) (seen : List Bool) (last b : ℕ) → IsWalked p order seen last → (leaf_at p last).next ≡ b → b ≢ 0 → length p.leaves ≤ b → BreaksAt p b
breaks_outside p order seen last b w is other high = breaks p order seen last b w is other (inl high)

breaks_twice : (p : Pool) (order : List ℕ) (seen : List Bool) (last b : ℕ) → IsWalked p order seen last → (leaf_at p last).next ≡ b → b ≢ 0 → b < length p.leaves → get_or seen b true ≡ true → BreaksAt p b
breaks_twice p order seen last b w is other low twice =
    let mark : get_or seen b false ≡ true = get_or_default seen b false true (omega (arith, w.marks, low)) ∙ twice in
    let among : 1 ≤ times b order = omega (arith, w.apart b, ap one_if mark) in
    breaks p order seen last b w is other (inr (form_among (split_times b order among), not_twice p order b among))
  where
    form_among : ((ys : List ℕ) × (zs : List ℕ) × (order ≡ ys ++ b ∷ zs)) → IsLeaf (leaf_at p b)
    form_among s = (all-append (λ c. IsLeaf (leaf_at p c)) s.0 (b ∷ s.1) (subst (λ (l : List ℕ). AllByRecursion (λ c. IsLeaf (leaf_at p c)) l) s.2 w.forms)).1.0

breaks_falling : (p : Pool) (order : List ℕ) (seen : List Bool) (last b : ℕ) → IsWalked p order seen last → (leaf_at p last).next ≡ b → b ≢ 0 → IsLeaf (leaf_at p b)
    → go_on (leaf_at p last).cells (leaf_at p b).cells ≡ false → BreaksAt p b
breaks_falling p order seen last b w is other form falls =
    breaks p order seen last b w is other (inr (
      form,
      λ r.
          let yes : go_on (leaf_at p last).cells (leaf_at p b).cells ≡ true = goes_with p w.ends.0 last b (subst (λ (l : List ℕ). AreRising (leaves_of p (l ++ b ∷ []))) w.ends.1 r) in
          cc,
    ))

-- a block to which the walk doesn't go on is where the chain breaks
pub breaks_there : (p : Pool) (order : List ℕ) (seen : List Bool) (last b : ℕ) → IsWalked p order seen last → (leaf_at p last).next ≡ b → b ≢ 0 → Breaks p seen last b → BreaksAt p b
breaks_there p order seen last b w is other (inl high) = breaks_outside p order seen last b w is other high
breaks_there p order seen last b w is other (inr (inl twice)) = breaks_twice p order seen last b w is other twice.0 twice.1
breaks_there p order seen last b w is other (inr (inr falls)) = breaks_falling p order seen last b w is other falls.0 falls.1

pub breaks_at_once : (p : Pool) → length p.leaves ≡ 0 → BreaksAt p 0
breaks_at_once p none = record { before = []; first = refl; led = tt; others = tt; inside = tt; forms = tt; risen = record { rise = tt; filled = tt }; broken = inl (omega (arith, none)) }
