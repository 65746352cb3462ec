-- Pages after one of them changed.
use Rattle.std.proofs.Common.{◌≡◌, ℕ, Bool, true, List, length, drop, replicate, ◌++◌, ◌∷◌, [], map, min, ◌<◌, sym, refl, ◌∙◌, ap, arith, false, get_or, slice_set, ◌+◌, ◌≤◌, length-append}
use Rattle.std.proofs.lemmas.List.{map-append, map-set, length-set, get_or-map, length-map, drop_more, drop_all}
use Rattle.std.proofs.Math.Seq.{map-set_same}
use Rattle.std.specs.Prelude.{◌-◌, vec_len, vec_capacity, if◌then◌else◌}
use Rattle.std.specs.Vec.{with_item}
use Rattle.block_pool.specs.declared.pool.Page.{Page}
use Rattle.block_pool.specs.declared.pool.BlockPool.TheInside.{Inside}
use Rattle.block_pool.specs.Code.{Pool}
use Rattle.block_pool.specs.Pool.{leaf_at, is_dirty, numbers_from, count_set, dirty_from, marked, changed}
use Rattle.block_fmt.specs.Cells.{blank}
use Rattle.block_pool.specs.Inside.{pool_of, IsPool}
use Rattle.block_pool.proofs.Numbers.{count-numbers, few-set, fewer-set, numbers-last, first-cleared, none-set, numbers_none, next_of}

-- the same pool with another page of this number, and the numbers of another one
abbrev pub with_page : Inside → Inside → ℕ → Page → Inside
with_page p m b q = record { pages = with_item p.pages b q; changed = m.changed }

room_stays : (p m : Inside) (b : ℕ) (q : Page) → vec_capacity m.changed ≡ vec_capacity p.changed → (pool_of (with_page p m b q)).room ≡ (pool_of p).room
room_stays p m b q seats = λ i. min (min (vec_capacity p.pages) (seats i)) 4294967295 - length-set p.pages.items b q i

-- a page that is marked changes the pool as its block does
pub pool_of-with_page : (p m : Inside) (b : ℕ) (q : Page) → vec_capacity m.changed ≡ vec_capacity p.changed → q.dirty ≡ true → pool_of (with_page p m b q) ≡ changed (pool_of p) b q.block
pool_of-with_page p m b q seats is =
    let leaves = map-set (λ (r : Page). r.block) p.pages.items b q in
    let dirty = map-set (λ (r : Page). r.dirty) p.pages.items b q ∙ ap (λ m. slice_set (map (λ (r : Page). r.dirty) p.pages.items) b m) is in
    let room = room_stays p m b q seats in
    λ i. record { leaves = leaves i; dirty = dirty i; room = room i }

-- a page that is marked and keeps its block
pub pool_of-marked : (p m : Inside) (b : ℕ) (q d : Page) → vec_capacity m.changed ≡ vec_capacity p.changed → q.dirty ≡ true → q.block ≡ (get_or p.pages.items b d).block
    → pool_of (with_page p m b q) ≡ marked (pool_of p) b
pool_of-marked p m b q d seats is same =
    let leaves = map-set_same (λ (r : Page). r.block) p.pages.items b q d same in
    let dirty = map-set (λ (r : Page). r.dirty) p.pages.items b q ∙ ap (λ m. slice_set (map (λ (r : Page). r.dirty) p.pages.items) b m) is in
    let room = room_stays p m b q seats in
    λ i. record { leaves = leaves i; dirty = dirty i; room = room i }

-- the numbers are those of the marked pages still
pub still_listed : (p m : Inside) (b : ℕ) (q : Page) → IsPool p → vec_capacity m.changed ≡ vec_capacity p.changed → q.dirty ≡ true
    → m.changed.items ≡ numbers_from 0 (slice_set (map (λ (r : Page). r.dirty) p.pages.items) b true) → IsPool (with_page p m b q)
still_listed p m b q inv seats is listed = record {
  few = let few = inv.few in omega (arith, few, length-set p.pages.items b q);
  listed = listed ∙ ap (numbers_from 0) (sym (map-set (λ (r : Page). r.dirty) p.pages.items b q ∙ ap (λ d. slice_set (map (λ (r : Page). r.dirty) p.pages.items) b d) is));
  seats = let room = inv.seats in omega (arith, room, seats, length-set p.pages.items b q);
}

pub mark_known : (p : Inside) (b : ℕ) (q : Page) → b < length p.pages.items → q ≡ get_or p.pages.items b q → get_or (map (λ (r : Page). r.dirty) p.pages.items) b false ≡ q.dirty
mark_known p b q low read = get_or-map (λ (r : Page). r.dirty) p.pages.items b q false low ∙ sym (ap (λ (r : Page). r.dirty) read)

-- a number that was put to its place
pub listing : (p m : Inside) (b : ℕ) (q : Page) → IsPool p → b < length p.pages.items → q ≡ get_or p.pages.items b q
    → ((marks : List Bool) → p.changed.items ≡ numbers_from 0 marks → b < length marks → get_or marks b false ≡ q.dirty → m.changed.items ≡ numbers_from 0 (slice_set marks b true))
    → m.changed.items ≡ numbers_from 0 (slice_set (map (λ (r : Page). r.dirty) p.pages.items) b true)
listing p m b q inv low read put = put (map (λ (r : Page). r.dirty) p.pages.items) inv.listed (omega (arith, low, length-map p.pages.items (λ (r : Page). r.dirty))) (mark_known p b q low read)

-- there are as many pages as numbers at least
pub fewer_listed : (p : Inside) → IsPool p → vec_len p.changed ≤ vec_len p.pages
fewer_listed p inv =
    let marks = map (λ (r : Page). r.dirty) p.pages.items in
    let listed = ap length inv.listed ∙ count-numbers 0 marks in
    let few = few-set marks in
    omega (arith, listed, few, length-map p.pages.items (λ (r : Page). r.dirty), p.changed.ok.0, p.pages.ok.0)

-- a block that isn't marked yet has a seat for its number
pub seat_left : (p : Inside) (b : ℕ) (q : Page) → IsPool p → b < length p.pages.items → q ≡ get_or p.pages.items b q → q.dirty ≡ false → vec_len p.changed < vec_capacity p.changed
seat_left p b q inv low read is =
    let marks = map (λ (r : Page). r.dirty) p.pages.items in
    let clean : get_or marks b false ≡ false = mark_known p b q low read ∙ is in
    let many = length-map p.pages.items (λ (r : Page). r.dirty) in
    let less = fewer-set marks b (omega (arith, low, many)) clean in
    let listed = ap length inv.listed ∙ count-numbers 0 marks in
    let room = inv.seats in
    omega (arith, less, listed, room, many, p.changed.ok.0)

pub page_inside : (p : Inside) (v : Pool) (b : ℕ) → pool_of p ≡ v → b < length v.leaves → b < length p.pages.items
page_inside p v b is inside = omega (arith, inside, ap (λ w. length w.leaves) is, length-map p.pages.items (λ (r : Page). r.block))

pub mark_inside : (p : Inside) (v : Pool) (b : ℕ) → pool_of p ≡ v → b < length v.leaves → b < length v.dirty
mark_inside p v b is inside = omega (arith, page_inside p v b is inside, ap (λ w. length w.dirty) is, length-map p.pages.items (λ (r : Page). r.dirty))

-- the block of a page
pub block-at : (p : Inside) (b : ℕ) (q : Page) → b < length p.pages.items → q ≡ get_or p.pages.items b q → q.block ≡ leaf_at (pool_of p) b
block-at p b q inside is = ap (λ (r : Page). r.block) is ∙ sym (get_or-map (λ (r : Page). r.block) p.pages.items b q blank inside)

pub dirty-at : (p : Inside) (b : ℕ) (q : Page) → b < length p.pages.items → q ≡ get_or p.pages.items b q → q.dirty ≡ is_dirty (pool_of p) b
dirty-at p b q inside is = ap (λ (r : Page). r.dirty) is ∙ sym (get_or-map (λ (r : Page). r.dirty) p.pages.items b q false inside)

-- as many numbers are listed as the pool has marks
pub count-marks : (p : Inside) (v : Pool) → IsPool p → pool_of p ≡ v → length p.changed.items ≡ dirty_from v 0
count-marks p v inv is = ap length inv.listed ∙ count-numbers 0 (map (λ (r : Page). r.dirty) p.pages.items) ∙ ap (λ w. count_set w.dirty) is

-- the pages with the mark of one of them taken away
pub blocks-unmarked : (pages : List Page) (i : ℕ) (d : Page) → map (λ (r : Page). r.block) (slice_set pages i (record { block = (get_or pages i d).block; dirty = false })) ≡ map (λ (r : Page). r.block) pages
blocks-unmarked pages i d = map-set_same (λ (r : Page). r.block) pages i (record { block = (get_or pages i d).block; dirty = false }) d refl

-- the first number that is left loses its mark
pub marks-unmarked : (pages : List Page) (ns : List ℕ) (i x : ℕ) (d : Page) → numbers_from 0 (map (λ (r : Page). r.dirty) pages) ≡ drop i ns → i < length ns → x ≡ get_or ns i 0
    → numbers_from 0 (map (λ (r : Page). r.dirty) (slice_set pages x (record { block = (get_or pages x d).block; dirty = false }))) ≡ drop (i + 1) ns
marks-unmarked pages ns i x d left low here =
    let marks = map (λ (r : Page). r.dirty) pages in
    ap (numbers_from 0) (map-set (λ (r : Page). r.dirty) pages x (record { block = (get_or pages x d).block; dirty = false }))
    ∙ first-cleared 0 marks x x (drop (i + 1) ns) (left ∙ drop_more ns i 0 low ∙ ap (λ (m : ℕ). m ∷ drop (i + 1) ns) (sym here)) (omega arith)

-- the page of a number that is left
pub unmarked_inside : (pages : List Page) (ns : List ℕ) (i x : ℕ) → numbers_from 0 (map (λ (r : Page). r.dirty) pages) ≡ drop i ns → i < length ns → x ≡ get_or ns i 0 → x < length pages
unmarked_inside pages ns i x left low read =
    let next = next_of (map (λ (r : Page). r.dirty) pages) ns 0 i x left low read in
    let inside = next.inside in
    omega (arith, inside, length-map pages (λ (r : Page). r.dirty))

-- all pages without a mark
pub no-marks : (pages : List Page) (ns : List ℕ) (i n : ℕ) → length pages ≡ n → length ns ≤ i → numbers_from 0 (map (λ (r : Page). r.dirty) pages) ≡ drop i ns → map (λ (r : Page). r.dirty) pages ≡ replicate n false
no-marks pages ns i n length_is all left =
    let marks = map (λ (r : Page). r.dirty) pages in
    none-set 0 marks (left ∙ drop_all i ns all) ∙ ap (λ (k : ℕ). replicate k false) (length-map pages (λ (r : Page). r.dirty) ∙ length_is)

-- no page is marked, and no number is listed
pub cleaned_pool : (p made : Inside) (pages : List Page) → IsPool p → made.pages.items ≡ pages → length pages ≡ length p.pages.items → map (λ (r : Page). r.dirty) pages ≡ replicate (length p.pages.items) false
    → made.changed.items ≡ [] → vec_capacity made.changed ≡ vec_capacity p.changed → IsPool made
cleaned_pool p made pages inv is many none empty seats =
    let same = ap (λ (qs : List Page). length qs) is in
    record {
      few = let few = inv.few in omega (arith, few, many, same);
      listed = empty ∙ sym (ap (λ (qs : List Page). numbers_from 0 (map (λ (r : Page). r.dirty) qs)) is ∙ ap (numbers_from 0) none ∙ numbers_none 0 (length p.pages.items));
      seats = let room = inv.seats in omega (arith, room, many, seats, same);
    }

-- the same pages, with as much memory
pub pool_same : (p made : Inside) → made.pages.items ≡ p.pages.items → (pool_of made).room ≡ (pool_of p).room → pool_of made ≡ pool_of p
pool_same p made items room = λ i. record {
  leaves = map (λ (r : Page). r.block) (items i);
  dirty = map (λ (r : Page). r.dirty) (items i);
  room = room i;
}

pub added_listed : (p made : Inside) (q : Page) (x : ℕ) → IsPool p → x ≡ length p.pages.items → length made.pages.items < 4294967296 → made.pages.items ≡ p.pages.items ++ q ∷ []
    → made.changed.items ≡ (if q.dirty then p.changed.items ++ x ∷ [] else p.changed.items) → length p.pages.items + 1 ≤ vec_capacity made.changed → IsPool made
added_listed p made q x inv at few items listed seats = record {
  few = few;
  listed =
      let marks = map (λ (r : Page). r.dirty) p.pages.items in
      listed ∙ ap (λ (ns : List ℕ). if q.dirty then ns ++ x ∷ [] else ns) inv.listed ∙ sym (numbers-last 0 marks q.dirty x (omega (arith, at, length-map p.pages.items (λ (r : Page). r.dirty))))
      ∙ ap (numbers_from 0) (sym (ap (map (λ (r : Page). r.dirty)) items ∙ map-append (λ (r : Page). r.dirty) p.pages.items (q ∷ [])));
  seats = omega (arith, seats, ap length items, length-append p.pages.items (q ∷ []));
}
