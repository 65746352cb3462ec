-- Marks of images, once those of all changed blocks are logged.
use Rattle.std.proofs.Common.{◌≡◌, ◌≢◌, inl, inr, ℕ, zero, suc, ◌+◌, add-one, ◌<◌, ◌≤◌, Bool, true, false, List, [], ◌∷◌, ◌++◌, length, drop, refl, sym, ap, subst, ◌∙◌, arith, append_assoc, append-nil, get_or}
use Rattle.std.specs.Prelude.{if◌then◌else◌}
use Rattle.std.proofs.lemmas.Bool.{cases_lt, cases_eq}
use Rattle.std.proofs.lemmas.List.{map-append, get_or-set_other, drop_all}
use Rattle.journal_defs.specs.Journal.{Before, Pblk}
use Rattle.journal_defs.specs.Sequence.{Placed}
use Rattle.journal_defs.specs.Epochs.{Chosen, image_state, block_of}
use Rattle.journal_defs.specs.Leaves.{Leaf}
use Rattle.journal_laws.proofs.Images.{image_keeps}
use Rattle.block_laws.specs.Several.{MayAppendAll, logged_all}
use Rattle.block_laws.proofs.Writing.{image_state_kept}
use Rattle.block_pool.specs.Pool.{is_dirty, numbers_from}
use Rattle.block_pool.proofs.Numbers.{next_of, none_behind}
use Rattle.before_image.specs.Images.{is_free, with_image, first_image, placed_images, Knows}
use Rattle.before_image.proofs.Marks.{no_both, set_free, knows_first}
use Rattle.gvt_leaf.specs.Stored.{Stored}
use Rattle.region_store.specs.Region.{Standing, HoldsRegion, AreLogged, IsCutShort, with_marks, image_at, images_below, changed_images, marks_in, logged_marks}

-- a region by its parts
abbrev pub standing : ℕ → Stored → List Bool → Standing
standing f l marks = record { file = f; globals = l.globals; pool = l.pool; imaged = marks }

-- ---- marks

-- a block that isn't free is below the epoch
pub taken_inside : (marks : List Bool) (b : ℕ) → is_free marks b ≡ false → b < length marks
taken_inside [] b taken = absurd (no_both true refl taken)
taken_inside (m ∷ ms) zero taken = omega arith
taken_inside (m ∷ ms) (suc b) taken = let rest = taken_inside ms b taken in omega (arith, rest)

free_stays : (marks : List Bool) (b c : ℕ) → is_free marks c ≡ true → is_free (with_image marks b) c ≡ true
free_stays marks b c free = elim (cases_eq c b) [
  | inl here ↦ ap (is_free (with_image marks b)) here ∙ set_free marks b
  | inr other ↦ get_or-set_other marks b c true true other ∙ free
]

marked_if : (t : Bool) (marks : List Bool) (n : ℕ) → (c : ℕ) → is_free marks c ≡ true → is_free (if t then with_image marks n else marks) c ≡ true
marked_if true marks n c free = free_stays marks n c free
marked_if false marks n c free = free

free_below : (dirty marks : List Bool) (n c : ℕ) → is_free marks c ≡ true → is_free (marks_in dirty marks n) c ≡ true
free_below dirty marks zero c free = free
free_below dirty marks (suc n) c free = marked_if (get_or dirty n false) (marks_in dirty marks n) n c (free_below dirty marks n c free)

dirty_free : (t : Bool) (marks : List Bool) (n : ℕ) → t ≡ true → is_free (if t then with_image marks n else marks) n ≡ true
dirty_free true marks n is = set_free marks n
dirty_free false marks n is = absurd (no_both false is refl)

marks_free : (dirty marks : List Bool) (n b : ℕ) → b < n → get_or dirty b false ≡ true → is_free (marks_in dirty marks n) b ≡ true
marks_free dirty marks zero b low is = absurd (omega (arith, low))
marks_free dirty marks (suc n) b low is = elim (cases_lt b n) [
  | inl less ↦ marked_if (get_or dirty n false) (marks_in dirty marks n) n b (marks_free dirty marks n b less is)
  | inr more ↦
      let same : n ≡ b = omega (arith, low, more) in
      subst (λ (k : ℕ). is_free (marks_in dirty marks (suc n)) k ≡ true) same (dirty_free (get_or dirty n false) (marks_in dirty marks n) n (ap (λ (k : ℕ). get_or dirty k false) same ∙ is))
]

dirty_inside : (ds : List Bool) (b : ℕ) → get_or ds b false ≡ true → b < length ds
dirty_inside [] b is = absurd (no_both false is refl)
dirty_inside (d ∷ ds) zero is = omega arith
dirty_inside (d ∷ ds) (suc b) is = let rest = dirty_inside ds b is in omega (arith, rest)

-- each changed block may be written once all are marked
pub all_logged : (s : Standing) → length s.pool.dirty ≡ length s.pool.leaves → AreLogged (with_marks s (logged_marks s))
all_logged s many b is = marks_free s.pool.dirty s.imaged (length s.pool.leaves) b (let low = dirty_inside s.pool.dirty b is in omega (arith, low, many)) is

-- marks below a block leave its own
if_other : (t : Bool) (marks : List Bool) (n c : ℕ) → n < c → is_free (if t then with_image marks n else marks) c ≡ is_free marks c
if_other true marks n c less = let ne : c ≢ n = omega (arith, less) in get_or-set_other marks n c true true ne
if_other false marks n c less = refl

mark_stays : (dirty marks : List Bool) (n c : ℕ) → n ≤ c → is_free (marks_in dirty marks n) c ≡ is_free marks c
mark_stays dirty marks zero c less = refl
mark_stays dirty marks (suc n) c less = if_other (get_or dirty n false) (marks_in dirty marks n) n c (omega (arith, less)) ∙ mark_stays dirty marks n c (omega (arith, less))

-- blocks that haven't changed leave the marks
marks_gap : (dirty marks : List Bool) (n b : ℕ) → n ≤ b → ((c : ℕ) → n ≤ c → c < b → get_or dirty c false ≡ false) → marks_in dirty marks n ≡ marks_in dirty marks b
marks_gap dirty marks n zero le clean = let none : n ≡ 0 = omega (arith, le) in ap (marks_in dirty marks) none
marks_gap dirty marks n (suc b) le clean = elim (cases_lt b n) [
  | inl less ↦ let all : n ≡ suc b = omega (arith, less, le) in ap (marks_in dirty marks) all
  | inr more ↦
      marks_gap dirty marks n b more (λ c from to. clean c from (omega (arith, to)))
      ∙ ap (λ (t : Bool). if t then with_image (marks_in dirty marks b) b else marks_in dirty marks b) (sym (clean b more (omega arith)))
]

marks_at : (t : Bool) (marks : List Bool) (n : ℕ) → t ≡ true → with_image marks n ≡ (if t then with_image marks n else marks)
marks_at true marks n is = refl
marks_at false marks n is = cc

-- The marks below the changed blocks that are left are set.
pub record AreMarkedTo (dirty marks : List Bool) (ns : List ℕ) (i : ℕ) (new : List Bool) : Type 0 where
  pub reached : ℕ
  pub few : reached ≤ length dirty
  pub left : numbers_from reached (drop reached dirty) ≡ drop i ns
  pub made : new ≡ marks_in dirty marks reached

pub none_marked : (dirty marks : List Bool) (ns : List ℕ) → ns ≡ numbers_from 0 dirty → AreMarkedTo dirty marks ns 0 marks
none_marked dirty marks ns are = record { reached = 0; few = omega arith; left = sym are; made = refl }

-- one changed block more is marked
pub marked_next : (dirty marks : List Bool) (ns : List ℕ) (i x : ℕ) (old new : List Bool) → i < length ns → x ≡ get_or ns i 0 → new ≡ with_image old x → AreMarkedTo dirty marks ns i old → AreMarkedTo dirty marks ns (i + 1) new
marked_next dirty marks ns i x old new low read is w =
    let next = next_of dirty ns w.reached i x w.left low read in
    record {
      reached = x + 1;
      few = let inside = next.inside in omega (arith, inside);
      left = next.rest_is;
      made = is ∙ ap (λ (ms : List Bool). with_image ms x) (w.made ∙ marks_gap dirty marks w.reached x next.low next.between) ∙ marks_at (get_or dirty x false) (marks_in dirty marks x) x next.is_set ∙ ap (marks_in dirty marks) (sym (add-one x));
    }

-- all are
pub all_marked : (dirty marks : List Bool) (ns : List ℕ) (i n : ℕ) (new : List Bool) → length ns ≤ i → length dirty ≡ n → AreMarkedTo dirty marks ns i new → new ≡ marks_in dirty marks n
all_marked dirty marks ns i n new end many w =
    w.made ∙ marks_gap dirty marks w.reached n (let few = w.few in omega (arith, few, many)) (λ c from to. none_behind dirty w.reached (w.left ∙ drop_all i ns end) c from)

-- the marks were set over the region's own
pub marked_is : (f : ℕ) (l : Stored) (marks new dirty : List Bool) (leaves : List Leaf) (s : Standing) → standing f l marks ≡ s → leaves ≡ l.pool.leaves → dirty ≡ l.pool.dirty → new ≡ marks_in dirty marks (length leaves)
    → standing f l new ≡ with_marks s (logged_marks s)
marked_is f l marks new dirty leaves s is same still made =
    let all : new ≡ marks_in l.pool.dirty marks (length l.pool.leaves) =
    made ∙ ap (λ (ds : List Bool). marks_in ds marks (length leaves)) still ∙ ap (λ (ls : List Leaf). marks_in l.pool.dirty marks (length ls)) same in
    subst (λ (x : Standing). standing f l new ≡ with_marks x (logged_marks x)) is (ap (λ (ms : List Bool). standing f l ms) all)

-- ---- what is logged

logged_more : (e : Chosen) (g : ℕ) (xs ys : List Before) → logged_all (logged_all e (placed_images g xs)) (placed_images g ys) ≡ logged_all e (placed_images g (xs ++ ys))
logged_more e g xs ys =
    let after : (e.after ++ placed_images g xs) ++ placed_images g ys ≡ e.after ++ placed_images g (xs ++ ys) =
    append_assoc e.after (placed_images g xs) (placed_images g ys) ∙ ap (λ (ps : List Placed). e.after ++ ps) (sym (map-append (λ (i : Before). record { generation = g; what = Pblk i }) xs ys)) in
    ap (λ (ps : List Placed). record { number = e.number; blocks = e.blocks; after = ps }) after

logged_none : (e : Chosen) (g : ℕ) → e ≡ logged_all e (placed_images g [])
logged_none e g = ap (λ (ps : List Placed). record { number = e.number; blocks = e.blocks; after = ps }) (sym (append-nil e.after))

knows_if : (t : Bool) (marks : List Bool) (first : Bool) (e : Chosen) (g b : ℕ) (bytes : List ℕ) → is_free marks b ≡ first → Knows marks e
    → Knows (if t then with_image marks b else marks) (logged_all e (placed_images g (if t then (if first then [] else record { block = b; bytes = bytes } ∷ []) else [])))
knows_if true marks first e g b bytes is h = subst (λ (f : Bool). Knows (with_image marks b) (logged_all e (placed_images g (if f then [] else record { block = b; bytes = bytes } ∷ [])))) is (knows_first marks e g b bytes h)
knows_if false marks first e g b bytes is h = subst (Knows marks) (logged_none e g) h

knows_below : (s : Standing) (e : Chosen) (bytes : List ℕ) (g n : ℕ) → Knows s.imaged e → Knows (marks_in s.pool.dirty s.imaged n) (logged_all e (placed_images g (images_below s bytes n)))
knows_below s e bytes g zero h = subst (Knows s.imaged) (logged_none e g) h
knows_below s e bytes g (suc n) h =
    subst (Knows (marks_in s.pool.dirty s.imaged (suc n))) (logged_more e g (images_below s bytes n) (image_at s bytes n))
    (knows_if (is_dirty s.pool n) (marks_in s.pool.dirty s.imaged n) (is_free s.imaged n) (logged_all e (placed_images g (images_below s bytes n))) g n (block_of bytes n)
    (mark_stays s.pool.dirty s.imaged n n (omega arith)) (knows_below s e bytes g n h))

-- the region is the epoch's with the images behind it
pub holds_logged : (e : Chosen) (bytes : List ℕ) (g : ℕ) (s : Standing) → HoldsRegion e bytes s → HoldsRegion (logged_all e (placed_images g (changed_images s bytes))) bytes (with_marks s (logged_marks s))
holds_logged e bytes g s h = record {
  clean = h.clean;
  blocks = h.blocks;
  knows = knows_below s e bytes g (length s.pool.leaves) h.knows;
  whole = λ b low free. h.whole b low (not_free (is_free s.imaged b) b refl free);
}
  where
    not_free : (t : Bool) → (b : ℕ) → is_free s.imaged b ≡ t → is_free (logged_marks s) b ≡ false → is_free s.imaged b ≡ false
    not_free true b is free = absurd (no_both (is_free (logged_marks s) b) (free_below s.pool.dirty s.imaged (length s.pool.leaves) b is) free)
    not_free false b is free = is

-- the same of one block whose image is logged
pub holds_first : (e : Chosen) (bytes : List ℕ) (g b : ℕ) (s : Standing) → HoldsRegion e bytes s → HoldsRegion (logged_all e (placed_images g (first_image s.imaged b (block_of bytes b)))) bytes (with_marks s (with_image s.imaged b))
holds_first e bytes g b s h = record {
  clean = h.clean;
  blocks = h.blocks;
  knows = knows_first s.imaged e g b (block_of bytes b) h.knows;
  whole = λ c low free. h.whole c low (not_free (is_free s.imaged c) c refl free);
}
  where
    not_free : (t : Bool) → (c : ℕ) → is_free s.imaged c ≡ t → is_free (with_image s.imaged b) c ≡ false → is_free s.imaged c ≡ false
    not_free true c is free = absurd (no_both (is_free (with_image s.imaged b) c) (free_stays s.imaged b c is) free)
    not_free false c is free = is

-- the mark was set over the region's own
pub first_marked : (f : ℕ) (l : Stored) (marks new : List Bool) (b : ℕ) (s : Standing) → standing f l marks ≡ s → new ≡ with_image marks b → standing f l new ≡ with_marks s (with_image s.imaged b)
first_marked f l marks new b s is made = subst (λ (x : Standing). standing f l new ≡ with_marks x (with_image x.imaged b)) is (ap (λ (ms : List Bool). standing f l ms) made)

-- ---- what images keep

may_if : (e : Chosen) (s : Standing) (bytes : List ℕ) (g b : ℕ) (t : Bool) → MayAppendAll e (block_of bytes) (placed_images g (if t then first_image s.imaged b (block_of bytes b) else []))
may_if e s bytes g b true = by (is_free s.imaged b)
  where
    by : (f : Bool) → MayAppendAll e (block_of bytes) (placed_images g (if f then [] else record { block = b; bytes = block_of bytes b } ∷ []))
    by true = tt
    by false = (inr refl, tt)
may_if e s bytes g b false = tt

joined : (e : Chosen) (bytes : List ℕ) (ps qs : List Placed) → MayAppendAll e (block_of bytes) ps → MayAppendAll e (block_of bytes) qs → MayAppendAll e (block_of bytes) (ps ++ qs)
joined e bytes [] qs h k = k
joined e bytes (p ∷ ps) qs h k = (h.0, joined e bytes ps qs h.1 k)

pub may_append : (s : Standing) (e : Chosen) (bytes : List ℕ) (g n : ℕ) → MayAppendAll e (block_of bytes) (placed_images g (images_below s bytes n))
may_append s e bytes g zero = tt
may_append s e bytes g (suc n) =
    subst (MayAppendAll e (block_of bytes)) (sym (map-append (λ (i : Before). record { generation = g; what = Pblk i }) (images_below s bytes n) (image_at s bytes n)))
    (joined e bytes (placed_images g (images_below s bytes n)) (placed_images g (image_at s bytes n)) (may_append s e bytes g n) (may_if e s bytes g n (is_dirty s.pool n)))

keep_if : (e : Chosen) (s : Standing) (bytes : List ℕ) (g b : ℕ) (t : Bool)
    → image_state (logged_all e (placed_images g (if t then first_image s.imaged b (block_of bytes b) else []))) (block_of bytes) ≡ image_state e (block_of bytes)
keep_if e s bytes g b true = by (is_free s.imaged b)
  where
    by : (f : Bool) → image_state (logged_all e (placed_images g (if f then [] else record { block = b; bytes = block_of bytes b } ∷ []))) (block_of bytes) ≡ image_state e (block_of bytes)
    by true = ap (λ (d : Chosen). image_state d (block_of bytes)) (sym (logged_none e g))
    by false = image_keeps e (block_of bytes) g (record { block = b; bytes = block_of bytes b }) (inr refl)
keep_if e s bytes g b false = ap (λ (d : Chosen). image_state d (block_of bytes)) (sym (logged_none e g))

-- images of what the file has leave the state below the epoch
images_keep : (s : Standing) (e : Chosen) (bytes : List ℕ) (g n : ℕ) → image_state (logged_all e (placed_images g (images_below s bytes n))) (block_of bytes) ≡ image_state e (block_of bytes)
images_keep s e bytes g zero = ap (λ (d : Chosen). image_state d (block_of bytes)) (sym (logged_none e g))
images_keep s e bytes g (suc n) =
    ap (λ (d : Chosen). image_state d (block_of bytes)) (sym (logged_more e g (images_below s bytes n) (image_at s bytes n)))
    ∙ keep_if (logged_all e (placed_images g (images_below s bytes n))) s bytes g n (is_dirty s.pool n) ∙ images_keep s e bytes g n

-- and it comes back whichever of the changed blocks were written since
pub comes_back : (s : Standing) (e : Chosen) (old new : List ℕ) (g : ℕ) → Knows s.imaged e → IsCutShort (with_marks s (logged_marks s)) old new
    → image_state (logged_all e (placed_images g (changed_images s old))) (block_of new) ≡ image_state e (block_of old)
comes_back s e old new g knows cut =
    let with_images = logged_all e (placed_images g (changed_images s old)) in
    image_state_kept with_images (block_of old) (block_of new) (cut.may with_images (knows_below s e old g (length s.pool.leaves) knows)) ∙ images_keep s e old g (length s.pool.leaves)

-- blocks that a flush wrote in part change nothing below an epoch whose images are logged
pub cut_keeps : (s : Standing) (e : Chosen) (old new : List ℕ) → Knows s.imaged e → IsCutShort s old new → image_state e (block_of new) ≡ image_state e (block_of old)
cut_keeps s e old new knows cut = image_state_kept e (block_of old) (block_of new) (cut.may e knows)
