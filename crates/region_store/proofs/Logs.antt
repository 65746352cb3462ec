-- Images that are logged one after another.
use Rattle.std.proofs.Common.{◌≡◌, inl, inr, ℕ, zero, suc, ◌+◌, ◌*◌, ◌≤◌, ◌<◌, Bool, true, false, List, [], ◌++◌, length, drop, get_or, Option, Some, None, refl, sym, ap, ◌∙◌, arith, add-one, append_assoc, append-nil}
use Rattle.std.specs.Prelude.{Result, Ok, Err, IfSome, OnErr, if◌then◌else◌}
use Rattle.std.proofs.lemmas.Bool.{cases_lt}
use Rattle.std.proofs.lemmas.List.{drop_all}
use Rattle.disk_defs.specs.Disk.{Files, View, Reads}
use Rattle.disk_defs.proofs.Told.{weaker_told, both_weak, told_at}
use Rattle.journal_defs.specs.Journal.{Before}
use Rattle.journal_defs.specs.Epochs.{block_of}
use Rattle.block_pool.specs.Pool.{is_dirty, numbers_from, CleanStand}
use Rattle.block_pool.proofs.Numbers.{next_of, none_behind}
use Rattle.before_image.specs.Images.{is_free, first_image}
use Rattle.region_store.specs.Region.{Standing, IsHeld, image_at, images_below, changed_images}
use Rattle.region_store.proofs.Marking.{taken_inside}

-- the file has a block whole that is to be logged
pub image_asked : (o : Option Files) (s : Standing) (b : ℕ) → IfSome o (IsHeld s) → IfSome o (λ files. is_free s.imaged b ≡ false → 4096 * b + 4096 ≤ length (files s.file))
image_asked o s b told = weaker_told o (IsHeld s) (λ files. is_free s.imaged b ≡ false → 4096 * b + 4096 ≤ length (files s.file)) told (λ files held free.
    let h = held.1 in
    let low = taken_inside s.imaged b free in
    h.whole b (omega (arith, low, h.knows.blocks)) free)

-- and each block that hasn't changed
pub clean_asked : (o : Option Files) (s : Standing) → IfSome o (IsHeld s) → IfSome o (λ files. CleanStand s.pool (files s.file))
clean_asked o s told = weaker_told o (IsHeld s) (λ files. CleanStand s.pool (files s.file)) told (λ files held. let h = held.1 in h.clean)

at_clean : (t : Bool) (xs : List Before) → t ≡ false → (if t then xs else []) ≡ []
at_clean true xs is = cc
at_clean false xs is = refl

at_dirty : (t : Bool) (xs : List Before) → t ≡ true → (if t then xs else []) ≡ xs
at_dirty true xs is = refl
at_dirty false xs is = cc

-- of a block that has changed its first image is logged
pub logged_one : (o : Option Files) (s : Standing) (b : ℕ) (old new : List Before) → is_dirty s.pool b ≡ true → IfSome o (λ files. new ≡ old ++ first_image s.imaged b (block_of (files s.file) b))
    → IfSome o (λ files. new ≡ old ++ image_at s (files s.file) b)
logged_one None s b old new is told = tt
logged_one (Some files) s b old new is told = told ∙ ap (λ (xs : List Before). old ++ xs) (sym (at_dirty (is_dirty s.pool b) (first_image s.imaged b (block_of (files s.file) b)) is))

images_next : (s : Standing) (bytes : List ℕ) (n : ℕ) → images_below s bytes (n + 1) ≡ images_below s bytes n ++ image_at s bytes n
images_next s bytes n = ap (images_below s bytes) (add-one n)

-- blocks that haven't changed need no images
images_gap : (s : Standing) (bytes : List ℕ) (n b : ℕ) → n ≤ b → ((c : ℕ) → n ≤ c → c < b → is_dirty s.pool c ≡ false) → images_below s bytes n ≡ images_below s bytes b
images_gap s bytes n zero le clean = let none : n ≡ 0 = omega (arith, le) in ap (images_below s bytes) none
images_gap s bytes n (suc b) le clean = elim (cases_lt b n) [
  | inl less ↦ let all : n ≡ suc b = omega (arith, less, le) in ap (images_below s bytes) all
  | inr more ↦
      images_gap s bytes n b more (λ c from to. clean c from (omega (arith, to)))
      ∙ sym (append-nil (images_below s bytes b)) ∙ ap (λ (xs : List Before). images_below s bytes b ++ xs) (sym (at_clean (is_dirty s.pool b) (first_image s.imaged b (block_of bytes b)) (clean b more (omega arith))))
]

-- The images below the changed blocks that are left are logged.
pub record AreLoggedTo (o : Option Files) (s : Standing) (ns : List ℕ) (i : ℕ) (first new : List Before) : Type 0 where
  pub reached : ℕ
  pub few : reached ≤ length s.pool.dirty
  pub left : numbers_from reached (drop reached s.pool.dirty) ≡ drop i ns
  pub logged : IfSome o (λ files. new ≡ first ++ images_below s (files s.file) reached)

-- nothing is logged yet
pub logged_first : (o : Option Files) (s : Standing) (ns : List ℕ) (first : List Before) → ns ≡ numbers_from 0 s.pool.dirty → AreLoggedTo o s ns 0 first first
logged_first o s ns first are = record { reached = 0; few = omega arith; left = sym are; logged = none o }
  where
    none : (o : Option Files) → IfSome o (λ files. first ≡ first ++ images_below s (files s.file) 0)
    none None = tt
    none (Some files) = sym (append-nil first)

-- the block that is next
pub next_dirty : (o : Option Files) (s : Standing) (ns : List ℕ) (i x : ℕ) (first old : List Before) → i < length ns → x ≡ get_or ns i 0 → AreLoggedTo o s ns i first old → is_dirty s.pool x ≡ true
next_dirty o s ns i x first old low read w = let next = next_of s.pool.dirty ns w.reached i x w.left low read in next.is_set

pub logged_more : (o n : Option Files) (s : Standing) (ns : List ℕ) (i x : ℕ) (first old new : List Before) → i < length ns → x ≡ get_or ns i 0 → n ≡ o → IfSome n (λ files. new ≡ old ++ image_at s (files s.file) x)
    → AreLoggedTo o s ns i first old → AreLoggedTo o s ns (i + 1) first new
logged_more o n s ns i x first old new low read same step w =
    let next = next_of s.pool.dirty ns w.reached i x w.left low read in
    record {
      reached = x + 1;
      few = let inside = next.inside in omega (arith, inside);
      left = next.rest_is;
      logged = both_weak o (λ files. new ≡ old ++ image_at s (files s.file) x) (λ files. old ≡ first ++ images_below s (files s.file) w.reached) (λ files. new ≡ first ++ images_below s (files s.file) (x + 1))
          (told_at o n (λ files. new ≡ old ++ image_at s (files s.file) x) same step) w.logged
          (λ files made was.
          made ∙ ap (λ (xs : List Before). xs ++ image_at s (files s.file) x) (was ∙ ap (λ (xs : List Before). first ++ xs) (images_gap s (files s.file) w.reached x next.low next.between))
          ∙ append_assoc first (images_below s (files s.file) x) (image_at s (files s.file) x)
          ∙ ap (λ (xs : List Before). first ++ xs) (sym (images_next s (files s.file) x)));
    }

-- all are
pub logged_all_of : (o : Option Files) (s : Standing) (ns : List ℕ) (i : ℕ) (first new : List Before) → length ns ≤ i → length s.pool.dirty ≡ length s.pool.leaves → AreLoggedTo o s ns i first new
    → IfSome o (λ files. new ≡ first ++ changed_images s (files s.file))
logged_all_of o s ns i first new end many w =
    weaker_told o (λ files. new ≡ first ++ images_below s (files s.file) w.reached) (λ files. new ≡ first ++ changed_images s (files s.file)) w.logged (λ files was.
    was ∙ ap (λ (xs : List Before). first ++ xs) (images_gap s (files s.file) w.reached (length s.pool.leaves) (let few = w.few in omega (arith, few, many)) (λ c from to. none_behind s.pool.dirty w.reached (w.left ∙ drop_all i ns end) c from)))

-- what was logged before an error
pub logged_front : (o : Option Files) (s : Standing) (ns : List ℕ) (i : ℕ) (first old new : List Before) → new ≡ old → AreLoggedTo o s ns i first old
    → IfSome o (λ files. (n : ℕ) × (new ≡ first ++ images_below s (files s.file) n))
logged_front o s ns i first old new same w = weaker_told o (λ files. old ≡ first ++ images_below s (files s.file) w.reached) (λ files. (n : ℕ) × (new ≡ first ++ images_below s (files s.file) n)) w.logged (λ files was. (w.reached, same ∙ was))

-- no call of the disk yet
pub reads_none : (v : View) → Reads v v
reads_none v = record {
  content = refl;
  passes = record { later = omega arith; images = λ c now. (c, now, refl); nothing_else = λ t c le since. inl since; keeps = λ t c le since. since; simulated = refl };
  room = λ f calls bytes room. room;
}

pub on_err : {T E P : Type 0} → (r : Result T E) → P → OnErr r P
on_err (Ok x) p = tt
on_err (Err e) p = p
