-- Regions, the names that they have and the parts that name them.
use Rattle.std.proofs.Common.{◌≡◌, ℕ, ◌-◌, ◌||◌, Bool, true, false, List, [], ◌∷◌, ◌++◌, length, take, drop, map, refl, sym, ap, ◌∙◌, subst, inl, inr, arith, length-append}
use Rattle.std.specs.Prelude.{nat_le}
use Rattle.std.specs.List.{list_all, list_any, AllByRecursion, IsDistinct}
use Rattle.std.specs.Char.{is_ascii_alphabetic, is_ascii_alphanumeric}
use Rattle.std.specs.Int.{is_in_range}
use Rattle.std.specs.Str.{bytes_eq}
use Rattle.std.proofs.lemmas.Slice.Eq.{bytes_eq-Decides}
use Rattle.std.proofs.lemmas.List.{map-append, take-append-drop}
use Rattle.std.proofs.lemmas.List.Folds.{list_all-append}
use Rattle.std.proofs.lemmas.Bool.{and_parts, and_from, or_parts, or_from, cases_Bool}
use Rattle.std.proofs.Math.Seq.{take-append_seam, drop-append_seam}
use Rattle.global_defs.specs.Region.{Region}
use Rattle.command_defs.specs.Commands.{Name, NO_IMAGES, ends_so, region_named, region_word}
use Rattle.command_defs.specs.Parts.{is_lettered, is_name, LONGEST_NAME}

abbrev pub names_of : List Region → List Name
names_of regions = map (λ r. r.name) regions

pub names_more : (before more : List Region) → names_of (before ++ more) ≡ names_of before ++ names_of more
names_more before more = map-append (λ (r : Region). r.name) before more

-- a name is among regions where it's among their names
pub any_names : (before : List Region) (name : Name) → list_any (λ r. bytes_eq r.name name) before ≡ list_any (λ x. bytes_eq x name) (names_of before)
any_names [] name = refl
any_names (r ∷ rs) name = ap (λ (b : Bool). bytes_eq r.name name || b) (any_names rs name)

all_more : {X : Type 0} (P : X → Type 0) (xs : List X) (y : X) → AllByRecursion P xs → P y → AllByRecursion P (xs ++ y ∷ [])
all_more P [] y all last = (last, tt)
all_more P (x ∷ xs) y all last = (all.0, all_more P xs y all.1 last)

pub distinct_one : (name : Name) → IsDistinct bytes_eq (name ∷ [])
unfolding IsDistinct
distinct_one name = (tt, tt)

-- names that differ, and one more that is none of them
pub distinct_more : (names : List Name) (name : Name) → IsDistinct bytes_eq names → list_any (λ x. bytes_eq x name) names ≡ false → IsDistinct bytes_eq (names ++ name ∷ [])
unfolding IsDistinct
distinct_more [] name d none = (tt, tt)
distinct_more (x ∷ xs) name d none =
    let o = or_parts (bytes_eq x name) (list_any (λ y. bytes_eq y name) xs) none in
    (all_more (λ y. bytes_eq x y ≡ false) xs name d.0 o.0, distinct_more xs name d.1 o.1)

-- regions of different names, and one more whose name none of them has
pub regions_more : (before : List Region) (r : Region) → IsDistinct bytes_eq (names_of before) → list_any (λ x. bytes_eq x.name r.name) before ≡ false → IsDistinct bytes_eq (names_of (before ++ r ∷ []))
regions_more before r d fresh = subst (IsDistinct bytes_eq) (sym (names_more before (r ∷ []))) (distinct_more (names_of before) r.name d (sym (any_names before r.name) ∙ fresh))

at_seam : {X : Type 0} (P : X → Type 0) (xs : List X) (y : X) (ys : List X) → AllByRecursion P (xs ++ y ∷ ys) → P y
at_seam P [] y ys all = all.0
at_seam P (x ∷ xs) y ys all = at_seam P xs y ys all.1

-- among names that differ none is one of those before it
apart : (names : List Name) (name : Name) (more : List Name) → IsDistinct bytes_eq (names ++ name ∷ more) → list_any (λ x. bytes_eq x name) names ≡ false
unfolding IsDistinct
apart [] name more d = refl
apart (x ∷ xs) name more d = or_from (bytes_eq x name) (list_any (λ y. bytes_eq y name) xs) (at_seam (λ y. bytes_eq x y ≡ false) xs name more d.0) (apart xs name more d.1)

-- so it is with regions
pub regions_apart : (before : List Region) (r : Region) (more : List Region) → IsDistinct bytes_eq (names_of (before ++ r ∷ more)) → list_any (λ x. bytes_eq x.name r.name) before ≡ false
regions_apart before r more d = any_names before r.name ∙ apart (names_of before) r.name (names_of more) (subst (IsDistinct bytes_eq) (names_more before (r ∷ more)) d)

-- The part that names a region.

-- a part names the region that it was read as
pub word_named : (text : List ℕ) → region_word (region_named text) ≡ text
word_named text = elim (cases_Bool (ends_so text)) [
  | inl h ↦ (let k = length text - length NO_IMAGES in
      let same : drop k text ≡ NO_IMAGES = (bytes_eq-Decides (drop k text) NO_IMAGES).0 h in
      rw h (ap (λ (x : List ℕ). take k text ++ x) (sym same) ∙ take-append-drop k text))
  | inr h ↦ rw h refl
]

one_of : (x y z : Bool) → (y || z) ≡ true → ((x || y) || z) ≡ true
one_of true y z h = refl
one_of false y z h = h

name_letters : (name : Name) → is_lettered name ≡ true → list_all is_ascii_alphanumeric name ≡ true
name_letters [] h = refl
name_letters (b ∷ bs) h =
    let a = and_parts (is_ascii_alphabetic b) (list_all is_ascii_alphanumeric bs) h in
    and_from (is_ascii_alphanumeric b) (list_all is_ascii_alphanumeric bs) (one_of (is_in_range 48 57 b) (is_in_range 65 90 b) (is_in_range 97 122 b) a.0) a.1

-- a name has no colon
name_ends : (name : Name) → is_name name ≡ true → ends_so name ≡ false
name_ends name good = elim (cases_Bool (ends_so name)) [
  | inl h ↦ (let k = length name - length NO_IMAGES in
      let same : drop k name ≡ NO_IMAGES = (bytes_eq-Decides (drop k name) NO_IMAGES).0 h in
      let letters = name_letters name (and_parts (is_lettered name) (nat_le (length name) LONGEST_NAME) good).0 in
      let all : list_all is_ascii_alphanumeric (take k name ++ drop k name) ≡ true = subst (λ (x : List ℕ). list_all is_ascii_alphanumeric x ≡ true) (sym (take-append-drop k name)) letters in
      let last = and_parts (list_all is_ascii_alphanumeric (take k name)) (list_all is_ascii_alphanumeric (drop k name)) (sym (list_all-append is_ascii_alphanumeric (take k name) (drop k name)) ∙ all) in
      absurd (let e : list_all is_ascii_alphanumeric NO_IMAGES ≡ true = subst (λ (x : List ℕ). list_all is_ascii_alphanumeric x ≡ true) same last.1 in cc))
  | inr h ↦ h
]

named_so : (name : Name) (before : Bool) → is_name name ≡ true → region_named (region_word (record { name = name; before = before })) ≡ record { name = name; before = before }
named_so name true good = rw (name_ends name good) refl
named_so name false good =
    let front : length (name ++ NO_IMAGES) - length NO_IMAGES ≡ length name = omega (arith, length-append name NO_IMAGES) in
    let ends : ends_so (name ++ NO_IMAGES) ≡ true = (bytes_eq-Decides (drop (length (name ++ NO_IMAGES) - length NO_IMAGES) (name ++ NO_IMAGES)) NO_IMAGES).1
    (ap (λ (k : ℕ). drop k (name ++ NO_IMAGES)) front ∙ drop-append_seam name NO_IMAGES) in
    rw ends (ap (λ (x : Name). record { name = x; before = false }) (ap (λ (k : ℕ). take k (name ++ NO_IMAGES)) front ∙ take-append_seam name NO_IMAGES))

-- and a region of a good name is what its part names
pub named_word : (r : Region) → is_name r.name ≡ true → region_named (region_word r) ≡ r
named_word r good = named_so r.name r.before good
