-- Blocks by their numbers through changes, and lists of numbers.
use Rattle.std.proofs.Common.{◌≡◌, ◌≢◌, ℕ, ◌+◌, ◌==◌, Bool, true, List, [], ◌∷◌, ◌++◌, map, refl, sym, ap, subst, ◌∙◌, arith}
use Rattle.std.proofs.lemmas.Bool.Decides.{nat_tests}
use Rattle.std.specs.Prelude.{if◌then◌else◌}
use Rattle.std.specs.List.{AllByRecursion}
use Rattle.journal_defs.specs.Leaves.{Leaf, IsLeaf}
use Rattle.gvt_leaf.specs.Links.{first_or, Lead, one_if, times}

pub times-append : (b : ℕ) (xs ys : List ℕ) → times b (xs ++ ys) ≡ times b xs + times b ys
times-append b [] ys = omega arith
times-append b (x ∷ xs) ys = omega (arith, times-append b xs ys)

pub Lead-append : (leaf : ℕ → Leaf) (xs ys : List ℕ) (e : ℕ) → Lead leaf (xs ++ ys) e → Lead leaf xs (first_or e ys) × Lead leaf ys e
Lead-append leaf [] ys e h = (tt, h)
Lead-append leaf (x ∷ []) ys e h = ((h.0, tt), h.1)
Lead-append leaf (x ∷ y ∷ xs) ys e h = let rest = Lead-append leaf (y ∷ xs) ys e h.1 in ((h.0, rest.0), rest.1)

pub Lead_joined : (leaf : ℕ → Leaf) (xs ys : List ℕ) (e : ℕ) → Lead leaf xs (first_or e ys) → Lead leaf ys e → Lead leaf (xs ++ ys) e
Lead_joined leaf [] ys e h k = k
Lead_joined leaf (x ∷ []) ys e h k = (h.0, k)
Lead_joined leaf (x ∷ y ∷ xs) ys e h k = (h.0, Lead_joined leaf (y ∷ xs) ys e h.1 k)

-- the blocks of these numbers are the same
abbrev pub Agree : (ℕ → Leaf) → (ℕ → Leaf) → List ℕ → Type 0
Agree old new xs = AllByRecursion (λ b. new b ≡ old b) xs

pub Lead-agree : (old new : ℕ → Leaf) (xs : List ℕ) (e : ℕ) → Agree old new xs → Lead old xs e → Lead new xs e
Lead-agree old new [] e a h = tt
Lead-agree old new (x ∷ xs) e a h = (ap (λ (l : Leaf). l.next) a.0 ∙ h.0, Lead-agree old new xs e a.1 h.1)

-- two numbers that stand nowhere in a list
pub agree_outside : (old new : ℕ → Leaf) (n m : ℕ) (xs : List ℕ) → ((b : ℕ) → b ≢ n → b ≢ m → new b ≡ old b) → times n xs ≡ 0 → times m xs ≡ 0 → Agree old new xs
agree_outside old new n m [] same p q = tt
agree_outside old new n m (x ∷ xs) same p q =
    let not_n : x ≢ n = λ e. let is : (x == n) ≡ true = grind (arith, nat_tests, e) in let one : one_if (x == n) ≡ 1 = ap one_if is in omega (arith, one, p) in
    let not_m : x ≢ m = λ e. let is : (x == m) ≡ true = grind (arith, nat_tests, e) in let one : one_if (x == m) ≡ 1 = ap one_if is in omega (arith, one, q) in
    (same x not_n not_m, agree_outside old new n m xs same (omega (arith, p)) (omega (arith, q)))

pub cells-agree : (old new : ℕ → Leaf) (xs : List ℕ) → Agree old new xs → map (λ b. (new b).cells) xs ≡ map (λ b. (old b).cells) xs
cells-agree old new [] a = refl
cells-agree old new (x ∷ xs) a = λ i. (a.0 i).cells ∷ cells-agree old new xs a.1 i

pub forms-agree : (old new : ℕ → Leaf) (xs : List ℕ) → Agree old new xs → AllByRecursion (λ b. IsLeaf (old b)) xs → AllByRecursion (λ b. IsLeaf (new b)) xs
forms-agree old new [] a h = tt
forms-agree old new (x ∷ xs) a h = (subst IsLeaf (sym a.0) h.0, forms-agree old new xs a.1 h.1)

pub all-append : {X : Type 0} (P : X → Type 0) (xs ys : List X) → AllByRecursion P (xs ++ ys) → AllByRecursion P xs × AllByRecursion P ys
all-append P [] ys h = (tt, h)
all-append P (x ∷ xs) ys h = let rest = all-append P xs ys h.1 in ((h.0, rest.0), rest.1)

-- other blocks in place of some of a chain, which begin where those began
pub Lead-replaced : (old new : ℕ → Leaf) (xs : List ℕ) (n : ℕ) (os ns ys : List ℕ) (e : ℕ) → Agree old new xs → Agree old new ys
    → Lead new (n ∷ ns) (first_or e ys) → Lead old (xs ++ ((n ∷ os) ++ ys)) e → Lead new (xs ++ ((n ∷ ns) ++ ys)) e
Lead-replaced old new xs n os ns ys e before behind here h =
    let outer = Lead-append old xs ((n ∷ os) ++ ys) e h in
    let inner = Lead-append old (n ∷ os) ys e outer.1 in
    Lead_joined new xs ((n ∷ ns) ++ ys) e (Lead-agree old new xs n before outer.0) (Lead_joined new (n ∷ ns) ys e here (Lead-agree old new ys e behind inner.1))

-- a number that was popped
pub times-popped : (b n : ℕ) (xs ys : List ℕ) → xs ≡ ys ++ n ∷ [] → times b xs ≡ times b ys + one_if (n == b)
times-popped b n xs ys e = ap (times b) e ∙ omega (arith, times-append b ys (n ∷ []))

pub times_itself : (n : ℕ) → one_if (n == n) ≡ 1
times_itself n = ap one_if (let is : (n == n) ≡ true = grind (arith, nat_tests) in is)

-- what was inserted or pushed without failing
pub done_so : {A : Type 0} (x a b : A) (r : Bool) → x ≡ (if r then a else b) → r ≡ true → x ≡ a
done_so x a b r is ok = is ∙ ap (λ (t : Bool). if t then a else b) ok
