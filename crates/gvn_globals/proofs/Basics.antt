-- Tests and comparisons by cases.
use Rattle.std.proofs.Common.{◌≡◌, Bool, true, false, ◌&&◌, T, List, [], ◌∷◌, is_some, Option, Some, None, if◌then◌else◌, refl, sym, ap, ◌∙◌, true≢false, arith}
use Rattle.std.specs.Prelude.{Result, Ok, Err, IfOk}
use Rattle.std.specs.declared.cmp.Ordering.{Ordering}
use Rattle.std.specs.declared.cmp.Ordering.TheVariants.{Less, Equal, Greater}
use Rattle.std.specs.Ordering.{is_lt, is_eq, ordering_reverse}
use Rattle.std.specs.Cmp.{IsTotalOrder, first_so, second_so}
use Rattle.std.specs.List as list
use Rattle.std.specs.FinMap.{IsAntisymmetric, is_sorted, find}
use Rattle.std.specs.FinMap.Entries.{below_all}

pub less_of : (r : Ordering) → is_lt r ≡ true → r ≡ Less
less_of Less h = refl
less_of Equal h = absurd (true≢false (sym h))
less_of Greater h = absurd (true≢false (sym h))

pub equal_of : (r : Ordering) → is_eq r ≡ true → r ≡ Equal
equal_of Less h = absurd (true≢false (sym h))
equal_of Equal h = refl
equal_of Greater h = absurd (true≢false (sym h))

pub false_of : (b : Bool) → (b ≡ true → ⊥) → b ≡ false
false_of true f = absurd (f refl)
false_of false f = refl

pub and_true : (b : Bool) → (b && true) ≡ b
and_true true = refl
and_true false = refl

pub both : (a b : Bool) → a ≡ true → b ≡ true → (a && b) ≡ true
both a b p q = grind (arith, p, q)

pub of_T : (b : Bool) → T b → b ≡ true
of_T true t = refl
of_T false t = absurd t

pub none_of : {A : Type 0} (o : Option A) → (is_some o ≡ true → ⊥) → o ≡ None
none_of None f = refl
none_of (Some x) f = absurd (f refl)

pub some_of : {A : Type 0} (o : Option A) → is_some o ≡ false → o ≡ None
some_of None f = refl
some_of (Some x) f = absurd (true≢false f)

-- how two keys stand to one another
pub data Stands {K : Type 0} (R : K → K → Ordering) (a b : K) : Type 0 where
  before : R a b ≡ Less → Stands R a b
  same : a ≡ b → Stands R a b
  behind : R b a ≡ Less → Stands R a b

module _ {K : Type 0} {R : K → K → Ordering} (o : IsTotalOrder R) where
  pub turn_equal : (x y : K) → R x y ≡ Equal → R y x ≡ Equal
  turn_equal x y e = o.antisymm y x ∙ ap ordering_reverse e

  pub greater : (x k : K) → R x k ≡ Less → R k x ≡ Greater
  greater x k e = o.antisymm k x ∙ ap ordering_reverse e

  pub stands : IsAntisymmetric R → (a b : K) → Stands R a b
  stands one a b = by (R a b) refl
    where
      by : (r : Ordering) → R a b ≡ r → Stands R a b
      by Less e = before e
      by Equal e = same (one a b e)
      by Greater e = behind (o.antisymm b a ∙ ap ordering_reverse e)

module _ {K X : Type 0} (R : K → K → Ordering) where
  pub sorted_rest : (e : K × X) (es : List (K × X)) → is_sorted R (e ∷ es) ≡ true → is_sorted R es ≡ true
  sorted_rest e es h = second_so (below_all R e.0 es) (is_sorted R es) h

  pub sorted_first : (e : K × X) (es : List (K × X)) → is_sorted R (e ∷ es) ≡ true → below_all R e.0 es ≡ true
  sorted_first e es h = first_so (below_all R e.0 es) (is_sorted R es) h

module _ {K X : Type 0} {R : K → K → Ordering} (o : IsTotalOrder R) where
  -- a key below the least is below the others
  pub below_from_less : (k x : K) (es : List (K × X)) → R k x ≡ Less → below_all R x es ≡ true → below_all R k es ≡ true
  below_from_less k x [] e h = refl
  below_from_less k x (f ∷ es) e h = both (is_lt (R k f.0)) (below_all R k es)
      (ap is_lt (o.trans k x f.0 e (less_of (R x f.0) (first_so (is_lt (R x f.0)) (below_all R x es) h))))
      (below_from_less k x es e (second_so (is_lt (R x f.0)) (below_all R x es) h))

  pub find_below : (k : K) (es : List (K × X)) → below_all R k es ≡ true → find R k es ≡ None
  find_below k [] h = refl
  find_below k (e ∷ es) h = rw (less_of (R k e.0) (first_so (is_lt (R k e.0)) (below_all R k es) h)) (find_below k es (second_so (is_lt (R k e.0)) (below_all R k es) h))

abbrev pub head : {A : Type 0} → List A → Option A
head [] = None
head (x ∷ xs) = Some x

-- the first that passes is the first of those that pass
find_head : {A : Type 0} (p q : A → Bool) → ((x : A) → q x ≡ p x) → (xs : List A) → list.find p xs ≡ head (list.filter q xs)
find_head p q alike [] = refl
find_head p q alike (x ∷ xs) = by (q x) (sym (alike x)) (find_head p q alike xs)
  where
    by : (b : Bool) → p x ≡ b → list.find p xs ≡ head (list.filter q xs) → (if p x then Some x else list.find p xs) ≡ head (if b then x ∷ list.filter q xs else list.filter q xs)
    by true e m = rw e refl
    by false e m = rw e m

pub find_filtered : {A : Type 0} (p q : A → Bool) → ((x : A) → q x ≡ p x) → (xs ys : List A) → ys ≡ list.filter q xs → list.find p xs ≡ head ys
find_filtered p q alike xs ys e = find_head p q alike xs ∙ ap head (sym e)

pub if_ok : {A E : Type 0} (r : Result A E) (P Q : A → Type 0) → ((x : A) → P x → Q x) → IfOk r P → IfOk r Q
if_ok (Ok x) P Q f h = f x h
if_ok (Err e) P Q f h = tt
