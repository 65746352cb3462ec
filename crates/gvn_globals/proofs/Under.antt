-- Which keys lie under a node: in M collation they stand together, from the node on.
use Rattle.std.proofs.Common.{◌≡◌, Bool, true, false, not, ◌&&◌, List, [], ◌∷◌, refl, sym, ap, ◌∙◌, true≢false}
use Rattle.std.specs.declared.cmp.Ordering.{Ordering}
use Rattle.std.specs.declared.cmp.Ordering.TheVariants.{Less, Equal, Greater}
use Rattle.std.specs.Ordering.{is_lt, is_eq, eq_by_cmp, nat_cmp, ordering_then, ordering_reverse}
use Rattle.std.specs.Cmp.{IsTotalOrder, first_so, second_so, alike_right}
use Rattle.std.specs.Cmp.Lexicographic.{slice_cmp, nat_list_cmp_total}
use Rattle.std.specs.List.{starts_with}
use Rattle.global_defs.specs.Key.{Key, key_cmp, sub_cmp}
use Rattle.global_defs.specs.Entry.{is_under}
use Rattle.global_defs.specs.Evaluation.{is_below}
use Rattle.global_defs.proofs.Order.{key_total, sub_total}
use Rattle.gvn_globals.specs.Walks.{is_later, is_behind}
use Rattle.gvn_globals.proofs.Basics.{less_of, equal_of, and_true, both, turn_equal, greater}

-- a first part that decides neither
record Step (a r s : Ordering) : Type 0 where
  ties : a ≡ Equal
  not_before : is_lt r ≡ false
  before : s ≡ Less

step : (a r s : Ordering) → is_lt (ordering_then a r) ≡ false → ordering_then a s ≡ Less → Step a r s
step Less r s l c = absurd (true≢false l)
step Equal r s l c = record { ties = refl; not_before = l; before = c }
step Greater r s l c = absurd (true≢false (sym (ap is_lt c)))

module _ {K : Type 0} {R : K → K → Ordering} (o : IsTotalOrder R) where
  -- a list doesn't come before its front
  begun_not_before : (xs pre : List K) → starts_with (eq_by_cmp R) xs pre ≡ true → is_lt (slice_cmp R xs pre) ≡ false
  begun_not_before [] [] h = refl
  begun_not_before (x ∷ xs) [] h = refl
  begun_not_before [] (p ∷ pre) h = absurd (true≢false (sym h))
  begun_not_before (x ∷ xs) (p ∷ pre) h =
      rw (turn_equal o p x (equal_of (R p x) (first_so (eq_by_cmp R p x) (starts_with (eq_by_cmp R) xs pre) h)))
      (begun_not_before xs pre (second_so (eq_by_cmp R p x) (starts_with (eq_by_cmp R) xs pre) h))

  -- between a front and a list that begins with it all lists do
  begun_between : (xs ys pre : List K) → is_lt (slice_cmp R xs pre) ≡ false → slice_cmp R xs ys ≡ Less → starts_with (eq_by_cmp R) ys pre ≡ true → starts_with (eq_by_cmp R) xs pre ≡ true
  begun_between xs ys [] l c u = refl
  begun_between [] ys (p ∷ pre) l c u = absurd (true≢false l)
  begun_between (x ∷ xs) [] (p ∷ pre) l c u = absurd (true≢false (sym u))
  begun_between (x ∷ xs) (y ∷ ys) (p ∷ pre) l c u =
      let tie = equal_of (R p y) (first_so (eq_by_cmp R p y) (starts_with (eq_by_cmp R) ys pre) u) in
      let parts = step (R x p) (slice_cmp R xs pre) (slice_cmp R xs ys) l (ap (λ a. ordering_then a (slice_cmp R xs ys)) (alike_right o p y x tie) ∙ c) in
      both (eq_by_cmp R p x) (starts_with (eq_by_cmp R) xs pre) (ap is_eq (turn_equal o x p parts.ties))
      (begun_between xs ys pre parts.not_before parts.before (second_so (eq_by_cmp R p y) (starts_with (eq_by_cmp R) ys pre) u))

pub names_tie : (top a : Key) → is_under top a ≡ true → slice_cmp nat_cmp top.name a.name ≡ Equal
names_tie top a u = equal_of (slice_cmp nat_cmp top.name a.name) (first_so (eq_by_cmp (slice_cmp nat_cmp) top.name a.name) (starts_with (eq_by_cmp sub_cmp) a.subs top.subs) u)

pub subs_begin : (top a : Key) → is_under top a ≡ true → starts_with (eq_by_cmp sub_cmp) a.subs top.subs ≡ true
subs_begin top a u = second_so (eq_by_cmp (slice_cmp nat_cmp) top.name a.name) (starts_with (eq_by_cmp sub_cmp) a.subs top.subs) u

-- a descendant doesn't come before its node
pub under_not_before : (top a : Key) → is_under top a ≡ true → is_lt (key_cmp a top) ≡ false
under_not_before top a u = rw (turn_equal nat_list_cmp_total top.name a.name (names_tie top a u)) (begun_not_before sub_total a.subs top.subs (subs_begin top a u))

-- between a node and a descendant all keys are descendants
pub under_between : (top a b : Key) → is_lt (key_cmp a top) ≡ false → key_cmp a b ≡ Less → is_under top b ≡ true → is_under top a ≡ true
under_between top a b l c u =
    let parts = step (slice_cmp nat_cmp a.name top.name) (slice_cmp sub_cmp a.subs top.subs) (slice_cmp sub_cmp a.subs b.subs) l
    (ap (λ r. ordering_then r (slice_cmp sub_cmp a.subs b.subs)) (alike_right nat_list_cmp_total top.name b.name a.name (names_tie top b u)) ∙ c) in
    both (eq_by_cmp (slice_cmp nat_cmp) top.name a.name) (starts_with (eq_by_cmp sub_cmp) a.subs top.subs)
    (ap is_eq (turn_equal nat_list_cmp_total a.name top.name parts.ties))
    (begun_between sub_total a.subs b.subs top.subs parts.not_before parts.before (subs_begin top b u))

pub behind_not_before : (top a : Key) → is_behind top a ≡ true → is_lt (key_cmp a top) ≡ false
behind_not_before top a h = ap is_lt (greater key_total top a (less_of (key_cmp top a) h))

-- a key behind a node is below it where it's under it
pub below_behind : (top a : Key) → is_behind top a ≡ true → is_below top a ≡ is_under top a
below_behind top a h = ap (λ r. is_under top a && not (is_eq r)) (less_of (key_cmp top a) h) ∙ and_true (is_under top a)

-- a key below a node is behind it
pub below_is_behind : (top a : Key) → is_below top a ≡ true → is_behind top a ≡ true
below_is_behind top a h = by (key_cmp top a) refl
  where
    under : is_under top a ≡ true
    under = first_so (is_under top a) (not (eq_by_cmp key_cmp top a)) h

    apart : not (eq_by_cmp key_cmp top a) ≡ true
    apart = second_so (is_under top a) (not (eq_by_cmp key_cmp top a)) h

    by : (r : Ordering) → key_cmp top a ≡ r → is_lt r ≡ true
    by Less e = refl
    by Equal e = absurd (true≢false (sym apart ∙ ap (λ r. not (is_eq r)) e))
    by Greater e = absurd (true≢false (sym (ap is_lt (key_total.antisymm a top ∙ ap ordering_reverse e)) ∙ under_not_before top a under))

-- from the first key behind a node on, the keys below it stand together
pub below_upward : (top a b : Key) → is_behind top a ≡ true → is_below top b ≡ true → key_cmp a b ≡ Less → is_below top a ≡ true
below_upward top a b h q c = below_behind top a h ∙ under_between top a b (behind_not_before top a h) c (first_so (is_under top b) (not (eq_by_cmp key_cmp top b)) q)

first_less : (a b : Ordering) → ordering_then a b ≡ Less → is_eq a ≡ false → a ≡ Less
first_less Less b c n = refl
first_less Equal b c n = absurd (true≢false n)
first_less Greater b c n = c

-- so do those of its name
pub later_upward : (key a b : Key) → is_behind key a ≡ true → is_later key b ≡ true → key_cmp a b ≡ Less → is_later key a ≡ true
later_upward key a b h q c = both (eq_by_cmp (slice_cmp nat_cmp) key.name a.name) (is_behind key a) (by (eq_by_cmp (slice_cmp nat_cmp) key.name a.name) refl) h
  where
    tied : slice_cmp nat_cmp key.name b.name ≡ Equal
    tied = equal_of (slice_cmp nat_cmp key.name b.name) (first_so (eq_by_cmp (slice_cmp nat_cmp) key.name b.name) (is_behind key b) q)

    later : (r : Ordering) → slice_cmp nat_cmp a.name b.name ≡ r → slice_cmp nat_cmp key.name a.name ≡ Less → ordering_then r (slice_cmp sub_cmp a.subs b.subs) ≡ Less → ⊥
    later Less e low d = true≢false (sym (ap is_lt (nat_list_cmp_total.trans key.name a.name b.name low e)) ∙ ap is_lt tied)
    later Equal e low d = true≢false (sym (ap is_lt (sym (alike_right nat_list_cmp_total a.name b.name key.name e) ∙ low)) ∙ ap is_lt tied)
    later Greater e low d = true≢false (sym (ap is_lt d))

    by : (t : Bool) → eq_by_cmp (slice_cmp nat_cmp) key.name a.name ≡ t → t ≡ true
    by true e = refl
    by false e = absurd (later (slice_cmp nat_cmp a.name b.name) refl (first_less (slice_cmp nat_cmp key.name a.name) (slice_cmp sub_cmp key.subs a.subs) (less_of (key_cmp key a) h) e) c)

pub later_is_behind : (key k : Key) → is_later key k ≡ true → is_behind key k ≡ true
later_is_behind key k q = second_so (eq_by_cmp (slice_cmp nat_cmp) key.name k.name) (is_behind key k) q

pub below_is_later : (key k : Key) → is_below key k ≡ true → is_later key k ≡ true
below_is_later key k h = both (eq_by_cmp (slice_cmp nat_cmp) key.name k.name) (is_behind key k) (ap is_eq (names_tie key k (first_so (is_under key k) (not (eq_by_cmp key_cmp key k)) h))) (below_is_behind key k h)
