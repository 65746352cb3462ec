-- The first key of a map that passes a test, by what the map answers.
use Rattle.std.proofs.Common.{◌≡◌, Bool, true, false, List, [], ◌∷◌, map, is_some, Option, Some, None, if◌then◌else◌, refl, sym, ap, subst, ◌∙◌, true≢false}
use Rattle.std.specs.declared.cmp.Ordering.{Ordering}
use Rattle.std.specs.declared.cmp.Ordering.TheVariants.{Less, Equal, Greater}
use Rattle.std.specs.Ordering.{is_lt, is_eq, eq_by_cmp}
use Rattle.std.specs.Cmp.{IsTotalOrder}
use Rattle.std.proofs.lemmas.Cmp.{tied_itself}
use Rattle.std.specs.List as list
use Rattle.std.specs.FinMap.{FinMap, IsAntisymmetric, is_sorted, find, entries, entries_sorted, get, get-entries, keys}
use Rattle.std.specs.FinMap.Entries.{below_all}
use Rattle.gvn_globals.specs.Walks.{tested}
use Rattle.gvn_globals.proofs.Basics.{before, same, behind, stands, sorted_rest, sorted_first, below_from_less, find_below, both, of_T}

-- the key passes and is there, and no lesser one that passes is there below
pub record IsFirst {K X : Type 0} (R : K → K → Ordering) (low at : K → Option X) (p : K → Bool) (k : K) : Type 0 where
  pub passes : p k ≡ true
  pub here : is_some (at k) ≡ true
  pub least : (j : K) → p j ≡ true → R j k ≡ Less → low j ≡ None

abbrev pub Finds : {K X : Type 0} → (R : K → K → Ordering) (low at : K → Option X) (p : K → Bool) → Option K → Type 0
Finds {K} R low at p None = (j : K) → p j ≡ true → low j ≡ None
Finds R low at p (Some k) = IsFirst R low at p k

absent_here : {X : Type 0} (o : Option X) → o ≡ None → is_some o ≡ true → ⊥
absent_here o n h = true≢false (sym h ∙ ap is_some n)

module _ {K X : Type 0} {R : K → K → Ordering} (o : IsTotalOrder R) (one : IsAntisymmetric R) where
  pub found_first : (p : K → Bool) (es : List (K × X)) → is_sorted R es ≡ true → Finds R (λ j. find R j es) (λ j. find R j es) p (list.find p (map (λ e. e.0) es))
  found_first p [] h = λ j t. refl
  found_first p (e ∷ es) h = by (p e.0) refl (found_first p es (sorted_rest R e es h))
    where
      tied : find R e.0 (e ∷ es) ≡ Some e.1
      tied = rw (tied_itself o e.0) refl

      miss : (j : K) → p e.0 ≡ false → p j ≡ true → find R j es ≡ None → find R j (e ∷ es) ≡ None
      miss j f u n = by_case (R j e.0) refl
        where
          by_case : (r : Ordering) → R j e.0 ≡ r → (if is_eq r then Some e.1 else find R j es) ≡ None
          by_case Less c = n
          by_case Equal c = absurd (true≢false (sym u ∙ ap p (one j e.0 c) ∙ f))
          by_case Greater c = n

      more : (k : K) → is_some (find R k es) ≡ true → is_some (find R k (e ∷ es)) ≡ true
      more k s = by_case (eq_by_cmp R k e.0)
        where
          by_case : (b : Bool) → is_some (if b then Some e.1 else find R k es) ≡ true
          by_case true = refl
          by_case false = s

      past : (r : Option K) → p e.0 ≡ false → Finds R (λ j. find R j es) (λ j. find R j es) p r → Finds R (λ j. find R j (e ∷ es)) (λ j. find R j (e ∷ es)) p r
      past None f g = λ j u. miss j f u (g j u)
      past (Some k) f g = record { passes = g.passes; here = more k g.here; least = λ j u c. miss j f u (g.least j u c) }

      by : (b : Bool) → p e.0 ≡ b → Finds R (λ j. find R j es) (λ j. find R j es) p (list.find p (map (λ e. e.0) es)) → Finds R (λ j. find R j (e ∷ es)) (λ j. find R j (e ∷ es)) p (if b then Some e.0 else list.find p (map (λ e. e.0) es))
      by true t m = record {
        passes = t;
        here = ap is_some tied;
        least = λ j u c. find_below o j (e ∷ es) (both (is_lt (R j e.0)) (below_all R j es) (ap is_lt c) (below_from_less o j e.0 es c (sorted_first R e es h)));
      }
      by false f m = past (list.find p (map (λ e. e.0) es)) f m

  pub unique : (at : K → Option X) (p : K → Bool) (r s : Option K) → Finds R at at p r → Finds R at at p s → r ≡ s
  unique at p None None f g = refl
  unique at p None (Some k) f g = absurd (absent_here (at k) (f k g.passes) g.here)
  unique at p (Some k) None f g = absurd (absent_here (at k) (g k f.passes) f.here)
  unique at p (Some j) (Some k) f g = elim (stands o one j k) [
    | before c ↦ absurd (absent_here (at j) (g.least j f.passes c) f.here)
    | same e ↦ ap (λ x. Some x) e
    | behind c ↦ absurd (absent_here (at k) (f.least k g.passes c) g.here)
  ]

  -- where a test passes, another does; and the first that passes the other decides for all that come later
  pub decided : (at : K → Option X) (p q : K → Bool) → ((k : K) → is_some (at k) ≡ true → q k ≡ true → p k ≡ true)
      → ((a b : K) → is_some (at a) ≡ true → is_some (at b) ≡ true → p a ≡ true → q b ≡ true → R a b ≡ Less → q a ≡ true)
      → (r : Option K) → Finds R at at p r → Finds R at at q (tested q r)
  decided at p q within upward None f = λ j u. by j (at j) refl u
    where
      by : (j : K) (x : Option X) → at j ≡ x → q j ≡ true → x ≡ None
      by j None e u = refl
      by j (Some y) e u = sym e ∙ f j (within j (ap is_some e) u)
  decided at p q within upward (Some k) f = by (q k) refl
    where
      low : (j : K) → q j ≡ true → R j k ≡ Less → (x : Option X) → at j ≡ x → x ≡ None
      low j u c None e = refl
      low j u c (Some y) e = sym e ∙ f.least j (within j (ap is_some e) u) c

      none : (j : K) → q k ≡ false → q j ≡ true → (x : Option X) → at j ≡ x → x ≡ None
      none j t u None e = refl
      none j t u (Some y) e = elim (stands o one j k) [
        | before c ↦ sym e ∙ f.least j (within j (ap is_some e) u) c
        | same i ↦ absurd (true≢false (sym u ∙ ap q i ∙ t))
        | behind c ↦ absurd (true≢false (sym (upward k j f.here (ap is_some e) f.passes u c) ∙ t))
      ]

      by : (b : Bool) → q k ≡ b → Finds R at at q (if b then Some k else None)
      by true t = record { passes = t; here = f.here; least = λ j u c. low j u c (at j) refl }
      by false t = λ j u. none j t u (at j) refl

  pub find_finds : (g : FinMap R X) (p : K → Bool) → Finds R (get g) (get g) p (list.find p (keys g))
  find_finds g p =
      let answers : (λ j. find R j (entries g)) ≡ get g = λ i j. sym (get-entries g j) i in
      subst (λ at. Finds R at at p (list.find p (keys g))) answers (found_first p (entries g) (of_T (is_sorted R (entries g)) (entries_sorted g)))

  pub find_is : (g : FinMap R X) (p : K → Bool) (r : Option K) → Finds R (get g) (get g) p r → list.find p (keys g) ≡ r
  find_is g p r f = unique (get g) p (list.find p (keys g)) r (find_finds g p) f

  pub find_decided : (g : FinMap R X) (p q : K → Bool) → ((k : K) → is_some (get g k) ≡ true → q k ≡ true → p k ≡ true)
      → ((a b : K) → is_some (get g a) ≡ true → is_some (get g b) ≡ true → p a ≡ true → q b ≡ true → R a b ≡ Less → q a ≡ true)
      → list.find q (keys g) ≡ tested q (list.find p (keys g))
  find_decided g p q within upward = find_is g q (tested q (list.find p (keys g))) (decided (get g) p q within upward (list.find p (keys g)) (find_finds g p))
