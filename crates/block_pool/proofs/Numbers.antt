-- The numbers of marks that are set.
use Rattle.std.proofs.Common.{◌≡◌, ℕ, zero, suc, ◌+◌, ◌≤◌, ◌<◌, Bool, true, false, List, [], ◌∷◌, ◌++◌, length, drop, get_or, slice_set, replicate, refl, sym, ◌∙◌, ap, subst, arith}
use Rattle.std.specs.Prelude.{◌-◌, Ok, Err, if◌then◌else◌}
use Rattle.std.specs.Ordering.{nat_cmp}
use Rattle.std.specs.List.{insert}
use Rattle.std.specs.List.Sorted.{IsBinarySearchResult}
use Rattle.std.proofs.lemmas.List.Sorted.{searched}
use Rattle.std.proofs.lemmas.List.{get_or-drop, drop-drop, drop_more}
use Rattle.block_pool.specs.Pool.{numbers_from, count_set}

pub count-numbers : (k : ℕ) (ds : List Bool) → length (numbers_from k ds) ≡ count_set ds
count-numbers k [] = refl
count-numbers k (true ∷ ds) = let rest = count-numbers (suc k) ds in omega (arith, rest)
count-numbers k (false ∷ ds) = count-numbers (suc k) ds

pub few-set : (ds : List Bool) → count_set ds ≤ length ds
few-set [] = omega arith
few-set (true ∷ ds) = let rest = few-set ds in omega (arith, rest)
few-set (false ∷ ds) = let rest = few-set ds in omega (arith, rest)

-- one mark that isn't set
pub fewer-set : (ds : List Bool) (n : ℕ) → n < length ds → get_or ds n false ≡ false → count_set ds < length ds
fewer-set [] n low is = absurd (omega (arith, low))
fewer-set (true ∷ ds) zero low is = cc
fewer-set (false ∷ ds) zero low is = let rest = few-set ds in omega (arith, rest)
fewer-set (true ∷ ds) (suc n) low is = let rest = fewer-set ds n (omega (arith, low)) is in omega (arith, rest)
fewer-set (false ∷ ds) (suc n) low is = let rest = fewer-set ds n (omega (arith, low)) is in omega (arith, rest)

-- ---- they rise

pub past : (k : ℕ) (ds : List Bool) (i : ℕ) → i < length (numbers_from k ds) → k ≤ get_or (numbers_from k ds) i 0
past k [] i low = absurd (omega (arith, low))
past k (true ∷ ds) zero low = omega arith
past k (true ∷ ds) (suc i) low = let rest = past (suc k) ds i (omega (arith, low)) in omega (arith, rest)
past k (false ∷ ds) i low = let rest = past (suc k) ds i low in omega (arith, rest)

pub rising : (k : ℕ) (ds : List Bool) (i j : ℕ) → i ≤ j → j < length (numbers_from k ds) → get_or (numbers_from k ds) i 0 ≤ get_or (numbers_from k ds) j 0
rising k [] i j le low = absurd (omega (arith, low))
rising k (true ∷ ds) zero zero le low = omega arith
rising k (true ∷ ds) zero (suc j) le low = let rest = past (suc k) ds j (omega (arith, low)) in omega (arith, rest)
rising k (true ∷ ds) (suc i) zero le low = absurd (omega (arith, le))
rising k (true ∷ ds) (suc i) (suc j) le low = rising (suc k) ds i j (omega (arith, le)) (omega (arith, low))
rising k (false ∷ ds) i j le low = rising (suc k) ds i j le low

-- ---- a mark is set, or all are taken away

-- a number that isn't there comes to the place where it belongs
pub inserted : (k : ℕ) (ds : List Bool) (b i x : ℕ) → x ≡ k + b → b < length ds → i ≤ length (numbers_from k ds)
    → ((j : ℕ) → j < i → get_or (numbers_from k ds) j 0 < x) → ((j : ℕ) → i ≤ j → j < length (numbers_from k ds) → x < get_or (numbers_from k ds) j 0)
    → insert (numbers_from k ds) i x ≡ numbers_from k (slice_set ds b true)
inserted k [] b i x is low in_list below above = absurd (omega (arith, low))
inserted k (true ∷ ds) b zero x is low in_list below above = let first = above 0 (omega arith) (omega arith) in absurd (omega (arith, first, is))
inserted k (true ∷ ds) zero (suc i) x is low in_list below above = let first = below 0 (omega arith) in absurd (omega (arith, first, is))
inserted k (true ∷ ds) (suc b) (suc i) x is low in_list below above =
    ap (λ (ns : List ℕ). k ∷ ns) (inserted (suc k) ds b i x (omega (arith, is)) (omega (arith, low)) (omega (arith, in_list)) (λ j lt. below (suc j) (omega (arith, lt))) (λ j le lt. above (suc j) (omega (arith, le)) (omega (arith, lt))))
inserted k (false ∷ ds) zero zero x is low in_list below above = ap (λ (n : ℕ). n ∷ numbers_from (suc k) ds) (omega (arith, is))
inserted k (false ∷ ds) zero (suc i) x is low in_list below above =
    let first = below 0 (omega arith) in
    let there = past (suc k) ds 0 (omega (arith, in_list)) in
    absurd (omega (arith, first, there, is))
inserted k (false ∷ ds) (suc b) i x is low in_list below above = inserted (suc k) ds b i x (omega (arith, is)) (omega (arith, low)) in_list below above

-- a number that is there has its mark set
pub there_set : (k : ℕ) (ds : List Bool) (b i x : ℕ) → x ≡ k + b → i < length (numbers_from k ds) → get_or (numbers_from k ds) i 0 ≡ x → get_or ds b false ≡ true
there_set k [] b i x is low at = absurd (omega (arith, low))
there_set k (true ∷ ds) zero i x is low at = refl
there_set k (true ∷ ds) (suc b) zero x is low at = absurd (omega (arith, at, is))
there_set k (true ∷ ds) (suc b) (suc i) x is low at = there_set (suc k) ds b i x (omega (arith, is)) (omega (arith, low)) at
there_set k (false ∷ ds) zero i x is low at = let more = past (suc k) ds i low in absurd (omega (arith, more, at, is))
there_set k (false ∷ ds) (suc b) i x is low at = there_set (suc k) ds b i x (omega (arith, is)) low at

-- what a search for a number that isn't there leads to
pub listed_at : (xs : List ℕ) (marks : List Bool) (x i : ℕ) → xs ≡ numbers_from 0 marks → x < length marks → IsBinarySearchResult (λ y. nat_cmp y x) xs (Err i) → insert xs i x ≡ numbers_from 0 (slice_set marks x true)
listed_at xs marks x i are low found =
    let s = searched (numbers_from 0 marks) x (Err i) (subst (λ (ns : List ℕ). IsBinarySearchResult (λ y. nat_cmp y x) ns (Err i)) are found) (rising 0 marks) in
    ap (λ (ns : List ℕ). insert ns i x) are ∙ inserted 0 marks x i x (omega arith) low s.0 s.1 s.2

-- and one that finds it
pub found_set : (xs : List ℕ) (marks : List Bool) (x i : ℕ) → xs ≡ numbers_from 0 marks → IsBinarySearchResult (λ y. nat_cmp y x) xs (Ok i) → get_or marks x false ≡ true
found_set xs marks x i are found =
    let s = searched (numbers_from 0 marks) x (Ok i) (subst (λ (ns : List ℕ). IsBinarySearchResult (λ y. nat_cmp y x) ns (Ok i)) are found) (rising 0 marks) in
    there_set 0 marks x i x (omega arith) s.0 s.1

pub numbers_none : (k n : ℕ) → numbers_from k (replicate n false) ≡ []
numbers_none k zero = refl
numbers_none k (suc n) = numbers_none (suc k) n

-- a mark more
pub numbers-last : (k : ℕ) (ds : List Bool) (d : Bool) (x : ℕ) → x ≡ k + length ds → numbers_from k (ds ++ d ∷ []) ≡ (if d then numbers_from k ds ++ x ∷ [] else numbers_from k ds)
numbers-last k [] true x is = ap (λ (n : ℕ). n ∷ []) (omega (arith, is))
numbers-last k [] false x is = refl
numbers-last k (true ∷ ds) true x is = ap (λ (ns : List ℕ). k ∷ ns) (numbers-last (suc k) ds true x (omega (arith, is)))
numbers-last k (true ∷ ds) false x is = ap (λ (ns : List ℕ). k ∷ ns) (numbers-last (suc k) ds false x (omega (arith, is)))
numbers-last k (false ∷ ds) true x is = numbers-last (suc k) ds true x (omega (arith, is))
numbers-last k (false ∷ ds) false x is = numbers-last (suc k) ds false x (omega (arith, is))

heads : (m n : ℕ) (ms ns : List ℕ) → m ∷ ms ≡ n ∷ ns → m ≡ n
heads m n ms ns is = ap (λ (l : List ℕ). get_or l 0 0) is

tails : (m n : ℕ) (ms ns : List ℕ) → m ∷ ms ≡ n ∷ ns → ms ≡ ns
tails m n ms ns is = ap (λ (l : List ℕ). drop 1 l) is

first-past : (k : ℕ) (ds : List Bool) (x : ℕ) (rest : List ℕ) → numbers_from k ds ≡ x ∷ rest → k ≤ x
first-past k ds x rest is =
    let there = past k ds 0 (let many = ap length is in omega (arith, many)) in
    let first = ap (λ (l : List ℕ). get_or l 0 0) is in
    omega (arith, there, first)

-- the first mark that is set is taken away
pub first-cleared : (k : ℕ) (ds : List Bool) (b x : ℕ) (rest : List ℕ) → numbers_from k ds ≡ x ∷ rest → x ≡ k + b → numbers_from k (slice_set ds b false) ≡ rest
first-cleared k [] b x rest is at = let many = ap length is in absurd (omega (arith, many))
first-cleared k (true ∷ ds) zero x rest is at = tails k x (numbers_from (suc k) ds) rest is
first-cleared k (true ∷ ds) (suc b) x rest is at = let first = heads k x (numbers_from (suc k) ds) rest is in absurd (omega (arith, first, at))
first-cleared k (false ∷ ds) zero x rest is at = let more = first-past (suc k) ds x rest is in absurd (omega (arith, more, at))
first-cleared k (false ∷ ds) (suc b) x rest is at = first-cleared (suc k) ds b x rest is (omega (arith, at))

pub none-set : (k : ℕ) (ds : List Bool) → numbers_from k ds ≡ [] → ds ≡ replicate (length ds) false
none-set k [] is = refl
none-set k (true ∷ ds) is = let many = ap length is in absurd (omega (arith, many))
none-set k (false ∷ ds) is = ap (λ (ls : List Bool). false ∷ ls) (none-set (suc k) ds is)

-- ---- from one to the next

-- The first mark from n on that is set, and the numbers of those behind it.
pub record IsNext (ds : List Bool) (n b : ℕ) (rest : List ℕ) : Type 0 where
  pub low : n ≤ b
  pub inside : b < length ds
  pub is_set : get_or ds b false ≡ true
  pub between : (c : ℕ) → n ≤ c → c < b → get_or ds c false ≡ false
  pub rest_is : numbers_from (b + 1) (drop (b + 1) ds) ≡ rest

record IsFirst (k : ℕ) (ds : List Bool) (x : ℕ) (rest : List ℕ) : Type 0 where
  place : ℕ
  at : x ≡ k + place
  inside : place < length ds
  is_set : get_or ds place false ≡ true
  before : (c : ℕ) → c < place → get_or ds c false ≡ false
  rest_is : numbers_from (x + 1) (drop (place + 1) ds) ≡ rest

first_of : (k : ℕ) (ds : List Bool) (x : ℕ) (rest : List ℕ) → numbers_from k ds ≡ x ∷ rest → IsFirst k ds x rest
first_of k [] x rest is = let many = ap length is in absurd (omega (arith, many))
first_of k (true ∷ ds) x rest is =
    let here = heads k x (numbers_from (suc k) ds) rest is in
    record {
      place = 0;
      at = omega (arith, here);
      inside = omega arith;
      is_set = refl;
      before = λ c low. absurd (omega (arith, low));
      rest_is = let next : x + 1 ≡ suc k = omega (arith, here) in ap (λ (n : ℕ). numbers_from n ds) next ∙ tails k x (numbers_from (suc k) ds) rest is;
    }
first_of k (false ∷ ds) x rest is =
    let f = first_of (suc k) ds x rest is in
    record {
      place = suc f.place;
      at = let at = f.at in omega (arith, at);
      inside = let inside = f.inside in omega (arith, inside);
      is_set = f.is_set;
      before = clean_before f.place f.before;
      rest_is = let on : suc f.place + 1 ≡ suc (f.place + 1) = omega arith in ap (λ (n : ℕ). numbers_from (x + 1) (drop n (false ∷ ds))) on ∙ f.rest_is;
    }
  where
    clean_before : (m : ℕ) → ((c : ℕ) → c < m → get_or ds c false ≡ false) → (c : ℕ) → c < suc m → get_or (false ∷ ds) c false ≡ false
    clean_before m before zero low = refl
    clean_before m before (suc c) low = before c (omega (arith, low))

-- the numbers from n on are the i-th and those behind it
pub next_of : (ds : List Bool) (ns : List ℕ) (n i x : ℕ) → numbers_from n (drop n ds) ≡ drop i ns → i < length ns → x ≡ get_or ns i 0 → IsNext ds n x (drop (i + 1) ns)
next_of ds ns n i x is low here =
    let f = first_of n (drop n ds) x (drop (i + 1) ns) (is ∙ drop_more ns i 0 low ∙ ap (λ (m : ℕ). m ∷ drop (i + 1) ns) (sym here)) in
    let at : n + f.place ≡ x = sym f.at in
    let set : get_or ds x false ≡ true = ap (λ (m : ℕ). get_or ds m false) (sym at) ∙ sym (get_or-drop n ds f.place false) ∙ f.is_set in
    record {
      low = omega (arith, at);
      inside = set_inside ds x set;
      is_set = set;
      between = λ c from to.
          let c_at : n + (c - n) ≡ c = omega (arith, from) in
          ap (λ (m : ℕ). get_or ds m false) (sym c_at) ∙ sym (get_or-drop n ds (c - n) false) ∙ f.before (c - n) (omega (arith, from, to, at));
      rest_is = let on : n + (f.place + 1) ≡ x + 1 = omega (arith, at) in ap (λ (m : ℕ). numbers_from (x + 1) (drop m ds)) (sym on) ∙ ap (numbers_from (x + 1)) (sym (drop-drop (f.place + 1) n ds)) ∙ f.rest_is;
    }
  where
    set_inside : (ds : List Bool) (b : ℕ) → get_or ds b false ≡ true → b < length ds
    set_inside [] b is = cc
    set_inside (d ∷ ds) zero is = omega arith
    set_inside (d ∷ ds) (suc b) is = let rest = set_inside ds b is in omega (arith, rest)

none_from : (k : ℕ) (ds : List Bool) (c : ℕ) → numbers_from k ds ≡ [] → get_or ds c false ≡ false
none_from k [] c is = refl
none_from k (true ∷ ds) c is = let many = ap length is in absurd (omega (arith, many))
none_from k (false ∷ ds) zero is = refl
none_from k (false ∷ ds) (suc c) is = none_from (suc k) ds c is

-- no mark from n on is set
pub none_behind : (ds : List Bool) (n : ℕ) → numbers_from n (drop n ds) ≡ [] → (c : ℕ) → n ≤ c → get_or ds c false ≡ false
none_behind ds n is c from =
    let at : n + (c - n) ≡ c = omega (arith, from) in
    ap (λ (m : ℕ). get_or ds m false) (sym at) ∙ sym (get_or-drop n ds (c - n) false) ∙ none_from n (drop n ds) (c - n) is
