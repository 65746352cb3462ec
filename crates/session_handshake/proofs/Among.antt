-- A session among others of one linker.
use Rattle.std.proofs.Common.{◌≡◌, ℕ, ◌+◌, ◌≤◌, ◌==◌, Bool, true, false, IsTrue, List, [], ◌∷◌, ◌++◌, length, drop, refl, sym, ap, subst, ◌∙◌, arith, append_assoc, append-nil}
use Rattle.std.specs.Prelude.{fold, filter}
use Rattle.std.specs.List.{AllByRecursion}
use Rattle.std.proofs.Math.Seq.{drop-append_seam}
use Rattle.std.proofs.lemmas.List.Elements.{filter-append}
use Rattle.std.proofs.lemmas.List.Sums.{fold-append}
use Rattle.std.proofs.lemmas.Bool.Decides.{nat_tests}
use Rattle.wire_defs.specs.Links.{Linking, Past, ConnectionMade, CutsAdded, counted, past_since}
use Rattle.session_handshake.specs.Connections.{WereMade, MadeAmong, GivenBack}
use Rattle.session_handshake.proofs.Made.{made_none, since_is, all_append, own_all, used_on, ordered_on, one_ordered, later_is}

none_own : (s t : ℕ) (over : List Past) → AllByRecursion (λ p. p.session ≡ t) over → (s ≡ t → ⊥) → filter (λ p. p.session == s) over ≡ []
none_own s t [] own other = refl
none_own s t (p ∷ over) own other =
    let apart : p.session ≡ s → ⊥ = λ e. other (sym e ∙ own.0) in
    let is : (p.session == s) ≡ false = grind (arith, nat_tests, apart) in
    rw is (none_own s t over own.1 other)

since_grown : (a b : Linking) (s : ℕ) (more : List Past) → b.past ≡ a.past ++ more → past_since a b s ≡ filter (λ p. p.session == s) more
since_grown a b s more is =
    ap (λ (l : List Past). filter (λ p. p.session == s) (drop (length a.past) l)) is ∙ ap (λ (l : List Past). filter (λ p. p.session == s) l) (drop-append_seam a.past more)

pub among_own : (a b : Linking) (s : ℕ) (over : List Past) → WereMade a b s over → MadeAmong a b s over
among_own a b s over x = record {
  told = x.told;
  shown = x.shown;
  simulated = x.simulated;
  grown = (over, x.past);
  since = since_is a b s over x;
  once = x.once;
  cuts = x.cuts;
  orders = x.orders;
  ordered = x.ordered;
}

pub among_none : (a : Linking) (s : ℕ) → MadeAmong a a s []
among_none a s = among_own a a s [] (made_none a s)

pub among_other : (a b : Linking) (s t : ℕ) (over : List Past) → WereMade a b t over → (s ≡ t → ⊥) → MadeAmong a b s []
among_other a b s t over x other = record {
  told = x.told;
  shown = x.shown;
  simulated = x.simulated;
  grown = (over, x.past);
  since = since_grown a b s over x.past ∙ none_own s t over x.own other;
  once = tt;
  cuts = x.other_cuts s other;
  orders = (0, omega arith, λ _. refl, x.other_orders s other);
  ordered = λ _. omega arith;
}

pub among_opened : (a b : Linking) (s t : ℕ) → ConnectionMade a b t → (s ≡ t → ⊥) → MadeAmong a b s []
among_opened a b s t x other = record {
  told = x.told;
  shown = x.shown;
  simulated = x.simulated;
  grown = ([], x.past ∙ sym (append-nil a.past));
  since = since_grown a b s [] (x.past ∙ sym (append-nil a.past));
  once = tt;
  cuts = x.cuts s;
  orders = (0, omega arith, λ _. refl, x.others s other);
  ordered = λ _. omega arith;
}

pub among_settled : (a b : Linking) (s t more : ℕ) (p : Past) → CutsAdded a b t more → b.past ≡ a.past ++ p ∷ [] → p.session ≡ t → (s ≡ t → ⊥) → MadeAmong a b s []
among_settled a b s t more p x past own other = record {
  told = x.told;
  shown = x.shown;
  simulated = x.simulated;
  grown = (p ∷ [], past);
  since = since_grown a b s (p ∷ []) past ∙ none_own s t (p ∷ []) (own, tt) other;
  once = tt;
  cuts = x.others s other;
  orders = (0, omega arith, λ _. refl, x.orders s);
  ordered = λ _. omega arith;
}

pub among_on : (a b c : Linking) (s : ℕ) (xs ys : List Past) → MadeAmong a b s xs → MadeAmong b c s ys → MadeAmong a c s (xs ++ ys)
among_on a b c s xs ys x y =
    let m = x.grown.0 in
    let n = y.grown.0 in
    let past : c.past ≡ a.past ++ (m ++ n) = y.grown.1 ∙ (ap (λ (l : List Past). l ++ n) x.grown.1 ∙ append_assoc a.past m n) in
    let first : filter (λ (p : Past). p.session == s) m ≡ xs = sym (since_grown a b s m x.grown.1) ∙ x.since in
    let later : filter (λ (p : Past). p.session == s) n ≡ ys = sym (since_grown b c s n y.grown.1) ∙ y.since in
    record {
      told = y.told ∙ x.told;
      shown = y.shown ∙ x.shown;
      simulated = y.simulated ∙ x.simulated;
      grown = (m ++ n, past);
      since = since_grown a c s (m ++ n) past ∙ (filter-append (λ (p : Past). p.session == s) m n
          ∙ (ap (λ (l : List Past). l ++ filter (λ (p : Past). p.session == s) n) first ∙ ap (λ (l : List Past). xs ++ l) later));
      once = all_append (λ p. p.cuts ≤ 1) xs ys x.once y.once;
      cuts = y.cuts ∙ (ap (λ (n : ℕ). fold (λ k p. counted k p.cuts) n ys) x.cuts ∙ sym (fold-append (λ n p. counted n p.cuts) (a.cuts s) xs ys));
      orders = used_on a.told b.told (a.orders s) (b.orders s) (c.orders s) xs ys x.told x.orders y.orders;
      ordered = ordered_on a.told b.told (a.orders s) (b.orders s) xs ys x.told x.orders.0 x.orders.2 x.orders.3 x.ordered y.ordered;
    }

-- a connection from its making to its giving back, one after another with what others did
pub among_given_back : (a b c d : Linking) (s : ℕ) (p : Past) → GivenBack a b c d s p → MadeAmong a d s (p ∷ [])
among_given_back a b c d s p g =
    let m = g.meanwhile.grown.0 in
    let past : d.past ≡ a.past ++ (m ++ p ∷ []) = g.past ∙ (ap (λ (l : List Past). l ++ p ∷ []) (g.meanwhile.grown.1 ∙ ap (λ (l : List Past). l ++ m) g.made.past) ∙ append_assoc a.past m (p ∷ [])) in
    let none : filter (λ (q : Past). q.session == s) m ≡ [] = sym (since_grown b c s m g.meanwhile.grown.1) ∙ g.meanwhile.since in
    let one : filter (λ (q : Past). q.session == s) (p ∷ []) ≡ p ∷ [] = own_all s (p ∷ []) (g.own, tt) in
    let zero : g.meanwhile.orders.0 ≡ 0 = (let few = g.meanwhile.orders.1 in omega (arith, few)) in
    let left : c.orders s ≡ b.orders s = g.meanwhile.orders.3 ∙ ap (λ (n : ℕ). drop n (b.orders s)) zero in
    record {
      told = g.cuts.told ∙ (g.meanwhile.told ∙ g.made.told);
      shown = g.cuts.shown ∙ (g.meanwhile.shown ∙ g.made.shown);
      simulated = g.cuts.simulated ∙ (g.meanwhile.simulated ∙ g.made.simulated);
      grown = (m ++ p ∷ [], past);
      since = since_grown a d s (m ++ p ∷ []) past ∙ (filter-append (λ (q : Past). q.session == s) m (p ∷ [])
          ∙ (ap (λ (l : List Past). l ++ filter (λ (q : Past). q.session == s) (p ∷ [])) none ∙ one));
      once = (g.once, tt);
      cuts = g.cuts.added ∙ ap (λ (n : ℕ). counted n p.cuts) (g.meanwhile.cuts ∙ g.made.cuts s);
      orders = (1, omega arith, λ _. refl, g.cuts.orders s ∙ (left ∙ (g.made.used ∙ later_is (a.orders s))));
      ordered = λ t. one_ordered p (a.orders s) (g.ordered t);
    }
