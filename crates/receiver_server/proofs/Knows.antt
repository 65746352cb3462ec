-- What a Receiver Server knows of its secondary.
use Rattle.std.proofs.Common.{◌≡◌, inl, inr, ℕ, ◌<◌, ◌≤◌, nat_le, Bool, true, false, List, [], ◌∷◌, ◌++◌, Option, Some, None, refl, sym, ap, subst, ◌∙◌, arith}
use Rattle.std.specs.List.{AllByRecursion, last_or}
use Rattle.std.proofs.lemmas.Bool.Decides.{nat_tests}
use Rattle.global_defs.specs.Entry.{Transaction, Reign}
use Rattle.global_defs.specs.Fields.{IsReign}
use Rattle.global_defs.specs.Rising.{begun_by}
use Rattle.wire_defs.specs.Frames.{Entry, IsFrame}
use Rattle.ship_defs.specs.Arrivals.{IsArrival}
use Rattle.ship_defs.specs.Hearing as ship
use Rattle.ship_defs.specs.Hearing.{Heard, Last, IsUnder, MayReign}
use Rattle.receiver_server.specs.Hearings.{reign_behind, IsLast, IsHeard, MayCome}

-- the reigns that have begun, with one more

push_first : (n : ℕ) (q : Reign) (rs more : List Reign) (b : Bool) → nat_le q.start n ≡ b → begun_by n (rs ++ more) ≡ begun_by n rs ++ more → begun_by n ((q ∷ rs) ++ more) ≡ begun_by n (q ∷ rs) ++ more
push_first n q rs more true is e = rw is (ap (λ (l : List Reign). q ∷ l) e)
push_first n q rs more false is e = rw is e

pub begun-push : (n : ℕ) (rs : List Reign) (r : Reign) → r.start ≤ n → begun_by n (rs ++ r ∷ []) ≡ begun_by n rs ++ r ∷ []
begun-push n [] r low = let is : nat_le r.start n ≡ true = grind (arith, nat_tests) in rw is refl
begun-push n (q ∷ rs) r low = push_first n q rs (r ∷ []) (nat_le q.start n) refl (begun-push n rs r low)

late_first : (n : ℕ) (q : Reign) (rs more : List Reign) (b : Bool) → nat_le q.start n ≡ b → begun_by n (rs ++ more) ≡ begun_by n rs → begun_by n ((q ∷ rs) ++ more) ≡ begun_by n (q ∷ rs)
late_first n q rs more true is e = rw is (ap (λ (l : List Reign). q ∷ l) e)
late_first n q rs more false is e = rw is e

pub begun-push_late : (n : ℕ) (rs : List Reign) (r : Reign) → n < r.start → begun_by n (rs ++ r ∷ []) ≡ begun_by n rs
begun-push_late n [] r late = let is : nat_le r.start n ≡ false = grind (arith, nat_tests) in rw is refl
begun-push_late n (q ∷ rs) r late = late_first n q rs (r ∷ []) (nat_le q.start n) refl (begun-push_late n rs r late)

-- an entry that comes is of its form

form_of : (h : Heard) (l : Last) → IsLast h l → (r : Reign) → reign_behind l ≡ Some r → IsReign r
form_of h (ship.Reigning q) is r e = let same : q ≡ r = cc in subst (λ (x : Reign). IsReign x) same is.0
form_of h ship.Unbegun is r e = let no : ⊥ = cc in absurd no
form_of h ship.Resumed is r e = let no : ⊥ = cc in absurd no
form_of h ship.Shipped is r e = let no : ⊥ = cc in absurd no
form_of h ship.Over is r e = let no : ⊥ = cc in absurd no

-- number 1 comes with the reign that it begins
begins_of : (h : Heard) → IsHeard h → (r : Reign) → MayReign h r → h.count ≡ 0 → r.start ≡ 1
begins_of h knew r (inl may) zero = omega (arith, may.0, zero)
begins_of h knew r (inr last) zero = let known = knew.reign r last in let low = known.0.start.0 in absurd (omega (arith, low, known.1, zero))

first_of : (h : Heard) → IsHeard h → (l : Last) → IsLast h l → IsUnder l → h.count ≡ 0 → (r : Reign) × (reign_behind l ≡ Some r) × (r.start ≡ 1)
first_of h knew (ship.Reigning r) is under zero = (r, refl, begins_of h knew r is.1 zero)
first_of h knew ship.Unbegun is under zero = absurd under
first_of h knew ship.Resumed is under zero = absurd under
first_of h knew ship.Shipped is under zero = absurd (omega (arith, is, zero))
first_of h knew ship.Over is under zero = absurd under

pub arrives : (h : Heard) (at n : ℕ) (t : Transaction) (reign : Option Reign) → IsHeard h → IsFrame (Entry n t) → MayCome h (Entry n t) → reign ≡ reign_behind h.last
    → IsArrival (record { at = at; number = n; transaction = t; reign = reign })
arrives h at n t reign knew form may told = record {
  number = form.fields.0;
  transaction = form.fields.1;
  reign = λ r e. form_of h h.last knew.last r (sym told ∙ e);
  first = λ one. let f = first_of h knew h.last knew.last may.0 (omega (arith, one, may.1)) in (f.0, (told ∙ f.1, f.2 ∙ sym one));
}

-- the last reign that has begun, of reigns of their form

abbrev pub HasBegun : ℕ → Reign → Type 0
HasBegun n r = IsReign r × (r.start ≤ n)

abbrev AllHave : ℕ → Option Reign → Type 0
AllHave n o = (r : Reign) → o ≡ Some r → HasBegun n r

one_has : (n : ℕ) (q : Reign) → IsReign q → nat_le q.start n ≡ true → AllHave n (Some q)
one_has n q form is r e = let same : q ≡ r = cc in let low : q.start ≤ n = grind (arith, nat_tests) in subst (λ (x : Reign). HasBegun n x) same (form, low)

last_step : (n : ℕ) (o : Option Reign) (q : Reign) (rs : List Reign) (b : Bool) → nat_le q.start n ≡ b → IsReign q → AllHave n o
    → ((p : Option Reign) → AllHave n p → AllHave n (last_or p (begun_by n rs))) → AllHave n (last_or o (begun_by n (q ∷ rs)))
last_step n o q rs true is form has later = rw is (later (Some q) (one_has n q form is))
last_step n o q rs false is form has later = rw is (later o has)

last_has : (n : ℕ) (rs : List Reign) → AllByRecursion IsReign rs → (o : Option Reign) → AllHave n o → AllHave n (last_or o (begun_by n rs))
last_has n [] form o has = has
last_has n (q ∷ rs) form o has = last_step n o q rs (nat_le q.start n) refl form.0 has (last_has n rs form.1)

pub begun_last : (n : ℕ) (rs : List Reign) → AllByRecursion IsReign rs → (o : Option Reign) → o ≡ last_or None (begun_by n rs) → (r : Reign) → o ≡ Some r → HasBegun n r
begun_last n rs form o is r e = last_has n rs form None (λ q none. let no : ⊥ = cc in absurd no) r (sym is ∙ e)
