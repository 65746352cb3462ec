-- What a HELLO tells of a history is as good as the history, where a site may tell as many reigns.
use Rattle.std.proofs.Common.{◌≡◌, inl, inr, ℕ, ◌+◌, ◌≤◌, List, length, take, ap, subst, arith}
use Rattle.std.proofs.lemmas.Bool.{cases_lt}
use Rattle.std.proofs.lemmas.List.{length-take-le, take_all}
use Rattle.global_defs.specs.declared.limits.TheConstants.{MOST_REIGNS}
use Rattle.global_defs.specs.Entry.{Reign}
use Rattle.global_defs.specs.Prefix.{History}
use Rattle.lineage_defs.specs.Histories.{IsCommonOf, TellsFew, IsMatched, IsParted, told}
use Rattle.resync_core.proofs.BegunReigns.{begun-begun}
use Rattle.resync_core.proofs.SharedFronts.{as-told}
use Rattle.wire_defs.specs.Frames.{Resume, RollbackFirst}
use Rattle.ship_defs.specs.Greeting.{IsHello, IsAnswer, carried, greeting}

-- what is no longer than the limit, once it is cut behind one more
short_all : (n : ℕ) (rs : List Reign) → length (take (n + 1) rs) ≤ n → length rs ≤ n
short_all n rs short = elim (cases_lt n (length rs)) [
  | inl past ↦ (let size = length-take-le (n + 1) rs (omega (arith, past)) in absurd (omega (arith, size, short)))
  | inr within ↦ within
]

pub few_told : (name : List ℕ) (h : History) → IsHello (greeting name h) → TellsFew h
few_told name h hello = short_all MOST_REIGNS (told h).reigns hello.2

abbrev with_reigns : ℕ → List Reign → History
with_reigns n rs = record { length = n; reigns = rs }

carried_is : (h : History) → TellsFew h → carried h ≡ told h
carried_is h few = ap (with_reigns h.length) (take_all (MOST_REIGNS + 1) (told h).reigns (omega (arith, few)))

told_twice : (h : History) → told (told h) ≡ told h
told_twice h = ap (with_reigns h.length) (begun-begun h.length h.length h.reigns (omega arith))

-- the common length with a history as it is told
told_alone : (a b : History) (t : ℕ) → IsCommonOf t a (told b) → IsCommonOf t a b
told_alone a b t c = (as-told a b t).0 (subst (λ (h : History). IsCommonOf t (told a) h) (told_twice b) ((as-told a (told b) t).1 c))

pub as_carried : (a b : History) (t : ℕ) → TellsFew b → IsCommonOf t a (carried b) → IsCommonOf t a b
as_carried a b t few c = told_alone a b t (subst (λ (h : History). IsCommonOf t a h) (carried_is b few) c)

-- what each answer to a HELLO says of the histories

pub follows_on : (name : List ℕ) (theirs mine : History) (n : ℕ) → IsHello (greeting name mine) → IsAnswer theirs (carried mine) (Resume n) → IsMatched theirs mine × (n ≡ mine.length + 1)
follows_on name theirs mine n hello answer = let few = few_told name mine hello in (record { few = few; whole = as_carried theirs mine mine.length few answer.0 }, answer.1)

pub rolls_back : (name : List ℕ) (theirs mine : History) (n : ℕ) → IsHello (greeting name mine) → IsAnswer theirs (carried mine) (RollbackFirst n) → IsParted n theirs mine
rolls_back name theirs mine n hello answer =
    let few = few_told name mine hello in
    record { few = few; shared = answer.0; common = as_carried theirs mine answer.0 few answer.1; fewer = answer.2; next = answer.3 }
