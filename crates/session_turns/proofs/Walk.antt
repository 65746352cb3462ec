-- A secondary's site takes the entries that came, each in its turn and under its reign.
use Rattle.std.proofs.Common.{◌≡◌, ◌≢◌, ◌⊎◌, inl, inr, ℕ, ◌+◌, ◌≤◌, ◌==◌, nat_le, Bool, true, false, List, [], ◌∷◌, ◌++◌, length, Option, Some, None, refl, sym, ap, subst, ◌∙◌, arith, append_assoc, append-nil, length-append, if◌then◌else◌}
use Rattle.std.specs.Prelude.{option_to_list}
use Rattle.std.specs.Option.{option_or}
use Rattle.std.specs.List.{AllByRecursion, last_or}
use Rattle.std.proofs.lemmas.Bool.Decides.{nat_tests}
use Rattle.global_defs.specs.Entry.{Stamp, Sequence, Reign}
use Rattle.global_defs.specs.Prefix.{stamp_at}
use Rattle.global_defs.specs.Rising.{begun_by}
use Rattle.wire_defs.specs.Frames.{Frame, Hello, Resume, RollbackFirst, History, Entry, Bye, offset_after}
use Rattle.ship_defs.specs.Directions.{Admitted}
use Rattle.ship_defs.specs.Hearing as ship
use Rattle.ship_defs.specs.Hearing.{Purpose, Heard, Fits, IsUnder, entered, with_entry, with_reign, behind_resume, unbegun}
use Rattle.ship_defs.specs.Arrivals.{Arrival, arrivals, told_reign, entry_under, entries_of}
use Rattle.update_process.specs.Copies.{Copy, history_of, next_of, MayAdopt, told, reigns_next, took, hardened}
use Rattle.update_process.specs.Updates.{Follows}
use Rattle.receiver_server.specs.Hearings.{reign_behind}
use Rattle.session_turns.specs.Following.{Followed, IsFitCopy, InTurn}
use Rattle.ship_laws.proofs.Stamped.{stamped, or_or}
use Rattle.receiver_server.proofs.Steps.{behind_none, either_shipped}
use Rattle.global_defs.proofs.Basics.{or_none, last_or_push}

last_stamp : (n : ℕ) (rs : List Reign) (o : Option Reign) → AllByRecursion (λ r. r.start ≤ n) rs → stamped (last_or o rs) ≡ option_or (stamp_at n rs) (stamped o)
last_stamp n [] o all = refl
last_stamp n (r ∷ rs) o all =
    let is : nat_le r.start n ≡ true = grind (arith, nat_tests, all.0) in
    last_stamp n rs (Some r) all.1 ∙ (sym (or_or (stamp_at n rs) (stamped o) r.stamp) ∙ ap (λ (b : Bool). option_or (option_or (stamp_at n rs) (if b then Some r.stamp else None)) (stamped o)) (sym is))

-- where all reigns have begun the last one's stamp is that of the number
pub stamp_of_last : (n : ℕ) (rs : List Reign) → AllByRecursion (λ r. r.start ≤ n) rs → stamp_at n rs ≡ stamped (last_or None rs)
stamp_of_last n rs all = sym (last_stamp n rs None all ∙ or_none (stamp_at n rs))

all_later : (n m : ℕ) (rs : List Reign) → n ≤ m → AllByRecursion (λ r. r.start ≤ n) rs → AllByRecursion (λ r. r.start ≤ m) rs
all_later n m [] le all = tt
all_later n m (r ∷ rs) le all = (omega (arith, all.0, le), all_later n m rs le all.1)

all_push : (n : ℕ) (rs : List Reign) (r : Reign) → AllByRecursion (λ r. r.start ≤ n) rs → r.start ≤ n → AllByRecursion (λ r. r.start ≤ n) (rs ++ r ∷ [])
all_push n [] r all low = (low, tt)
all_push n (q ∷ rs) r all low = (all.0, all_push n rs r all.1 low)

pub all_begun : (n : ℕ) (rs : List Reign) → AllByRecursion (λ r. r.start ≤ n) rs → begun_by n rs ≡ rs
all_begun n [] all = refl
all_begun n (r ∷ rs) all = let is : nat_le r.start n ≡ true = grind (arith, nat_tests, all.0) in rw is (ap (λ (l : List Reign). r ∷ l) (all_begun n rs all.1))

-- the entry of an arrival under a reign has that reign's stamp
same_entry : (under : Option Reign) (x : Arrival) (s : Stamp) → stamped under ≡ Some s → record { stamp = s; transaction = x.transaction } ∷ [] ≡ entry_under under x
same_entry None x s is = absurd (cc)
same_entry (Some r) x s is = let same : r.stamp ≡ s = cc in ap (λ (t : Stamp). record { stamp = t; transaction = x.transaction } ∷ []) (sym same)

-- What is known of a site, by what its Receiver Server has heard. `under` is the reign of the last HISTORY before the next entry's own.
pub record Agrees (c : Copy) (h : Heard) (under : Option Reign) : Type 0 where
  pub count : h.count ≡ length c.sequence
  pub reign : h.reign ≡ last_or None c.reigns
  pub starts : AllByRecursion (λ r. r.start ≤ length c.sequence) c.reigns
  pub told : (r : Reign) → h.last ≡ ship.Reigning r → (r.start ≡ h.count + 1) ⊎ (h.reign ≡ Some r)
  pub behind : h.last ≡ ship.Shipped → (c.remembered ≡ None) × (h.reign ≡ under)

-- what is known once an entry was applied under a last reign, where the copy remembered that reign or none
module _ (c : Copy) (h : Heard) (x : Arrival) where
  module _ (under : Option Reign) (reigns : List Reign) (next : Heard) (now : Copy) where
    grown : h.count ≡ length c.sequence → AllByRecursion (λ r. r.start ≤ next_of c) reigns → last_or None reigns ≡ under
        → (stamp : Stamp) → stamp_at (next_of c) reigns ≡ Some stamp → now.sequence ≡ c.sequence ++ record { stamp = stamp; transaction = x.transaction } ∷ [] → now.reigns ≡ reigns → now.remembered ≡ None
        → next.count ≡ h.count + 1 → next.reign ≡ under → next.last ≡ ship.Shipped
        → Agrees now next under × (now.sequence ≡ c.sequence ++ entry_under under x)
    grown count starts last stamp is sequence reigns_are remembered count_is reign_is last_is =
        let stamped_is : stamped under ≡ Some stamp = ap stamped (sym last) ∙ (sym (stamp_of_last (next_of c) reigns starts) ∙ is) in
        let size : length now.sequence ≡ next_of c = ap length sequence ∙ length-append c.sequence (record { stamp = stamp; transaction = x.transaction } ∷ []) in (
          record {
            count = count_is ∙ (ap (λ (n : ℕ). n + 1) count ∙ sym size);
            reign = reign_is ∙ (sym last ∙ ap (last_or None) (sym reigns_are));
            starts = subst (λ (n : ℕ). AllByRecursion (λ (r : Reign). r.start ≤ n) now.reigns) (sym size) (subst (λ (l : List Reign). AllByRecursion (λ (r : Reign). r.start ≤ next_of c) l) (sym reigns_are) starts);
            told = λ r e. absurd (let two : ship.Shipped ≡ ship.Reigning r = sym last_is ∙ e in cc);
            behind = λ _. (remembered, reign_is);
          },
          sequence ∙ ap (λ (l : Sequence). c.sequence ++ l) (same_entry under x stamp stamped_is),
        )

test_same : (a b c : ℕ) (v : Bool) → b ≡ c → (a == c) ≡ v → (a == b) ≡ v
test_same a b c v same is = ap (λ (n : ℕ). a == n) same ∙ is

-- an entry came, and was applied
module _ (c now : Copy) (h : Heard) (under : Option Reign) (x : Arrival) (agrees : Agrees c h under) where
  behind_entry : x.reign ≡ None → h.last ≡ ship.Shipped → Follows x c now → Agrees now (with_entry h) under × (now.sequence ≡ c.sequence ++ entry_under under x)
  behind_entry none last follows =
      let none_remembered = (agrees.behind last).0 in
      let own : told c x.reign ≡ c = ap (told c) none in
      let m = follows.1.0 in
      let takes = follows.1.1 in
      let stamp = takes.0 in
      let reigns_are : reigns_next (told c x.reign) ≡ c.reigns = ap reigns_next own ∙ (ap (λ (o : Option Reign). c.reigns ++ option_to_list o) none_remembered ∙ append-nil c.reigns) in
      let is : stamp_at (next_of c) c.reigns ≡ Some stamp = ap (stamp_at (next_of c)) (sym reigns_are) ∙ (ap (λ (n : ℕ). stamp_at n (reigns_next (told c x.reign))) (sym (ap next_of own)) ∙ takes.1) in
      let now_is : now ≡ hardened (took (told c x.reign) stamp x.transaction) = follows.1.2 ∙ ap hardened takes.2 in
      grown c h x under c.reigns (with_entry h) now agrees.count (all_later (length c.sequence) (next_of c) c.reigns (omega arith) agrees.starts)
      (sym agrees.reign ∙ (agrees.behind last).1) stamp is
      (ap (λ (d : Copy). d.sequence) now_is ∙ ap (λ (d : Copy). d.sequence ++ record { stamp = stamp; transaction = x.transaction } ∷ []) own)
      (ap (λ (d : Copy). d.reigns) now_is ∙ reigns_are) (ap (λ (d : Copy). d.remembered) now_is) refl (agrees.behind last).1 refl

  module _ (r : Reign) (some : x.reign ≡ Some r) (last : h.last ≡ ship.Reigning r) (follows : Follows x c now) where
    behind_history_of : (b : Bool) → (r.start == next_of c) ≡ b → Agrees now (entered h (ship.Reigning r)) (Some r) × (now.sequence ≡ c.sequence ++ entry_under (Some r) x)
    behind_history_of true begins =
        let begins_heard : (r.start == h.count + 1) ≡ true = test_same r.start (h.count + 1) (next_of c) true (ap (λ (n : ℕ). n + 1) agrees.count) begins in
        let at : r.start ≡ next_of c = grind (arith, nat_tests, begins) in
        let own : told c x.reign ≡ record c { remembered = Some r } = ap (told c) some ∙ ap (λ (b : Bool). record c { remembered = if b then Some r else None }) begins in
        let takes = follows.1.1 in
        let stamp = takes.0 in
        let is : stamp_at (next_of c) (c.reigns ++ r ∷ []) ≡ Some stamp = ap (λ (d : Copy). stamp_at (next_of d) (reigns_next d)) (sym own) ∙ takes.1 in
        let now_is : now ≡ hardened (took (told c x.reign) stamp x.transaction) = follows.1.2 ∙ ap hardened takes.2 in
        let becomes : entered h (ship.Reigning r) ≡ with_reign h r = ap (λ (b : Bool). if b then with_reign h r else with_entry h) begins_heard in
        let is_now = grown c h x (Some r) (c.reigns ++ r ∷ []) (with_reign h r) now agrees.count
        (all_push (next_of c) c.reigns r (all_later (length c.sequence) (next_of c) c.reigns (omega arith) agrees.starts) (omega (arith, at))) (last_or_push None c.reigns r) stamp is
        (ap (λ (d : Copy). d.sequence) now_is ∙ ap (λ (d : Copy). d.sequence ++ record { stamp = stamp; transaction = x.transaction } ∷ []) own)
        (ap (λ (d : Copy). d.reigns) now_is ∙ ap reigns_next own) (ap (λ (d : Copy). d.remembered) now_is) refl refl refl in
        (subst (λ (y : Heard). Agrees now y (Some r)) (sym becomes) is_now.0, is_now.1)
    behind_history_of false begins =
        let begins_heard : (r.start == h.count + 1) ≡ false = test_same r.start (h.count + 1) (next_of c) false (ap (λ (n : ℕ). n + 1) agrees.count) begins in
        let same : h.reign ≡ Some r = elim (agrees.told r last) [
          | inl at ↦ absurd (let no : r.start ≢ h.count + 1 = grind (arith, nat_tests, begins_heard) in no at)
          | inr e ↦ e
        ] in
        let own : told c x.reign ≡ record c { remembered = None } = ap (told c) some ∙ ap (λ (b : Bool). record c { remembered = if b then Some r else None }) begins in
        let takes = follows.1.1 in
        let stamp = takes.0 in
        let is : stamp_at (next_of c) c.reigns ≡ Some stamp = ap (stamp_at (next_of c)) (sym (append-nil c.reigns)) ∙ (ap (λ (d : Copy). stamp_at (next_of d) (reigns_next d)) (sym own) ∙ takes.1) in
        let now_is : now ≡ hardened (took (told c x.reign) stamp x.transaction) = follows.1.2 ∙ ap hardened takes.2 in
        let becomes : entered h (ship.Reigning r) ≡ with_entry h = ap (λ (b : Bool). if b then with_reign h r else with_entry h) begins_heard in
        let is_now = grown c h x (Some r) c.reigns (with_entry h) now agrees.count (all_later (length c.sequence) (next_of c) c.reigns (omega arith) agrees.starts) (sym agrees.reign ∙ same) stamp is
        (ap (λ (d : Copy). d.sequence) now_is ∙ ap (λ (d : Copy). d.sequence ++ record { stamp = stamp; transaction = x.transaction } ∷ []) own)
        (ap (λ (d : Copy). d.reigns) now_is ∙ (ap reigns_next own ∙ append-nil c.reigns)) (ap (λ (d : Copy). d.remembered) now_is) refl same refl in
        (subst (λ (y : Heard). Agrees now y (Some r)) (sym becomes) is_now.0, is_now.1)

  applied_of : (l : ship.Last) → h.last ≡ l → IsUnder l → x.reign ≡ reign_behind l → Follows x c now
      → Agrees now (entered h l) (option_or x.reign under) × (now.sequence ≡ c.sequence ++ entry_under (option_or x.reign under) x)
  applied_of ship.Unbegun last un reign follows = absurd un
  applied_of ship.Resumed last un reign follows = absurd un
  applied_of (ship.Reigning r) last un reign follows =
      let is : option_or x.reign under ≡ Some r = ap (λ (o : Option Reign). option_or o under) reign in
      let y = behind_history_of r reign last follows (r.start == next_of c) refl in
      subst (λ (o : Option Reign). Agrees now (entered h (ship.Reigning r)) o × (now.sequence ≡ c.sequence ++ entry_under o x)) (sym is) y
  applied_of ship.Shipped last un reign follows =
      let is : option_or x.reign under ≡ under = ap (λ (o : Option Reign). option_or o under) reign in
      let y = behind_entry reign last follows in
      subst (λ (o : Option Reign). Agrees now (with_entry h) o × (now.sequence ≡ c.sequence ++ entry_under o x)) (sym is) y
  applied_of ship.Over last un reign follows = absurd un

-- the entry that came is in turn
may_adopt : (c : Copy) (h : Heard) (under : Option Reign) (l : ship.Last) (r : Reign) → Agrees c h under → h.last ≡ l → reign_behind l ≡ Some r → MayAdopt (history_of c) r
may_adopt c h under ship.Unbegun r agrees last is = absurd (cc)
may_adopt c h under ship.Resumed r agrees last is = absurd (cc)
may_adopt c h under (ship.Reigning q) r agrees last is =
    let same : q ≡ r = cc in
    elim (agrees.told r (last ∙ ap (λ (y : Reign). ship.Reigning y) same)) [
      | inl at ↦ inl (at ∙ ap (λ (n : ℕ). n + 1) agrees.count)
      | inr e ↦ inr (sym agrees.reign ∙ e)
    ]
may_adopt c h under ship.Shipped r agrees last is = absurd (cc)
may_adopt c h under ship.Over r agrees last is = absurd (cc)

-- another frame leaves what is known
other_last : (c : Copy) (h next : Heard) (under : Option Reign) (l : ship.Last) → Agrees c h under → next ≡ record h { last = l } → ((r : Reign) → l ≡ ship.Reigning r → (r.start ≡ h.count + 1) ⊎ (h.reign ≡ Some r)) → l ≢ ship.Shipped
    → Agrees c next under
other_last c h next under l agrees is may other = record {
  count = ap (λ (y : Heard). y.count) is ∙ agrees.count;
  reign = ap (λ (y : Heard). y.reign) is ∙ agrees.reign;
  starts = agrees.starts;
  told = λ r e. subst (λ (y : Heard). (r.start ≡ y.count + 1) ⊎ (y.reign ≡ Some r)) (sym is) (may r (sym (ap (λ (y : Heard). y.last) is) ∙ e));
  behind = λ e. absurd (other (sym (ap (λ (y : Heard). y.last) is) ∙ e));
}

pub not_shipped : (p : Purpose) → behind_resume p ≢ ship.Shipped
not_shipped ship.Asks = λ e. cc
not_shipped ship.Ships = λ e. cc

not_reigning : (p : Purpose) (r : Reign) → behind_resume p ≢ ship.Reigning r
not_reigning ship.Asks r = λ e. cc
not_reigning ship.Ships r = λ e. cc

pub entered_shipped : (h : Heard) (l : ship.Last) → (entered h l).last ≡ ship.Shipped
entered_shipped h (ship.Reigning r) = either_shipped h r (r.start == h.count + 1)
entered_shipped h ship.Unbegun = refl
entered_shipped h ship.Resumed = refl
entered_shipped h ship.Shipped = refl
entered_shipped h ship.Over = refl

pub told_fits : (p : Purpose) (h now : Heard) (f : Frame) → Fits p h f now → told_reign f ≡ reign_behind now.last
told_fits p h now (Hello version name history) x = absurd x
told_fits p h now (Resume n) x = sym (ap (λ (y : Heard). reign_behind y.last) x.2 ∙ behind_none p)
told_fits p h now (RollbackFirst n) x = sym (ap (λ (y : Heard). reign_behind y.last) x.3)
told_fits p h now (History r) x = sym (ap (λ (y : Heard). reign_behind y.last) x.2)
told_fits p h now (Entry n t) x = sym (ap (λ (y : Heard). reign_behind y.last) x.2 ∙ ap reign_behind (entered_shipped h h.last))
told_fits p h now (Bye n) x = sym (ap (λ (y : Heard). reign_behind y.last) x.2)

abbrev Told : Copy → Copy → Option Reign → List Arrival → List Arrival → Type 0
Told c d under xs ys = InTurn d ys × (d.sequence ≡ c.sequence ++ entries_of under xs) × IsFitCopy d

none_left : (c d : Copy) (under : Option Reign) (xs ys : List Arrival) → IsFitCopy c → [] ≡ xs ++ ys → Followed c xs d → Told c d under xs ys
none_left c d under [] [] fit is followed = (tt, ap (λ (y : Copy). y.sequence) followed ∙ sym (append-nil c.sequence), subst IsFitCopy (sym followed) fit)
none_left c d under [] (y ∷ ys) fit is followed = absurd (cc)
none_left c d under (x ∷ xs) ys fit is followed = absurd (cc)

first_left : (c d : Copy) (under : Option Reign) (x : Arrival) (rest ys : List Arrival) → IsFitCopy c → x ∷ rest ≡ ys → (x.number ≡ next_of c) × ((r : Reign) → x.reign ≡ Some r → MayAdopt (history_of c) r) → d ≡ c → Told c d under [] ys
first_left c d under x rest ys fit is turn same = (
  subst (λ (l : List Arrival). InTurn d l) is (subst (λ (y : Copy). InTurn y (x ∷ rest)) (sym same) turn),
  ap (λ (y : Copy). y.sequence) same ∙ sym (append-nil c.sequence),
  subst IsFitCopy (sym same) fit,
)

entry_walk : (fs : List Frame) (at : ℕ) (h next : Heard) (c d : Copy) (under : Option Reign) (xs ys : List Arrival) (x : Arrival) → Agrees c h under → IsUnder h.last → x.number ≡ h.count + 1 → x.reign ≡ reign_behind h.last
    → next ≡ entered h h.last
    → ((m : Copy) (later : Option Reign) (zs : List Arrival) → Agrees m next later → arrivals at (reign_behind next.last) fs ≡ zs ++ ys → Followed m zs d → Told m d later zs ys)
    → x ∷ arrivals at None fs ≡ xs ++ ys → Followed c xs d → Told c d under xs ys
entry_walk fs at h next c d under [] ys x agrees un number reign becomes go is followed =
    first_left c d under x (arrivals at None fs) ys agrees.starts is (number ∙ ap (λ (n : ℕ). n + 1) agrees.count, λ r e. may_adopt c h under h.last r agrees refl (sym reign ∙ e)) followed
entry_walk fs at h next c d under (y ∷ xs) ys x agrees un number reign becomes go is followed =
    let same : x ≡ y = cc in
    let rest : arrivals at None fs ≡ xs ++ ys = cc in
    let m = followed.0 in
    let own : Follows x c m = subst (λ (z : Arrival). Follows z c m) (sym same) followed.1 in
    let applied = applied_of c m h under x agrees h.last refl un reign own in
    let knows : Agrees m next (option_or x.reign under) = subst (λ (z : Heard). Agrees m z (option_or x.reign under)) (sym becomes) applied.0 in
    let none : reign_behind next.last ≡ None = ap (λ (z : Heard). reign_behind z.last) becomes ∙ ap reign_behind (entered_shipped h h.last) in
    let later = go m (option_or x.reign under) xs knows (ap (λ (o : Option Reign). arrivals at o fs) none ∙ rest) followed.2 in (
      later.0,
      later.1 ∙ (ap (λ (l : Sequence). l ++ entries_of (option_or x.reign under) xs) applied.1
          ∙ (append_assoc c.sequence (entry_under (option_or x.reign under) x) (entries_of (option_or x.reign under) xs)
          ∙ ap (λ (z : Arrival). c.sequence ++ (entry_under (option_or z.reign under) z ++ entries_of (option_or z.reign under) xs)) same)),
      later.2,
    )

pub walk : (p : Purpose) (fs : List Frame) (at : ℕ) (h now : Heard) (c d : Copy) (under : Option Reign) (xs ys : List Arrival) → Agrees c h under → Admitted (Fits p) h fs now
    → arrivals at (reign_behind h.last) fs ≡ xs ++ ys → Followed c xs d → Told c d under xs ys
walk p [] at h now c d under xs ys agrees admitted is followed = none_left c d under xs ys agrees.starts is followed
walk p (Hello version name history ∷ fs) at h now c d under xs ys agrees admitted is followed = absurd admitted.1
walk p (Resume n ∷ fs) at h now c d under xs ys agrees admitted is followed =
    let next = admitted.0 in
    walk p fs (offset_after at (Resume n ∷ [])) next now c d under xs ys
    (other_last c h next under (behind_resume p) agrees admitted.1.2 (λ r e. absurd (not_reigning p r e)) (not_shipped p)) admitted.2
    (ap (λ (o : Option Reign). arrivals (offset_after at (Resume n ∷ [])) o fs) (sym (told_fits p h next (Resume n) admitted.1)) ∙ is) followed
walk p (RollbackFirst n ∷ fs) at h now c d under xs ys agrees admitted is followed =
    let next = admitted.0 in
    walk p fs (offset_after at (RollbackFirst n ∷ [])) next now c d under xs ys
    (other_last c h next under ship.Over agrees admitted.1.3 (λ r e. absurd (cc (e))) (λ e. cc)) admitted.2
    (ap (λ (o : Option Reign). arrivals (offset_after at (RollbackFirst n ∷ [])) o fs) (sym (told_fits p h next (RollbackFirst n) admitted.1)) ∙ is) followed
walk p (History r ∷ fs) at h now c d under xs ys agrees admitted is followed =
    let next = admitted.0 in
    let may : (q : Reign) → ship.Reigning r ≡ ship.Reigning q → (q.start ≡ h.count + 1) ⊎ (h.reign ≡ Some q)
    = λ q e. (let same : r ≡ q = cc in elim admitted.1.1 [ inl begins ↦ inl (ap (λ (z : Reign). z.start) (sym same) ∙ begins.0) | inr old ↦ inr (old ∙ ap (λ (z : Reign). Some z) same) ]) in
    walk p fs (offset_after at (History r ∷ [])) next now c d under xs ys
    (other_last c h next under (ship.Reigning r) agrees admitted.1.2 may (λ e. cc)) admitted.2
    (ap (λ (o : Option Reign). arrivals (offset_after at (History r ∷ [])) o fs) (sym (told_fits p h next (History r) admitted.1)) ∙ is) followed
walk p (Entry n t ∷ fs) at h now c d under xs ys agrees admitted is followed =
    entry_walk fs (offset_after at (Entry n t ∷ [])) h admitted.0 c d under xs ys (record { at = at; number = n; transaction = t; reign = reign_behind h.last }) agrees admitted.1.0 admitted.1.1 refl admitted.1.2
    (λ m later zs knows e f. walk p fs (offset_after at (Entry n t ∷ [])) admitted.0 now m d later zs ys knows admitted.2 e f) is followed
walk p (Bye n ∷ fs) at h now c d under xs ys agrees admitted is followed =
    let next = admitted.0 in
    walk p fs (offset_after at (Bye n ∷ [])) next now c d under xs ys
    (other_last c h next under ship.Over agrees admitted.1.2 (λ r e. absurd (cc (e))) (λ e. cc)) admitted.2
    (ap (λ (o : Option Reign). arrivals (offset_after at (Bye n ∷ [])) o fs) (sym (told_fits p h next (Bye n) admitted.1)) ∙ is) followed

pub agrees_first : (c : Copy) → IsFitCopy c → Agrees c (unbegun (history_of c)) None
agrees_first c fit = record {
  count = refl;
  reign = ap (last_or None) (all_begun (length c.sequence) c.reigns fit);
  starts = fit;
  told = λ r e. absurd (cc (e));
  behind = λ e. absurd (cc (e));
}

pub followed_told : (p : Purpose) (c d : Copy) (frames : List Frame) (now : Heard) (xs ys : List Arrival) → IsFitCopy c → Admitted (Fits p) (unbegun (history_of c)) frames now
    → arrivals 0 None frames ≡ xs ++ ys → Followed c xs d → InTurn d ys × (d.sequence ≡ c.sequence ++ entries_of None xs) × IsFitCopy d
followed_told p c d frames now xs ys fit admitted is followed = walk p frames 0 (unbegun (history_of c)) now c d None xs ys (agrees_first c fit) admitted is followed
