-- The reigns that a secondary's site gains with the entries that came: those of its primary that begin there.
use Rattle.std.proofs.Common.{◌≡◌, ◌≢◌, ◌⊎◌, inl, inr, ℕ, suc, ◌+◌, ◌-◌, ◌<◌, ◌≤◌, ◌==◌, ◌||◌, nat_le, nat_lt, Bool, true, false, List, [], ◌∷◌, ◌++◌, length, Option, Some, None, refl, sym, ap, subst, ◌∙◌, arith, append_assoc, append-nil, length-append, if◌then◌else◌}
use Rattle.std.specs.Prelude.{option_to_list, filter}
use Rattle.std.specs.List.{last_or}
use Rattle.std.proofs.lemmas.Bool.Decides.{nat_tests}
use Rattle.global_defs.specs.Entry.{Transaction, Reign}
use Rattle.global_defs.specs.Entry as defs
use Rattle.global_defs.specs.Prefix.{IsPrefix}
use Rattle.global_defs.specs.Rising.{StartsRise, begun_by}
use Rattle.lineage_defs.specs.Histories.{begun_within}
use Rattle.wire_defs.specs.Frames.{Frame, Hello, Resume, RollbackFirst, History, Entry, Bye, offset_after}
use Rattle.ship_defs.specs.Shipping.{reign_at, announced, shipped}
use Rattle.ship_defs.specs.Directions.{Admitted}
use Rattle.ship_defs.specs.Hearing as ship
use Rattle.ship_defs.specs.Hearing.{Purpose, Heard, Fits, IsUnder}
use Rattle.ship_defs.specs.Arrivals.{Arrival, told_reign, arrived, arrivals}
use Rattle.update_process.specs.Copies.{Copy, next_of, told, reigns_next, took, hardened}
use Rattle.update_process.specs.Updates.{Follows}
use Rattle.receiver_server.specs.Hearings.{reign_behind}
use Rattle.session_turns.specs.Following.{Followed, new_reign, gained}
use Rattle.session_turns.proofs.Walk.{not_shipped, told_fits}

-- what a site gains

list_if : (b : Bool) (r : Reign) → option_to_list (if b then Some r else None) ≡ (if b then r ∷ [] else [])
list_if true r = refl
list_if false r = refl

abbrev pub HasReign : Option Reign → Type 0
HasReign o = (r : Reign) × (o ≡ Some r)

told_gain : (c : Copy) (o : Option Reign) → HasReign o ⊎ (c.remembered ≡ None) → reigns_next (told c o) ≡ c.reigns ++ new_reign (next_of c) o
told_gain c None (inl some) = absurd (let no : None ≡ Some some.0 = some.1 in cc)
told_gain c None (inr none) = ap (λ (o : Option Reign). c.reigns ++ option_to_list o) none
told_gain c (Some r) known = ap (λ (l : List Reign). c.reigns ++ l) (list_if (r.start == next_of c) r)

told_sequence : (c : Copy) (o : Option Reign) → (told c o).sequence ≡ c.sequence
told_sequence c None = refl
told_sequence c (Some r) = refl

-- The first of these comes behind a HISTORY, or the site remembers no reign.
abbrev pub Settled : Copy → List Arrival → Type 0
Settled c [] = Unit {0}
Settled c (x ∷ xs) = HasReign x.reign ⊎ (c.remembered ≡ None)

settled_behind : (c : Copy) (xs : List Arrival) → c.remembered ≡ None → Settled c xs
settled_behind c [] none = tt
settled_behind c (x ∷ xs) none = inr none

pub gained_by : (c d : Copy) (xs : List Arrival) → Settled c xs → Followed c xs d → d.reigns ≡ c.reigns ++ gained (next_of c) xs
gained_by c d [] settled followed = ap (λ (y : Copy). y.reigns) followed ∙ sym (append-nil c.reigns)
gained_by c d (x ∷ xs) settled followed =
    let m = followed.0 in
    let takes = followed.1.1.1 in
    let is : m ≡ hardened (took (told c x.reign) takes.0 x.transaction) = followed.1.1.2 ∙ ap hardened takes.2 in
    let reigns : m.reigns ≡ c.reigns ++ new_reign (next_of c) x.reign = ap (λ (y : Copy). y.reigns) is ∙ told_gain c x.reign settled in
    let none : m.remembered ≡ None = ap (λ (y : Copy). y.remembered) is in
    let sequence : m.sequence ≡ c.sequence ++ record { stamp = takes.0; transaction = x.transaction } ∷ []
    = ap (λ (y : Copy). y.sequence) is ∙ ap (λ (l : defs.Sequence). l ++ record { stamp = takes.0; transaction = x.transaction } ∷ []) (told_sequence c x.reign) in
    let next : next_of m ≡ next_of c + 1 = ap (λ (l : defs.Sequence). length l + 1) sequence ∙ ap (λ (n : ℕ). n + 1) (length-append c.sequence (record { stamp = takes.0; transaction = x.transaction } ∷ [])) in
    gained_by m d xs (settled_behind m xs none) followed.2
    ∙ (ap (λ (l : List Reign). l ++ gained (next_of m) xs) reigns
    ∙ (append_assoc c.reigns (new_reign (next_of c) x.reign) (gained (next_of m) xs)
    ∙ ap (λ (n : ℕ). c.reigns ++ (new_reign (next_of c) x.reign ++ gained n xs)) next))

-- the first entry of a connection comes behind a HISTORY

under_some : (l : ship.Last) → IsUnder l → l ≢ ship.Shipped → HasReign (reign_behind l)
under_some ship.Unbegun under other = absurd under
under_some ship.Resumed under other = absurd under
under_some (ship.Reigning r) under other = (r, refl)
under_some ship.Shipped under other = absurd (other refl)
under_some ship.Over under other = absurd under

pub first_told : (p : Purpose) (fs : List Frame) (at : ℕ) (h now : Heard) (x : Arrival) (xs : List Arrival) → Admitted (Fits p) h fs now → h.last ≢ ship.Shipped → arrivals at (reign_behind h.last) fs ≡ x ∷ xs → HasReign x.reign
first_told p [] at h now x xs admitted other is = absurd (let no : [] ≡ x ∷ xs = is in cc)
first_told p (Hello version name history ∷ fs) at h now x xs admitted other is = absurd admitted.1
first_told p (Resume n ∷ fs) at h now x xs admitted other is =
    let next = admitted.0 in
    first_told p fs (offset_after at (Resume n ∷ [])) next now x xs admitted.2 (λ e. not_shipped p (sym (ap (λ (y : Heard). y.last) admitted.1.2) ∙ e))
    (ap (λ (o : Option Reign). arrivals (offset_after at (Resume n ∷ [])) o fs) (sym (told_fits p h next (Resume n) admitted.1)) ∙ is)
first_told p (RollbackFirst n ∷ fs) at h now x xs admitted other is =
    let next = admitted.0 in
    first_told p fs (offset_after at (RollbackFirst n ∷ [])) next now x xs admitted.2 (λ e. (let two : ship.Over ≡ ship.Shipped = sym (ap (λ (y : Heard). y.last) admitted.1.3) ∙ e in cc))
    (ap (λ (o : Option Reign). arrivals (offset_after at (RollbackFirst n ∷ [])) o fs) (sym (told_fits p h next (RollbackFirst n) admitted.1)) ∙ is)
first_told p (History r ∷ fs) at h now x xs admitted other is =
    let next = admitted.0 in
    first_told p fs (offset_after at (History r ∷ [])) next now x xs admitted.2 (λ e. (let two : ship.Reigning r ≡ ship.Shipped = sym (ap (λ (y : Heard). y.last) admitted.1.2) ∙ e in cc))
    (ap (λ (o : Option Reign). arrivals (offset_after at (History r ∷ [])) o fs) (sym (told_fits p h next (History r) admitted.1)) ∙ is)
first_told p (Entry n t ∷ fs) at h now x xs admitted other is =
    let same : record { at = at; number = n; transaction = t; reign = reign_behind h.last } ≡ x = cc in
    subst (λ (y : Arrival). HasReign y.reign) same (under_some h.last admitted.1.0 other)
first_told p (Bye n ∷ fs) at h now x xs admitted other is =
    let next = admitted.0 in
    first_told p fs (offset_after at (Bye n ∷ [])) next now x xs admitted.2 (λ e. (let two : ship.Over ≡ ship.Shipped = sym (ap (λ (y : Heard). y.last) admitted.1.2) ∙ e in cc))
    (ap (λ (o : Option Reign). arrivals (offset_after at (Bye n ∷ [])) o fs) (sym (told_fits p h next (Bye n) admitted.1)) ∙ is)

-- reigns that begin within some numbers

begun_low : (n low : ℕ) (rs : List Reign) → StartsRise low rs → n ≤ low → begun_by n rs ≡ []
begun_low n low [] rise le = refl
begun_low n low (r ∷ rs) rise le =
    let more = rise.0 in
    let is : nat_le r.start n ≡ false = grind (arith, nat_tests) in
    rw is (begun_low n r.start rs rise.1 (omega (arith, more, le)))

-- a test of each of two numbers by which a reign begins or not
module _ (m n : ℕ) (r : Reign) (rs : List Reign) where
  pub within_past : n < r.start → begun_within m n (r ∷ rs) ≡ begun_within m n rs
  within_past past = let is : nat_le r.start n ≡ false = grind (arith, nat_tests) in rw is refl

  within_before_of : (b : Bool) → nat_le r.start n ≡ b → nat_lt m r.start ≡ false → begun_within m n (r ∷ rs) ≡ begun_within m n rs
  within_before_of true is out = rw (is, out) refl
  within_before_of false is out = rw is refl

  pub within_before : r.start ≤ m → begun_within m n (r ∷ rs) ≡ begun_within m n rs
  within_before before = let out : nat_lt m r.start ≡ false = grind (arith, nat_tests) in within_before_of (nat_le r.start n) refl out

  pub within_here : m < r.start → r.start ≤ n → begun_within m n (r ∷ rs) ≡ r ∷ begun_within m n rs
  within_here past by =
      let is : nat_le r.start n ≡ true = grind (arith, nat_tests) in
      let in_it : nat_lt m r.start ≡ true = grind (arith, nat_tests) in
      rw (is, in_it) refl

  begun_true : r.start ≤ n → begun_by n (r ∷ rs) ≡ r ∷ begun_by n rs
  begun_true by = let is : nat_le r.start n ≡ true = grind (arith, nat_tests) in rw is refl

  begun_false : n < r.start → begun_by n (r ∷ rs) ≡ begun_by n rs
  begun_false past = let is : nat_le r.start n ≡ false = grind (arith, nat_tests) in rw is refl

three : (a b : ℕ) → (a < b) ⊎ ((a ≡ b) ⊎ (b < a))
three a b = grind arith

two : (a b : ℕ) → (a ≤ b) ⊎ (b < a)
two a b = grind arith

pub within_same : (k : ℕ) (rs : List Reign) → begun_within k k rs ≡ []
within_same k [] = refl
within_same k (r ∷ rs) = elim (two r.start k) [
  | inl before ↦ within_before k k r rs before ∙ within_same k rs
  | inr past ↦ within_past k k r rs past ∙ within_same k rs
]

within_low : (m n low : ℕ) (rs : List Reign) → StartsRise low rs → n ≤ low → begun_within m n rs ≡ []
within_low m n low rs rise le = ap (λ (l : List Reign). filter (λ r. nat_lt m r.start) l) (begun_low n low rs rise le)

pub within_on : (a b c low : ℕ) (rs : List Reign) → StartsRise low rs → a ≤ b → b ≤ c → begun_within a b rs ++ begun_within b c rs ≡ begun_within a c rs
within_on a b c low [] rise ab bc = refl
within_on a b c low (r ∷ rs) rise ab bc =
    let later = within_on a b c r.start rs rise.1 ab bc in
    elim (two r.start a) [
      | inl first ↦ ap (λ (l : List Reign). l ++ begun_within b c (r ∷ rs)) (within_before a b r rs first)
          ∙ (ap (λ (l : List Reign). begun_within a b rs ++ l) (within_before b c r rs (omega (arith, first, ab))) ∙ (later ∙ sym (within_before a c r rs first)))
      | inr past_a ↦ elim (two r.start b) [
        | inl by_b ↦ ap (λ (l : List Reign). l ++ begun_within b c (r ∷ rs)) (within_here a b r rs past_a by_b)
            ∙ (ap (λ (l : List Reign). r ∷ (begun_within a b rs ++ l)) (within_before b c r rs by_b)
            ∙ (ap (λ (l : List Reign). r ∷ l) later ∙ sym (within_here a c r rs past_a (omega (arith, by_b, bc)))))
        | inr past_b ↦ (
            let none : begun_within a b rs ≡ [] = within_low a b r.start rs rise.1 (omega (arith, past_b)) in
            let rest : begun_within b c rs ≡ begun_within a c rs = sym (ap (λ (l : List Reign). l ++ begun_within b c rs) none) ∙ later in
            ap (λ (l : List Reign). l ++ begun_within b c (r ∷ rs)) (within_past a b r rs past_b ∙ none)
            ∙ elim (two r.start c) [
              | inl by_c ↦ within_here b c r rs past_b by_c ∙ (ap (λ (l : List Reign). r ∷ l) rest ∙ sym (within_here a c r rs past_a by_c))
              | inr past_c ↦ within_past b c r rs past_c ∙ (rest ∙ sym (within_past a c r rs past_c))
            ])
      ]
    ]

-- the reign that begins with a number is the last one that has begun by it, or none does

reign_here_of : (k low : ℕ) (rs : List Reign) (o : Option Reign) → StartsRise low rs → new_reign (suc k) o ≡ [] → begun_within k (suc k) rs ≡ new_reign (suc k) (last_or o (begun_by (suc k) rs))
reign_here_of k low [] o rise none = sym none
reign_here_of k low (r ∷ rs) o rise none = elim (three r.start (suc k)) [
  | inl less ↦ (
      let other : (r.start == suc k) ≡ false = grind (arith, nat_tests) in
      let not_here : new_reign (suc k) (Some r) ≡ [] = ap (λ (b : Bool). if b then r ∷ [] else []) other in
      within_before k (suc k) r rs (omega (arith, less)) ∙ (reign_here_of k r.start rs (Some r) rise.1 not_here
      ∙ ap (λ (l : List Reign). new_reign (suc k) (last_or o l)) (sym (begun_true k (suc k) r rs (omega (arith, less))))))
  | inr (inl at) ↦ (
      let same : (r.start == suc k) ≡ true = grind (arith, nat_tests) in
      let here : new_reign (suc k) (Some r) ≡ r ∷ [] = ap (λ (b : Bool). if b then r ∷ [] else []) same in
      let past : k < r.start = omega (arith, at) in
      let by : r.start ≤ suc k = omega (arith, at) in
      let rest : begun_by (suc k) rs ≡ [] = begun_low (suc k) r.start rs rise.1 (omega (arith, at)) in
      within_here k (suc k) r rs past by ∙ (ap (λ (l : List Reign). r ∷ l) (within_low k (suc k) r.start rs rise.1 (omega (arith, at)))
      ∙ (sym here ∙ ap (λ (l : List Reign). new_reign (suc k) (last_or o l)) (sym (begun_true k (suc k) r rs by ∙ ap (λ (l : List Reign). r ∷ l) rest)))))
  | inr (inr more) ↦ within_past k (suc k) r rs more ∙ (reign_here_of k r.start rs o rise.1 none ∙ ap (λ (l : List Reign). new_reign (suc k) (last_or o l)) (sym (begun_false k (suc k) r rs more)))
]

-- what arrives with an entry that a primary ships

or_false : (a b : Bool) → (a || b) ≡ false → b ≡ false
or_false true b is = absurd (cc)
or_false false b is = is

abbrev Arrives : (at n : ℕ) → Option Reign → List Frame → List Frame → Type 0
Arrives at n o fs rest = (x : Arrival) × (behind : ℕ) × (arrivals at None fs ≡ x ∷ arrivals behind None rest) × (new_reign n x.reign ≡ new_reign n o)

arrives_if : (at n : ℕ) (r : Reign) (t : Transaction) (rest : List Frame) (b : Bool) → (b ≡ false → (r.start == n) ≡ false) → Arrives at n (Some r) ((if b then History r ∷ [] else []) ++ Entry n t ∷ rest) rest
arrives_if at n r t rest true other = (
  record { at = offset_after at (History r ∷ []); number = n; transaction = t; reign = Some r },
  offset_after (offset_after at (History r ∷ [])) (Entry n t ∷ []),
  refl,
  refl,
)
arrives_if at n r t rest false other = (
  record { at = at; number = n; transaction = t; reign = None },
  offset_after at (Entry n t ∷ []),
  refl,
  ap (λ (b : Bool). if b then r ∷ [] else []) (sym (other refl)),
)

arrives : (at n : ℕ) (first : Bool) (o : Option Reign) (t : Transaction) (rest : List Frame) → Arrives at n o (announced first n o ++ Entry n t ∷ rest) rest
arrives at n first None t rest = (record { at = at; number = n; transaction = t; reign = None }, offset_after at (Entry n t ∷ []), refl, refl)
arrives at n first (Some r) t rest = arrives_if at n r t rest (first || r.start == n) (or_false first (r.start == n))

-- The reigns that begin with the first few entries that a primary ships are those of its own that begin there.
pub gained_front : (reigns : List Reign) (rise : StartsRise 0 reigns) (bye : ℕ) (ts : List Transaction) (first : Bool) (k at : ℕ) (xs : List Arrival) → IsPrefix xs (arrivals at None (shipped reigns first (suc k) ts ++ Bye bye ∷ []))
    → gained (suc k) xs ≡ begun_within k (k + length xs) reigns
gained_front reigns rise bye ts first k at [] p = sym (ap (λ (n : ℕ). begun_within k n reigns) (omega arith) ∙ within_same k reigns)
gained_front reigns rise bye [] first k at (x ∷ xs) p = absurd (let no : [] ≡ x ∷ (xs ++ p.0) = p.1 in cc)
gained_front reigns rise bye (t ∷ ts) first k at (x ∷ xs) p =
    let o = reign_at (suc k) reigns in
    let rest = shipped reigns false (suc k + 1) ts ++ Bye bye ∷ [] in
    let y = arrives at (suc k) first o t rest in
    let parts : announced first (suc k) o ++ (Entry (suc k) t ∷ rest) ≡ shipped reigns first (suc k) (t ∷ ts) ++ Bye bye ∷ []
    = sym (append_assoc (announced first (suc k) o) (Entry (suc k) t ∷ shipped reigns false (suc k + 1) ts) (Bye bye ∷ [])) in
    let whole : y.0 ∷ arrivals y.1 None rest ≡ x ∷ (xs ++ p.0) = sym y.2 ∙ (ap (arrivals at None) parts ∙ p.1) in
    let same : y.0 ≡ x = cc in
    let tail : arrivals y.1 None rest ≡ xs ++ p.0 = cc in
    let next : suc k + 1 ≡ suc (suc k) = omega arith in
    let front : IsPrefix xs (arrivals y.1 None (shipped reigns false (suc (suc k)) ts ++ Bye bye ∷ [])) = subst (λ (n : ℕ). IsPrefix xs (arrivals y.1 None (shipped reigns false n ts ++ Bye bye ∷ []))) next (p.0, tail) in
    let later : gained (suc k + 1) xs ≡ begun_within (suc k) (suc k + length xs) reigns = ap (λ (n : ℕ). gained n xs) next ∙ gained_front reigns rise bye ts false (suc k) y.1 xs front in
    let here : new_reign (suc k) x.reign ≡ begun_within k (suc k) reigns = ap (λ (z : Arrival). new_reign (suc k) z.reign) (sym same) ∙ (y.3 ∙ sym (reign_here_of k 0 reigns None rise refl)) in
    let size : suc k + length xs ≡ k + length (x ∷ xs) = omega arith in
    ap (λ (l : List Reign). l ++ gained (suc k + 1) xs) here
    ∙ (ap (λ (l : List Reign). begun_within k (suc k) reigns ++ l) later
    ∙ (within_on k (suc k) (suc k + length xs) 0 reigns rise (omega arith) (omega arith) ∙ ap (λ (n : ℕ). begun_within k n reigns) size))
