-- What a primary ships is admissible to a secondary that has the first of its entries under its reigns.
use Rattle.std.proofs.Common.{◌≡◌, inl, inr, ℕ, suc, ◌+◌, ◌-◌, ◌<◌, ◌≤◌, ◌==◌, nat_le, Bool, true, false, List, [], ◌∷◌, ◌++◌, length, fold, Option, Some, None, refl, sym, ap, subst, ◌∙◌, arith, append_assoc, append-nil, length-append}
use Rattle.std.specs.List.{AllByRecursion, last_or}
use Rattle.std.proofs.lemmas.Bool.Decides.{nat_tests}
use Rattle.global_defs.specs.declared.limits.TheConstants.{MOST_REIGNS}
use Rattle.global_defs.specs.Entry.{Sequence, Reign, Globals, apply}
use Rattle.global_defs.specs.Entry as entries
use Rattle.global_defs.specs.Prefix as prefix
use Rattle.global_defs.specs.Prefix.{IsPrefix, stamp_at}
use Rattle.global_defs.specs.Rising.{StartsRise, begun_by}
use Rattle.lineage_defs.specs.Histories.{HasStamps}
use Rattle.wire_defs.specs.Frames.{Frame, Resume, History, Entry, Bye, IsFrame, stream}
use Rattle.ship_defs.specs.Directions.{Admitted}
use Rattle.ship_defs.specs.Hearing.{Ships, Last, Unbegun, Resumed, Reigning, Shipped, Over, Heard, Hearing, unbegun, IsBetween, MayReign, with_entry, with_reign, entered, HasRooms, Admits, IsHeardOut, IsBadFromPrimary, EndsFromPrimary}
use Rattle.ship_defs.specs.Shipping.{reign_at, announced, shipped, resumed, connection}
use Rattle.ship_laws.proofs.Walks.{bad_or_ended, stays_bad}
use Rattle.ship_laws.proofs.Rules.{admits_one, admits_out}
use Rattle.ship_laws.proofs.Stamped.{reign_of, get_behind, Stamps, stamps_first, stamps_later, transactions, three as cases_of}
use Rattle.global_defs.proofs.Basics.{last_or_push}

-- from one number to the next no reign begins, or one behind all others
data Turn (rs : List Reign) (k : ℕ) : Type 0 where
  stays : begun_by (suc k) rs ≡ begun_by k rs → Turn rs k
  begins : (r : Reign) → r.start ≡ suc k → begun_by (suc k) rs ≡ begun_by k rs ++ r ∷ [] → Turn rs k

none_begun : (n low : ℕ) (rs : List Reign) → n ≤ low → StartsRise low rs → begun_by n rs ≡ []
none_begun n low [] le rise = refl
none_begun n low (r ∷ rs) le rise =
    let past : low < r.start = rise.0 in
    let is : nat_le r.start n ≡ false = grind (arith, nat_tests) in
    rw is (none_begun n r.start rs (omega arith) rise.1)

turn_kept : (r : Reign) (rs : List Reign) (k : ℕ) → nat_le r.start k ≡ true → nat_le r.start (suc k) ≡ true → Turn rs k → Turn (r ∷ rs) k
turn_kept r rs k a b (stays e) = stays (rw (a, b) (ap (λ (l : List Reign). r ∷ l) e))
turn_kept r rs k a b (begins q at e) = begins q at (rw (a, b) (ap (λ (l : List Reign). r ∷ l) e))

turn_begins : (r : Reign) (rs : List Reign) (k : ℕ) → r.start ≡ suc k → StartsRise r.start rs → Turn (r ∷ rs) k
turn_begins r rs k at rise =
    let a : nat_le r.start k ≡ false = grind (arith, nat_tests) in
    let b : nat_le r.start (suc k) ≡ true = grind (arith, nat_tests) in
    begins r at (rw (a, b) (rw (none_begun k r.start rs (omega (arith, at)) rise, none_begun (suc k) r.start rs (omega (arith, at)) rise) refl))

turn_later : (r : Reign) (rs : List Reign) (k : ℕ) → suc k < r.start → StartsRise r.start rs → Turn (r ∷ rs) k
turn_later r rs k past rise =
    let a : nat_le r.start k ≡ false = grind (arith, nat_tests) in
    let b : nat_le r.start (suc k) ≡ false = grind (arith, nat_tests) in
    stays (rw (a, b) (rw (none_begun k r.start rs (omega arith) rise, none_begun (suc k) r.start rs (omega arith) rise) refl))

turn : (low k : ℕ) (rs : List Reign) → StartsRise low rs → Turn rs k
turn low k [] rise = stays refl
turn low k (r ∷ rs) rise = elim (cases_of r.start k) [
  | inl low_enough ↦ turn_kept r rs k (grind (arith, nat_tests)) (grind (arith, nat_tests)) (turn r.start k rs rise.1)
  | inr past ↦ elim past [ inl at ↦ turn_begins r rs k at rise.1 | inr later ↦ turn_later r rs k later rise.1 ]
]

few_of : (n : ℕ) (r : Reign) (rs : List Reign) (b : Bool) → nat_le r.start n ≡ b → length (begun_by n rs) ≤ length rs → length (begun_by n (r ∷ rs)) ≤ length (r ∷ rs)
few_of n r rs true is few = rw is (omega (arith, few))
few_of n r rs false is few = rw is (omega (arith, few))

few_begun : (n : ℕ) (rs : List Reign) → length (begun_by n rs) ≤ length rs
few_begun n [] = omega arith
few_begun n (r ∷ rs) = few_of n r rs (nat_le r.start n) refl (few_begun n rs)

-- the last one that has begun by a number began by then
abbrev HasBegun : ℕ → Option Reign → Type 0
HasBegun n None = Unit {0}
HasBegun n (Some r) = r.start ≤ n

begun_of : (n : ℕ) (x : Reign) (rs : List Reign) (o : Option Reign) (b : Bool) → nat_le x.start n ≡ b → HasBegun n o → ((o : Option Reign) → HasBegun n o → HasBegun n (last_or o (begun_by n rs))) → HasBegun n (last_or o (begun_by n (x ∷ rs)))
begun_of n x rs o true is has later = rw is (later (Some x) (let low : x.start ≤ n = grind (arith, nat_tests) in low))
begun_of n x rs o false is has later = rw is (later o has)

has_begun : (n : ℕ) (rs : List Reign) (o : Option Reign) → HasBegun n o → HasBegun n (last_or o (begun_by n rs))
has_begun n [] o has = has
has_begun n (x ∷ rs) o has = begun_of n x rs o (nat_le x.start n) refl has (λ p h. has_begun n rs p h)

reign_begun : (n : ℕ) (rs : List Reign) (r : Reign) → reign_at n rs ≡ Some r → r.start ≤ n
reign_begun n rs r is = subst (λ (o : Option Reign). HasBegun n o) is (has_begun n rs None tt)

-- a secondary with the first k entries of a primary
abbrev heard_at : ℕ → List Reign → Last → Heard
heard_at k rs last = record { count = k; reigns = length (begun_by k rs); reign = reign_at k rs; last = last }

abbrev hearing_at : ℕ → List Reign → Last → Globals → Hearing
hearing_at k rs last g = record { heard = heard_at k rs last; globals = g }

admitted_more : (s m now : Hearing) (fs gs : List Frame) → Admitted (Admits Ships) s fs m → Admitted (Admits Ships) m gs now → Admitted (Admits Ships) s (fs ++ gs) now
admitted_more s m now [] gs a b = subst (λ (t : Hearing). Admitted (Admits Ships) t gs now) a b
admitted_more s m now (f ∷ fs) gs a b = (a.0, a.1, admitted_more a.0 m now fs gs a.2 b)

-- a connection's first entry comes behind RESUME, and a later one behind another
abbrev IsBehind : Bool → Last → Type 0
IsBehind true last = last ≡ Resumed
IsBehind false last = last ≡ Shipped

between : (first : Bool) (last : Last) → IsBehind first last → IsBetween last
between true last is = subst (λ (l : Last). IsBetween l) (sym is) tt
between false last is = subst (λ (l : Last). IsBetween l) (sym is) tt

-- with the next entry, under the same reign or with its own

same_reign : (k : ℕ) (rs : List Reign) → begun_by (suc k) rs ≡ begun_by k rs → (last : Last) → with_entry (heard_at k rs last) ≡ heard_at (suc k) rs Shipped
same_reign k rs e last =
    let count : k + 1 ≡ suc k = omega arith in
    (λ i. record { count = count i; reigns = length (sym e i); reign = last_or None (sym e i); last = Shipped })

own_reign : (k : ℕ) (rs : List Reign) (r : Reign) → begun_by (suc k) rs ≡ begun_by k rs ++ r ∷ [] → (last : Last) → with_reign (heard_at k rs last) r ≡ heard_at (suc k) rs Shipped
own_reign k rs r e last =
    let count : k + 1 ≡ suc k = omega arith in
    let more : length (begun_by k rs) + 1 ≡ length (begun_by (suc k) rs) = (let size = length-append (begun_by k rs) (r ∷ []) in omega (arith, size)) ∙ sym (ap length e) in
    let its : Some r ≡ reign_at (suc k) rs = sym (last_or_push None (begun_by k rs) r) ∙ sym (ap (last_or None) e) in
    (λ i. record { count = count i; reigns = more i; reign = its i; last = Shipped })

module _ (rs : List Reign) (rise : StartsRise 0 rs) (few : length rs ≤ MOST_REIGNS) where
  -- an ENTRY behind a HISTORY
  told_entry : (k : ℕ) (r : Reign) (e : entries.Entry) (last : Last) (g : Globals) → IsBetween last → MayReign (heard_at k rs last) r
      → entered (heard_at k rs (Reigning r)) (Reigning r) ≡ heard_at (suc k) rs Shipped → HasRooms g (e.transaction ∷ [])
      → Admitted (Admits Ships) (hearing_at k rs last g) (History r ∷ Entry (suc k) e.transaction ∷ []) (hearing_at (suc k) rs Shipped (fold apply g e.transaction.updates))
  told_entry k r e last g open_ may next room = (
    hearing_at k rs (Reigning r) g,
    ((open_, may, refl), tt, refl),
    (hearing_at (suc k) rs Shipped (fold apply g e.transaction.updates), ((tt, (omega arith), sym next), room.0, refl), refl),
  )

  -- an ENTRY behind an ENTRY
  bare_entry : (k : ℕ) (e : entries.Entry) (g : Globals) → begun_by (suc k) rs ≡ begun_by k rs → HasRooms g (e.transaction ∷ [])
      → Admitted (Admits Ships) (hearing_at k rs Shipped g) (Entry (suc k) e.transaction ∷ []) (hearing_at (suc k) rs Shipped (fold apply g e.transaction.updates))
  bare_entry k e g same room =
      (hearing_at (suc k) rs Shipped (fold apply g e.transaction.updates), ((tt, (omega arith), sym (same_reign k rs same Shipped)), room.0, refl), refl)

  entered_same : (k : ℕ) (r : Reign) → r.start ≤ k → begun_by (suc k) rs ≡ begun_by k rs → entered (heard_at k rs (Reigning r)) (Reigning r) ≡ heard_at (suc k) rs Shipped
  entered_same k r low same = let is : (r.start == k + 1) ≡ false = grind (arith, nat_tests) in rw is (same_reign k rs same (Reigning r))

  entered_own : (k : ℕ) (r : Reign) → r.start ≡ suc k → begun_by (suc k) rs ≡ begun_by k rs ++ r ∷ [] → entered (heard_at k rs (Reigning r)) (Reigning r) ≡ heard_at (suc k) rs Shipped
  entered_own k r at own = let is : (r.start == k + 1) ≡ true = grind (arith, nat_tests) in rw is (own_reign k rs r own (Reigning r))

  room_for : (k : ℕ) (r : Reign) → begun_by (suc k) rs ≡ begun_by k rs ++ r ∷ [] → length (begun_by k rs) < MOST_REIGNS
  room_for k r own =
      let size : length (begun_by (suc k) rs) ≡ length (begun_by k rs) + 1 = ap length own ∙ length-append (begun_by k rs) (r ∷ []) in
      omega (arith, size, few_begun (suc k) rs, few)

  one_same : (first : Bool) (k : ℕ) (r : Reign) (e : entries.Entry) (last : Last) (g : Globals) → IsBehind first last → reign_at k rs ≡ Some r → r.start ≤ k → begun_by (suc k) rs ≡ begun_by k rs → HasRooms g (e.transaction ∷ [])
      → Admitted (Admits Ships) (hearing_at k rs last g) (announced first (suc k) (Some r) ++ Entry (suc k) e.transaction ∷ []) (hearing_at (suc k) rs Shipped (fold apply g e.transaction.updates))
  one_same true k r e last g behind is low same room = told_entry k r e last g (between true last behind) (inr is) (entered_same k r low same) room
  one_same false k r e last g behind is low same room =
      let no : (r.start == suc k) ≡ false = grind (arith, nat_tests) in
      rw no (subst (λ (l : Last). Admitted (Admits Ships) (hearing_at k rs l g) (Entry (suc k) e.transaction ∷ []) (hearing_at (suc k) rs Shipped (fold apply g e.transaction.updates))) (sym behind) (bare_entry k e g same room))

  one_own : (first : Bool) (k : ℕ) (r : Reign) (e : entries.Entry) (last : Last) (g : Globals) → IsBehind first last → r.start ≡ suc k → begun_by (suc k) rs ≡ begun_by k rs ++ r ∷ [] → HasRooms g (e.transaction ∷ [])
      → Admitted (Admits Ships) (hearing_at k rs last g) (announced first (suc k) (Some r) ++ Entry (suc k) e.transaction ∷ []) (hearing_at (suc k) rs Shipped (fold apply g e.transaction.updates))
  one_own true k r e last g behind at own room = told_entry k r e last g (between true last behind) (inl ((omega (arith, at)), room_for k r own)) (entered_own k r at own) room
  one_own false k r e last g behind at own room =
      let yes : (r.start == suc k) ≡ true = grind (arith, nat_tests) in
      rw yes (told_entry k r e last g (between false last behind) (inl ((omega (arith, at)), room_for k r own)) (entered_own k r at own) room)

  one : (first : Bool) (k : ℕ) (r : Reign) (e : entries.Entry) (last : Last) (g : Globals) → IsBehind first last → reign_at (suc k) rs ≡ Some r → HasRooms g (e.transaction ∷ []) → Turn rs k
      → Admitted (Admits Ships) (hearing_at k rs last g) (announced first (suc k) (Some r) ++ Entry (suc k) e.transaction ∷ []) (hearing_at (suc k) rs Shipped (fold apply g e.transaction.updates))
  one first k r e last g behind is room (stays same) =
      let now : reign_at k rs ≡ Some r = sym (ap (last_or None) same) ∙ is in
      one_same first k r e last g behind now (reign_begun k rs r now) same room
  one first k r e last g behind is room (begins q at own) =
      let its : Some q ≡ Some r = sym (last_or_push None (begun_by k rs) q) ∙ (sym (ap (last_or None) own) ∙ is) in
      let q_is : q ≡ r = cc in
      one_own first k r e last g behind (subst (λ (x : Reign). x.start ≡ suc k) q_is at) (subst (λ (x : Reign). begun_by (suc k) rs ≡ begun_by k rs ++ x ∷ []) q_is own) room

  pub record Ends (k : ℕ) (first : Bool) (last : Last) (g : Globals) (part : Sequence) : Type 0 where
    pub behind : Last
    pub globals : Globals
    pub open_ : IsBetween behind
    pub admitted : Admitted (Admits Ships) (hearing_at k rs last g) (shipped rs first (suc k) (transactions part)) (hearing_at (k + length part) rs behind globals)

  pub all : (part : Sequence) (k : ℕ) (first : Bool) (last : Last) (g : Globals) → Stamps rs k part → IsBehind first last → HasRooms g (transactions part) → Ends k first last g part
  all [] k first last g stamps behind room =
      let same : k ≡ k + 0 = omega arith in
      record { behind = last; globals = g; open_ = between first last behind; admitted = ap (λ (n : ℕ). hearing_at n rs last g) (sym same) }
  all (e ∷ es) k first last g stamps behind room =
      let found = reign_of (suc k) rs e.stamp (stamps_first rs k e es stamps) in
      let r = found.0 in
      let g2 = fold apply g e.transaction.updates in
      let step = one first k r e last g behind found.1 (room.0, tt) (turn 0 k rs rise) in
      let rest = all es (suc k) false Shipped g2 (stamps_later rs k e es stamps) refl room.1 in
      let next : suc k + 1 ≡ suc (suc k) = omega arith in
      let count : suc k + length es ≡ k + length (e ∷ es) = omega arith in
      let end_ = hearing_at (k + length (e ∷ es)) rs rest.behind rest.globals in
      let later : Admitted (Admits Ships) (hearing_at (suc k) rs Shipped g2) (shipped rs false (suc k + 1) (transactions es)) end_
      = subst (λ (n : ℕ). Admitted (Admits Ships) (hearing_at (suc k) rs Shipped g2) (shipped rs false n (transactions es)) end_) (sym next)
      (subst (λ (n : ℕ). Admitted (Admits Ships) (hearing_at (suc k) rs Shipped g2) (shipped rs false (suc (suc k)) (transactions es)) (hearing_at n rs rest.behind rest.globals)) count rest.admitted) in
      let both = admitted_more (hearing_at k rs last g) (hearing_at (suc k) rs Shipped g2) end_ (announced first (suc k) (Some r) ++ Entry (suc k) e.transaction ∷ []) (shipped rs false (suc k + 1) (transactions es)) step later in
      let frames : (announced first (suc k) (Some r) ++ Entry (suc k) e.transaction ∷ []) ++ shipped rs false (suc k + 1) (transactions es) ≡ shipped rs first (suc k) (transactions (e ∷ es))
      = append_assoc (announced first (suc k) (Some r)) (Entry (suc k) e.transaction ∷ []) (shipped rs false (suc k + 1) (transactions es))
      ∙ ap (λ (o : Option Reign). announced first (suc k) o ++ Entry (suc k) e.transaction ∷ shipped rs false (suc k + 1) (transactions es)) (sym found.1) in
      record {
        behind = rest.behind;
        globals = rest.globals;
        open_ = rest.open_;
        admitted = subst (λ (fs : List Frame). Admitted (Admits Ships) (hearing_at k rs last g) fs end_) frames both;
      }

-- a secondary of that history, before the connection's first byte
abbrev starting : prefix.History → Globals → Hearing
starting h g = record { heard = unbegun h; globals = g }

length-transactions : (part : Sequence) → length (transactions part) ≡ length part
length-transactions [] = refl
length-transactions (e ∷ es) = ap suc (length-transactions es)

pub whole : (h : prefix.History) (rs : List Reign) (base part : Sequence) (g : Globals) → h.length ≡ length base → begun_by h.length h.reigns ≡ begun_by h.length rs → StartsRise 0 rs → length rs ≤ MOST_REIGNS → HasStamps rs (base ++ part)
    → HasRooms g (transactions part) → (now : Hearing) × Admitted (Admits Ships) (starting h g) (connection rs (h.length + 1) (transactions part)) now × IsHeardOut now
whole h rs base part g at own rise few stamps room =
    let k = h.length in
    let next : k + 1 ≡ suc k = omega arith in
    let numbered : Stamps rs k part = λ i e is.
    (let same : k + i ≡ length base + i = ap (λ (n : ℕ). n + i) at in subst (λ (n : ℕ). stamp_at (suc n) rs ≡ Some e.stamp) (sym same) (stamps (length base + i) e (get_behind base part i ∙ is))) in
    let ends = all rs rise few part k true Resumed g numbered refl room in
    let end_ = hearing_at (k + length part) rs ends.behind ends.globals in
    let out = hearing_at (k + length part) rs Over ends.globals in
    let begun : starting h g ≡ hearing_at k rs Unbegun g = (λ i. record { heard = record { count = k; reigns = length (own i); reign = last_or None (own i); last = Unbegun }; globals = g }) in
    let resume : Admitted (Admits Ships) (hearing_at k rs Unbegun g) (Resume (k + 1) ∷ []) (hearing_at k rs Resumed g)
    = (hearing_at k rs Resumed g, ((tt, refl, refl), tt, refl), refl) in
    let entries_ : Admitted (Admits Ships) (hearing_at k rs Resumed g) (shipped rs true (k + 1) (transactions part)) end_
    = subst (λ (n : ℕ). Admitted (Admits Ships) (hearing_at k rs Resumed g) (shipped rs true n (transactions part)) end_) (sym next) ends.admitted in
    let count : k + 1 + length (transactions part) - 1 ≡ k + length part = (let size = length-transactions part in omega (arith, size)) in
    let bye : Admitted (Admits Ships) end_ (Bye (k + 1 + length (transactions part) - 1) ∷ []) out
    = (out, ((ends.open_, count, refl), tt, refl), refl) in
    let sent = admitted_more (hearing_at k rs Unbegun g) (hearing_at k rs Resumed g) end_ (Resume (k + 1) ∷ []) (shipped rs true (k + 1) (transactions part)) resume entries_ in
    let all_ = admitted_more (hearing_at k rs Unbegun g) end_ out (resumed rs (k + 1) (transactions part)) (Bye (k + 1 + length (transactions part) - 1) ∷ []) sent bye in
    (out, subst (λ (s : Hearing). Admitted (Admits Ships) s (connection rs (k + 1) (transactions part)) out) (sym begun) all_, tt)

-- so no front of it is bad
pub never_bad : (h : prefix.History) (rs : List Reign) (base part : Sequence) (g : Globals) → h.length ≡ length base → begun_by h.length h.reigns ≡ begun_by h.length rs → StartsRise 0 rs → length rs ≤ MOST_REIGNS → HasStamps rs (base ++ part)
    → HasRooms g (transactions part) → AllByRecursion IsFrame (connection rs (h.length + 1) (transactions part))
    → (bytes : List ℕ) (o : ℕ) → IsPrefix bytes (stream (connection rs (h.length + 1) (transactions part))) → IsBadFromPrimary Ships (starting h g) bytes false o → ⊥
never_bad h rs base part g at own rise few stamps room each bytes o p bad =
    let w = whole h rs base part g at own rise few stamps room in
    let n = h.length + 1 + length (transactions part) - 1 in
    let ended : EndsFromPrimary Ships (starting h g) (stream (connection rs (h.length + 1) (transactions part))) (Bye n)
    = record { frames = resumed rs (h.length + 1) (transactions part); now = w.0; come = record { are = record { whole = sym (append-nil (stream (connection rs (h.length + 1) (transactions part)))); each = each }; admitted = w.1 }; over = w.2 } in
    let still = stays_bad (Admits Ships) (admits_one Ships) IsHeardOut (admits_out Ships) (starting h g) bytes p.0 false o bad in
    bad_or_ended (Admits Ships) (admits_one Ships) IsHeardOut (admits_out Ships) (starting h g) (stream (connection rs (h.length + 1) (transactions part))) false o (Bye n)
    (subst (λ (l : List ℕ). IsBadFromPrimary Ships (starting h g) l false o) (sym p.1) still) ended
