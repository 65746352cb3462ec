-- The entries of what a primary sends are the primary's, under their reigns.
use Rattle.std.proofs.Common.{◌≡◌, ◌≢◌, ◌⊎◌, inl, inr, ℕ, suc, ◌+◌, ◌-◌, ◌<◌, ◌≤◌, ◌==◌, ◌||◌, nat_le, Bool, true, false, List, [], ◌∷◌, ◌++◌, length, map, Option, Some, None, refl, sym, ap, subst, ◌∙◌, arith, append-nil}
use Rattle.std.specs.Prelude.{slice_get, option_map}
use Rattle.std.specs.Option.{option_or}
use Rattle.std.specs.List.{AllByRecursion, last_or}
use Rattle.std.proofs.lemmas.Bool.Decides.{nat_tests}
use Rattle.global_defs.specs.Entry.{Transaction, Stamp, Sequence, Reign}
use Rattle.global_defs.specs.Entry as entries
use Rattle.global_defs.specs.Prefix.{IsPrefix, stamp_at}
use Rattle.global_defs.specs.Rising.{begun_by}
use Rattle.lineage_defs.specs.Histories.{HasStamps}
use Rattle.wire_defs.specs.Frames.{Frame, Resume, Entry, Bye, IsFrame, frame_type, stream, offset_after}
use Rattle.ship_defs.specs.Shipping.{reign_at, announced, shipped, resumed, connection}
use Rattle.ship_defs.specs.Arrivals.{Arrival, told_reign, arrived, arrivals, entries_of, HasEntries, BringsTo}
use Rattle.ship_laws.proofs.Streams.{front, based}
use Rattle.global_defs.proofs.Basics.{or_none}
use Rattle.wire_defs.proofs.Resumed.{resume_form}

pub or_or : (a b : Option Stamp) (s : Stamp) → option_or (option_or a (Some s)) b ≡ option_or a (Some s)
or_or None b s = refl
or_or (Some x) b s = refl

none_between : (a b : Option Stamp) → option_or (option_or a None) b ≡ option_or a b
none_between None b = refl
none_between (Some x) b = refl

abbrev pub stamped : Option Reign → Option Stamp
stamped o = option_map (λ (r : Reign). r.stamp) o

-- the last reign that has begun by a number has the stamp of that number

last_stamp_of : (n : ℕ) (r : Reign) (rs : List Reign) (o : Option Reign) (b : Bool) → nat_le r.start n ≡ b
    → stamped (last_or (Some r) (begun_by n rs)) ≡ option_or (stamp_at n rs) (stamped (Some r)) → stamped (last_or o (begun_by n rs)) ≡ option_or (stamp_at n rs) (stamped o)
    → stamped (last_or o (begun_by n (r ∷ rs))) ≡ option_or (stamp_at n (r ∷ rs)) (stamped o)
last_stamp_of n r rs o true t with_it without = rw t (with_it ∙ sym (or_or (stamp_at n rs) (stamped o) r.stamp))
last_stamp_of n r rs o false t with_it without = rw t (without ∙ sym (none_between (stamp_at n rs) (stamped o)))

last_stamp : (n : ℕ) (rs : List Reign) (o : Option Reign) → stamped (last_or o (begun_by n rs)) ≡ option_or (stamp_at n rs) (stamped o)
last_stamp n [] o = refl
last_stamp n (r ∷ rs) o = last_stamp_of n r rs o (nat_le r.start n) refl (last_stamp n rs (Some r)) (last_stamp n rs o)

to_reign : (o : Option Reign) (s : Stamp) → stamped o ≡ Some s → (r : Reign) × (o ≡ Some r) × (r.stamp ≡ s)
to_reign None s is = absurd (cc)
to_reign (Some r) s is = (r, refl, cc)

pub reign_of : (n : ℕ) (rs : List Reign) (s : Stamp) → stamp_at n rs ≡ Some s → (r : Reign) × (reign_at n rs ≡ Some r) × (r.stamp ≡ s)
reign_of n rs s is = to_reign (reign_at n rs) s (last_stamp n rs None ∙ (or_none (stamp_at n rs) ∙ is))

-- a reign that doesn't begin with a number was the last one before it

abbrev Kept : Reign → (o now : Option Reign) → Type 0
Kept r o now = now ≡ Some r → o ≡ Some r

pub three : (start k : ℕ) → (start ≤ k) ⊎ ((start ≡ suc k) ⊎ (suc k < start))
three start k = grind arith

places : (k : ℕ) (x : Reign) → (nat_le x.start k ≡ nat_le x.start (suc k)) ⊎ ((nat_le x.start k ≡ false) × (nat_le x.start (suc k) ≡ true) × (x.start ≡ suc k))
places k x = elim (three x.start k) [
  | inl low ↦ inl (let a : nat_le x.start k ≡ true = grind (arith, nat_tests) in let b : nat_le x.start (suc k) ≡ true = grind (arith, nat_tests) in a ∙ sym b)
  | inr past ↦ elim past [
    | inl at ↦ inr (grind (arith, nat_tests), grind (arith, nat_tests), at)
    | inr high ↦ inl (let a : nat_le x.start k ≡ false = grind (arith, nat_tests) in let b : nat_le x.start (suc k) ≡ false = grind (arith, nat_tests) in a ∙ sym b)
  ]
]

-- from the reigns behind it, whether it has begun by both numbers, by none or by the later one
still_of : (k : ℕ) (x : Reign) (rs : List Reign) (r : Reign) (o now : Option Reign) → r.start ≢ suc k → (a b : Bool) → nat_le x.start k ≡ a → nat_le x.start (suc k) ≡ b
    → (a ≡ b) ⊎ ((a ≡ false) × (b ≡ true) × (x.start ≡ suc k))
    → ((o now : Option Reign) → Kept r o now → last_or now (begun_by (suc k) rs) ≡ Some r → last_or o (begun_by k rs) ≡ Some r)
    → Kept r o now → last_or now (begun_by (suc k) (x ∷ rs)) ≡ Some r → last_or o (begun_by k (x ∷ rs)) ≡ Some r
still_of k x rs r o now other true true s t p later kept is = rw s (later (Some x) (Some x) (λ e. e) (rw t at is))
still_of k x rs r o now other false false s t p later kept is = rw s (later o now kept (rw t at is))
still_of k x rs r o now other true false s t p later kept is = elim p [ inl e ↦ absurd (cc (e)) | inr e ↦ absurd (cc (e.0)) ]
still_of k x rs r o now other false true s t p later kept is = elim p [
  | inl e ↦ absurd (cc (e))
  | inr e ↦ rw s (later o (Some x) (λ same. (let one : x ≡ r = cc in absurd (other (ap (λ (y : Reign). y.start) (sym one) ∙ e.2)))) (rw t at is))
]

still : (k : ℕ) (rs : List Reign) (r : Reign) (o now : Option Reign) → r.start ≢ suc k → Kept r o now → last_or now (begun_by (suc k) rs) ≡ Some r → last_or o (begun_by k rs) ≡ Some r
still k [] r o now other kept is = kept is
still k (x ∷ rs) r o now other kept is =
    still_of k x rs r o now other (nat_le x.start k) (nat_le x.start (suc k)) refl refl (places k x) (λ a b keep e. still k rs r a b other keep e) kept is

pub still_reigns : (k : ℕ) (rs : List Reign) (r : Reign) → r.start ≢ suc k → reign_at (suc k) rs ≡ Some r → reign_at k rs ≡ Some r
still_reigns k rs r other is = still k rs r None None other (λ e. e) is

pub get_behind : (xs ys : Sequence) (i : ℕ) → slice_get (xs ++ ys) (length xs + i) ≡ slice_get ys i
get_behind [] ys i = let same : 0 + i ≡ i = omega arith in ap (slice_get ys) same
get_behind (x ∷ xs) ys i =
    let same : suc (length xs) + i ≡ suc (length xs + i) = omega arith in
    ap (slice_get (x ∷ (xs ++ ys))) same ∙ get_behind xs ys i

-- the entries of numbers past k have their stamps
abbrev pub Stamps : List Reign → ℕ → Sequence → Type 0
Stamps reigns k part = (i : ℕ) (e : entries.Entry) → slice_get part i ≡ Some e → stamp_at (suc (k + i)) reigns ≡ Some e.stamp

pub stamps_first : (reigns : List Reign) (k : ℕ) (e : entries.Entry) (es : Sequence) → Stamps reigns k (e ∷ es) → stamp_at (suc k) reigns ≡ Some e.stamp
stamps_first reigns k e es stamps = let same : k + 0 ≡ k = omega arith in subst (λ (n : ℕ). stamp_at (suc n) reigns ≡ Some e.stamp) same (stamps 0 e refl)

pub stamps_later : (reigns : List Reign) (k : ℕ) (e : entries.Entry) (es : Sequence) → Stamps reigns k (e ∷ es) → Stamps reigns (suc k) es
stamps_later reigns k e es stamps = λ i x is.
    let same : k + suc i ≡ suc k + i = omega arith in
    subst (λ (n : ℕ). stamp_at (suc n) reigns ≡ Some x.stamp) same (stamps (suc i) x is)

abbrev pub transactions : Sequence → List Transaction
transactions part = map (λ e. e.transaction) part

abbrev carried_from : ℕ → Option Reign → List Frame → Sequence
carried_from at under fs = entries_of under (arrivals at None fs)

same_entry : (e : entries.Entry) (r : Reign) (xs es : Sequence) → r.stamp ≡ e.stamp → xs ≡ es → record { stamp = r.stamp; transaction = e.transaction } ∷ xs ≡ e ∷ es
same_entry e r xs es stamp same = λ i. record { stamp = stamp i; transaction = e.transaction } ∷ same i

or_false : (a b : Bool) → (a || b) ≡ false → (a ≡ false) × (b ≡ false)
or_false true b is = absurd (cc)
or_false false b is = (refl, is)

-- an entry whose reign is announced before it, and one under the same reign as the one before it
entry_step : (reigns : List Reign) (e : entries.Entry) (es : Sequence) (n at : ℕ) (first : Bool) (under : Option Reign) (r : Reign) (rest : List Frame) (b : Bool) → (first || r.start == n) ≡ b
    → r.stamp ≡ e.stamp → (b ≡ false → under ≡ Some r) → ((at : ℕ) → carried_from at (Some r) rest ≡ es)
    → carried_from at under (announced first n (Some r) ++ Entry n e.transaction ∷ rest) ≡ e ∷ es
entry_step reigns e es n at first under r rest true t stamp goes later =
    rw t (same_entry e r (carried_from _ (Some r) rest) es stamp (later _))
entry_step reigns e es n at first under r rest false t stamp goes later =
    rw (t, goes refl) (same_entry e r (carried_from _ (Some r) rest) es stamp (later _))

not_start : (r : Reign) (k : ℕ) → (r.start == suc k) ≡ false → r.start ≢ suc k
not_start r k is = grind (arith, nat_tests)

pub shipped_entries : (reigns : List Reign) (part : Sequence) (k at : ℕ) (first : Bool) (under : Option Reign) → Stamps reigns k part → (first ≡ false → under ≡ reign_at k reigns)
    → carried_from at under (shipped reigns first (suc k) (transactions part)) ≡ part
shipped_entries reigns [] k at first under stamps goes = refl
shipped_entries reigns (e ∷ es) k at first under stamps goes =
    let found = reign_of (suc k) reigns e.stamp (stamps_first reigns k e es stamps) in
    let r = found.0 in
    let rest = shipped reigns false (suc k + 1) (transactions es) in
    let next : suc k + 1 ≡ suc (suc k) = omega arith in
    let goes_on : (first || r.start == suc k) ≡ false → under ≡ Some r = λ t.
    (let parts = or_false first (r.start == suc k) t in goes parts.0 ∙ still_reigns k reigns r (not_start r k parts.1) found.1) in
    let later : (w : ℕ) → carried_from w (Some r) rest ≡ es = λ w.
    (ap (λ (n : ℕ). carried_from w (Some r) (shipped reigns false n (transactions es))) next
    ∙ shipped_entries reigns es (suc k) w false (Some r) (stamps_later reigns k e es stamps) (λ _. sym found.1)) in
    ap (λ (o : Option Reign). carried_from at under (announced first (suc k) o ++ Entry (suc k) e.transaction ∷ rest)) found.1
    ∙ entry_step reigns e es (suc k) at first under r rest (first || r.start == suc k) refl found.2 goes_on later

no_entry : (at n : ℕ) (reign : Option Reign) (fs : List Frame) → arrivals at reign (fs ++ Bye n ∷ []) ≡ arrivals at reign fs
no_entry at n reign [] = refl
no_entry at n reign (f ∷ fs) = ap (λ (l : List Arrival). arrived at reign f ++ l) (no_entry (offset_after at (f ∷ [])) n (told_reign f) fs)

-- what a primary sends has the entries of its part
pub connection_entries : (reigns : List Reign) (base part : Sequence) → HasStamps reigns (base ++ part) → AllByRecursion IsFrame (connection reigns (length base + 1) (transactions part))
    → HasEntries (stream (connection reigns (length base + 1) (transactions part))) part
connection_entries reigns base part stamps each =
    let k = length base in
    let next : k + 1 ≡ suc k = omega arith in
    let all = resumed reigns (k + 1) (transactions part) in
    let own : Stamps reigns k part = λ i e is. stamps (k + i) e (get_behind base part i ∙ is) in
    let at = offset_after 0 (Resume (k + 1) ∷ []) in
    record {
      frames = connection reigns (k + 1) (transactions part);
      rest = [];
      are = record { whole = sym (append-nil (stream (connection reigns (k + 1) (transactions part)))); each = each };
      ends = inl (Resume 1, frame_type (Resume 1), _, resume_form, refl);
      is = sym (ap (entries_of None) (no_entry 0 (k + 1 + length (transactions part) - 1) None all)
          ∙ (ap (λ (n : ℕ). carried_from at None (shipped reigns true n (transactions part))) next
          ∙ shipped_entries reigns part k at true None own (λ no. absurd (cc no))));
    }

pub sent_front : (reigns : List Reign) (base part seq : Sequence) (sent : List ℕ) → HasStamps reigns (base ++ part) → AllByRecursion IsFrame (connection reigns (length base + 1) (transactions part))
    → IsPrefix sent (stream (connection reigns (length base + 1) (transactions part))) → BringsTo base sent seq → IsPrefix seq (base ++ part)
sent_front reigns base part seq sent stamps each p x =
    let entries = front sent (stream (connection reigns (length base + 1) (transactions part))) x.entries part p x.has (connection_entries reigns base part stamps each) in
    subst (λ (l : Sequence). IsPrefix l (base ++ part)) (sym x.is) (based base x.entries part entries)
