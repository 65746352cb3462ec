-- Histories of sequences: their fronts, one reign more, and that a sequence has one.
use Rattle.std.proofs.Common.{◌≡◌, ◌⊎◌, inl, inr, ℕ, zero, suc, ◌<◌, ◌≤◌, List, [], ◌∷◌, ◌++◌, length, take, Option, Some, None, slice_get, refl, sym, ◌∙◌, ap, subst, arith, length-append, length-take-le}
use Rattle.std.proofs.lemmas.Bool.{cases_lt}
use Rattle.std.proofs.lemmas.Option.{slice_get_within}
use Rattle.std.specs.Option.{option_or}
use Rattle.global_defs.specs.Entry.{Stamp, Entry, Sequence, Reign}
use Rattle.global_defs.specs.Prefix.{IsPrefix, stamp_at}
use Rattle.lineage_defs.specs.Histories.{StampsChange, HasStamps, IsHistory}
use Rattle.lineage_defs.specs.Events.{reign_from, Adopts}
use Rattle.resync_core.proofs.Fronts as lists
use Rattle.resync_core.proofs.BegunReigns.{begun-first, begun-later, begun-begun, begun-push_late, AllBegun, all-begun, stamp-push, stamp-first, stamp-later, stamp-begun, stamp-begun_before, stamp-none}
use Rattle.global_defs.proofs.Lists.{get-push}
use Rattle.global_defs.specs.Rising.{StartsRise, begun_by}
use Rattle.global_defs.proofs.Basics.{or_none}

-- Starts

rise_lower : (low high : ℕ) (rs : List Reign) → low ≤ high → StartsRise high rs → StartsRise low rs
rise_lower low high [] le rise = tt
rise_lower low high (r ∷ rs) le rise = let past = rise.0 in (omega arith, rise.1)

pub rise-begun : (low n : ℕ) (rs : List Reign) → StartsRise low rs → StartsRise low (begun_by n rs)
rise-begun low n [] rise = tt
rise-begun low n (r ∷ rs) rise = elim (cases_lt n r.start) [
  | inl late ↦
      let past = rise.0 in
      subst (StartsRise low) (sym (begun-later n r rs late)) (rise_lower low r.start (begun_by n rs) (omega arith) (rise-begun r.start n rs rise.1))
  | inr early ↦ subst (StartsRise low) (sym (begun-first n r rs early)) (rise.0, rise-begun r.start n rs rise.1)
]

rise-push : (low n : ℕ) (rs : List Reign) (r : Reign) → StartsRise low rs → AllBegun n rs → low ≤ n → n < r.start → StartsRise low (rs ++ r ∷ [])
rise-push low n [] r rise all le past = (omega arith, tt)
rise-push low n (q ∷ rs) r rise all le past = (rise.0, rise-push q.start n rs r rise.1 all.1 all.0 past)

none-begun : (low n : ℕ) (rs : List Reign) → StartsRise low rs → n ≤ low → begun_by n rs ≡ []
none-begun low n [] rise le = refl
none-begun low n (r ∷ rs) rise le = let past = rise.0 in begun-later n r rs (omega arith) ∙ none-begun r.start n rs rise.1 (omega arith)

-- Stamps that change

-- each reign has another stamp than the one before, the first one than this
abbrev ChangeAfter : Option Stamp → List Reign → Type 0
ChangeAfter before [] = Unit {0}
ChangeAfter before (r ∷ rs) = (before ≡ Some r.stamp → ⊥) × ChangeAfter (Some r.stamp) rs

change-next : (r : Reign) (rs : List Reign) → StampsChange (r ∷ rs) → ChangeAfter (Some r.stamp) rs
change-next r [] h = tt
change-next r (s ∷ rs) h = ((λ e. let same : r.stamp ≡ s.stamp = cc in h.0 same), change-next s rs h.1)

change-after : (rs : List Reign) → StampsChange rs → ChangeAfter None rs
change-after [] h = tt
change-after (r ∷ rs) h = ((λ e. cc), change-next r rs h)

change-back : (before : Option Stamp) (rs : List Reign) → ChangeAfter before rs → StampsChange rs
change-back before [] h = tt
change-back before (r ∷ []) h = tt
change-back before (r ∷ s ∷ rs) h = ((λ e. h.1.0 (ap (λ (x : Stamp). Some x) e)), change-back (Some r.stamp) (s ∷ rs) h.1)

change-begun : (before : Option Stamp) (low n : ℕ) (rs : List Reign) → StartsRise low rs → ChangeAfter before rs → ChangeAfter before (begun_by n rs)
change-begun before low n [] rise h = tt
change-begun before low n (r ∷ rs) rise h = elim (cases_lt n r.start) [
  | inl late ↦ subst (ChangeAfter before) (sym (begun-later n r rs late ∙ none-begun r.start n rs rise.1 (omega arith))) tt
  | inr early ↦ subst (ChangeAfter before) (sym (begun-first n r rs early)) (h.0, change-begun (Some r.stamp) r.start n rs rise.1 h.1)
]

or-or : (x : Option Stamp) (s : Stamp) (o : Option Stamp) → option_or (option_or x (Some s)) o ≡ option_or x (Some s)
or-or None s o = refl
or-or (Some t) s o = refl

change-push : (before : Option Stamp) (n : ℕ) (rs : List Reign) (r : Reign) → AllBegun n rs → ChangeAfter before rs → (option_or (stamp_at n rs) before ≡ Some r.stamp → ⊥)
    → ChangeAfter before (rs ++ r ∷ [])
change-push before n [] r all h other = (other, tt)
change-push before n (q ∷ rs) r all h other =
    let last : option_or (stamp_at n (q ∷ rs)) before ≡ option_or (stamp_at n rs) (Some q.stamp) =
    ap (λ (o : Option Stamp). option_or o before) (stamp-first n q rs all.0) ∙ or-or (stamp_at n rs) q.stamp before in
    (h.0, change-push (Some q.stamp) n rs r all.1 h.1 (λ e. other (last ∙ e)))

pub changes-push : (n : ℕ) (rs : List Reign) (r : Reign) → AllBegun n rs → StampsChange rs → (stamp_at n rs ≡ Some r.stamp → ⊥) → StampsChange (rs ++ r ∷ [])
changes-push n rs r all h other =
    change-back None (rs ++ r ∷ []) (change-push None n rs r all (change-after rs h) (λ e. other (sym (or_none (stamp_at n rs)) ∙ e)))

pub changes-begun : (low n : ℕ) (rs : List Reign) → StartsRise low rs → StampsChange rs → StampsChange (begun_by n rs)
changes-begun low n rs rise h = change-back None (begun_by n rs) (change-begun None low n rs rise (change-after rs h))

-- One history

-- at its own start the first of rising reigns has the stamp
own-stamp : (r : Reign) (rs : List Reign) → StartsRise r.start rs → stamp_at r.start (r ∷ rs) ≡ Some r.stamp
own-stamp r rs rise =
    stamp-first r.start r rs (omega arith) ∙ ap (λ (o : Option Stamp). option_or o (Some r.stamp)) (stamp-none r.start r.start rs rise (omega arith))

-- where both begin alike, and give one stamp to each number up to n
abbrev Alike : (low n : ℕ) → Option Stamp → List Reign → List Reign → Type 0
Alike low n before rs qs = (k : ℕ) → low < k → k ≤ n → option_or (stamp_at k rs) before ≡ option_or (stamp_at k qs) before

-- a reign that begins where the other list has none yet changes nothing
lone : (low n : ℕ) (before : Option Stamp) (r : Reign) (rs qs : List Reign) → StartsRise low (r ∷ rs) → r.start ≤ n → stamp_at r.start qs ≡ None
    → Alike low n before (r ∷ rs) qs → before ≡ Some r.stamp
lone low n before r rs qs rise within none alike =
    ap (λ (o : Option Stamp). option_or o before) (sym none) ∙ sym (alike r.start rise.0 within)
    ∙ ap (λ (o : Option Stamp). option_or o before) (own-stamp r rs rise.1)

alike-next : (low n : ℕ) (before : Option Stamp) (r : Reign) (rs qs : List Reign) → low < r.start → Alike low n before (r ∷ rs) (r ∷ qs) → Alike r.start n (Some r.stamp) rs qs
alike-next low n before r rs qs past alike k more le =
    let side : (l : List Reign) → option_or (stamp_at k (r ∷ l)) before ≡ option_or (stamp_at k l) (Some r.stamp) = λ l.
    ap (λ (o : Option Stamp). option_or o before) (stamp-first k r l (omega arith)) ∙ or-or (stamp_at k l) r.stamp before in
    sym (side rs) ∙ alike k (omega arith) le ∙ side qs

one-list : (low n : ℕ) (before : Option Stamp) (rs qs : List Reign) → StartsRise low rs → StartsRise low qs → AllBegun n rs → AllBegun n qs
    → ChangeAfter before rs → ChangeAfter before qs → Alike low n before rs qs → rs ≡ qs
one-list low n before [] [] rise up all within h g alike = refl
one-list low n before (r ∷ rs) [] rise up all within h g alike = absurd (h.0 (lone low n before r rs [] rise all.0 refl alike))
one-list low n before [] (q ∷ qs) rise up all within h g alike = absurd (g.0 (lone low n before q qs [] up within.0 refl (λ k more le. sym (alike k more le))))
one-list low n before (r ∷ rs) (q ∷ qs) rise up all within h g alike = elim (cases_lt r.start q.start) [
  | inl first ↦
      let none : stamp_at r.start (q ∷ qs) ≡ None = stamp-later r.start q qs first ∙ stamp-none q.start r.start qs up.1 (omega arith) in
      absurd (h.0 (lone low n before r rs (q ∷ qs) rise all.0 none alike))
  | inr le ↦ elim (cases_lt q.start r.start) [
    | inl first ↦
        let none : stamp_at q.start (r ∷ rs) ≡ None = stamp-later q.start r rs first ∙ stamp-none r.start q.start rs rise.1 (omega arith) in
        absurd (g.0 (lone low n before q qs (r ∷ rs) up within.0 none (λ k more le. sym (alike k more le))))
    | inr ge ↦
        let start : r.start ≡ q.start = omega arith in
        let here = alike r.start rise.0 all.0 in
        let mine : stamp_at r.start (r ∷ rs) ≡ Some r.stamp = own-stamp r rs rise.1 in
        let its : stamp_at r.start (q ∷ qs) ≡ Some q.stamp = ap (λ (k : ℕ). stamp_at k (q ∷ qs)) start ∙ own-stamp q qs up.1 in
        let stamps : Some r.stamp ≡ Some q.stamp =
        ap (λ (o : Option Stamp). option_or o before) (sym mine) ∙ here ∙ ap (λ (o : Option Stamp). option_or o before) its in
        let stamp : r.stamp ≡ q.stamp = cc in
        let same : q ≡ r = sym (λ k. record { stamp = stamp k; start = start k }) in
        let also : StartsRise r.start qs × (AllBegun n qs × (ChangeAfter (Some r.stamp) qs × Alike low n before (r ∷ rs) (r ∷ qs))) =
        subst (λ (x : Reign). StartsRise x.start qs × (AllBegun n qs × (ChangeAfter (Some x.stamp) qs × Alike low n before (r ∷ rs) (x ∷ qs)))) same
        (up.1, (within.1, (g.1, alike))) in
        ap (λ (l : List Reign). r ∷ l)
        (one-list r.start n (Some r.stamp) rs qs rise.1 also.0 all.1 also.1.0 h.1 also.1.1.0 (alike-next low n before r rs qs rise.0 also.1.1.1))
        ∙ ap (λ (x : Reign). x ∷ qs) (sym same)
  ]
]

-- the entry of a number
pub there : (xs : Sequence) (i : ℕ) → i < length xs → (x : Entry) × (slice_get xs i ≡ Some x)
there [] i low = absurd (omega arith)
there (x ∷ xs) zero low = (x, refl)
there (x ∷ xs) (suc i) low = there xs i (omega arith)

-- both tell the stamps of one sequence
alike-stamps : (rs qs : List Reign) (xs : Sequence) → HasStamps rs xs → HasStamps qs xs → (k : ℕ) → 0 < k → k ≤ length xs
    → stamp_at k (begun_by (length xs) rs) ≡ stamp_at k (begun_by (length xs) qs)
alike-stamps rs qs xs h g zero some le = absurd (omega arith)
alike-stamps rs qs xs h g (suc i) some le =
    let x = there xs i (omega arith) in
    stamp-begun (suc i) (length xs) rs le ∙ h i x.0 x.1 ∙ sym (g i x.0 x.1) ∙ sym (stamp-begun (suc i) (length xs) qs le)

pub one : (rs qs : List Reign) (xs : Sequence) → IsHistory rs xs → IsHistory qs xs → begun_by (length xs) rs ≡ begun_by (length xs) qs
one rs qs xs h g = one-list 0 (length xs) None (begun_by (length xs) rs) (begun_by (length xs) qs) h.starts g.starts (all-begun (length xs) rs) (all-begun (length xs) qs)
    (change-after (begun_by (length xs) rs) h.changes) (change-after (begun_by (length xs) qs) g.changes)
    (λ k more le. ap (λ (o : Option Stamp). option_or o None) (alike-stamps rs qs xs h.stamps g.stamps k more le))

-- Fronts

pub of-front : (rs : List Reign) (xs ys : Sequence) → IsHistory rs xs → IsPrefix ys xs → IsHistory rs ys
of-front rs xs ys h p =
    let less = lists.prefix-length ys xs p in
    let same = begun-begun (length ys) (length xs) rs (omega arith) in
    record {
      stamps = λ i e is. h.stamps i e (lists.prefix-get ys xs i e p is);
      starts = subst (StartsRise 0) same (rise-begun 0 (length ys) (begun_by (length xs) rs) h.starts);
      changes = subst StampsChange same (changes-begun 0 (length ys) (begun_by (length xs) rs) h.starts h.changes);
    }

pub front : (rs qs : List Reign) (xs ys : Sequence) → IsHistory rs xs → IsHistory qs ys → IsPrefix ys xs → begun_by (length ys) qs ≡ begun_by (length ys) rs
front rs qs xs ys h g p = one qs rs ys g (of-front rs xs ys h p)

-- other reigns, the same up to the length
pub as-begun : (rs qs : List Reign) (xs : Sequence) → begun_by (length xs) qs ≡ begun_by (length xs) rs → IsHistory rs xs → IsHistory qs xs
as-begun rs qs xs same h = record {
  stamps = λ i e is.
      let low = slice_get_within xs i e is in
      sym (stamp-begun (suc i) (length xs) qs (omega arith)) ∙ ap (stamp_at (suc i)) same ∙ stamp-begun (suc i) (length xs) rs (omega arith) ∙ h.stamps i e is;
  starts = subst (StartsRise 0) (sym same) h.starts;
  changes = subst StampsChange (sym same) h.changes;
}

-- the same up to a number, and the sequence's first entries
pub kept : (n : ℕ) (rs qs : List Reign) (xs : Sequence) → n ≤ length xs → begun_by n qs ≡ begun_by n rs → IsHistory rs xs → IsHistory qs (take n xs)
kept n rs qs xs le same h =
    let size : length (take n xs) ≡ n = length-take-le n xs le in
    as-begun rs qs (take n xs) (subst (λ (k : ℕ). begun_by k qs ≡ begun_by k rs) (sym size) same) (of-front rs xs (take n xs) h (lists.front n xs))

-- reigns that are in order as a whole
pub whole : (rs : List Reign) (xs : Sequence) → HasStamps rs xs → StartsRise 0 rs → StampsChange rs → IsHistory rs xs
whole rs xs stamps starts changes = record {
  stamps = stamps;
  starts = rise-begun 0 (length xs) rs starts;
  changes = changes-begun 0 (length xs) rs starts changes;
}

-- One more reign, behind those that have begun by the length

-- no entry so far has a stamp: so the last reign has another one
pub another-stamp : (rs : List Reign) (xs : Sequence) (s : Stamp) → IsHistory rs xs → ((i : ℕ) (e : Entry) → slice_get xs i ≡ Some e → e.stamp ≡ s → ⊥)
    → stamp_at (length xs) (begun_by (length xs) rs) ≡ Some s → ⊥
another-stamp rs [] s h none is = let no : None ≡ Some s = sym (stamp-none 0 0 (begun_by 0 rs) h.starts (omega arith)) ∙ is in cc
another-stamp rs (x ∷ xs) s h none is =
    let last = there (x ∷ xs) (length xs) (omega arith) in
    let known : stamp_at (suc (length xs)) (begun_by (suc (length xs)) rs) ≡ Some last.0.stamp =
    stamp-begun (suc (length xs)) (suc (length xs)) rs (omega arith) ∙ h.stamps (length xs) last.0 last.1 in
    let same : Some last.0.stamp ≡ Some s = sym known ∙ is in
    none (length xs) last.0 last.1 cc

pub rise-more : (rs : List Reign) (xs : Sequence) (s : Stamp) → IsHistory rs xs → StartsRise 0 (begun_by (length xs) rs ++ reign_from (suc (length xs)) s ∷ [])
rise-more rs xs s h = rise-push 0 (length xs) (begun_by (length xs) rs) (reign_from (suc (length xs)) s) h.starts (all-begun (length xs) rs) (omega arith) (omega arith)

pub changes-more : (rs : List Reign) (xs : Sequence) (s : Stamp) → IsHistory rs xs → (stamp_at (length xs) (begun_by (length xs) rs) ≡ Some s → ⊥)
    → StampsChange (begun_by (length xs) rs ++ reign_from (suc (length xs)) s ∷ [])
changes-more rs xs s h other = changes-push (length xs) (begun_by (length xs) rs) (reign_from (suc (length xs)) s) (all-begun (length xs) rs) h.changes other

-- An entry more, whose reign goes on or is adopted

pub stamps-more : (rs : List Reign) (xs : Sequence) (x : Entry) → HasStamps rs xs → stamp_at (suc (length xs)) rs ≡ Some x.stamp → HasStamps rs (xs ++ x ∷ [])
stamps-more rs xs x stamps last i e is = elim (get-push xs x i e is) [
  | inl old ↦ stamps i e old
  | inr new ↦
      subst (λ (k : ℕ). stamp_at (suc k) rs ≡ Some e.stamp) (sym new.0)
      (subst (λ (y : Entry). stamp_at (suc (length xs)) rs ≡ Some y.stamp) (sym new.1) last)
]

-- what an adopted reign leaves of the earlier ones
pub adopts-begun : (n : ℕ) (s : Stamp) (rs qs : List Reign) → Adopts n s rs qs → begun_by n qs ≡ begun_by n rs
adopts-begun n s rs qs a = sym (begun-begun n (suc n) qs (omega arith)) ∙ elim a [
  | inl on ↦ ap (begun_by n) on.1 ∙ begun-begun n n rs (omega arith)
  | inr new ↦ ap (begun_by n) new.1 ∙ begun-push_late n (begun_by n rs) (reign_from (suc n) s) (omega arith) ∙ begun-begun n n rs (omega arith)
]

adopts-stamp : (n : ℕ) (s : Stamp) (rs qs : List Reign) → Adopts n s rs qs → stamp_at (suc n) qs ≡ Some s
adopts-stamp n s rs qs a = sym (stamp-begun (suc n) (suc n) qs (omega arith)) ∙ elim a [
  | inl on ↦ ap (stamp_at (suc n)) on.1 ∙ stamp-begun_before (suc n) n rs (omega arith) ∙ on.0
  | inr new ↦ ap (stamp_at (suc n)) new.1 ∙ stamp-push (suc n) (begun_by n rs) (reign_from (suc n) s) (omega arith)
]

pub adopted : (rs qs : List Reign) (xs : Sequence) (x : Entry) → IsHistory rs xs → Adopts (length xs) x.stamp rs qs → IsHistory qs (xs ++ x ∷ [])
adopted rs qs xs x h a =
    let n : ℕ = length xs in
    let s : Stamp = x.stamp in
    let size : suc n ≡ length (xs ++ x ∷ []) = let grown = length-append xs (x ∷ []) in omega arith in
    let now : IsHistory qs xs = as-begun rs qs xs (adopts-begun n s rs qs a) h in
    let parts : StartsRise 0 (begun_by (suc n) qs) × StampsChange (begun_by (suc n) qs) = elim a [
      | inl on ↦ (subst (StartsRise 0) (sym on.1) h.starts, subst StampsChange (sym on.1) h.changes)
      | inr new ↦ (
        subst (StartsRise 0) (sym new.1) (rise-more rs xs s h),
        subst StampsChange (sym new.1) (changes-more rs xs s h (λ e. new.0 (sym (stamp-begun n n rs (omega arith)) ∙ e))),
      )
    ] in
    record {
      stamps = stamps-more qs xs x now.stamps (adopts-stamp n s rs qs a);
      starts = subst (λ (k : ℕ). StartsRise 0 (begun_by k qs)) size parts.0;
      changes = subst (λ (k : ℕ). StampsChange (begun_by k qs)) size parts.1;
    }

-- what begins with one number more
pub record BeginsOne (n : ℕ) (rs : List Reign) : Type 0 where
  pub reign : Reign
  pub start : reign.start ≡ suc n
  pub more : begun_by (suc n) rs ≡ begun_by n rs ++ reign ∷ []

one-more : (low n : ℕ) (rs : List Reign) → StartsRise low rs → (begun_by (suc n) rs ≡ begun_by n rs) ⊎ BeginsOne n rs
one-more low n [] rise = inl refl
one-more low n (r ∷ rs) rise = elim (cases_lt n r.start) [
  | inl late ↦
      let none : begun_by n (r ∷ rs) ≡ [] = begun-later n r rs late ∙ none-begun r.start n rs rise.1 (omega arith) in
      elim (cases_lt (suc n) r.start) [
        | inl later ↦ inl (begun-later (suc n) r rs later ∙ none-begun r.start (suc n) rs rise.1 (omega arith) ∙ sym none)
        | inr now ↦ inr (record {
          reign = r;
          start = omega arith;
          more = begun-first (suc n) r rs now ∙ ap (λ (l : List Reign). r ∷ l) (none-begun r.start (suc n) rs rise.1 (omega arith))
              ∙ ap (λ (l : List Reign). l ++ r ∷ []) (sym none);
        })
      ]
  | inr early ↦
      let first : (m : ℕ) → n ≤ m → begun_by m (r ∷ rs) ≡ r ∷ begun_by m rs = λ m le. begun-first m r rs (omega arith) in
      elim (one-more r.start n rs rise.1) [
        | inl same ↦ inl (first (suc n) (omega arith) ∙ ap (λ (l : List Reign). r ∷ l) same ∙ sym (first n (omega arith)))
        | inr b ↦ inr (record {
          reign = b.reign;
          start = b.start;
          more = first (suc n) (omega arith) ∙ ap (λ (l : List Reign). r ∷ l) b.more ∙ ap (λ (l : List Reign). l ++ b.reign ∷ []) (sym (first n (omega arith)));
        })
      ]
]

change-last : (before : Option Stamp) (n : ℕ) (rs : List Reign) (r : Reign) → AllBegun n rs → ChangeAfter before (rs ++ r ∷ []) → option_or (stamp_at n rs) before ≡ Some r.stamp → ⊥
change-last before n [] r all h is = h.0 is
change-last before n (q ∷ rs) r all h is =
    let last : option_or (stamp_at n (q ∷ rs)) before ≡ option_or (stamp_at n rs) (Some q.stamp) =
    ap (λ (o : Option Stamp). option_or o before) (stamp-first n q rs all.0) ∙ or-or (stamp_at n rs) q.stamp before in
    change-last (Some q.stamp) n rs r all.1 h.1 (sym last ∙ is)

-- what a history has for the entry behind a front, as its front adopts it
pub adopts-next : (rs qs : List Reign) (xs ys : Sequence) (s : Stamp) → IsHistory rs xs → IsHistory qs ys → IsPrefix ys xs → length ys < length xs
    → stamp_at (suc (length ys)) rs ≡ Some s → Adopts (length ys) s qs rs
adopts-next rs qs xs ys s h g p low is =
    let n : ℕ = length ys in
    let all : List Reign = begun_by (length xs) rs in
    let its : (k : ℕ) → k ≤ length xs → begun_by k all ≡ begun_by k rs = λ k le. begun-begun k (length xs) rs le in
    let same : begun_by n qs ≡ begun_by n rs = front rs qs xs ys h g p in
    let covered : stamp_at (suc n) (begun_by (suc n) rs) ≡ Some s = stamp-begun (suc n) (suc n) rs (omega arith) ∙ is in
    elim (one-more 0 n all h.starts) [
      | inl on ↦
          let goes_on : begun_by (suc n) rs ≡ begun_by n qs = sym (its (suc n) (omega arith)) ∙ on ∙ its n (omega arith) ∙ sym same in
          inl (sym (stamp-begun_before (suc n) n qs (omega arith)) ∙ ap (stamp_at (suc n)) (sym goes_on) ∙ covered, goes_on)
      | inr b ↦
          let begins : begun_by (suc n) rs ≡ begun_by n qs ++ b.reign ∷ [] =
          sym (its (suc n) (omega arith)) ∙ b.more ∙ ap (λ (l : List Reign). l ++ b.reign ∷ []) (its n (omega arith) ∙ sym same) in
          let start = b.start in
          let last : Some b.reign.stamp ≡ Some s = sym (stamp-push (suc n) (begun_by n qs) b.reign (omega arith)) ∙ ap (stamp_at (suc n)) (sym begins) ∙ covered in
          let stamp : b.reign.stamp ≡ s = cc in
          let reign : b.reign ≡ reign_from (suc n) s = λ k. record { stamp = stamp k; start = start k } in
          let changes : StampsChange (begun_by n qs ++ b.reign ∷ []) =
          subst StampsChange (its (suc n) (omega arith) ∙ begins) (changes-begun 0 (suc n) all h.starts h.changes) in
          inr (
            (λ e. change-last None n (begun_by n qs) b.reign (all-begun n qs) (change-after (begun_by n qs ++ b.reign ∷ []) changes)
                (or_none (stamp_at n (begun_by n qs)) ∙ stamp-begun n n qs (omega arith) ∙ e ∙ ap (λ (x : Stamp). Some x) (sym stamp))),
            begins ∙ ap (λ (r : Reign). begun_by n qs ++ r ∷ []) reign,
          )
    ]
