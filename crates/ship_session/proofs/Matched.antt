-- A site that follows its primary stays matched.
use Rattle.std.proofs.Common.{◌≡◌, ◌⊎◌, inl, inr, ℕ, zero, suc, ◌+◌, ◌-◌, ◌<◌, ◌≤◌, nat_le, List, [], ◌∷◌, ◌++◌, length, take, drop, Option, Some, None, refl, sym, ap, ◌∙◌, arith, length-append, if◌then◌else◌}
use Rattle.std.specs.Prelude.{slice_get}
use Rattle.std.specs.Option.{option_or}
use Rattle.std.proofs.lemmas.List.{length-drop, length-take-le}
use Rattle.global_defs.specs.Entry.{Stamp, Sequence, Reign}
use Rattle.global_defs.specs.Entry as defs
use Rattle.global_defs.specs.Prefix as prefix
use Rattle.global_defs.specs.Prefix.{stamp_at}
use Rattle.global_defs.specs.Rising.{StartsRise}
use Rattle.global_defs.proofs.Basics.{or_none}
use Rattle.lineage_defs.specs.Histories.{BothHave, IsCommonOf, TellsFew, IsMatched, IsParted, begun_within}
use Rattle.resync_core.proofs.BegunReigns.{stamp-first, stamp-later, stamp-none, stamp-begun_before}
use Rattle.update_process.specs.Copies.{Copy, history_of}
use Rattle.session_turns.specs.Following.{IsFitCopy}
use Rattle.session_turns.proofs.Gains.{within_past, within_before, within_here}
use Rattle.session_turns.proofs.Walk.{all_begun}
use Rattle.ship_session.specs.Ends.{Gives, HasJoined}

or_assoc : (a b c : Option Stamp) → option_or (option_or a b) c ≡ option_or a (option_or b c)
or_assoc None b c = refl
or_assoc (Some x) b c = refl

stamp_append : (n : ℕ) (xs ys : List Reign) → stamp_at n (xs ++ ys) ≡ option_or (stamp_at n ys) (stamp_at n xs)
stamp_append n [] ys = sym (or_none (stamp_at n ys))
stamp_append n (x ∷ xs) ys =
    ap (λ (o : Option Stamp). option_or o (if nat_le x.start n then Some x.stamp else None)) (stamp_append n xs ys) ∙ or_assoc (stamp_at n ys) (stamp_at n xs) (if nat_le x.start n then Some x.stamp else None)

places : (m n k : ℕ) → (k ≤ m) ⊎ (((m < k) × (k ≤ n)) ⊎ (n < k))
places m n k = grind arith

-- the stamp of a number is that of the reigns that begin past an earlier one, or else that of the earlier one
stamp_split : (m n low : ℕ) (rs : List Reign) → StartsRise low rs → m ≤ n → stamp_at n rs ≡ option_or (stamp_at n (begun_within m n rs)) (stamp_at m rs)
stamp_split m n low [] rise le = refl
stamp_split m n low (r ∷ rs) rise le =
    let later = stamp_split m n r.start rs rise.1 le in
    let past = stamp_at n (begun_within m n rs) in
    elim (places m n r.start) [
      | inl before ↦ stamp-first n r rs (omega (arith, before, le)) ∙ (ap (λ (o : Option Stamp). option_or o (Some r.stamp)) later ∙ (or_assoc past (stamp_at m rs) (Some r.stamp)
          ∙ (ap (λ (o : Option Stamp). option_or past o) (sym (stamp-first m r rs before)) ∙ ap (λ (l : List Reign). option_or (stamp_at n l) (stamp_at m (r ∷ rs))) (sym (within_before m n r rs before)))))
      | inr (inl here) ↦ (
          let none : stamp_at m rs ≡ None = stamp-none r.start m rs rise.1 (let a = here.0 in omega (arith, a)) in
          stamp-first n r rs here.1 ∙ (ap (λ (o : Option Stamp). option_or o (Some r.stamp)) (later ∙ (ap (λ (o : Option Stamp). option_or past o) none ∙ or_none past))
          ∙ (sym (stamp-first n r (begun_within m n rs) here.1) ∙ (sym (or_none (stamp_at n (r ∷ begun_within m n rs)))
          ∙ (ap (λ (o : Option Stamp). option_or (stamp_at n (r ∷ begun_within m n rs)) o) (sym (stamp-later m r rs here.0 ∙ none)) ∙ ap (λ (l : List Reign). option_or (stamp_at n l) (stamp_at m (r ∷ rs))) (sym (within_here m n r rs here.0 here.1)))))))
      | inr (inr out) ↦ stamp-later n r rs out ∙ (later ∙ (ap (λ (o : Option Stamp). option_or past o) (sym (stamp-later m r rs (omega (arith, out, le))))
          ∙ ap (λ (l : List Reign). option_or (stamp_at n l) (stamp_at m (r ∷ rs))) (sym (within_past m n r rs out))))
    ]

zero_or : (n : ℕ) → (n ≡ 0) ⊎ ((k : ℕ) × (n ≡ suc k))
zero_or zero = inl refl
zero_or (suc k) = inr (k, refl)

entry_there : (all : Sequence) (k : ℕ) → k < length all → (e : defs.Entry) × (slice_get all k ≡ Some e)
entry_there [] k less = absurd (omega (arith, less))
entry_there (e ∷ all) zero less = (e, refl)
entry_there (e ∷ all) (suc k) less = entry_there all k (omega (arith, less))

pub not_matched : (n : ℕ) (theirs mine : prefix.History) → IsParted n theirs mine → IsMatched theirs mine → ⊥
not_matched n theirs mine parted matched =
    let fewer = parted.fewer in
    let whole = matched.whole in
    elim whole.same [
      | inl none ↦ absurd (omega (arith, none, fewer))
      | inr both ↦ parted.common.greatest mine.length fewer whole.in_first whole.in_second both
    ]

module _ (Is : ℕ → List ℕ → Type 0) (theirs : prefix.History) (all : Sequence) (gives : Gives Is theirs all) (rise : StartsRise 0 theirs.reigns) (old now : Copy) (fit : IsFitCopy old)
    (few : TellsFew (history_of now)) (matched : IsMatched theirs (history_of old)) (j : HasJoined theirs all old now) where
  length_is : length now.sequence ≡ length old.sequence + j.count
  length_is =
      ap (λ (l : Sequence). length l) j.sequence
      ∙ (length-append old.sequence (take j.count (drop (length old.sequence) all)) ∙ ap (λ (k : ℕ). length old.sequence + k) (length-take-le j.count (drop (length old.sequence) all) j.few))

  within_all : length now.sequence ≤ length all
  within_all =
      let size = length_is in
      let some = j.few in
      let left = length-drop (length old.sequence) all in
      let first = matched.whole.in_first in
      let both = gives.size in
      omega (arith, size, some, left, first, both)

  -- at the old length the stamps are one, or there is none
  old_stamp : (stamp_at (length old.sequence) old.reigns ≡ stamp_at (length old.sequence) theirs.reigns) ⊎ (stamp_at (length old.sequence) theirs.reigns ≡ None)
  old_stamp = elim matched.whole.same [
    | inl none ↦ inr (ap (λ (n : ℕ). stamp_at n theirs.reigns) none ∙ stamp-none 0 0 theirs.reigns rise (omega arith))
    | inr both ↦ inl (both.2 ∙ sym both.1)
  ]

  now_stamp : (s : Stamp) → stamp_at (length now.sequence) theirs.reigns ≡ Some s → stamp_at (length now.sequence) now.reigns ≡ Some s
  now_stamp s is =
      let n = length now.sequence in
      let m = length old.sequence in
      let size = length_is in
      let le : m ≤ n = omega (arith, size) in
      let past = stamp_at n (begun_within m n theirs.reigns) in
      let own : now.reigns ≡ old.reigns ++ begun_within m n theirs.reigns = j.reigns ∙ ap (λ (k : ℕ). old.reigns ++ begun_within m k theirs.reigns) (sym size) in
      let mine : stamp_at n now.reigns ≡ option_or past (stamp_at m old.reigns)
      = ap (stamp_at n) own ∙ (stamp_append n old.reigns (begun_within m n theirs.reigns) ∙ ap (λ (o : Option Stamp). option_or past o) (ap (stamp_at n) (sym (all_begun m old.reigns fit)) ∙ stamp-begun_before n m old.reigns le)) in
      let split = stamp_split m n 0 theirs.reigns rise le in
      elim old_stamp [
        | inl same ↦ mine ∙ (ap (λ (o : Option Stamp). option_or past o) same ∙ (sym split ∙ is))
        | inr none ↦ (
            let there : past ≡ Some s = sym (or_none past) ∙ (ap (λ (o : Option Stamp). option_or past o) (sym none) ∙ (sym split ∙ is)) in
            mine ∙ ap (λ (o : Option Stamp). option_or o (stamp_at m old.reigns)) there)
      ]

  stamps_now : (length now.sequence ≡ 0) ⊎ BothHave (length now.sequence) theirs.reigns now.reigns
  stamps_now = elim (zero_or (length now.sequence)) [
    | inl none ↦ inl none
    | inr more ↦ (
        let size = within_all in
        let is = more.1 in
        let there = entry_there all more.0 (omega (arith, size, is)) in
        let s = there.0.stamp in
        let first : stamp_at (length now.sequence) theirs.reigns ≡ Some s = ap (λ (n : ℕ). stamp_at n theirs.reigns) is ∙ gives.stamps more.0 there.0 there.1 in
        inr (s, first, now_stamp s first))
  ]

  pub matched_on : IsMatched theirs (history_of now)
  matched_on =
      let size = within_all in
      let both = gives.size in
      record {
        few = few;
        whole = record {
          in_first = omega (arith, size, both);
          in_second = omega arith;
          same = stamps_now;
          greatest = λ n less a b same. absurd (omega (arith, less, b));
        };
      }
