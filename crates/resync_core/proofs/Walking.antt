-- A walk over the reigns of two histories, from the last ones on.
use Rattle.std.proofs.Common.{◌≡◌, ◌⊎◌, inl, inr, ℕ, ◌-◌, ◌<◌, ◌≤◌, List, [], ◌∷◌, ◌++◌, Some, None, sym, ◌∙◌, ap, arith}
use Rattle.std.proofs.lemmas.Bool.{cases_lt}
use Rattle.global_defs.specs.Entry.{Stamp, Reign}
use Rattle.global_defs.specs.Prefix.{History, stamp_at}
use Rattle.lineage_defs.specs.Histories.{BothHave, IsCommonOf}
use Rattle.resync_core.proofs.BegunReigns.{stamp-push, stamp-push_late}

-- At no number past this one both have one stamp, and up to it the reigns that are left give all stamps.
pub record IsWalked (a b : History) (most : ℕ) (first second : List Reign) : Type 0 where
  pub in_first : most ≤ a.length
  pub in_second : most ≤ b.length
  pub first_left : (n : ℕ) → 0 < n → n ≤ most → stamp_at n first ≡ stamp_at n a.reigns
  pub second_left : (n : ℕ) → 0 < n → n ≤ most → stamp_at n second ≡ stamp_at n b.reigns
  pub past : (n : ℕ) → most < n → n ≤ a.length → n ≤ b.length → BothHave n a.reigns b.reigns → ⊥

pub begins : (a b : History) (most : ℕ) → most ≤ a.length → most ≤ b.length → (a.length ≤ most) ⊎ (b.length ≤ most) → IsWalked a b most a.reigns b.reigns
begins a b most low also all = record {
  in_first = low;
  in_second = also;
  first_left = λ n some le. λ k. stamp_at n a.reigns;
  second_left = λ n some le. λ k. stamp_at n b.reigns;
  past = λ n more within inside have. elim all [ inl one ↦ omega arith | inr other ↦ omega arith ];
}

-- a reign that begins later is passed over
pub first-passed : (a b : History) (most : ℕ) (xs ys : List Reign) (r : Reign) → IsWalked a b most (xs ++ r ∷ []) ys → most < r.start → IsWalked a b most xs ys
first-passed a b most xs ys r w late = record {
  in_first = w.in_first;
  in_second = w.in_second;
  first_left = λ n some le. sym (stamp-push_late n xs r (omega arith)) ∙ w.first_left n some le;
  second_left = w.second_left;
  past = w.past;
}

pub second-passed : (a b : History) (most : ℕ) (xs ys : List Reign) (q : Reign) → IsWalked a b most xs (ys ++ q ∷ []) → most < q.start → IsWalked a b most xs ys
second-passed a b most xs ys q w late = record {
  in_first = w.in_first;
  in_second = w.in_second;
  first_left = w.first_left;
  second_left = λ n some le. sym (stamp-push_late n ys q (omega arith)) ∙ w.second_left n some le;
  past = w.past;
}

-- where both last reigns have begun they give the stamps
first-stamp : (a b : History) (most n : ℕ) (xs ys : List Reign) (r : Reign) → IsWalked a b most (xs ++ r ∷ []) ys → 0 < n → n ≤ most → r.start ≤ n → stamp_at n a.reigns ≡ Some r.stamp
first-stamp a b most n xs ys r w some le by = sym (w.first_left n some le) ∙ stamp-push n xs r by

second-stamp : (a b : History) (most n : ℕ) (xs ys : List Reign) (q : Reign) → IsWalked a b most xs (ys ++ q ∷ []) → 0 < n → n ≤ most → q.start ≤ n → stamp_at n b.reigns ≡ Some q.stamp
second-stamp a b most n xs ys q w some le by = sym (w.second_left n some le) ∙ stamp-push n ys q by

pub meets : (a b : History) (most : ℕ) (xs ys : List Reign) (r q : Reign) → IsWalked a b most (xs ++ r ∷ []) (ys ++ q ∷ []) → r.start ≤ most → q.start ≤ most → r.stamp ≡ q.stamp → IsCommonOf most a b
meets a b most xs ys r q w by also same = record {
  in_first = w.in_first;
  in_second = w.in_second;
  same = elim (cases_lt 0 most) [
    | inl some ↦ inr (
      r.stamp,
      first-stamp a b most most xs (ys ++ q ∷ []) r w some (omega arith) by,
      second-stamp a b most most (xs ++ r ∷ []) ys q w some (omega arith) also ∙ ap (λ (s : Stamp). Some s) (sym same),
    )
    | inr none ↦ inl (omega arith)
  ];
  greatest = w.past;
}

-- while both are the last ones no number has one stamp
apart : (a b : History) (most n : ℕ) (xs ys : List Reign) (r q : Reign) → IsWalked a b most (xs ++ r ∷ []) (ys ++ q ∷ []) → (r.stamp ≡ q.stamp → ⊥)
    → 0 < n → r.start ≤ n → q.start ≤ n → n ≤ a.length → n ≤ b.length → BothHave n a.reigns b.reigns → ⊥
apart a b most n xs ys r q w differ some by also within inside have = elim (cases_lt most n) [
  | inl more ↦ w.past n more within inside have
  | inr le ↦
      let mine = first-stamp a b most n xs (ys ++ q ∷ []) r w some le by in
      let its = second-stamp a b most n (xs ++ r ∷ []) ys q w some le also in
      let same : Some r.stamp ≡ Some q.stamp = sym mine ∙ have.1 ∙ sym have.2 ∙ its in
      let one : r.stamp ≡ q.stamp = cc in
      differ one
]

pub first-parts : (a b : History) (most : ℕ) (xs ys : List Reign) (r q : Reign) → IsWalked a b most (xs ++ r ∷ []) (ys ++ q ∷ []) → (r.stamp ≡ q.stamp → ⊥)
    → r.start ≤ most → q.start ≤ r.start → IsWalked a b (r.start - 1) xs (ys ++ q ∷ [])
first-parts a b most xs ys r q w differ by order =
    let low = w.in_first in let also = w.in_second in
    record {
      in_first = omega arith;
      in_second = omega arith;
      first_left = λ n some le. sym (stamp-push_late n xs r (omega arith)) ∙ w.first_left n some (omega arith);
      second_left = λ n some le. w.second_left n some (omega arith);
      past = λ n more within inside. apart a b most n xs ys r q w differ (omega arith) (omega arith) (omega arith) within inside;
    }

pub second-parts : (a b : History) (most : ℕ) (xs ys : List Reign) (r q : Reign) → IsWalked a b most (xs ++ r ∷ []) (ys ++ q ∷ []) → (r.stamp ≡ q.stamp → ⊥)
    → q.start ≤ most → r.start < q.start → IsWalked a b (q.start - 1) (xs ++ r ∷ []) ys
second-parts a b most xs ys r q w differ by order =
    let low = w.in_first in let also = w.in_second in
    record {
      in_first = omega arith;
      in_second = omega arith;
      first_left = λ n some le. w.first_left n some (omega arith);
      second_left = λ n some le. sym (stamp-push_late n ys q (omega arith)) ∙ w.second_left n some (omega arith);
      past = λ n more within inside. apart a b most n xs ys r q w differ (omega arith) (omega arith) (omega arith) within inside;
    }

-- one of them has no reign left
none-shared : (a b : History) (most : ℕ) (xs ys : List Reign) → IsWalked a b most xs ys → (xs ≡ []) ⊎ (ys ≡ []) → (n : ℕ) → 0 < n → n ≤ most → BothHave n a.reigns b.reigns → ⊥
none-shared a b most xs ys w empty n some le have = elim empty [
  | inl first ↦ let none : None ≡ Some have.0 = ap (stamp_at n) (sym first) ∙ w.first_left n some le ∙ have.1 in cc
  | inr second ↦ let none : None ≡ Some have.0 = ap (stamp_at n) (sym second) ∙ w.second_left n some le ∙ have.2 in cc
]

pub ends : (a b : History) (most : ℕ) (xs ys : List Reign) → IsWalked a b most xs ys → (xs ≡ []) ⊎ (ys ≡ []) → IsCommonOf 0 a b
ends a b most xs ys w empty = record {
  in_first = omega arith;
  in_second = omega arith;
  same = inl (λ k. 0);
  greatest = λ n some within inside have. elim (cases_lt most n) [
    | inl more ↦ w.past n more within inside have
    | inr le ↦ none-shared a b most xs ys w empty n some le have
  ];
}
