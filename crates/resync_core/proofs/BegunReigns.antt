-- Reigns that have begun by a number, and stamps by them.
use Rattle.std.proofs.Common.{◌≡◌, inl, inr, ℕ, ◌<◌, ◌≤◌, nat_le, Bool, true, false, List, [], ◌∷◌, ◌++◌, length, Option, Some, None, refl, sym, ◌∙◌, ap, subst, arith, if◌then◌else◌}
use Rattle.std.proofs.lemmas.Bool.{cases_lt}
use Rattle.std.proofs.lemmas.Bool.Decides.{nat_tests}
use Rattle.std.specs.List.{AllByRecursion}
use Rattle.std.specs.Option.{option_or}
use Rattle.global_defs.specs.Entry.{Stamp, Reign}
use Rattle.global_defs.specs.Prefix.{stamp_at}
use Rattle.global_defs.specs.Rising.{StartsRise, begun_by}
use Rattle.global_defs.proofs.Basics.{or_none}

not_begun : (n : ℕ) (r : Reign) → n < r.start → nat_le r.start n ≡ false
not_begun n r low = grind (arith, nat_tests)

has_begun : (n : ℕ) (r : Reign) → r.start ≤ n → nat_le r.start n ≡ true
has_begun n r le = grind (arith, nat_tests)

-- the first reign has begun, or it hasn't
pub begun-first : (n : ℕ) (r : Reign) (rs : List Reign) → r.start ≤ n → begun_by n (r ∷ rs) ≡ r ∷ begun_by n rs
begun-first n r rs le = ap (λ (b : Bool). if b then r ∷ begun_by n rs else begun_by n rs) (has_begun n r le)

pub begun-later : (n : ℕ) (r : Reign) (rs : List Reign) → n < r.start → begun_by n (r ∷ rs) ≡ begun_by n rs
begun-later n r rs low = ap (λ (b : Bool). if b then r ∷ begun_by n rs else begun_by n rs) (not_begun n r low)

-- of the reigns that have begun by a later number
pub begun-begun : (n m : ℕ) (rs : List Reign) → n ≤ m → begun_by n (begun_by m rs) ≡ begun_by n rs
begun-begun n m [] le = refl
begun-begun n m (r ∷ rs) le = elim (cases_lt m r.start) [
  | inl late ↦
      ap (begun_by n) (begun-later m r rs late) ∙ begun-begun n m rs le ∙ sym (begun-later n r rs (omega arith))
  | inr by ↦ elim (cases_lt n r.start) [
    | inl late ↦
        ap (begun_by n) (begun-first m r rs by) ∙ begun-later n r (begun_by m rs) late ∙ begun-begun n m rs le ∙ sym (begun-later n r rs late)
    | inr early ↦
        ap (begun_by n) (begun-first m r rs by) ∙ begun-first n r (begun_by m rs) early ∙ ap (λ (l : List Reign). r ∷ l) (begun-begun n m rs le)
        ∙ sym (begun-first n r rs early)
  ]
]

pub begun-push : (n : ℕ) (rs : List Reign) (r : Reign) → r.start ≤ n → begun_by n (rs ++ r ∷ []) ≡ begun_by n rs ++ r ∷ []
begun-push n [] r le = begun-first n r [] le
begun-push n (q ∷ rs) r le = elim (cases_lt n q.start) [
  | inl late ↦ begun-later n q (rs ++ r ∷ []) late ∙ begun-push n rs r le ∙ ap (λ (l : List Reign). l ++ r ∷ []) (sym (begun-later n q rs late))
  | inr early ↦
      begun-first n q (rs ++ r ∷ []) early ∙ ap (λ (l : List Reign). q ∷ l) (begun-push n rs r le)
      ∙ ap (λ (l : List Reign). l ++ r ∷ []) (sym (begun-first n q rs early))
]

pub begun-push_late : (n : ℕ) (rs : List Reign) (r : Reign) → n < r.start → begun_by n (rs ++ r ∷ []) ≡ begun_by n rs
begun-push_late n [] r low = begun-later n r [] low
begun-push_late n (q ∷ rs) r low = elim (cases_lt n q.start) [
  | inl late ↦ begun-later n q (rs ++ r ∷ []) late ∙ begun-push_late n rs r low ∙ sym (begun-later n q rs late)
  | inr early ↦
      begun-first n q (rs ++ r ∷ []) early ∙ ap (λ (l : List Reign). q ∷ l) (begun-push_late n rs r low) ∙ sym (begun-first n q rs early)
]

abbrev pub AllBegun : ℕ → List Reign → Type 0
AllBegun n rs = AllByRecursion (λ r. r.start ≤ n) rs

pub all-begun : (n : ℕ) (rs : List Reign) → AllBegun n (begun_by n rs)
all-begun n [] = tt
all-begun n (r ∷ rs) = elim (cases_lt n r.start) [
  | inl late ↦ subst (AllBegun n) (sym (begun-later n r rs late)) (all-begun n rs)
  | inr early ↦ subst (AllBegun n) (sym (begun-first n r rs early)) (early, all-begun n rs)
]

pub length-begun : (n : ℕ) (rs : List Reign) → length (begun_by n rs) ≤ length rs
length-begun n [] = omega arith
length-begun n (r ∷ rs) = elim (cases_lt n r.start) [
  | inl late ↦ let less = length-begun n rs in let same = ap length (begun-later n r rs late) in omega arith
  | inr early ↦ let less = length-begun n rs in let same = ap length (begun-first n r rs early) in omega arith
]

pub fewer-begun : (n m : ℕ) (rs : List Reign) → n ≤ m → length (begun_by n rs) ≤ length (begun_by m rs)
fewer-begun n m rs le = subst (λ (l : List Reign). length l ≤ length (begun_by m rs)) (begun-begun n m rs le) (length-begun n (begun_by m rs))

-- Stamps

pub stamp-push_late : (n : ℕ) (rs : List Reign) (r : Reign) → n < r.start → stamp_at n (rs ++ r ∷ []) ≡ stamp_at n rs
stamp-push_late n [] r low = ap (λ (b : Bool). if b then Some r.stamp else None) (not_begun n r low)
stamp-push_late n (q ∷ rs) r low = ap (λ (o : Option Stamp). option_or o (if nat_le q.start n then Some q.stamp else None)) (stamp-push_late n rs r low)

pub stamp-push : (n : ℕ) (rs : List Reign) (r : Reign) → r.start ≤ n → stamp_at n (rs ++ r ∷ []) ≡ Some r.stamp
stamp-push n [] r le = ap (λ (b : Bool). if b then Some r.stamp else None) (has_begun n r le)
stamp-push n (q ∷ rs) r le = ap (λ (o : Option Stamp). option_or o (if nat_le q.start n then Some q.stamp else None)) (stamp-push n rs r le)

-- the first reign gives a stamp where no other one does
pub stamp-first : (n : ℕ) (r : Reign) (rs : List Reign) → r.start ≤ n → stamp_at n (r ∷ rs) ≡ option_or (stamp_at n rs) (Some r.stamp)
stamp-first n r rs le = ap (λ (b : Bool). option_or (stamp_at n rs) (if b then Some r.stamp else None)) (has_begun n r le)

pub stamp-later : (n : ℕ) (r : Reign) (rs : List Reign) → n < r.start → stamp_at n (r ∷ rs) ≡ stamp_at n rs
stamp-later n r rs low = ap (λ (b : Bool). option_or (stamp_at n rs) (if b then Some r.stamp else None)) (not_begun n r low) ∙ or_none (stamp_at n rs)

-- of those that have begun by m, at a number up to m
pub stamp-begun : (n m : ℕ) (rs : List Reign) → n ≤ m → stamp_at n (begun_by m rs) ≡ stamp_at n rs
stamp-begun n m [] le = refl
stamp-begun n m (r ∷ rs) le = elim (cases_lt m r.start) [
  | inl late ↦ ap (stamp_at n) (begun-later m r rs late) ∙ stamp-begun n m rs le ∙ sym (stamp-later n r rs (omega arith))
  | inr by ↦
      ap (stamp_at n) (begun-first m r rs by)
      ∙ ap (λ (o : Option Stamp). option_or o (if nat_le r.start n then Some r.stamp else None)) (stamp-begun n m rs le)
]

-- and at a number past it, as none begins between
pub stamp-begun_before : (n m : ℕ) (rs : List Reign) → m ≤ n → stamp_at n (begun_by m rs) ≡ stamp_at m rs
stamp-begun_before n m [] le = refl
stamp-begun_before n m (r ∷ rs) le = elim (cases_lt m r.start) [
  | inl late ↦ ap (stamp_at n) (begun-later m r rs late) ∙ stamp-begun_before n m rs le ∙ sym (stamp-later m r rs late)
  | inr by ↦
      ap (stamp_at n) (begun-first m r rs by) ∙ stamp-first n r (begun_by m rs) (omega arith)
      ∙ ap (λ (o : Option Stamp). option_or o (Some r.stamp)) (stamp-begun_before n m rs le) ∙ sym (stamp-first m r rs by)
]

-- none has begun before all starts
pub stamp-none : (low n : ℕ) (rs : List Reign) → StartsRise low rs → n ≤ low → stamp_at n rs ≡ None
stamp-none low n [] rise le = refl
stamp-none low n (r ∷ rs) rise le = let past = rise.0 in stamp-later n r rs (omega arith) ∙ stamp-none r.start n rs rise.1 (omega arith)
