-- Taking entries in several parts.
use Rattle.std.proofs.Common.{◌≡◌, inl, inr, ℕ, ◌+◌, ◌-◌, ◌≤◌, List, ◌++◌, length, take, drop, map, sym, ap, subst, ◌∙◌, arith, append_assoc, length-append, take-append-drop, take-take}
use Rattle.std.proofs.lemmas.List.{drop-append-le, length-take-le, length-drop, map-append}
use Rattle.global_defs.specs.Entry.{Sequence, Reign}
use Rattle.global_defs.specs.Rising.{StartsRise}
use Rattle.journal_defs.specs.Instance as records
use Rattle.journal_defs.specs.Instance.{InstanceRecord}
use Rattle.site_defs.specs.Contents.{Contents}
use Rattle.lineage_defs.specs.Histories.{begun_within}
use Rattle.feeding_defs.specs.Feeding.{with_begun, joined, fed, fed_before, IsFedTo, MayTake, TakesOn, MayTakeOn}
use Rattle.feeding_defs.proofs.Begun.{within_on}

-- these entries follow on those before them
parts : (all : Sequence) (k m n : ℕ) → k ≤ m → m ≤ n → m ≤ length all → drop k (take m all) ++ drop m (take n all) ≡ drop k (take n all)
parts all k m n km mn le =
    let first : take m all ≡ take m (take n all) = sym (take-take m n all mn) in
    let long : k ≤ length (take m (take n all)) = subst (λ (l : Sequence). k ≤ length l) first (subst (λ (x : ℕ). k ≤ x) (sym (length-take-le m all le)) km) in
    ap (λ (l : Sequence). drop k l ++ drop m (take n all)) first
    ∙ sym (drop-append-le k (take m (take n all)) (drop m (take n all)) long)
    ∙ ap (λ (l : Sequence). drop k l) (take-append-drop m (take n all))

-- a site that has taken up to a number has as many entries
pub taken_length : (all own : Sequence) (m : ℕ) → length own ≤ m → m ≤ length all → length (joined all m own) ≡ m
taken_length all own m low high =
    length-append own (drop (length own) (take m all))
    ∙ (ap (λ (x : ℕ). length own + x) (length-drop (length own) (take m all) ∙ ap (λ (x : ℕ). x - length own) (length-take-le m all high)) ∙ (omega arith))

module _ (rs : List Reign) (all : Sequence) (m : ℕ) (c : Contents) (rise : StartsRise 0 rs) (count : IsFedTo all m c) where
  size : length (joined all m c.sequence) ≡ m
  size = taken_length all c.sequence m count.0 count.1

  sequences : (n : ℕ) → m ≤ n → joined all n (joined all m c.sequence) ≡ joined all n c.sequence
  sequences n le =
      ap (λ (k : ℕ). joined all m c.sequence ++ drop k (take n all)) size
      ∙ append_assoc c.sequence (drop (length c.sequence) (take m all)) (drop m (take n all))
      ∙ ap (λ (l : Sequence). c.sequence ++ l) (parts all (length c.sequence) m n count.0 le count.1)

  instances : (n : ℕ) → m ≤ n → (with_begun rs n (fed rs all m c)).instance ≡ (with_begun rs n c).instance
  instances n le =
      let first = begun_within (length c.sequence) m rs in
      ap (λ (k : ℕ). (c.instance ++ map records.Reigned first) ++ map records.Reigned (begun_within k n rs)) size
      ∙ append_assoc c.instance (map records.Reigned first) (map records.Reigned (begun_within m n rs))
      ∙ ap (λ (l : List InstanceRecord). c.instance ++ l) (sym (map-append records.Reigned first (begun_within m n rs)))
      ∙ ap (λ (l : List Reign). c.instance ++ map records.Reigned l) (within_on (length c.sequence) m n 0 rs rise count.0 le)

  with_both : (i j : List InstanceRecord) (s t : Sequence) → i ≡ j → s ≡ t → record c { instance = i; sequence = s } ≡ record c { instance = j; sequence = t }
  with_both i j s t e f = ap (λ (x : List InstanceRecord). record c { instance = x; sequence = s }) e ∙ ap (λ (x : Sequence). record c { instance = j; sequence = x }) f

  on : (n : ℕ) → m ≤ n → fed rs all n (fed rs all m c) ≡ fed rs all n c
  on n le = with_both _ _ _ _ (instances n le) (sequences n le)

  before_on : (n : ℕ) → m ≤ n → fed_before rs all n (fed rs all m c) ≡ fed_before rs all n c
  before_on n le = with_both _ _ _ _ (instances (n + 1) (omega (arith, le))) (sequences n le)

  left_on : (o : Contents) → MayTake rs all (fed rs all m c) o → MayTake rs all c o
  left_on o (n, within, how) =
      let le : m ≤ n = subst (λ (k : ℕ). k ≤ n) size within.0 in
      let low = count.0 in (
        n,
        (omega (arith, le, low), within.1),
        elim how [
          | inl all_of ↦ inl (all_of ∙ on n le)
          | inr before ↦ inr (before.0, before.1 ∙ before_on n le)
        ],
      )

pub takes_on : TakesOn
takes_on rs all m n c rise count le = on rs all m c rise count n le

pub may_take_on : MayTakeOn
may_take_on rs all m c o rise count t = left_on rs all m c rise count o t
