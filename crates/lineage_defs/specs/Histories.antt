-- Reigns and what they tell of a sequence (GT.M: the history records of the instance file, from which the resync point is found).
use Rattle.std.specs.Prelude.{◌≡◌, ◌≢◌, ◌⊎◌, ℕ, suc, ◌+◌, ◌<◌, ◌≤◌, nat_lt, List, [], ◌∷◌, length, filter, slice_get, Some}
use Rattle.global_defs.specs.declared.limits.TheConstants.{MOST_REIGNS}
use Rattle.global_defs.specs.Entry.{Stamp, Entry, Sequence, Reign}
use Rattle.global_defs.specs.Prefix.{IsPrefix, History, stamp_at}
use Rattle.global_defs.specs.Rising.{StartsRise, begun_by}

-- no two neighbours have one stamp
abbrev pub StampsChange : List Reign → Type 0
StampsChange [] = Unit {0}
StampsChange (r ∷ []) = Unit {0}
StampsChange (r ∷ s ∷ rs) = (r.stamp ≢ s.stamp) × StampsChange (s ∷ rs)

-- each entry has the stamp of its number; the entry at place i has number i + 1
abbrev pub HasStamps : List Reign → Sequence → Type 0
HasStamps reigns seq = (i : ℕ) (e : Entry) → slice_get seq i ≡ Some e → stamp_at (suc i) reigns ≡ Some e.stamp

-- The reigns are a history of the sequence: they tell each entry's stamp, and up to its length each begins where the stamp changes.
pub record IsHistory (reigns : List Reign) (seq : Sequence) : Type 0 where
  pub stamps : HasStamps reigns seq
  pub starts : StartsRise 0 (begun_by (length seq) reigns)
  pub changes : StampsChange (begun_by (length seq) reigns)

-- both have this stamp at number n
abbrev pub BothHave : (n : ℕ) → List Reign → List Reign → Type 0
BothHave n xs ys = (stamp : Stamp) × (stamp_at n xs ≡ Some stamp) × (stamp_at n ys ≡ Some stamp)

-- The common length of two histories: the greatest number, at most both lengths, at which both have one stamp, or 0.
pub record IsCommonOf (t : ℕ) (a b : History) : Type 0 where
  pub in_first : t ≤ a.length
  pub in_second : t ≤ b.length
  pub same : (t ≡ 0) ⊎ BothHave t a.reigns b.reigns
  pub greatest : (n : ℕ) → t < n → n ≤ a.length → n ≤ b.length → BothHave n a.reigns b.reigns → ⊥

-- a history as it is told to another site: without the reigns that begin past its length
abbrev pub told : History → History
told h = record { length = h.length; reigns = begun_by h.length h.reigns }

-- it has no more reigns to tell than a site may tell another one
abbrev pub TellsFew : History → Type 0
TellsFew h = length (told h).reigns ≤ MOST_REIGNS

-- Their history goes on from the whole of mine, which can be told.
pub record IsMatched (theirs mine : History) : Type 0 where
  pub few : TellsFew mine
  pub whole : IsCommonOf mine.length theirs mine

-- They share fewer entries than mine has, which can be told, and the next one has that number.
pub record IsParted (n : ℕ) (theirs mine : History) : Type 0 where
  pub few : TellsFew mine
  pub shared : ℕ
  pub common : IsCommonOf shared theirs mine
  pub fewer : shared < mine.length
  pub next : n ≡ shared + 1

-- the reigns that begin past number m, up to n
abbrev pub begun_within : (m n : ℕ) → List Reign → List Reign
begun_within m n rs = filter (λ r. nat_lt m r.start) (begun_by n rs)

-- the longest sequence with which both begin
pub record IsLongestCommon (shared xs ys : Sequence) : Type 0 where
  pub of_first : IsPrefix shared xs
  pub of_second : IsPrefix shared ys
  pub longest : (p : Sequence) → IsPrefix p xs → IsPrefix p ys → IsPrefix p shared
