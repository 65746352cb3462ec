-- What a site takes of another one's entries (GT.M: the Update Process of a Receiver Server).
use Rattle.std.specs.Prelude.{◌≡◌, ◌⊎◌, ℕ, ◌+◌, ◌≤◌, ◌<◌, Bool, IsTrue, List, ◌++◌, length, map, take, drop}
use Rattle.global_defs.specs.Entry.{Sequence, Reign}
use Rattle.global_defs.specs.Prefix.{History}
use Rattle.global_defs.specs.Rising.{StartsRise}
use Rattle.journal_defs.specs.Instance as records
use Rattle.journal_defs.specs.Surviving.{reigns}
use Rattle.site_defs.specs.Contents.{Contents, Standing, bare}
use Rattle.site_defs.specs.Behind.{MayStand}
use Rattle.lineage_defs.specs.Histories as histories
use Rattle.lineage_defs.specs.Histories.{begun_within}

-- a site's history, as its files have it
abbrev pub history_of : Contents → History
history_of c = record { length = length c.sequence; reigns = reigns c.instance }

-- as many reigns as a HELLO may tell have begun by its length, and no more
abbrev pub TellsFew : Contents → Type 0
TellsFew c = histories.TellsFew (history_of c)

-- the one's history goes on from the whole of the other one's
abbrev pub IsMatched : (primary c : Contents) → Type 0
IsMatched primary c = histories.IsMatched (history_of primary) (history_of c)

-- they share fewer entries than the other one has, and the next one has that number
abbrev pub IsParted : ℕ → (primary c : Contents) → Type 0
IsParted n primary c = histories.IsParted n (history_of primary) (history_of c)

-- with the records of the reigns that begin past its entries, up to number n
abbrev pub with_begun : List Reign → ℕ → Contents → Contents
with_begun rs n c = record c { instance = c.instance ++ map records.Reigned (begun_within (length c.sequence) n rs) }

-- these entries behind its own, up to number n
abbrev pub joined : Sequence → ℕ → Sequence → Sequence
joined all n own = own ++ drop (length own) (take n all)

-- with these entries up to number n, each under its reign
abbrev pub fed : List Reign → Sequence → ℕ → Contents → Contents
fed rs all n c = record (with_begun rs n c) { sequence = joined all n c.sequence }

-- with those up to number n, and the reign that the next one begins, where one begins there
abbrev pub fed_before : List Reign → Sequence → ℕ → Contents → Contents
fed_before rs all n c = record (with_begun rs (n + 1) c) { sequence = joined all n c.sequence }

-- as many entries as it has, or more of these
abbrev pub IsFedTo : Sequence → ℕ → Contents → Type 0
IsFedTo all n c = (length c.sequence ≤ n) × (n ≤ length all)

-- what taking them may leave: the first few, and perhaps the reign that the next one begins
abbrev pub MayTake : List Reign → Sequence → Contents → Contents → Type 0
MayTake rs all c o = (n : ℕ) × IsFedTo all n c × ((o ≡ fed rs all n c) ⊎ ((n < length all) × (o ≡ fed_before rs all n c)))

-- and with what lies behind: perhaps some parts of the next one
abbrev pub MayTakeLeft : List Reign → Sequence → Standing → Standing → Type 0
MayTakeLeft rs all s o = (n : ℕ) × IsFedTo all n s.contents
    × ((o ≡ bare (fed rs all n s.contents)) ⊎ ((n < length all) × MayStand (with_begun rs (n + 1) s.contents) (joined all n s.contents.sequence) (joined all (n + 1) s.contents.sequence) o))

-- What came over links: the primary's entries with its reigns, where they tell their bytes.
pub record Came (told : Bool) (from : Contents) : Type 0 where
  pub reigns_then : List Reign
  pub entries : Sequence
  pub own : IsTrue told → (reigns_then ≡ reigns from.instance) × (entries ≡ from.sequence)

-- The histories match, and it was taken up to number n.
pub record HasTaken (told : Bool) (from : Contents) (n : ℕ) (c o : Contents) : Type 0 where
  pub matched : IsTrue told → IsMatched from c
  pub came : Came told from
  pub count : IsFedTo came.entries n c
  pub is : o ≡ fed came.reigns_then came.entries n c

-- what taking may leave, whatever came
abbrev pub MayTakeOf : Bool → Contents → Contents → Contents → Type 0
MayTakeOf told from c o = (o ≡ c) ⊎ ((came : Came told from) × MayTake came.reigns_then came.entries c o × (IsTrue told → IsMatched from c))

abbrev pub MayTakeLeftOf : Bool → Contents → Standing → Standing → Type 0
MayTakeLeftOf told from s o = (o ≡ s) ⊎ ((came : Came told from) × MayTakeLeft came.reigns_then came.entries s o × (IsTrue told → IsMatched from s.contents))

-- Taking goes on: entries up to a number, and then up to a later one, are those up to the later one.
abbrev pub TakesOn : Type 0
TakesOn = (rs : List Reign) (all : Sequence) (m n : ℕ) (c : Contents) → StartsRise 0 rs → IsFedTo all m c → m ≤ n → fed rs all n (fed rs all m c) ≡ fed rs all n c

-- so what it may leave then it may have left at once
abbrev pub MayTakeOn : Type 0
MayTakeOn = (rs : List Reign) (all : Sequence) (m : ℕ) (c o : Contents) → StartsRise 0 rs → IsFedTo all m c → MayTake rs all (fed rs all m c) o → MayTake rs all c o
