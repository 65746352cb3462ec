-- The entries of a direction's bytes, and a session's sequences. (GT.M: what a Source Server sent, what a Receiver Server put into the
-- receive pool, and what an Update Process applied.)
use Rattle.std.specs.Prelude.{◌≡◌, ◌⊎◌, ℕ, ◌+◌, List, [], ◌∷◌, ◌++◌, Option, Some, None}
use Rattle.std.specs.Option.{option_or}
use Rattle.global_defs.specs.Entry.{Transaction, Sequence, Reign}
use Rattle.global_defs.specs.Entry as entries
use Rattle.global_defs.specs.Fields.{IsNumber, IsTransaction, IsReign}
use Rattle.global_defs.specs.Prefix.{IsPrefix}
use Rattle.lineage_defs.specs.Lineage.{FourPrefixes}
use Rattle.wire_defs.specs.Frames.{Frame, Hello, Resume, RollbackFirst, History, Entry, Bye, AreFrames, BeginsFrame, BeginsNone, offset_after}

-- an entry as it came: where its frame begins, its number, what it does, and the reign whose HISTORY came right before it
pub record Arrival : Type 0 where
  pub at : ℕ
  pub number : ℕ
  pub transaction : Transaction
  pub reign : Option Reign

-- the reign begins with the arrival
abbrev pub BeginsWith : Arrival → Reign → Type 0
BeginsWith x r = (x.reign ≡ Some r) × (r.start ≡ x.number)

-- an arrival of its form; number 1 comes with the reign that it begins
pub record IsArrival (x : Arrival) : Type 0 where
  pub number : IsNumber x.number
  pub transaction : IsTransaction x.transaction
  pub reign : (r : Reign) → x.reign ≡ Some r → IsReign r
  pub first : x.number ≡ 1 → (r : Reign) × BeginsWith x r

-- the reign of a HISTORY
abbrev pub told_reign : Frame → Option Reign
told_reign (History r) = Some r
told_reign (Hello version name history) = None
told_reign (Resume n) = None
told_reign (RollbackFirst n) = None
told_reign (Entry n t) = None
told_reign (Bye n) = None

-- what arrives with a frame that begins at that offset, behind that HISTORY where one came right before it
abbrev pub arrived : (at : ℕ) → Option Reign → Frame → List Arrival
arrived at reign (Entry n t) = record { at = at; number = n; transaction = t; reign = reign } ∷ []
arrived at reign (Hello version name history) = []
arrived at reign (Resume n) = []
arrived at reign (RollbackFirst n) = []
arrived at reign (History r) = []
arrived at reign (Bye n) = []

-- what arrives with frames from that offset on
abbrev pub arrivals : (at : ℕ) → Option Reign → List Frame → List Arrival
arrivals at reign [] = []
arrivals at reign (f ∷ fs) = arrived at reign f ++ arrivals (offset_after at (f ∷ [])) (told_reign f) fs

-- the entry that an arrival is under a reign
abbrev pub entry_under : Option Reign → Arrival → Sequence
entry_under None x = []
entry_under (Some r) x = record { stamp = r.stamp; transaction = x.transaction } ∷ []

-- the entries of arrivals, each under the reign of the last HISTORY before it; the one before them all was that reign's
abbrev pub entries_of : Option Reign → List Arrival → Sequence
entries_of reign [] = []
entries_of reign (x ∷ xs) = entry_under (option_or x.reign reign) x ++ entries_of (option_or x.reign reign) xs

-- a direction's bytes have these entries: those of the whole frames in them
pub record HasEntries (bytes : List ℕ) (es : Sequence) : Type 0 where
  pub frames : List Frame
  pub rest : List ℕ
  pub are : AreFrames bytes frames rest
  pub ends : BeginsFrame rest ⊎ BeginsNone rest
  pub is : es ≡ entries_of None (arrivals 0 None frames)

-- A direction's bytes bring a secondary, which had a base as the connection was made, to this sequence.
pub record BringsTo (base : Sequence) (bytes : List ℕ) (seq : Sequence) : Type 0 where
  pub entries : Sequence
  pub has : HasEntries bytes entries
  pub is : seq ≡ base ++ entries

-- A session's four sequences are in order: each is a prefix of the next, and the follower has kept its base.
pub record IsInOrder (base follower received sent hardened : Sequence) : Type 0 where
  pub kept : IsPrefix base follower
  pub prefixes : FourPrefixes follower received sent hardened
