-- Fields that records, entries and frames share, as bytes and with their ranges.
-- The layout of this project: numbers are big-endian, and a name, a key or a value stands behind its length.
use Rattle.std.specs.Prelude.{ℕ, ◌^◌, ◌<◌, ◌≤◌, Bool, if◌then◌else◌, List, [], ◌∷◌, ◌++◌, length, IsTrue}
use Rattle.std.specs.Int.{to_be_bytes, w16}
use Rattle.std.specs.List.{list_all, AllByRecursion}
use Rattle.std.specs.Char.{is_ascii_alphabetic, is_ascii_alphanumeric}
use Rattle.global_defs.specs.declared.limits.TheConstants.{LONGEST_SITE_NAME, LONGEST_VALUE, MOST_UPDATERS, MOST_UPDATES, NUMBERS_END}
use Rattle.global_defs.specs.Entry.{Update, Set, Kill, ZKill, Origin, Transaction, Stamp, Reign}
use Rattle.global_defs.specs.Valid.{is_key}
use Rattle.global_defs.specs.Encoded.{encoded}

abbrev pub flag : Bool → ℕ
flag b = if b then 1 else 0

-- a length of one byte, and so many bytes
abbrev pub short : List ℕ → List ℕ
short bytes = length bytes ∷ bytes

-- a length of two bytes, and so many bytes
abbrev pub long : List ℕ → List ℕ
long bytes = to_be_bytes w16 (length bytes) ++ bytes

-- 01 SET, 02 KILL, 03 ZKILL
abbrev pub spelled_update : Update → List ℕ
spelled_update (Set key value) = 1 ∷ short (encoded key) ++ long value
spelled_update (Kill key) = 2 ∷ short (encoded key)
spelled_update (ZKill key) = 3 ∷ short (encoded key)

-- a key that there is, and a value of at most 1,500 bytes
abbrev pub IsUpdate : Update → Type 0
IsUpdate (Set key value) = IsTrue (is_key key) × (length value ≤ LONGEST_VALUE)
IsUpdate (Kill key) = IsTrue (is_key key)
IsUpdate (ZKill key) = IsTrue (is_key key)

-- the name of a site, a root or a region: a letter, and then letters and digits, at most 15 characters
abbrev pub IsSiteName : List ℕ → Type 0
IsSiteName [] = ⊥
IsSiteName (b ∷ bs) = (IsTrue (is_ascii_alphabetic b)) × (IsTrue (list_all is_ascii_alphanumeric bs)) × (length bs < LONGEST_SITE_NAME)

-- an entry's number
abbrev pub IsNumber : ℕ → Type 0
IsNumber n = (1 ≤ n) × (n < NUMBERS_END)

pub record IsOrigin (o : Origin) : Type 0 where
  pub updater : (1 ≤ o.updater) × (o.updater ≤ MOST_UPDATERS)
  pub serial : (1 ≤ o.serial) × (o.serial < 2 ^ 32)

pub record IsStamp (s : Stamp) : Type 0 where
  pub root : IsSiteName s.root
  pub cycle : (1 ≤ s.cycle) × (s.cycle < 2 ^ 32)

pub record IsReign (r : Reign) : Type 0 where
  pub stamp : IsStamp r.stamp
  pub start : (1 ≤ r.start) × (r.start ≤ NUMBERS_END)

-- a transaction of its form: an origin, and 1 to 256 updates
pub record IsTransaction (t : Transaction) : Type 0 where
  pub origin : IsOrigin t.origin
  pub some : 1 ≤ length t.updates
  pub few : length t.updates ≤ MOST_UPDATES
  pub each : AllByRecursion IsUpdate t.updates
