-- The lines of an extract behind its header, and how far a reader of them has come.
use Rattle.std.specs.Prelude.{◌≡◌, ◌<◌, ◌≤◌, ◌^◌, ◌+◌, ◌==◌, ◌&&◌, ℕ, Bool, false, List, [], ◌∷◌, ◌++◌, length, Option, Some, None, codes, decimal, nat_lt, if◌then◌else◌}
use Rattle.std.specs.List.{list_all}
use Rattle.std.specs.Char.{is_ascii_alphabetic, is_ascii_alphanumeric}
use Rattle.std.specs.Str.{bytes_eq}
use Rattle.global_defs.specs.declared.limits.TheConstants.{NUMBERS_END}
use Rattle.global_defs.specs.Entry.{Update, Set, Kill, ZKill, Entry, Stamp, Origin}
use Rattle.global_defs.specs.Fields.{IsSiteName, IsStamp, IsOrigin}
use Rattle.global_defs.specs.NodeText.{node_text}
use Rattle.global_defs.specs.Zwr.{zwr}
use Rattle.jnl_extract.specs.Extracts.{IsSpelled}

-- the name of a site
abbrev pub is_site_name : List ℕ → Bool
is_site_name [] = false
is_site_name (b ∷ bs) = is_ascii_alphabetic b && list_all is_ascii_alphanumeric bs && nat_lt (length bs) 15

-- what each line of an entry has
pub record Head : Type 0 where
  pub number : ℕ
  pub stamp : Stamp
  pub origin : Origin

-- an entry's first line where it has more than one update, an update's line, and an entry's last line
pub data Line : Type 0 where
  Opens : Head → Line
  Holds : Head → Update → Line
  Closes : Head → Line

abbrev pub stamp_text : Stamp → List ℕ
stamp_text s = s.root ++ 46 ∷ decimal s.cycle

abbrev pub origin_text : Origin → List ℕ
origin_text o = decimal o.updater ++ 46 ∷ decimal o.serial

abbrev pub update_word : Update → List ℕ
update_word (Set key value) = codes "SET"
update_word (Kill key) = codes "KILL"
update_word (ZKill key) = codes "ZKILL"

abbrev pub update_tail : Update → List ℕ
update_tail (Set key value) = node_text key ++ 61 ∷ zwr value
update_tail (Kill key) = node_text key
update_tail (ZKill key) = node_text key

abbrev pub line_word : Line → List ℕ
line_word (Opens h) = codes "TSTART"
line_word (Holds h u) = update_word u
line_word (Closes h) = codes "TCOM"

abbrev pub line_head : Line → Head
line_head (Opens h) = h
line_head (Holds h u) = h
line_head (Closes h) = h

-- what stands behind the stamp
abbrev pub line_rest : Line → List ℕ
line_rest (Opens h) = origin_text h.origin
line_rest (Holds h u) = origin_text h.origin ++ 92 ∷ update_tail u
line_rest (Closes h) = origin_text h.origin

-- a line without its line feed
abbrev pub line_body : Line → List ℕ
line_body l = line_word l ++ 92 ∷ (decimal (line_head l).number ++ 92 ∷ (stamp_text (line_head l).stamp ++ 92 ∷ line_rest l))

abbrev pub header_body : List ℕ → ℕ → List ℕ
header_body site from = codes "GTMRJEX01" ++ 92 ∷ (site ++ 92 ∷ decimal from)

-- the texts of these fields
pub record FieldsAre (h : Head) (number stamp origin : List ℕ) : Type 0 where
  pub number_is : number ≡ decimal h.number
  pub stamp_is : stamp ≡ stamp_text h.stamp
  pub origin_is : origin ≡ origin_text h.origin

-- the parts of a line
pub record PartsAre (l : Line) (word number stamp rest : List ℕ) : Type 0 where
  pub word_is : word ≡ line_word l
  pub number_is : number ≡ decimal (line_head l).number
  pub stamp_is : stamp ≡ stamp_text (line_head l).stamp
  pub rest_is : rest ≡ line_rest l

pub record IsHead (h : Head) : Type 0 where
  pub number : h.number < 2 ^ 64
  pub stamp : IsStamp h.stamp
  pub origin : IsOrigin h.origin

abbrev pub IsLine : Line → Type 0
IsLine (Opens h) = IsHead h
IsLine (Holds h u) = IsHead h × IsSpelled u
IsLine (Closes h) = IsHead h

abbrev pub IsBracket : Line → Type 0
IsBracket (Opens h) = Unit {0}
IsBracket (Holds h u) = ⊥
IsBracket (Closes h) = Unit {0}

-- the line of an update, of these fields, word and tail
pub record IsHeld (l : Line) (h : Head) (word tail : List ℕ) : Type 0 where
  pub update : Update
  pub line_is : l ≡ Holds h update
  pub spelled : IsSpelled update
  pub word_is : word ≡ update_word update
  pub tail_is : tail ≡ update_tail update

-- an entry of these fields and updates, with its number
abbrev pub made_entry : Head → List Update → ℕ × Entry
made_entry h updates = (h.number, record { stamp = h.stamp; transaction = record { origin = h.origin; updates = updates } })

abbrev pub head_of : ℕ × Entry → Head
head_of p = record { number = p.0; stamp = p.1.stamp; origin = p.1.transaction.origin }

abbrev pub updates_of : ℕ × Entry → List Update
updates_of p = p.1.transaction.updates

-- the entries that are whole, and the one whose last line is still to come with its updates so far
pub record Stage : Type 0 where
  pub next : ℕ
  pub entries : List (ℕ × Entry)
  pub pending : Option (ℕ × Entry)

-- an entry that is being read has a number that there is
abbrev pub HasNumberAt : ℕ → Option (ℕ × Entry) → Type 0
HasNumberAt next None = Unit {0}
HasNumberAt next (Some p) = next < NUMBERS_END

abbrev pub HasNumber : Stage → Type 0
HasNumber s = HasNumberAt s.next s.pending

abbrev pub follows : ℕ → Head → Bool
follows next h = h.number == next && nat_lt next NUMBERS_END

abbrev pub same_head : ℕ × Entry → Head → Bool
same_head p h = p.0 == h.number && bytes_eq p.1.stamp.root h.stamp.root && p.1.stamp.cycle == h.stamp.cycle
    && p.1.transaction.origin.updater == h.origin.updater && p.1.transaction.origin.serial == h.origin.serial

abbrev pub stage_of : ℕ → List (ℕ × Entry) → Option (ℕ × Entry) → Stage
stage_of next entries pending = record { next = next; entries = entries; pending = pending }

abbrev pub begun : ℕ → List (ℕ × Entry) → Line → Option Stage
begun next entries (Opens h) = if follows next h then Some (stage_of next entries (Some (made_entry h []))) else None
begun next entries (Holds h u) = if follows next h then Some (stage_of (next + 1) (entries ++ made_entry h (u ∷ []) ∷ []) None) else None
begun next entries (Closes h) = None

abbrev pub gone_on : ℕ → List (ℕ × Entry) → ℕ × Entry → Line → Option Stage
gone_on next entries p (Opens h) = None
gone_on next entries p (Holds h u) = if same_head p h && nat_lt (length (updates_of p)) 256
    then Some (stage_of next entries (Some (made_entry (head_of p) (updates_of p ++ u ∷ [])))) else None
gone_on next entries p (Closes h) = if same_head p h && nat_lt 1 (length (updates_of p)) then Some (stage_of (next + 1) (entries ++ p ∷ []) None) else None

abbrev pub going : ℕ → List (ℕ × Entry) → Option (ℕ × Entry) → Line → Option Stage
going next entries None l = begun next entries l
going next entries (Some p) l = gone_on next entries p l

-- what a line leads to
abbrev pub next_stage : Stage → Line → Option Stage
next_stage s l = going s.next s.entries s.pending l

-- no line stands at the front of these bytes with which a stage goes on
abbrev pub Refuses : Stage → List ℕ → Type 0
Refuses s left = (l : Line) (more : List ℕ) → IsLine l → left ≡ line_body l ++ 10 ∷ more → next_stage s l ≡ None

-- a line stands at the front of these bytes with which a stage goes on
pub record Takes (s : Stage) (left : List ℕ) (t : Stage) (rest : List ℕ) : Type 0 where
  pub line : Line
  pub good : IsLine line
  pub left_is : left ≡ line_body line ++ 10 ∷ rest
  pub next_is : next_stage s line ≡ Some t

-- a text begins with a header
pub record Begins (text site : List ℕ) (from : ℕ) (rest : List ℕ) : Type 0 where
  pub name : IsSiteName site
  pub first : 1 ≤ from
  pub last : from ≤ NUMBERS_END
  pub text_is : text ≡ (header_body site from ++ 10 ∷ []) ++ rest
