-- What completes a frame of which a front has come.
use Rattle.std.specs.Prelude.{◌≡◌, ℕ, ◌+◌, ◌*◌, ◌-◌, ◌≤◌, Bool, true, false, List, length, Option, Some, None, ◌⊎◌}
use Rattle.global_defs.specs.declared.limits.TheConstants.{LONGEST_BODY, LONGEST_VALUE, MOST_UPDATES}
use Rattle.gvn_key.specs.Rests.{IsAt, Completes}
use Rattle.gvn_key.specs.declared.prefix.KeyPrefix.{KeyPrefix}
use Rattle.repl_wire.specs.declared.field.ByteField.{ByteField}
use Rattle.repl_wire.specs.declared.field.ByteField.TheVariants as byte
use Rattle.repl_wire.specs.declared.field.NumberField.{NumberField}
use Rattle.repl_wire.specs.declared.field.NumberField.TheVariants as number
use Rattle.repl_wire.specs.declared.field.Part.{Part}
use Rattle.repl_wire.specs.declared.field.Part.TheVariants.{Byte, Number, Name, Key, Value, Whole}
use Rattle.repl_wire.specs.declared.field.Scan.{Scan}
use Rattle.repl_wire.specs.Fronts.{IsOpen}
use Rattle.repl_wire.specs.Kinds.{least_body, most_body}
use Rattle.repl_wire.specs.Layout.{Rest, Ended, Sized, One, Numbered, Within, Named, Skipped, Then, Starting, Cycling, Rooted, Reigned, BehindKey, Keyed, Tagged, Updated, UpdateCount, Updater, ReignCount, Lengthed, Sited, Versioned, Body, Typed}

-- the bytes behind a name
abbrev pub BehindName : Bool → ℕ → Rest
BehindName true items = Lengthed
BehindName false items = Cycling (Reigned items)

-- the bytes behind a field of one byte
abbrev pub BehindByte : ByteField → (left items : ℕ) → ℕ → Rest
BehindByte byte.Type left items = Typed
BehindByte byte.Version left items = λ b. Sized (Versioned b) left
BehindByte byte.SiteLength left items = λ b. Sized (Sited b) left
BehindByte byte.RootLength left items = λ b. Sized (Rooted (Reigned items) b) left
BehindByte byte.Updater left items = λ b. Sized (Updater b) left
BehindByte byte.Tag left items = λ b. Sized (Tagged (Updated items) b) left
BehindByte (byte.KeyLength set) left items = λ b. Sized (Keyed set (Updated items) b) left

-- the bytes behind a number
abbrev pub BehindNumber : NumberField → (left items : ℕ) → ℕ → Rest
BehindNumber (number.BodyLength kind) left items = λ n. Sized (Body kind) n
BehindNumber number.Length left items = λ _. Sized ReignCount left
BehindNumber number.ReignCount left items = λ n. Sized (Reigned n) left
BehindNumber number.Cycle left items = λ _. Sized (Starting (Reigned items)) left
BehindNumber number.Start left items = λ _. Sized (Reigned items) left
BehindNumber number.Alone left items = λ _. Sized Ended left
BehindNumber number.EntryNumber left items = λ _. Sized (One Updater) left
BehindNumber number.Serial left items = λ _. Sized UpdateCount left
BehindNumber number.UpdateCount left items = λ n. Sized (Updated n) left
BehindNumber number.ValueLength left items = λ n. Sized (Skipped n (Updated items)) left

-- the bytes that complete a key
abbrev pub KeyRest : KeyPrefix → Rest
KeyRest prefix w = Completes prefix.place w × (length w ≡ prefix.left)

abbrev pub Accepts : Part → (left items : ℕ) → Rest
Accepts (Byte field) left items = One (BehindByte field left items)
Accepts (Number field front) left items = Numbered front.missing front.value (Within front.low front.high (BehindNumber field left items))
Accepts (Name first missing site) left items = Named first missing (Sized (BehindName site items) left)
Accepts (Key set prefix) left items = Then (KeyRest prefix) (Sized (BehindKey set (Updated items)) left)
Accepts (Value missing) left items = Skipped missing (Sized (Updated items) left)
Accepts Whole left items = Ended

-- the bytes that complete a frame
abbrev pub Completing : Scan → Rest
Completing s = Accepts s.part s.left s.items

-- so many bytes are this many reigns, or updates, behind fields of low to high bytes
abbrev pub HoldsReigns : (low high count bytes : ℕ) → Type 0
HoldsReigns low high count bytes = (low + 14 * count ≤ bytes) × (bytes ≤ high + 28 * count)

abbrev pub HoldsUpdates : (low high count bytes : ℕ) → Type 0
HoldsUpdates low high count bytes = (low + 4 * count ≤ bytes) × (bytes ≤ high + 1759 * count)

-- so many bytes are fields of `fields` bytes and some reigns
abbrev pub HoldsSome : (fields bytes : ℕ) → Type 0
HoldsSome fields bytes = ((bytes ≡ fields) ⊎ (fields + 14 ≤ bytes)) × (bytes ≤ LONGEST_BODY)

-- Some bytes of the length can stand behind a field of one byte.
abbrev pub ByteFits : ByteField → (left items : ℕ) → Type 0
ByteFits byte.Type left items = Unit {0}
ByteFits byte.Version left items = (14 ≤ left) × (left ≤ 1048575)
ByteFits byte.SiteLength left items = (13 ≤ left) × (left ≤ 1048575)
ByteFits byte.RootLength left items = HoldsReigns 13 27 items left
ByteFits byte.Updater left items = (10 ≤ left) × (left ≤ 450310)
ByteFits byte.Tag left items = HoldsUpdates 3 1758 items left
ByteFits (byte.KeyLength true) left items = HoldsUpdates 4 1757 items left
ByteFits (byte.KeyLength false) left items = HoldsUpdates 2 255 items left

-- each number from low to high has bytes behind it
abbrev pub NumberFits : NumberField → (low high left items : ℕ) → Type 0
NumberFits (number.BodyLength kind) low high left items = (least_body kind ≤ low) × (high ≤ most_body kind)
NumberFits number.Length low high left items = HoldsSome 4 left
NumberFits number.ReignCount low high left items = (14 * high ≤ left) × (left ≤ 28 * low) × (left ≤ LONGEST_BODY)
NumberFits number.Cycle low high left items = HoldsReigns 8 8 items left
NumberFits number.Start low high left items = HoldsReigns 0 0 items left
NumberFits number.Alone low high left items = left ≡ 0
NumberFits number.EntryNumber low high left items = (11 ≤ left) × (left ≤ 450311)
NumberFits number.Serial low high left items = (6 ≤ left) × (left ≤ 450306)
NumberFits number.UpdateCount low high left items = (4 * high ≤ left) × (left ≤ 1759 * low) × (1 ≤ low) × (high ≤ MOST_UPDATES)
NumberFits number.ValueLength low high left items = (high + 4 * items ≤ left) × (left ≤ low + 1759 * items) × (high ≤ LONGEST_VALUE)

abbrev pub NameFits : Bool → (left items : ℕ) → Type 0
NameFits true left items = HoldsSome 12 left
NameFits false left items = HoldsReigns 12 12 items left

abbrev pub KeyFits : Bool → (left items : ℕ) → Type 0
KeyFits true left items = HoldsUpdates 2 1502 items left
KeyFits false left items = HoldsUpdates 0 0 items left

-- The length of a site's or a root's name, or of a key, leaves as many bytes as can stand behind it, and so does what an update does.
abbrev pub SiteFits : (length left : ℕ) → Type 0
SiteFits length left = (1 ≤ length) × (length ≤ 15) × (length ≤ left) × HoldsSome 12 (left - length)

abbrev pub RootFits : (length left items : ℕ) → Type 0
RootFits length left items = (1 ≤ length) × (length ≤ 15) × (length ≤ left) × HoldsReigns 12 12 items (left - length)

abbrev pub KeyLengthFits : Bool → (length left items : ℕ) → Type 0
KeyLengthFits set length left items = (length ≤ left) × KeyFits set (left - length) items

abbrev pub TagFits : (tag left items : ℕ) → Type 0
TagFits tag left items = ((tag ≡ 1) × HoldsUpdates 5 1758 items left) ⊎ ((2 ≤ tag) × (tag ≤ 3) × HoldsUpdates 3 256 items left)

-- the prefix stands behind some bytes of a key, and some are missing
pub record IsInKey (prefix : KeyPrefix) : Type 0 where
  pub taken : List ℕ
  pub len : ℕ
  pub is_at : IsAt prefix taken len
  pub some : 1 ≤ prefix.left

-- some bytes complete the frame
abbrev pub Fits : Part → (left items : ℕ) → Type 0
Fits (Byte field) left items = ByteFits field left items
Fits (Number field front) left items = IsOpen front × NumberFits field front.low front.high left items
Fits (Name first missing site) left items = (1 ≤ missing) × NameFits site left items
Fits (Key set prefix) left items = IsInKey prefix × KeyFits set left items
Fits (Value missing) left items = (1 ≤ missing) × HoldsUpdates 0 0 items left
Fits Whole left items = Unit {0}

abbrev pub IsSound : Scan → Type 0
IsSound s = Fits s.part s.left s.items

-- A scan before these bytes: it is sound, and they and no others complete it.
pub record Awaits (s : Scan) (K : Rest) : Type 0 where
  pub sound : IsSound s
  pub only : (w : List ℕ) → Completing s w → K w
  pub each : (w : List ℕ) → K w → Completing s w

-- the same, or there are no such bytes
abbrev pub AwaitsIfAny : Option Scan → Rest → Type 0
AwaitsIfAny None K = (w : List ℕ) → K w → ⊥
AwaitsIfAny (Some s) K = Awaits s K
