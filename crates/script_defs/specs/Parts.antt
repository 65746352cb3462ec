-- Parts of a line, values and nodes as text, and the first fault of a text that is no statement.
use Rattle.std.specs.Prelude.{◌≡◌, ◌≤◌, ℕ, ℤ, suc, ◌+◌, ◌-◌, ◌&&◌, ◌||◌, ◌==◌, Bool, false, not, List, [], ◌∷◌, ◌++◌, length, take, drop, nat_lt, Option, Some, None, slice_index_or, codes, if◌then◌else◌}
use Rattle.std.specs.Str.{bytes_eq}
use Rattle.std.specs.declared.result.Result.{Result}
use Rattle.std.specs.declared.result.Result.TheVariants.{Ok, Err}
use Rattle.global_defs.specs.declared.limits.TheConstants.{LONGEST_VALUE}
use Rattle.global_defs.specs.Key.{Key, Sub, Text}
use Rattle.global_defs.specs.NodeText.{sub_bytes}
use Rattle.global_defs.specs.Numeral.{is_number, integer_of}
use Rattle.gvn_key.specs.Faults.{key_of, key_fault}
use Rattle.gvn_key.specs.KeyText.{IsKeyText, key_reading}
use Rattle.gvn_key.specs.ZwrText.{told, zwr_reading}
use Rattle.gvn_key.specs.declared.key.KeyError.{KeyError}
use Rattle.gvn_key.specs.declared.reader.ZwrError.{ZwrError}
use Rattle.gvn_key.specs.declared.reader.ZwrError.TheVariants as zwr

-- A name and subscripts that make a key, and their text.
pub record IsNode (text : List ℕ) (key : Key) : Type 0 where
  pub name : List ℕ
  pub subs : List (List ℕ)
  pub text_is : IsKeyText text name subs
  pub no_fault : key_fault name subs ≡ None
  pub key_is : key ≡ key_of name subs

-- The node above a level, and the last subscript at that level: those of a node, or an empty last subscript, which `""` writes.
pub data IsLevel : (text : List ℕ) (key : Key) (last : List ℕ) → Type 0 where
  within : {t : List ℕ} (key : Key) (s : Sub) → IsNode t (record { name = key.name; subs = key.subs ++ s ∷ [] }) → IsLevel t key (sub_bytes s)
  top : {t : List ℕ} {key : Key} → IsNode t key → length key.subs ≡ 0 → IsLevel (t ++ codes "(\"\")") key []
  below : (t : List ℕ) {key : Key} → IsNode (t ++ 41 ∷ []) key → length key.subs ≤ 30 → IsLevel (t ++ codes ",\"\")") key []

-- Why a text is no statement, at a place from 0 that is told in 32 bits.
pub data TextFault : Type 0 where
  -- a piece of a value is missing, or a quoted one isn't closed
  BadQuote : (at : ℕ) → TextFault
  -- every other fault
  BadChar : (at : ℕ) → TextFault
  -- all but a value above 1,500 bytes is a statement
  ValueTooLong : (at : ℕ) → TextFault

-- the fault, and where the part that has it begins
pub record Fault : Type 0 where
  pub part : ℕ
  pub error : TextFault

-- how many bytes of a text stand before what is left of it
abbrev pub place : ℕ → List ℕ → ℕ
place len left = told (len - length left)

-- the part that is left is missing, is too much, or isn't of its form
abbrev pub bad : ℕ → List ℕ → Fault
bad len left = record { part = place len left; error = BadChar (place len left) }

abbrev pub too_long : ℕ → List ℕ → Fault
too_long len left = record { part = place len left; error = ValueTooLong (place len left) }

-- the next step, unless there is a fault
abbrev pub followed : {X Y : Type 0} → Result X Fault → (X → Result Y Fault) → Result Y Fault
followed (Ok x) next = next x
followed (Err e) next = Err e

-- a space, or the mark that also ends a part
abbrev pub ends_at : ℕ → ℕ → Bool
ends_at mark b = b == 32 || b == mark

-- how far a part goes: to the first space or mark outside quotes
abbrev pub part_end : ℕ → Bool → List ℕ → ℕ
part_end mark quoted [] = 0
part_end mark quoted (b ∷ bs) = if not quoted && ends_at mark b then 0 else suc (part_end mark (if b == 34 then not quoted else quoted) bs)

-- a part that a space ends
abbrev pub word_end : List ℕ → ℕ
word_end text = part_end 32 false text

-- a key that a space or an equals sign ends
abbrev pub key_end : List ℕ → ℕ
key_end text = part_end 61 false text

abbrev pub without_spaces : List ℕ → List ℕ
without_spaces [] = []
without_spaces (b ∷ bs) = if b == 32 then without_spaces bs else b ∷ bs

-- a text of which nothing more may come
abbrev pub alone : {X : Type 0} → ℕ → List ℕ → X → Result X Fault
alone len left x = if length left == 0 then Ok x else Err (bad len (without_spaces left))

-- what was found of a part
abbrev pub found : {X : Type 0} → ℕ → List ℕ → Option X → Result X Fault
found len left None = Err (bad len left)
found len left (Some x) = Ok x

-- a key is bad at its first byte
abbrev pub node_at : ℕ → List ℕ → Result Key KeyError → Result Key Fault
node_at len left (Ok key) = Ok key
node_at len left (Err e) = Err (bad len left)

abbrev pub node_reading : ℕ → List ℕ → ℕ → Result Key Fault
node_reading len left n = node_at len left (key_reading (take n left))

-- a value's own fault, by its place in the value
abbrev pub inside : ℕ → List ℕ → ZwrError → Fault
inside len left (zwr.BadQuote at) = record { part = place len left; error = BadQuote (told (place len left + at)) }
inside len left (zwr.BadChar at) = record { part = place len left; error = BadChar (told (place len left + at)) }
inside len left zwr.NoMemory = bad len left

abbrev pub valued : ℕ → List ℕ → Result (List ℕ) ZwrError → Result (List ℕ) Fault
valued len left (Ok value) = Ok value
valued len left (Err e) = Err (inside len left e)

-- a canonical numeral, or else a text in ZWR form
abbrev pub value_reading : List ℕ → Result (List ℕ) ZwrError
value_reading text = if is_number text then Ok text else zwr_reading text

-- a value behind which nothing may come; one that is too long is bad where something comes
abbrev pub sized : ℕ → List ℕ → List ℕ → List ℕ → Result (List ℕ) Fault
sized len left rest value = if nat_lt LONGEST_VALUE (length value) then Err (if length rest == 0 then too_long len left else bad len left) else alone len rest value

abbrev pub last_value : ℕ → List ℕ → Result (List ℕ) Fault
last_value len left = let n = word_end left in followed (valued len left (value_reading (take n left))) (sized len left (drop n left))

-- an integer behind which nothing may come
abbrev pub last_integer : ℕ → List ℕ → Result ℤ Fault
last_integer len left = let n = word_end left in followed (found len left (integer_of (take n left))) (alone len (drop n left))

-- a node behind which nothing may come
abbrev pub last_node : ℕ → List ℕ → Result Key Fault
last_node len left = let n = word_end left in followed (node_reading len left n) (alone len (drop n left))

-- a value behind an equals sign
abbrev pub assigned : ℕ → List ℕ → Result (List ℕ) Fault
assigned len [] = Err (bad len [])
assigned len (b ∷ bs) = if b == 61 then last_value len bs else Err (bad len (b ∷ bs))

-- a node without its last subscript, and that subscript
abbrev pub level_of : Key → Option (Key × List ℕ)
level_of key = if length key.subs == 0 then None
    else Some (record { name = key.name; subs = take (length key.subs - 1) key.subs }, sub_bytes (slice_index_or key.subs (length key.subs - 1) (Text [])))

abbrev pub top_level : Result Key KeyError → Option (Key × List ℕ)
top_level (Err e) = None
top_level (Ok key) = if length key.subs == 0 then Some (key, []) else None

abbrev pub below_level : Result Key KeyError → Option (Key × List ℕ)
below_level (Err e) = None
below_level (Ok key) = if nat_lt 30 (length key.subs) then None else Some (key, [])

-- a level with an empty last subscript, by what stands before and in its last four bytes
abbrev pub empty_level : List ℕ → List ℕ → Option (Key × List ℕ)
empty_level front end = if bytes_eq end (codes "(\"\")") then top_level (key_reading front)
    else if bytes_eq end (codes ",\"\")") then below_level (key_reading (front ++ 41 ∷ [])) else None

abbrev pub level_from : List ℕ → Result Key KeyError → Option (Key × List ℕ)
level_from text (Ok key) = level_of key
level_from text (Err e) = empty_level (take (length text - 4) text) (drop (length text - 4) text)

abbrev pub level_reading : List ℕ → Option (Key × List ℕ)
level_reading text = level_from text (key_reading text)

abbrev pub last_level : ℕ → List ℕ → Result (Key × List ℕ) Fault
last_level len left = let n = word_end left in followed (found len left (level_reading (take n left))) (alone len (drop n left))
