-- A key's text read from the left: `^`, the name, and in brackets the subscripts with commas between them.
use Rattle.std.specs.Prelude.{◌≡◌, ℕ, zero, suc, ◌&&◌, ◌||◌, ◌==◌, Bool, true, false, not, List, [], ◌∷◌, ◌++◌, length, take, drop, nat_lt, Option, Some, None, if◌then◌else◌}
use Rattle.std.specs.List.{position_or_len}
use Rattle.std.specs.declared.result.Result.{Result}
use Rattle.std.specs.declared.result.Result.TheVariants.{Ok, Err}
use Rattle.global_defs.specs.declared.limits.TheConstants.{LONGEST_NAME, MOST_SUBS}
use Rattle.global_defs.specs.Key.{Key, Sub}
use Rattle.global_defs.specs.NodeText.{sub_bytes}
use Rattle.global_defs.specs.Numeral.{is_number}
use Rattle.global_defs.specs.Valid.{is_name}
use Rattle.gvn_key.specs.Faults.{key_of, key_fault}
use Rattle.gvn_key.specs.ZwrText.{IsBytes, IsZwr, Scanned, scan, is_whole}
use Rattle.gvn_key.specs.declared.reader.State.TheVariants.{Start}
use Rattle.gvn_key.specs.declared.key.KeyError.{KeyError}
use Rattle.gvn_key.specs.declared.key.KeyError.TheVariants.{BadName, NameTooLong, BadSub, NullSub, TooManySubs, NoMemory}

-- a subscript's text: a number's canonical numeral, or a string in ZWR form
pub data IsSubText : (text value : List ℕ) → Type 0 where
  number : (s : List ℕ) → is_number s ≡ true → IsSubText s s
  string : {t v : List ℕ} → IsZwr t v → IsSubText t v

-- subscripts with commas between them, and the bracket that ends them
pub data IsSubsText : (text : List ℕ) (subs : List (List ℕ)) → Type 0 where
  last : {t v : List ℕ} → IsSubText t v → IsSubsText (t ++ 41 ∷ []) (v ∷ [])
  another : {t v u : List ℕ} {subs : List (List ℕ)} → IsSubText t v → IsSubsText u subs → IsSubsText (t ++ 44 ∷ u) (v ∷ subs)

-- a circumflex, the name, and subscripts in brackets where there are any
pub data IsKeyText : (text name : List ℕ) (subs : List (List ℕ)) → Type 0 where
  bare : (name : List ℕ) → IsKeyText (94 ∷ name) name []
  branched : (name : List ℕ) {t : List ℕ} {subs : List (List ℕ)} → IsSubsText t subs → IsKeyText (94 ∷ (name ++ 40 ∷ t)) name subs

-- a key that a text of a name and subscripts stands for
pub record IsTextOf (text : List ℕ) (key : Key) : Type 0 where
  pub name : List ℕ
  pub subs : List (List ℕ)
  pub text_is : IsKeyText text name subs
  pub key_is : key ≡ key_of name subs

-- a subscript's bytes, and the text behind it
pub record Read : Type 0 where
  pub value : List ℕ
  pub left : List ℕ

-- a comma or a closing bracket
abbrev pub is_end : ℕ → Bool
is_end b = b == 44 || b == 41

abbrev pub begins_with_end : List ℕ → Bool
begins_with_end [] = false
begins_with_end (b ∷ bs) = is_end b

abbrev pub string_at : Scanned → Option Read
string_at s = if is_whole s.state && begins_with_end s.left then Some (record { value = s.value; left = s.left }) else None

abbrev pub numeral_at : ℕ → List ℕ → Option Read
numeral_at n text = if is_number (take n text) && begins_with_end (drop n text) then Some (record { value = take n text; left = drop n text }) else None

-- a string begins with a quote or a dollar sign
abbrev pub begins_string : List ℕ → Bool
begins_string [] = false
begins_string (b ∷ bs) = b == 34 || b == 36

-- a subscript before a comma or a closing bracket: a string in ZWR form, or a number's canonical numeral
abbrev pub sub_at : List ℕ → Option Read
sub_at text = if begins_string text then string_at (scan Start text) else numeral_at (position_or_len is_end text) text

abbrev pub fronted : List (List ℕ) → Result (List (List ℕ)) KeyError → Result (List (List ℕ)) KeyError
fronted front (Ok subs) = Ok (front ++ subs)
fronted front (Err e) = Err e

-- what stands at a subscript's place: a subscript and more behind it, the last one, or a fault
pub data Next : Type 0 where
  More : (value left : List ℕ) → Next
  Last : (value : List ℕ) → Next
  Wrong : KeyError → Next

-- behind a subscript stands a comma, or the bracket that ends the text
abbrev pub behind_sub : List ℕ → List ℕ → Next
behind_sub value [] = Wrong BadSub
behind_sub value (b ∷ left) = if b == 44 then More value left else if length left == 0 then Last value else Wrong BadSub

abbrev pub next_from : Option Read → Next
next_from None = Wrong BadSub
next_from (Some r) = if length r.value == 0 then Wrong NullSub else behind_sub r.value r.left

abbrev pub going : Next → (List ℕ → Result (List (List ℕ)) KeyError) → Result (List (List ℕ)) KeyError
going (More value left) next = fronted (value ∷ []) (next left)
going (Last value) next = Ok (value ∷ [])
going (Wrong e) next = Err e

-- why a subscript that is one too many isn't taken
abbrev pub fault_past : Option Read → KeyError
fault_past None = BadSub
fault_past (Some r) = if length r.value == 0 then NullSub else TooManySubs

-- subscripts to the end, of which so many may come; or the first fault
unfoldable pub subs_at : ℕ → List ℕ → Result (List (List ℕ)) KeyError
subs_at zero text = Err (fault_past (sub_at text))
subs_at (suc k) text = going (next_from (sub_at text)) (subs_at k)

abbrev pub subs_in : List ℕ → Result (List (List ℕ)) KeyError
subs_in [] = Ok []
subs_in (b ∷ bs) = if b == 40 then subs_at MOST_SUBS bs else Err BadSub

-- the key of a name and subscripts, unless they have a fault
abbrev pub answered : List ℕ → List (List ℕ) → Option KeyError → Result Key KeyError
answered name subs None = Ok (key_of name subs)
answered name subs (Some e) = Err e

abbrev pub fitting : List ℕ → Result (List (List ℕ)) KeyError → Result Key KeyError
fitting name (Err e) = Err e
fitting name (Ok subs) = answered name subs (key_fault name subs)

abbrev pub named : List ℕ → List ℕ → Result Key KeyError
named name tail = if not (is_name name) then Err BadName else if nat_lt LONGEST_NAME (length name) then Err NameTooLong else fitting name (subs_in tail)

-- a name ends where a bracket stands
abbrev pub is_bracket : ℕ → Bool
is_bracket b = b == 40 || b == 41

abbrev pub split_name : ℕ → List ℕ → Result Key KeyError
split_name n text = named (take n text) (drop n text)

-- the key of a text, or the text's first fault from the left
abbrev pub key_reading : List ℕ → Result Key KeyError
key_reading [] = Err BadName
key_reading (b ∷ bs) = if b == 94 then split_name (position_or_len is_bracket bs) bs else Err BadName

-- an error is this reading's, unless memory ran out
abbrev pub Tells : {X : Type 0} → KeyError → Result X KeyError → Type 0
Tells NoMemory reading = Unit {0}
Tells e reading = reading ≡ Err e

-- what was answered is this reading, unless memory ran out
abbrev pub ReadsKey : Result Key KeyError → Result Key KeyError → Type 0
ReadsKey reading (Ok key) = reading ≡ Ok key
ReadsKey reading (Err e) = Tells e reading

abbrev pub ReadsSubs : {X : Type 0} → (X → List (List ℕ)) → Result (List (List ℕ)) KeyError → Result X KeyError → Type 0
ReadsSubs view reading (Ok subs) = reading ≡ Ok (view subs)
ReadsSubs view reading (Err e) = Tells e reading

abbrev pub ReadsOne : {X : Type 0} → (X → Read) → Option Read → Option X → Type 0
ReadsOne view reading None = reading ≡ None
ReadsOne view reading (Some r) = reading ≡ Some (view r)

-- each number of each string subscript is a byte
abbrev pub AreByteSubs : List Sub → Type 0
AreByteSubs [] = Unit {0}
AreByteSubs (s ∷ subs) = IsBytes (sub_bytes s) × AreByteSubs subs

abbrev pub AreBytes : Key → Type 0
AreBytes key = AreByteSubs key.subs
