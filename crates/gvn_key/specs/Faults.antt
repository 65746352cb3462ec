-- Which fault a name and subscripts have.
use Rattle.std.specs.Prelude.{◌≡◌, ℕ, ◌+◌, ◌==◌, not, List, [], ◌∷◌, ◌++◌, length, take, map, Option, Some, None, nat_lt, if◌then◌else◌}
use Rattle.global_defs.specs.declared.limits.TheConstants.{LONGEST_KEY, LONGEST_NAME}
use Rattle.global_defs.specs.Key.{Key, Sub, sub_of}
use Rattle.global_defs.specs.Valid.{is_name}
use Rattle.global_defs.specs.Encoded.{encoded}
use Rattle.gvn_key.specs.declared.key.KeyError.{KeyError}
use Rattle.gvn_key.specs.declared.key.KeyError.TheVariants.{BadName, NameTooLong, NullSub, TooManySubs, KeyTooLong, NoMemory}
use Rattle.std.specs.declared.result.Result.{Result}
use Rattle.std.specs.declared.result.Result.TheVariants.{Ok, Err}

-- the key of a name and subscripts by their bytes
abbrev pub key_of : List ℕ → List (List ℕ) → Key
key_of name subs = record { name = name; subs = map sub_of subs }

-- the key of the node below another that has this subscript next
abbrev pub child_of : Key → Sub → Key
child_of top s = record { name = top.name; subs = top.subs ++ s ∷ [] }

-- the key of a key's name and first so many subscripts
abbrev pub front_of : ℕ → Key → Key
front_of count key = record { name = key.name; subs = take count key.subs }

-- the first fault of subscripts of which so many stand before them
abbrev pub subs_fault : ℕ → List (List ℕ) → Option KeyError
subs_fault n [] = None
subs_fault n (s ∷ ss) = if length s == 0 then Some NullSub else if nat_lt 30 n then Some TooManySubs else subs_fault (n + 1) ss

-- the first fault from the left, but for the length of the whole
abbrev pub parts_fault : List ℕ → List (List ℕ) → Option KeyError
parts_fault name subs = if not (is_name name) then Some BadName else if nat_lt LONGEST_NAME (length name) then Some NameTooLong else subs_fault 0 subs

-- an encoded key of more than 255 bytes
abbrev pub length_fault : Key → Option KeyError
length_fault key = if nat_lt LONGEST_KEY (length (encoded key)) then Some KeyTooLong else None

-- the first, or else the second
abbrev pub or_else : Option KeyError → Option KeyError → Option KeyError
or_else None later = later
or_else (Some fault) later = Some fault

-- the first fault from the left, at last the length
abbrev pub key_fault : List ℕ → List (List ℕ) → Option KeyError
key_fault name subs = or_else (parts_fault name subs) (length_fault (key_of name subs))

-- the key of this name and these subscripts where they have no fault, else their first fault, unless memory ran out
abbrev pub MakesKey : List ℕ → List (List ℕ) → Result Key KeyError → Type 0
MakesKey name subs (Ok key) = (key_fault name subs ≡ None) × (key ≡ key_of name subs)
MakesKey name subs (Err NoMemory) = Unit {0}
MakesKey name subs (Err e) = key_fault name subs ≡ Some e
