-- The words behind the program's name: which are a command line, and what they ask for.
use Rattle.std.specs.Prelude.{◌≡◌, ℕ, ◌==◌, not, nat_eq, Bool, true, false, List, [], ◌∷◌, ◌++◌, drop, Option, Some, None, option_and_then, is_some, codes, if◌then◌else◌}
use Rattle.std.specs.List.{starts_with}
use Rattle.std.specs.Str.{bytes_eq}

-- The options that are given, each with its word.
pub record Given : Type 0 where
  pub disk : Option (List ℕ)

abbrev pub none_given : Given
none_given = record { disk = None }

-- What a run is asked for: the folder of its disks. Without one they are in memory.
pub record Settings : Type 0 where
  pub folder : Option (List ℕ)

-- the folder that a disk's word names; the word `memory` names none
abbrev pub folder_named : List ℕ → Option (List ℕ)
folder_named word = if bytes_eq word (codes "memory") then None else Some word

abbrev pub settings_given : Given → Settings
settings_given given = record { folder = option_and_then folder_named given.disk }

-- a disk's word isn't empty, and doesn't begin with a hyphen
abbrev pub is_disk_word : List ℕ → Bool
is_disk_word [] = false
is_disk_word (b ∷ bs) = not (b == 45)

-- The grammar.

-- an option and its word, which stands behind it or is joined to it by a `=`
pub data IsOption (option word : List ℕ) : List (List ℕ) → Type 0 where
  apart : IsOption option word (option ∷ word ∷ [])
  joined : IsOption option word ((option ++ 61 ∷ word) ∷ [])

-- options in any order, none of which was given before, and what is given with them
pub data AreOptions : Given → List (List ℕ) → Given → Type 0 where
  none : (given : Given) → AreOptions given [] given
  disk : (given after : Given) (word : List ℕ) (words rest : List (List ℕ)) → given.disk ≡ None → is_disk_word word ≡ true → IsOption (codes "--disk") word words
      → AreOptions (record given { disk = Some word }) rest after → AreOptions given (words ++ rest) after

-- `run`, and options
pub data Asks : List (List ℕ) → Settings → Type 0 where
  run : (options : List (List ℕ)) (given : Given) → AreOptions none_given options given → Asks (codes "run" ∷ options) (settings_given given)

-- The same, read word by word.

-- what is given where a disk is given too: nothing, where one was given before
abbrev pub with_disk : Given → List ℕ → Option Given
with_disk given word = if is_some given.disk then None else if is_disk_word word then Some (record given { disk = Some word }) else None

-- what is given with the words behind `run`
abbrev pub options_reading : Given → List (List ℕ) → Option Given
options_reading given [] = Some given
options_reading given (option ∷ []) = if starts_with nat_eq option (codes "--disk=") then with_disk given (drop 7 option) else None
options_reading given (option ∷ word ∷ rest) =
    if starts_with nat_eq option (codes "--disk=") then option_and_then (λ now. options_reading now (word ∷ rest)) (with_disk given (drop 7 option))
    else if bytes_eq option (codes "--disk") then option_and_then (λ now. options_reading now rest) (with_disk given word)
    else None

-- what a run is asked for, by the words behind `run`
abbrev pub run_reading : List (List ℕ) → Option Settings
run_reading options = option_and_then (λ given. Some (settings_given given)) (options_reading none_given options)

-- what the words ask for, where they are a command line
abbrev pub words_reading : List (List ℕ) → Option Settings
words_reading [] = None
words_reading (first ∷ options) = if bytes_eq first (codes "run") then run_reading options else None
