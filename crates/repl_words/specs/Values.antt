-- What read words ask for, the word among them that says it, and how the code tests words.
use Rattle.std.specs.Prelude.{ℕ, Bool, true, false, ◌&&◌, nat_eq, List, [], ◌∷◌, drop, Option, Some, None, option_map, string_bytes, codes}
use Rattle.std.specs.List.{starts_with}
use Rattle.std.specs.Str.{bytes_eq}
use Rattle.repl_words.specs.Words.{Settings, is_disk_word}
use Rattle.repl_words.specs.declared.settings.Words.{Words}
use Rattle.repl_words.specs.declared.settings.Words.TheVariants.{Run}

abbrev pub settings_of : Words → Settings
settings_of (Run folder) = record { folder = option_map string_bytes folder }

-- the word that names the disks, among words that are a command line
abbrev pub disk_word : List (List ℕ) → Option (List ℕ)
disk_word [] = None
disk_word (first ∷ []) = None
disk_word (first ∷ joined ∷ []) = Some (drop 7 joined)
disk_word (first ∷ option ∷ word ∷ rest) = Some word

-- an option in one word, and in two
abbrev pub is_joined_disk : List ℕ → Bool
is_joined_disk option = starts_with nat_eq option (codes "--disk=") && is_disk_word (drop 7 option)

abbrev pub is_apart_disk : List ℕ → List ℕ → Bool
is_apart_disk option word = bytes_eq option (codes "--disk") && is_disk_word word

-- words that are options, of which there is one
abbrev pub are_options : List (List ℕ) → Bool
are_options [] = true
are_options (option ∷ []) = is_joined_disk option
are_options (option ∷ word ∷ []) = is_apart_disk option word
are_options (option ∷ word ∷ more ∷ rest) = false
