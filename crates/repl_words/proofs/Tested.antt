-- The words as the code tests them are those that are read.
use Rattle.std.specs.Prelude.{if◌then◌else◌, nat_eq, is_some, option_and_then, ◌&&◌}
use Rattle.std.proofs.Common.{refl, sym, ap, codes, true, false, ℕ, Bool, List, Option, Some, None, [], ◌∷◌, ◌++◌, ◌≡◌, ◌∙◌, ◌≤◌, ◌-◌, length, map, take, drop, get_or, subst, arith}
use Rattle.std.specs.List.{starts_with}
use Rattle.std.specs.Str.{bytes_eq}
use Rattle.std.proofs.lemmas.Bool.Decides.{Decides-eqb}
use Rattle.std.proofs.lemmas.List.{take_all}
use Rattle.std.proofs.lemmas.Slice.Eq.{starts_is}
use Rattle.repl_words.specs.Words.{Given, none_given, settings_given, is_disk_word, options_reading, run_reading, words_reading}
use Rattle.repl_words.specs.Values.{is_joined_disk, is_apart_disk, are_options}

-- behind a disk
none_more : (c d : Bool) → is_some {T = Given} (if c then None else if d then None else None) ≡ false
none_more true d = refl
none_more false true = refl
none_more false false = refl

abbrev given : List ℕ → Given
given word = record { disk = Some word }

behind : (word : List ℕ) (o : List ℕ) (rest : List (List ℕ)) → is_some (options_reading (given word) (o ∷ rest)) ≡ false
behind word o [] = none_more (starts_with nat_eq o (codes "--disk=")) false
behind word o (w ∷ rest) = none_more (starts_with nat_eq o (codes "--disk=")) (bytes_eq o (codes "--disk"))

alone : (c d : Bool) (word : List ℕ) → (c && d) ≡ is_some {T = Given} (if c then (if d then Some (given word) else None) else None)
alone true true word = refl
alone true false word = refl
alone false d word = refl

-- in two words, of which the first isn't joined to its own
two : (c d e f : Bool) (joined word : List ℕ) → (c ≡ true → e ≡ false)
    → (e && f) ≡ is_some {T = Given} (if c then option_and_then (λ now. options_reading now (word ∷ [])) (if d then Some (given joined) else None)
    else if e then option_and_then (λ now. options_reading now []) (if f then Some (given word) else None) else None)
two true true e f joined word one = ap (λ x. x && f) (one refl) ∙ sym (behind joined word [])
two true false e f joined word one = ap (λ x. x && f) (one refl)
two false d true true joined word one = refl
two false d true false joined word one = refl
two false d false f joined word one = refl

-- in more
more : (c d e f : Bool) (joined word last : List ℕ) (rest : List (List ℕ))
    → false ≡ is_some {T = Given} (if c then option_and_then (λ now. options_reading now (word ∷ last ∷ rest)) (if d then Some (given joined) else None)
    else if e then option_and_then (λ now. options_reading now (last ∷ rest)) (if f then Some (given word) else None) else None)
more true true e f joined word last rest = sym (behind joined word (last ∷ rest))
more true false e f joined word last rest = refl
more false d true true joined word last rest = sym (behind word last rest)
more false d true false joined word last rest = refl
more false d false f joined word last rest = refl

-- a word that begins so isn't the option alone
begins : (w : List ℕ) → starts_with nat_eq w (codes "--disk=") ≡ true → w ≡ codes "--disk=" ++ drop 7 w
begins w h = (starts_is Decides-eqb w (codes "--disk=") _ refl).0 h

longer : (w : List ℕ) → starts_with nat_eq w (codes "--disk=") ≡ true → bytes_eq w (codes "--disk") ≡ false
longer w h = ap (λ (t : List ℕ). bytes_eq t (codes "--disk")) (begins w h)

are_read : (words : List (List ℕ)) → are_options words ≡ is_some (options_reading none_given words)
are_read [] = refl
are_read (o ∷ []) = alone (starts_with nat_eq o (codes "--disk=")) (is_disk_word (drop 7 o)) (drop 7 o)
are_read (o ∷ w ∷ []) = two (starts_with nat_eq o (codes "--disk=")) (is_disk_word (drop 7 o)) (bytes_eq o (codes "--disk")) (is_disk_word w) (drop 7 o) w (longer o)
are_read (o ∷ w ∷ last ∷ rest) = more (starts_with nat_eq o (codes "--disk=")) (is_disk_word (drop 7 o)) (bytes_eq o (codes "--disk")) (is_disk_word w) (drop 7 o) w last rest

told : (o : Option Given) → is_some o ≡ is_some (option_and_then (λ given. Some (settings_given given)) o)
told None = refl
told (Some given) = refl

are_told : (options : List (List ℕ)) → are_options options ≡ is_some (run_reading options)
are_told options = are_read options ∙ told (options_reading none_given options)

-- a run, whose options were tested
pub told_run : {A : Type 0} (text : A → List ℕ) (words : List A) (first : A) (r : Bool) → 1 ≤ length words → first ≡ get_or words 0 first → bytes_eq (text first) (codes "run") ≡ true
    → r ≡ are_options (map text (take (length words - 1) (drop 1 words))) → r ≡ is_some (words_reading (map text words))
told_run text [] first r some at is e = absurd (omega (arith, some))
told_run {A} text (w ∷ ws) first r some at is e =
    let run : bytes_eq (text w) (codes "run") ≡ true = subst (λ (x : A). bytes_eq (text x) (codes "run") ≡ true) at is in
    let all : take (length (w ∷ ws) - 1) ws ≡ ws = take_all (length (w ∷ ws) - 1) ws (omega arith) in
    rw run (e ∙ ap (λ (xs : List A). are_options (map text xs)) all ∙ are_told (map text ws))
