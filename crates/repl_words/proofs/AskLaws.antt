-- Words are read as what they ask for.
use Rattle.std.specs.Prelude.{if◌then◌else◌, nat_eq, is_some, option_and_then}
use Rattle.std.proofs.Common.{refl, sym, ap, codes, true, false, ℕ, Bool, List, Option, Some, None, [], ◌∷◌, ◌++◌, ◌≡◌, ◌∙◌, drop, subst}
use Rattle.std.specs.List.{starts_with}
use Rattle.std.specs.Str.{bytes_eq}
use Rattle.std.proofs.lemmas.Bool.Decides.{Decides-eqb}
use Rattle.std.proofs.lemmas.Slice.Eq.{bytes_eq-Decides, starts_is}
use Rattle.std.proofs.lemmas.Option.{option_and_then_some}
use Rattle.repl_words.specs.Words.{Given, Settings, none_given, settings_given, is_disk_word, with_disk, IsOption, apart, joined, AreOptions, none, disk, Asks, run, options_reading, words_reading}

chosen : {X : Type 0} (c : Bool) (o : Option X) (x : X) → (if c then o else None) ≡ Some x → (c ≡ true) × (o ≡ Some x)
chosen true o x e = (refl, e)
chosen false o x e = absurd (cc e)

-- a disk that is given where none was
disk_more : (before : Option (List ℕ)) (is : Bool) (given now : Given) → (if is_some before then None else if is then Some given else None) ≡ Some now → (before ≡ None) × (is ≡ true) × (given ≡ now)
disk_more None true given now e = (refl, refl, cc e)
disk_more None false given now e = absurd (cc e)
disk_more (Some word) is given now e = absurd (cc e)

-- an option at the front, behind which the others are options
asked : (given now after : Given) (word : List ℕ) (words rest : List (List ℕ)) → with_disk given word ≡ Some now → IsOption (codes "--disk") word words → AreOptions now rest after → AreOptions given (words ++ rest) after
asked given now after word words rest e o more =
    let d = disk_more given.disk (is_disk_word word) (record given { disk = Some word }) now e in
    disk given after word words rest d.0 d.1 o (subst (λ (g : Given). AreOptions g rest after) (sym d.2) more)

begins : (w : List ℕ) → starts_with nat_eq w (codes "--disk=") ≡ true → w ≡ codes "--disk=" ++ drop 7 w
begins w h = (starts_is Decides-eqb w (codes "--disk=") _ refl).0 h

asked_joined : (given now after : Given) (option : List ℕ) (rest : List (List ℕ)) → starts_with nat_eq option (codes "--disk=") ≡ true → with_disk given (drop 7 option) ≡ Some now → AreOptions now rest after
    → AreOptions given (option ∷ rest) after
asked_joined given now after option rest is e more =
    subst (λ (x : List ℕ). AreOptions given (x ∷ rest) after) (sym (begins option is)) (asked given now after (drop 7 option) ((codes "--disk=" ++ drop 7 option) ∷ []) rest e joined more)

asked_apart : (given now after : Given) (option word : List ℕ) (rest : List (List ℕ)) → bytes_eq option (codes "--disk") ≡ true → with_disk given word ≡ Some now → AreOptions now rest after
    → AreOptions given (option ∷ word ∷ rest) after
asked_apart given now after option word rest is e more =
    subst (λ (x : List ℕ). AreOptions given (x ∷ word ∷ rest) after) (sym ((bytes_eq-Decides option (codes "--disk")).0 is)) (asked given now after word (codes "--disk" ∷ word ∷ []) rest e apart more)

-- which of three
three : {X : Type 0} (P : Type 0) (c d : Bool) (a b : Option X) (x : X) → (if c then a else if d then b else None) ≡ Some x → (c ≡ true → a ≡ Some x → P) → (d ≡ true → b ≡ Some x → P) → P
three P true d a b x e f g = f refl e
three P false true a b x e f g = g refl e
three P false false a b x e f g = absurd (cc e)

options_found : (given : Given) (words : List (List ℕ)) (after : Given) → options_reading given words ≡ Some after → AreOptions given words after
options_found given [] after e = subst (λ (x : Given). AreOptions given [] x) (cc e) (none given)
options_found given (option ∷ []) after e =
    let c = chosen (starts_with nat_eq option (codes "--disk=")) (with_disk given (drop 7 option)) after e in
    asked_joined given after after option [] c.0 c.1 (none after)
options_found given (option ∷ word ∷ rest) after e =
    three (AreOptions given (option ∷ word ∷ rest) after) (starts_with nat_eq option (codes "--disk=")) (bytes_eq option (codes "--disk")) _ _ after e
    (λ is f. option_and_then_some (λ now. options_reading now (word ∷ rest)) (with_disk given (drop 7 option)) after f
    (λ now with more. asked_joined given now after option (word ∷ rest) is with (options_found now (word ∷ rest) after more)))
    (λ is f. option_and_then_some (λ now. options_reading now rest) (with_disk given word) after f
    (λ now with more. asked_apart given now after option word rest is with (options_found now rest after more)))

told : (o : Option Given) (s : Settings) → option_and_then (λ given. Some (settings_given given)) o ≡ Some s → (given : Given) × (o ≡ Some given) × (settings_given given ≡ s)
told None s e = absurd (cc e)
told (Some given) s e = (given, refl, cc e)

pub found : (words : List (List ℕ)) (s : Settings) → words_reading words ≡ Some s → Asks words s
found [] s e = absurd (cc e)
found (first ∷ options) s e =
    let c = chosen (bytes_eq first (codes "run")) (option_and_then (λ given. Some (settings_given given)) (options_reading none_given options)) s e in
    let t = told (options_reading none_given options) s c.1 in
    let asks : Asks (codes "run" ∷ options) s = subst (λ (x : Settings). Asks (codes "run" ∷ options) x) t.2 (run options t.0 (options_found none_given options t.0 t.1)) in
    subst (λ (x : List ℕ). Asks (x ∷ options) s) (sym ((bytes_eq-Decides first (codes "run")).0 c.0)) asks

with_disk_is : (given : Given) (word : List ℕ) → given.disk ≡ None → is_disk_word word ≡ true → with_disk given word ≡ Some (record given { disk = Some word })
with_disk_is given word absent is = rw (absent, is) refl

-- an option at the front of words that were read
option_read : (given after : Given) (word : List ℕ) (words rest : List (List ℕ)) → with_disk given word ≡ Some (record given { disk = Some word }) → IsOption (codes "--disk") word words
    → options_reading (record given { disk = Some word }) rest ≡ Some after → options_reading given (words ++ rest) ≡ Some after
option_read given after word _ rest with apart more = ap (option_and_then (λ now. options_reading now rest)) with ∙ more
option_read given after word _ [] with joined more = with ∙ more
option_read given after word _ (next ∷ rest) with joined more = ap (option_and_then (λ now. options_reading now (next ∷ rest))) with ∙ more

options_read : (given : Given) (words : List (List ℕ)) (after : Given) → AreOptions given words after → options_reading given words ≡ Some after
options_read _ _ _ (none given) = refl
options_read _ _ _ (disk given after word words rest absent is o more) =
    option_read given after word words rest (with_disk_is given word absent is) o (options_read (record given { disk = Some word }) rest after more)

pub only : (words : List (List ℕ)) (s : Settings) → Asks words s → words_reading words ≡ Some s
only _ _ (run options given are) = ap (option_and_then (λ g. Some (settings_given g))) (options_read none_given options given are)
