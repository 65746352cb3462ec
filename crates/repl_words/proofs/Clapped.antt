-- What clap makes of the words of a run.
use Rattle.std.specs.Prelude.{if◌then◌else◌, nat_eq, is_some, option_and_then}
use Rattle.std.proofs.Common.{ap, refl, sym, subst, codes, true, false, ℕ, ◌==◌, Bool, List, Option, Some, None, [], ◌∷◌, ◌++◌, ◌≡◌, ◌∙◌, drop}
use Rattle.std.specs.Prelude.{not}
use Rattle.std.specs.List.{starts_with}
use Rattle.std.specs.Str.{bytes_eq}
use Rattle.std.proofs.lemmas.Bool.{false≢true}
use Rattle.std.proofs.lemmas.Bool.Decides.{Decides-eqb}
use Rattle.std.proofs.lemmas.Slice.Eq.{bytes_eq-Decides, starts_is}
use Rattle.clap.specs.Words.{App, Rule, Text, first_of, new_app, new_rule, with_rule, takes, matches_of}
use Rattle.clap.specs.Walk.{Walk, walked, walk_from, nothing_held, finished, option, idle}
use Rattle.clap.specs.Simple.{built}
use Rattle.clap.specs.declared.builder.ArgAction.TheVariants.{Set}
use Rattle.clap.proofs.OnLiterals.{clap_on_literals}
use Rattle.repl_words.specs.Words.{Given, none_given, settings_given, is_disk_word, with_disk, options_reading, words_reading}
use Rattle.repl_words.specs.Values.{disk_word}

abbrev pub disk_rule : Rule
disk_rule = record (new_rule (codes "disk")) { long = Some (codes "disk"); action = Some Set }

abbrev pub start_app : App
start_app = record (new_app (codes "run")) { top = record (new_app (codes "run")).top { disable_help_flag = true } }

abbrev pub run_app : App
run_app = with_rule start_app disk_rule

-- the first value of --disk
abbrev pub disk_in : List Text → Option Text
disk_in words = first_of (codes "disk") (matches_of run_app words)

nothing : (f : Text) → disk_in (f ∷ []) ≡ None
unfolding clap_on_literals
nothing f = refl

nothing_taken : (f : Text) → takes run_app (f ∷ []) ≡ true
unfolding clap_on_literals
nothing_taken f = refl

joined : (f v : Text) → disk_in (f ∷ (codes "--disk=" ++ v) ∷ []) ≡ Some v
unfolding clap_on_literals
joined f v = refl

joined_taken : (f v : Text) → takes run_app (f ∷ (codes "--disk=" ++ v) ∷ []) ≡ true
unfolding clap_on_literals
joined_taken f v = refl

abbrev ruled : List Rule
ruled = (built run_app).top.rules

-- where the walk stands behind --disk, and behind its value
abbrev waits : List (Text) → Walk
waits vs = record {
  held = record { rows = []; pending = Some (codes "disk", vs); skip = 0 };
  waiting = option (codes "disk");
  position = 1;
  is_trailing = false;
  stopped = None;
}

step_1 : walked ruled [] (walk_from nothing_held) (codes "--disk") ≡ waits []
unfolding clap_on_literals
step_1 = refl

step_2 : (b : ℕ) (bs : Text) → (b == 45) ≡ false → walked ruled [] (waits []) (b ∷ bs) ≡ record (waits ((b ∷ bs) ∷ [])) { waiting = idle }
unfolding walked
step_2 b bs e = rw (e, e) refl

apart : (f : Text) (b : ℕ) (bs : Text) → (b == 45) ≡ false → disk_in (f ∷ codes "--disk" ∷ (b ∷ bs) ∷ []) ≡ Some (b ∷ bs)
apart f b bs e = ap (λ w. first_of (codes "disk") (finished ruled w.held)) (ap (λ w. walked ruled [] w (b ∷ bs)) step_1 ∙ step_2 b bs e)

some_if : {X : Type 0} (c : Bool) (o : Option X) → is_some (if c then o else None) ≡ true → (c ≡ true) × (is_some o ≡ true)
some_if true o h = (refl, h)
some_if false o h = absurd (false≢true h)

not_hyphen : (c : Bool) → not c ≡ true → c ≡ false
not_hyphen true h = absurd (false≢true h)
not_hyphen false h = refl

apart_word : (f w : Text) → is_disk_word w ≡ true → disk_in (f ∷ codes "--disk" ∷ w ∷ []) ≡ Some w
apart_word f [] h = absurd (false≢true h)
apart_word f (b ∷ bs) h = apart f b bs (not_hyphen (b == 45) h)

apart_taken : (f : Text) (b : ℕ) (bs : Text) → (b == 45) ≡ false → takes run_app (f ∷ codes "--disk" ∷ (b ∷ bs) ∷ []) ≡ true
unfolding clap_on_literals
apart_taken f b bs e = rw (e, e) refl

apart_word_taken : (f w : Text) → is_disk_word w ≡ true → takes run_app (f ∷ codes "--disk" ∷ w ∷ []) ≡ true
apart_word_taken f [] h = absurd (false≢true h)
apart_word_taken f (b ∷ bs) h = apart_taken f b bs (not_hyphen (b == 45) h)

-- The words that are options of a run: none, or a disk's word in either form, since it may be given once.

begins : (w : Text) → starts_with nat_eq w (codes "--disk=") ≡ true → w ≡ codes "--disk=" ++ drop 7 w
begins w h = (starts_is Decides-eqb w (codes "--disk=") _ refl).0 h

none_of : (P : Type 0) (c d : Bool) → is_some {T = Given} (if c then None else if d then None else None) ≡ true → P
none_of P true d h = absurd (false≢true h)
none_of P false true h = absurd (false≢true h)
none_of P false false h = absurd (false≢true h)

-- where a disk is given nothing more is
nothing_more : (word : Text) (rest : List Text) → is_some (options_reading (record { disk = Some word }) rest) ≡ true → rest ≡ []
nothing_more word [] h = refl
nothing_more word (o ∷ []) h = none_of _ (starts_with nat_eq o (codes "--disk=")) false h
nothing_more word (o ∷ w ∷ rest) h = none_of _ (starts_with nat_eq o (codes "--disk=")) (bytes_eq o (codes "--disk")) h

fits_if : (word : Text) → is_some (with_disk none_given word) ≡ true → is_disk_word word ≡ true
fits_if word h = (some_if (is_disk_word word) (Some (record { disk = Some word })) h).0

alone_by : (c : Bool) (word : Text) (rest : List Text) → is_some (option_and_then (λ now. options_reading now rest) (if c then Some (record { disk = Some word }) else None)) ≡ true → (c ≡ true) × (rest ≡ [])
alone_by true word rest h = (refl, nothing_more word rest h)
alone_by false word rest h = absurd (false≢true h)

-- a disk's word, and options behind it
alone_if : (word : Text) (rest : List Text) → is_some (option_and_then (λ now. options_reading now rest) (with_disk none_given word)) ≡ true → (is_disk_word word ≡ true) × (rest ≡ [])
alone_if word rest h = alone_by (is_disk_word word) word rest h

nonempty : (w : Text) (rest : List Text) → (w ∷ rest) ≡ [] → ⊥
nonempty w rest e = cc e

two : {X : Type 0} (P : Type 0) (c d : Bool) (a b : Option X) → is_some (if c then a else if d then b else None) ≡ true → (c ≡ true → is_some a ≡ true → P) → (d ≡ true → is_some b ≡ true → P) → P
two P true d a b h f g = f refl h
two P false true a b h f g = g refl h
two P false false a b h f g = absurd (false≢true h)

-- what holds of the words of a run holds of each form
forms : (P : List Text → Type 0) → P [] → ((word : Text) → is_disk_word word ≡ true → P ((codes "--disk=" ++ word) ∷ [])) → ((word : Text) → is_disk_word word ≡ true → P (codes "--disk" ∷ word ∷ []))
    → (options : List Text) → is_some (options_reading none_given options) ≡ true → P options
forms P none joined apart [] h = none
forms P none joined apart (o ∷ []) h =
    let x = some_if (starts_with nat_eq o (codes "--disk=")) (with_disk none_given (drop 7 o)) h in
    subst (λ (t : Text). P (t ∷ [])) (sym (begins o x.0)) (joined (drop 7 o) (fits_if (drop 7 o) x.1))
forms P none joined apart (o ∷ w ∷ rest) h =
    two (P (o ∷ w ∷ rest)) (starts_with nat_eq o (codes "--disk=")) (bytes_eq o (codes "--disk")) _ _ h
    (λ is k. absurd (nonempty w rest (alone_if (drop 7 o) (w ∷ rest) k).1))
    (λ is k. let a = alone_if w rest k in
    subst (λ (r : List Text). P (o ∷ w ∷ r)) (sym a.1) (subst (λ (t : Text). P (t ∷ w ∷ [])) (sym ((bytes_eq-Decides o (codes "--disk")).0 is)) (apart w a.0)))

told_if : (o : Option Given) → is_some (option_and_then (λ g. Some (settings_given g)) o) ≡ true → is_some o ≡ true
told_if None h = h
told_if (Some g) h = refl

read_if : (f : Text) (options : List Text) → is_some (words_reading (f ∷ options)) ≡ true → is_some (options_reading none_given options) ≡ true
read_if f options h = told_if (options_reading none_given options) (some_if (bytes_eq f (codes "run")) _ h).1

-- a parse of a command line fails only for want of memory
pub words_taken : (words : List Text) → is_some (words_reading words) ≡ true → takes run_app words ≡ true
words_taken [] h = absurd (false≢true h)
words_taken (f ∷ options) h = forms (λ o. takes run_app (f ∷ o) ≡ true) (nothing_taken f) (λ w is. joined_taken f w) (apart_word_taken f) options (read_if f options h)

-- and has the word that names the disks
pub words_matched : (words : List Text) → is_some (words_reading words) ≡ true → disk_in words ≡ disk_word words
words_matched [] h = absurd (false≢true h)
words_matched (f ∷ options) h = forms (λ o. disk_in (f ∷ o) ≡ disk_word (f ∷ o)) (nothing f) (λ w is. joined f w) (apart_word f) options (read_if f options h)

joined_read : (f w : Text) → is_disk_word w ≡ true → options_reading none_given ((codes "--disk=" ++ w) ∷ []) ≡ Some (record { disk = Some w })
joined_read f w is = rw is refl

apart_read : (f w : Text) → is_disk_word w ≡ true → options_reading none_given (codes "--disk" ∷ w ∷ []) ≡ Some (record { disk = Some w })
apart_read f w is = rw is refl

told_form : (f : Text) (options : List Text) → is_some (options_reading none_given options) ≡ true → options_reading none_given options ≡ Some (record { disk = disk_word (f ∷ options) })
told_form f = forms (λ o. options_reading none_given o ≡ Some (record { disk = disk_word (f ∷ o) })) refl (joined_read f) (apart_read f)

-- what is read of words that are a command line
pub words_read : (words : List Text) → is_some (words_reading words) ≡ true → words_reading words ≡ Some (settings_given (record { disk = disk_word words }))
words_read [] h = absurd (false≢true h)
words_read (f ∷ options) h =
    rw (some_if (bytes_eq f (codes "run")) _ h).0 (ap (option_and_then (λ g. Some (settings_given g))) (told_form f options (read_if f options h)))
