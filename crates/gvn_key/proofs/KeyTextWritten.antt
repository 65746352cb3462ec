-- A key's text is read back.
use Rattle.std.proofs.Common.{◌≡◌, ℕ, ◌+◌, ◌<◌, ◌≤◌, true, false, not, ◌==◌, nat_lt, List, [], ◌∷◌, ◌++◌, length, map, None, refl, ap, sym, subst, ◌∙◌, arith, append_assoc}
use Rattle.std.specs.List.{list_all, flat_map}
use Rattle.std.specs.declared.result.Result.{Result}
use Rattle.std.specs.declared.result.Result.TheVariants.{Ok}
use Rattle.std.proofs.lemmas.List.{append-nil}
use Rattle.std.proofs.lemmas.Bool.{and_parts, ne_eqb, le-ltb, ltb-true}
use Rattle.global_defs.specs.declared.limits.TheConstants.{LONGEST_NAME}
use Rattle.global_defs.specs.Key.{Key, Sub, Number, Text}
use Rattle.global_defs.specs.Numeral.{is_number}
use Rattle.global_defs.specs.Encoded.{encoded}
use Rattle.global_defs.specs.NodeText.{number_text, sub_bytes, sub_text, subs_text, node_text}
use Rattle.global_defs.specs.Valid.{is_name, is_sub, is_key}
use Rattle.global_defs.proofs.NumberValue.{subs_back}
use Rattle.global_defs.proofs.ValidKeys.{valid_parts}
use Rattle.gvn_key.specs.Faults.{key_of, subs_fault, key_fault}
use Rattle.gvn_key.specs.ZwrText.{IsBytes}
use Rattle.gvn_key.specs.KeyText.{IsSubText, number, string, IsSubsText, last, another, IsKeyText, bare, branched, AreByteSubs, AreBytes, answered, key_reading, ReadsKey}
use Rattle.gvn_key.proofs.ZwrWritten.{zwr_written}
use Rattle.gvn_key.proofs.KeyTextLaws.{key_text_read}
use Rattle.gvn_key.specs.declared.key.KeyError.{KeyError}

-- the written text is one of the key's name and its subscripts' own bytes

sub_written : (s : Sub) → is_sub s ≡ true → IsBytes (sub_bytes s) → IsSubText (sub_text s) (sub_bytes s)
sub_written (Number x) h small = number (number_text x) h
sub_written (Text s) h small = string (zwr_written s small)

abbrev pub others : List Sub → List ℕ
others subs = flat_map (λ t. 44 ∷ sub_text t) subs

subs_written : (s : Sub) (subs : List Sub) → is_sub s ≡ true → list_all is_sub subs ≡ true → IsBytes (sub_bytes s) → AreByteSubs subs
    → IsSubsText (sub_text s ++ (others subs ++ (41 ∷ []))) (map sub_bytes (s ∷ subs))
subs_written s [] h all small each = last (sub_written s h small)
subs_written s (t ∷ subs) h all small each =
    let a = and_parts (is_sub t) (list_all is_sub subs) all in
    subst (λ x. IsSubsText (sub_text s ++ (44 ∷ x)) (map sub_bytes (s ∷ t ∷ subs))) (sym (append_assoc (sub_text t) (others subs) (41 ∷ [])))
    (another (sub_written s h small) (subs_written t subs a.0 a.1 each.0 each.1))

node_written : (name : List ℕ) (subs : List Sub) → list_all is_sub subs ≡ true → AreByteSubs subs → IsKeyText (94 ∷ (name ++ subs_text subs)) name (map sub_bytes subs)
node_written name [] all each = subst (λ x. IsKeyText (94 ∷ x) name []) (sym (append-nil name)) (bare name)
node_written name (s ∷ subs) all each =
    let a = and_parts (is_sub s) (list_all is_sub subs) all in
    subst (λ x. IsKeyText (94 ∷ (name ++ (40 ∷ x))) name (map sub_bytes (s ∷ subs))) (sym (append_assoc (sub_text s) (others subs) (41 ∷ [])))
    (branched name (subs_written s subs a.0 a.1 each.0 each.1))

-- a key's parts have no fault

number_some : (s : List ℕ) → is_number s ≡ true → 0 < length s
number_some [] h = cc
number_some (b ∷ bs) h = omega arith

sub_some : (s : Sub) → is_sub s ≡ true → 0 < length (sub_bytes s)
sub_some (Number x) h = number_some (number_text x) h
sub_some (Text s) h = ltb-true 0 (length s) (and_parts (nat_lt 0 (length s)) (not (is_number s)) h).0

subs_pass : (n : ℕ) (subs : List Sub) → list_all is_sub subs ≡ true → n + length subs ≤ 31 → subs_fault n (map sub_bytes subs) ≡ None
subs_pass n [] all few = refl
subs_pass n (s ∷ subs) all few =
    let a = and_parts (is_sub s) (list_all is_sub subs) all in
    let some = sub_some s a.0 in
    let known : (length (sub_bytes s) == 0) ≡ false = ne_eqb (length (sub_bytes s)) 0 (λ e. omega arith) in
    let room : nat_lt 30 n ≡ false = le-ltb 30 n (omega arith) in
    rw (known, room) (subs_pass (n + 1) subs a.1 (omega arith))

no_faults : (name : List ℕ) (subs : List (List ℕ)) → is_name name ≡ true → length name ≤ LONGEST_NAME → subs_fault 0 subs ≡ None → length (encoded (key_of name subs)) ≤ 255 → key_fault name subs ≡ None
no_faults name subs good short none fits = rw (good, le-ltb 31 (length name) short, none, le-ltb 255 (length (encoded (key_of name subs))) fits) refl

made_again : (key : Key) → list_all is_sub key.subs ≡ true → key_of key.name (map sub_bytes key.subs) ≡ key
made_again key all = ap (λ s. record { name = key.name; subs = s }) (subs_back key.subs all)

pub written_read : (key : Key) → is_key key ≡ true → AreBytes key → key_reading (node_text key) ≡ Ok key
written_read key h small =
    let v = valid_parts key h in
    let subs : List (List ℕ) = map sub_bytes key.subs in
    let same = made_again key v.subs in
    let none = no_faults key.name subs v.name v.short (subs_pass 0 key.subs v.subs (omega (arith, v.few))) (omega (arith, v.fits, ap (λ k. length (encoded k)) same)) in
    key_text_read v.name (node_written key.name key.subs v.subs small) ∙ ap (answered key.name subs) none ∙ ap (λ k. Ok k) same

pub read_back : (text : List ℕ) (key : Key) (r : Result Key KeyError) → ReadsKey (key_reading text) r → is_key key ≡ true → AreBytes key → text ≡ node_text key → ReadsKey (Ok key) r
read_back text key r h valid small e = subst (λ x. ReadsKey x r) (ap key_reading e ∙ written_read key valid small) h
