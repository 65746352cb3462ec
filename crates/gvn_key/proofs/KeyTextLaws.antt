-- A key's text is read to what its name and subscripts make.
use Rattle.std.proofs.Common.{◌≡◌, ℕ, zero, suc, ◌+◌, ◌≤◌, ◌≢◌, Bool, true, false, not, ◌||◌, ◌==◌, nat_lt, List, [], ◌∷◌, ◌++◌, length, Option, Some, None, refl, ap, sym, subst, ◌∙◌, arith, inl, inr}
use Rattle.std.specs.List.{list_all, position_or_len}
use Rattle.std.specs.Char.{is_ascii_alphabetic, is_ascii_alphanumeric}
use Rattle.std.specs.Str.Parse.{AllDigits}
use Rattle.std.specs.declared.result.Result.{Result}
use Rattle.std.specs.declared.result.Result.TheVariants.{Ok, Err}
use Rattle.std.proofs.Math.Seq.{take-append_seam, drop-append_seam, take-length, drop-length}
use Rattle.std.proofs.lemmas.List.{append-nil}
use Rattle.std.proofs.lemmas.List.Folds.{list_all-append}
use Rattle.std.proofs.lemmas.Str.Parse.{digit_from_value}
use Rattle.std.proofs.lemmas.Bool.{and_parts, and_from, or_cases, not_from_false, cases_Bool, eqb-true, ne_eqb, not-true, true≢false, le-ltb}
use Rattle.global_defs.specs.declared.limits.TheConstants.{LONGEST_NAME}
use Rattle.global_defs.specs.Key.{Key}
use Rattle.global_defs.specs.Numeral.{is_number}
use Rattle.global_defs.specs.NodeText.{pointed}
use Rattle.global_defs.specs.Valid.{is_name}
use Rattle.global_defs.proofs.Numerals.{IsSigned, nought, minus, plus, numeral_signed, positive_parts, IsParts}
use Rattle.gvn_key.specs.Faults.{key_of, subs_fault, key_fault, MakesKey}
use Rattle.gvn_key.specs.ZwrText.{quoted, coded, IsZwr, one, more, scan}
use Rattle.gvn_key.specs.KeyText.{IsSubText, number, string, IsSubsText, last, another, IsKeyText, bare, branched, is_end, begins_string, string_at, sub_at, fronted, next_from, going, fault_past, subs_at, subs_in, answered, fitting, named, is_bracket, split_name, key_reading, ReadsKey}
use Rattle.gvn_key.proofs.Parsing.{subs_more, subs_past}
use Rattle.gvn_key.proofs.ZwrLaws.{IsRead, zwr_is_read}
use Rattle.gvn_key.specs.declared.reader.State.TheVariants.{Start, Closed, Done}
use Rattle.gvn_key.specs.declared.key.KeyError.{KeyError}
use Rattle.gvn_key.specs.declared.key.KeyError.TheVariants.{BadName, NameTooLong, BadSub, NullSub, TooManySubs, KeyTooLong, NoMemory}

-- the place of a byte that passes, behind bytes that don't

abbrev Fails : (ℕ → Bool) → List ℕ → Type 0
Fails p s = list_all (λ b. not (p b)) s ≡ true

ends_at : (p : ℕ → Bool) (s : List ℕ) (d : ℕ) (rest : List ℕ) → Fails p s → p d ≡ true → position_or_len p (s ++ (d ∷ rest)) ≡ length s
ends_at p [] d rest h e = rw e refl
ends_at p (b ∷ bs) d rest h e =
    let t = and_parts (not (p b)) (list_all (λ b. not (p b)) bs) h in
    rw t.0 (omega (arith, ends_at p bs d rest t.1 e))

ends_nowhere : (p : ℕ → Bool) (s : List ℕ) → Fails p s → position_or_len p s ≡ length s
ends_nowhere p [] h = refl
ends_nowhere p (b ∷ bs) h =
    let t = and_parts (not (p b)) (list_all (λ b. not (p b)) bs) h in
    rw t.0 (omega (arith, ends_nowhere p bs t.1))

-- no byte of a numeral ends a subscript or begins a string

abbrev is_mark : ℕ → Bool
is_mark b = is_end b || (b == 34 || b == 36)

digit_fails : (c : ℕ) → 48 ≤ c → is_mark c ≡ false
digit_fails c h = rw (ne_eqb c 44 (λ e. omega arith), ne_eqb c 41 (λ e. omega arith), ne_eqb c 34 (λ e. omega arith), ne_eqb c 36 (λ e. omega arith)) refl

digits_fail : (ds : List ℕ) → AllDigits 10 ds → Fails is_mark ds
digits_fail [] h = refl
digits_fail (d ∷ ds) h = and_from (not (is_mark d)) (list_all (λ b. not (is_mark b)) ds) (not_from_false (is_mark d) (digit_fails d (digit_from_value d h.0).0)) (digits_fail ds h.1)

pointed_fails : (f : List ℕ) → AllDigits 10 f → Fails is_mark (pointed f)
pointed_fails [] h = refl
pointed_fails (d ∷ ds) h = digits_fail (d ∷ ds) h

parts_fail : (bs w f : List ℕ) → IsParts bs w f → Fails is_mark bs
parts_fail bs w f p = subst (Fails is_mark) (sym p.text) (list_all-append (λ b. not (is_mark b)) w (pointed f) ∙ and_from (list_all (λ b. not (is_mark b)) w) (list_all (λ b. not (is_mark b)) (pointed f)) (digits_fail w p.whole) (pointed_fails f p.fraction))

signed_fails : {s : List ℕ} → IsSigned s → Fails is_mark s
signed_fails nought = refl
signed_fails (minus bs h few) = let p = positive_parts bs h few in parts_fail bs p.0 p.1 p.2
signed_fails (plus b bs ne h few) = let p = positive_parts (b ∷ bs) h few in parts_fail (b ∷ bs) p.0 p.1 p.2

or_fails : (a b : Bool) → not (a || b) ≡ true → (not a ≡ true) × (not b ≡ true)
or_fails true b h = cc
or_fails false b h = (refl, h)

no_end : (s : List ℕ) → Fails is_mark s → Fails is_end s
no_end [] h = refl
no_end (b ∷ bs) h =
    let t = and_parts (not (is_mark b)) (list_all (λ b. not (is_mark b)) bs) h in
    and_from (not (is_end b)) (list_all (λ b. not (is_end b)) bs) (or_fails (is_end b) (b == 34 || b == 36) t.0).0 (no_end bs t.1)

no_string : (s : List ℕ) (d : ℕ) (rest : List ℕ) → Fails is_mark s → is_end d ≡ true → begins_string (s ++ (d ∷ rest)) ≡ false
no_string [] d rest h e = elim (or_cases (d == 44) (d == 41) e) [ inl k ↦ rw (eqb-true d 44 k) refl | inr k ↦ rw (eqb-true d 41 k) refl ]
no_string (b ∷ bs) d rest h e =
    let t = and_parts (not (is_mark b)) (list_all (λ b. not (is_mark b)) bs) h in
    not-true (b == 34 || b == 36) (or_fails (is_end b) (b == 34 || b == 36) t.0).1

-- a subscript's text before a comma or a bracket

number_at : (s : List ℕ) (d : ℕ) (rest : List ℕ) → is_number s ≡ true → is_end d ≡ true → sub_at (s ++ (d ∷ rest)) ≡ Some (record { value = s; left = d ∷ rest })
number_at s d rest h e =
    let f = signed_fails (numeral_signed s h) in
    let place : position_or_len is_end (s ++ (d ∷ rest)) ≡ length s = ends_at is_end s d rest (no_end s f) e in
    rw (no_string s d rest f e, place, take-append_seam s (d ∷ rest), drop-append_seam s (d ∷ rest), h, e) refl

string_begins : {t v : List ℕ} → IsZwr t v → (rest : List ℕ) → begins_string (t ++ rest) ≡ true
string_begins (one (quoted bs p)) rest = refl
string_begins (one (coded b bs p)) rest = refl
string_begins (more (quoted bs p) z) rest = refl
string_begins (more (coded b bs p) z) rest = refl

stops_closed : (d : ℕ) (rest : List ℕ) → is_end d ≡ true → scan Closed (d ∷ rest) ≡ record { value = []; state = Closed; left = d ∷ rest }
stops_closed d rest e = elim (or_cases (d == 44) (d == 41) e) [ inl h ↦ rw (eqb-true d 44 h) refl | inr h ↦ rw (eqb-true d 41 h) refl ]

stops_done : (d : ℕ) (rest : List ℕ) → is_end d ≡ true → scan Done (d ∷ rest) ≡ record { value = []; state = Done; left = d ∷ rest }
stops_done d rest e = elim (or_cases (d == 44) (d == 41) e) [ inl h ↦ rw (eqb-true d 44 h) refl | inr h ↦ rw (eqb-true d 41 h) refl ]

string_at_read : (t v : List ℕ) (d : ℕ) (rest : List ℕ) → is_end d ≡ true → IsRead t v (d ∷ rest) → string_at (scan Start (t ++ (d ∷ rest))) ≡ Some (record { value = v ++ []; left = d ∷ rest })
string_at_read t v d rest e (inl r) = rw (r, stops_closed d rest e, e) refl
string_at_read t v d rest e (inr r) = rw (r, stops_done d rest e, e) refl

string_at_end : {t v : List ℕ} → IsZwr t v → (d : ℕ) (rest : List ℕ) → is_end d ≡ true → sub_at (t ++ (d ∷ rest)) ≡ Some (record { value = v; left = d ∷ rest })
string_at_end {t} {v} z d rest e = rw (string_begins z (d ∷ rest)) (string_at_read t v d rest e (zwr_is_read z (d ∷ rest)) ∙ ap (λ x. Some (record { value = x; left = d ∷ rest })) (append-nil v))

sub_text_at : {t v : List ℕ} → IsSubText t v → (d : ℕ) (rest : List ℕ) → is_end d ≡ true → sub_at (t ++ (d ∷ rest)) ≡ Some (record { value = v; left = d ∷ rest })
sub_text_at (number s h) d rest e = number_at s d rest h e
sub_text_at (string z) d rest e = string_at_end z d rest e

-- all subscripts, or the first fault

abbrev outcome : List (List ℕ) → Option KeyError → Result (List (List ℕ)) KeyError
outcome subs None = Ok subs
outcome subs (Some e) = Err e

outcome_fronted : (v : List ℕ) (subs : List (List ℕ)) (o : Option KeyError) → fronted (v ∷ []) (outcome subs o) ≡ outcome (v ∷ subs) o
outcome_fronted v subs None = refl
outcome_fronted v subs (Some e) = refl

one_too_many : (n : ℕ) (v left : List ℕ) (subs : List (List ℕ)) → n ≡ 31 → Err (fault_past (Some (record { value = v; left = left }))) ≡ outcome (v ∷ subs) (subs_fault n (v ∷ subs))
one_too_many n v left subs e = rw e (elim (cases_Bool (length v == 0)) [ inl h ↦ rw h refl | inr h ↦ rw h refl ])

past_text : (n : ℕ) (text v left : List ℕ) (subs : List (List ℕ)) → n + 0 ≡ 31 → sub_at text ≡ Some (record { value = v; left = left })
    → subs_at 0 text ≡ outcome (v ∷ subs) (subs_fault n (v ∷ subs))
past_text n text v left subs e r = subs_past text ∙ ap (λ o. Err (fault_past o)) r ∙ one_too_many n v left subs (omega arith)

last_text : (n k : ℕ) (text v : List ℕ) → n + suc k ≡ 31 → sub_at text ≡ Some (record { value = v; left = 41 ∷ [] })
    → subs_at (suc k) text ≡ outcome (v ∷ []) (subs_fault n (v ∷ []))
last_text n k text v e r =
    let few : nat_lt 30 n ≡ false = le-ltb 30 n (omega arith) in
    subs_more k text ∙ ap (λ o. going (next_from o) (subs_at k)) r
    ∙ elim (cases_Bool (length v == 0)) [ inl h ↦ rw h refl | inr h ↦ rw (h, few) refl ]

more_text : (n k : ℕ) (text v u : List ℕ) (subs : List (List ℕ)) → n + suc k ≡ 31 → sub_at text ≡ Some (record { value = v; left = 44 ∷ u })
    → subs_at k u ≡ outcome subs (subs_fault (n + 1) subs) → subs_at (suc k) text ≡ outcome (v ∷ subs) (subs_fault n (v ∷ subs))
more_text n k text v u subs e r rest =
    let few : nat_lt 30 n ≡ false = le-ltb 30 n (omega arith) in
    subs_more k text ∙ ap (λ o. going (next_from o) (subs_at k)) r
    ∙ elim (cases_Bool (length v == 0)) [
      | inl h ↦ rw h refl
      | inr h ↦ rw (h, few) (ap (fronted (v ∷ [])) rest ∙ outcome_fronted v subs (subs_fault (n + 1) subs))
    ]

subs_text_at : {text : List ℕ} {subs : List (List ℕ)} → IsSubsText text subs → (k n : ℕ) → n + k ≡ 31 → subs_at k text ≡ outcome subs (subs_fault n subs)
subs_text_at (last {t} {v} p) zero n e = past_text n (t ++ (41 ∷ [])) v (41 ∷ []) [] e (sub_text_at p 41 [] refl)
subs_text_at (last {t} {v} p) (suc k) n e = last_text n k (t ++ (41 ∷ [])) v e (sub_text_at p 41 [] refl)
subs_text_at (another {t} {v} {u} {subs} p z) zero n e = past_text n (t ++ (44 ∷ u)) v (44 ∷ u) subs e (sub_text_at p 44 u refl)
subs_text_at (another {t} {v} {u} {subs} p z) (suc k) n e = more_text n k (t ++ (44 ∷ u)) v u subs e (sub_text_at p 44 u refl) (subs_text_at z k (n + 1) (omega arith))

-- no byte of a name is a bracket

alphanumeric_fails : (b : ℕ) → is_ascii_alphanumeric b ≡ true → not (is_bracket b) ≡ true
alphanumeric_fails b h =
    let p : b ≢ 40 = λ e. true≢false (sym h ∙ ap is_ascii_alphanumeric e) in
    let q : b ≢ 41 = λ e. true≢false (sym h ∙ ap is_ascii_alphanumeric e) in
    rw (ne_eqb b 40 p, ne_eqb b 41 q) refl

first_fails : (b : ℕ) → (b == 37 || is_ascii_alphabetic b) ≡ true → not (is_bracket b) ≡ true
first_fails b h =
    let p : b ≢ 40 = λ e. true≢false (sym h ∙ ap (λ c. c == 37 || is_ascii_alphabetic c) e) in
    let q : b ≢ 41 = λ e. true≢false (sym h ∙ ap (λ c. c == 37 || is_ascii_alphabetic c) e) in
    rw (ne_eqb b 40 p, ne_eqb b 41 q) refl

all_fail : (bs : List ℕ) → list_all is_ascii_alphanumeric bs ≡ true → Fails is_bracket bs
all_fail [] h = refl
all_fail (b ∷ bs) h =
    let t = and_parts (is_ascii_alphanumeric b) (list_all is_ascii_alphanumeric bs) h in
    and_from (not (is_bracket b)) (list_all (λ c. not (is_bracket c)) bs) (alphanumeric_fails b t.0) (all_fail bs t.1)

name_fails : (name : List ℕ) → is_name name ≡ true → Fails is_bracket name
name_fails [] h = cc
name_fails (b ∷ bs) h =
    let t = and_parts (b == 37 || is_ascii_alphabetic b) (list_all is_ascii_alphanumeric bs) h in
    and_from (not (is_bracket b)) (list_all (λ c. not (is_bracket c)) bs) (first_fails b t.0) (all_fail bs t.1)

-- a key's text is read to what its name and subscripts make

fitted : (name : List ℕ) (subs : List (List ℕ)) (o : Option KeyError) → is_name name ≡ true → nat_lt LONGEST_NAME (length name) ≡ false → subs_fault 0 subs ≡ o
    → fitting name (outcome subs o) ≡ answered name subs (key_fault name subs)
fitted name subs None good short e = refl
fitted name subs (Some f) good short e = rw (good, short, e) refl

long_enough : (name tail : List ℕ) (subs : List (List ℕ)) → is_name name ≡ true → nat_lt LONGEST_NAME (length name) ≡ false → subs_in tail ≡ outcome subs (subs_fault 0 subs)
    → named name tail ≡ answered name subs (key_fault name subs)
long_enough name tail subs good short e =
    let first : named name tail ≡ fitting name (subs_in tail) = rw (good, short) refl in
    first ∙ ap (fitting name) e ∙ fitted name subs (subs_fault 0 subs) good short refl

named_is : (name tail : List ℕ) (subs : List (List ℕ)) → is_name name ≡ true → subs_in tail ≡ outcome subs (subs_fault 0 subs)
    → named name tail ≡ answered name subs (key_fault name subs)
named_is name tail subs good e = elim (cases_Bool (nat_lt LONGEST_NAME (length name))) [
  | inl h ↦ rw (good, h) refl
  | inr h ↦ long_enough name tail subs good h e
]

pub key_text_read : {text name : List ℕ} {subs : List (List ℕ)} → is_name name ≡ true → IsKeyText text name subs → key_reading text ≡ answered name subs (key_fault name subs)
key_text_read good (bare name) =
    let place : position_or_len is_bracket name ≡ length name = ends_nowhere is_bracket name (name_fails name good) in
    ap (λ n. split_name n name) place ∙ (λ i. named (take-length name i) (drop-length name i)) ∙ named_is name [] [] good refl
key_text_read good (branched name {t} {subs} z) =
    let text : List ℕ = name ++ (40 ∷ t) in
    let place : position_or_len is_bracket text ≡ length name = ends_at is_bracket name 40 t (name_fails name good) refl in
    ap (λ n. split_name n text) place ∙ (λ i. named (take-append_seam name (40 ∷ t) i) (drop-append_seam name (40 ∷ t) i))
    ∙ named_is name (40 ∷ t) subs good (subs_text_at z 31 0 (omega arith))

answered_ok : (name : List ℕ) (subs : List (List ℕ)) (o : Option KeyError) (key : Key) → answered name subs o ≡ Ok key → (o ≡ None) × (key ≡ key_of name subs)
answered_ok name subs None key e = (refl, cc)
answered_ok name subs (Some f) key e = cc

answered_err : (name : List ℕ) (subs : List (List ℕ)) (o : Option KeyError) (f : KeyError) → answered name subs o ≡ Err f → o ≡ Some f
answered_err name subs None f e = cc
answered_err name subs (Some g) f e = cc

makes_back : (name : List ℕ) (subs : List (List ℕ)) (r : Result Key KeyError) → ReadsKey (answered name subs (key_fault name subs)) r → MakesKey name subs r
makes_back name subs (Ok key) h = answered_ok name subs (key_fault name subs) key h
makes_back name subs (Err BadName) h = answered_err name subs (key_fault name subs) BadName h
makes_back name subs (Err NameTooLong) h = answered_err name subs (key_fault name subs) NameTooLong h
makes_back name subs (Err BadSub) h = answered_err name subs (key_fault name subs) BadSub h
makes_back name subs (Err NullSub) h = answered_err name subs (key_fault name subs) NullSub h
makes_back name subs (Err TooManySubs) h = answered_err name subs (key_fault name subs) TooManySubs h
makes_back name subs (Err KeyTooLong) h = answered_err name subs (key_fault name subs) KeyTooLong h
makes_back name subs (Err NoMemory) h = tt

-- what is answered to a key's text is what its name and subscripts make
pub text_makes : (text name : List ℕ) (subs : List (List ℕ)) (r : Result Key KeyError) → ReadsKey (key_reading text) r → is_name name ≡ true → IsKeyText text name subs → MakesKey name subs r
text_makes text name subs r h good t = makes_back name subs r (subst (λ x. ReadsKey x r) (key_text_read good t) h)
