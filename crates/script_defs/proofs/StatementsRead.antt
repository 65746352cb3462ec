-- A text that spells a statement is read to it.
use Rattle.std.proofs.Common.{◌≡◌, ℕ, ℤ, zero, suc, ◌+◌, ◌-◌, ◌≤◌, ◌≢◌, ◌⊎◌, true, false, ◌||◌, ◌==◌, nat_lt, List, [], ◌∷◌, ◌++◌, length, take, drop, replicate, get_or, codes, Some, None, refl, ap, sym, subst, ◌∙◌, arith, inl, inr, append_assoc, length-append, cond}
use Rattle.std.specs.List.{list_all}
use Rattle.std.specs.Char.{is_ascii_alphabetic, is_ascii_alphanumeric}
use Rattle.std.specs.Str.Parse.{AllDigits}
use Rattle.std.specs.declared.result.Result.TheVariants.{Ok, Err}
use Rattle.std.proofs.Math.Seq.{take-append_seam, drop-append_seam, take-length, drop-length, get_or-append_seam}
use Rattle.std.proofs.lemmas.List.{append_cancel_right, length-map}
use Rattle.std.proofs.lemmas.Str.Parse.{digit_from_value}
use Rattle.std.proofs.lemmas.Bool.{and_parts, cases_Bool, eq-eqb, ne_eqb, le-ltb, true≢false, both_ways}
use Rattle.global_defs.specs.declared.limits.TheConstants.{LONGEST_VALUE}
use Rattle.global_defs.specs.Key.{Key, Sub, Text, sub_of}
use Rattle.global_defs.specs.Jobs.{Statement, Set, Kill, ZKill, Incr, Get, Defined, Order, CheckIs, CheckAtLeast}
use Rattle.global_defs.specs.NodeText.{pointed, sub_bytes}
use Rattle.global_defs.specs.Numeral.{is_number, integer_of}
use Rattle.global_defs.specs.Valid.{is_name}
use Rattle.global_defs.proofs.Numerals.{IsSigned, nought, minus, plus, numeral_signed, positive_parts}
use Rattle.gvn_key.specs.Faults.{key_fault, subs_fault}
use Rattle.gvn_key.specs.ZwrText.{IsZwr, one, more, quoted, coded}
use Rattle.gvn_key.specs.KeyText.{IsSubText, number, string, IsSubsText, last, another, IsKeyText, bare, branched, begins_string, answered, key_reading}
use Rattle.gvn_key.proofs.ZwrLaws.{zwr_complete}
use Rattle.gvn_key.proofs.KeyTextLaws.{key_text_read}
use Rattle.gvn_key.specs.declared.key.KeyError.{KeyError}
use Rattle.gvn_key.specs.declared.key.KeyError.TheVariants.{NullSub, TooManySubs, BadName, NameTooLong}
use Rattle.script_defs.specs.Parts.{IsNode, IsLevel, within, top, below, followed, key_end, without_spaces, alone, found, node_at, node_reading, valued, value_reading, sized, last_value, last_integer, last_node, assigned, level_of, top_level, below_level, empty_level, level_from, level_reading, last_level}
use Rattle.script_defs.specs.Statements.{IsOperand, set, kill, zkill, incr, get, defined, order, check_is, check_at_least, SpellsStatement, value_statement, node_statement, incr_reading, order_reading, is_at_least, check_integer, check_reading, statement_reading}
use Rattle.script_defs.proofs.PartEnds.{IsMark, Stays, stay_both, stay_bytes, stay_value, stay_key, ends_before, ends_last}

-- keys

name_good : (name : List ℕ) (subs : List (List ℕ)) → key_fault name subs ≡ None → is_name name ≡ true
name_good name subs e = elim (cases_Bool (is_name name)) [ inl h ↦ h | inr h ↦ absurd (cc (rw h at e)) ]

node_read : {t : List ℕ} {key : Key} → IsNode t key → key_reading t ≡ Ok key
node_read n = key_text_read (name_good n.name n.subs n.no_fault) n.text_is ∙ ap (answered n.name n.subs) n.no_fault ∙ ap (λ k. Ok k) (sym n.key_is)

stay_node : (mark : ℕ) {t : List ℕ} {key : Key} → IsMark mark → IsNode t key → Stays mark t
stay_node mark m n = stay_key mark m (name_good n.name n.subs n.no_fault) n.text_is

key_front : {t name : List ℕ} {subs : List (List ℕ)} → IsKeyText t name subs → (rest : List ℕ) → without_spaces (t ++ rest) ≡ t ++ rest
key_front (bare name) rest = refl
key_front (branched name z) rest = refl

key_first : {t name : List ℕ} {subs : List (List ℕ)} → IsKeyText t name subs → without_spaces t ≡ t
key_first (bare name) = refl
key_first (branched name z) = refl

spaces_gone : (n : ℕ) (t : List ℕ) → without_spaces t ≡ t → without_spaces (replicate n 32 ++ t) ≡ t
spaces_gone zero t h = h
spaces_gone (suc n) t h = spaces_gone n t h

-- numerals and strings

first_known : (b : ℕ) (bs w f : List ℕ) → AllDigits 10 w → b ∷ bs ≡ w ++ pointed f → (48 ≤ b) ⊎ (b ≡ 46)
first_known b bs [] [] h e = cc
first_known b bs [] (d ∷ ds) h e = inr (cc e)
first_known b bs (d ∷ ds) f h e = let same : b ≡ d = cc e in inl (omega (arith, same, digit_from_value d h.0))

no_string : (b : ℕ) (bs : List ℕ) → (48 ≤ b) ⊎ (b ≡ 46) → begins_string (b ∷ bs) ≡ false
no_string b bs (inl low) = rw (ne_eqb b 34 (λ e. omega arith), ne_eqb b 36 (λ e. omega arith)) refl
no_string b bs (inr e) = rw e refl

signed_no_string : {s : List ℕ} → IsSigned s → begins_string s ≡ false
signed_no_string nought = refl
signed_no_string (minus bs h few) = refl
signed_no_string (plus b bs ne h few) = let p = positive_parts (b ∷ bs) h few in no_string b bs (first_known b bs p.0 p.1 p.2.whole p.2.text)

string_first : {t v : List ℕ} → IsZwr t v → begins_string t ≡ true
string_first (one (quoted bs p)) = refl
string_first (one (coded b bs p)) = refl
string_first (more (quoted bs p) z) = refl
string_first (more (coded b bs p) z) = refl

string_no_number : {t v : List ℕ} → IsZwr t v → is_number t ≡ false
string_no_number {t} {v} z = elim (cases_Bool (is_number t)) [
  | inl h ↦ absurd (both_ways (begins_string t) (signed_no_string (numeral_signed t h)) (string_first z))
  | inr h ↦ h
]

value_read : {t v : List ℕ} → IsSubText t v → value_reading t ≡ Ok v
value_read (number s h) = rw h refl
value_read (string {t} {v} z) = rw (string_no_number z) (zwr_complete t v z)

value_whole : (len : ℕ) {t v : List ℕ} → IsSubText t v → length v ≤ LONGEST_VALUE → last_value len t ≡ Ok v
value_whole len {t} {v} s few =
    ap (λ n. followed (valued len t (value_reading (take n t))) (sized len t (drop n t))) (ends_last 32 t (stay_value 32 (inl refl) s))
    ∙ (λ i. followed (valued len t (value_reading (take-length t i))) (sized len t (drop-length t i)))
    ∙ ap (λ r. followed (valued len t r) (sized len t [])) (value_read s)
    ∙ rw (le-ltb 1500 (length v) few) refl

integer_number : (d : List ℕ) (n : ℤ) → integer_of d ≡ Some n → is_number d ≡ true
integer_number d n e = elim (cases_Bool (is_number d)) [ inl h ↦ h | inr h ↦ absurd (cc (rw h at e)) ]

integer_whole : (len : ℕ) (d : List ℕ) (n : ℤ) → integer_of d ≡ Some n → last_integer len d ≡ Ok n
integer_whole len d n e =
    ap (λ k. followed (found len d (integer_of (take k d))) (alone len (drop k d))) (ends_last 32 d (stay_value 32 (inl refl) (number d (integer_number d n e))))
    ∙ (λ i. followed (found len d (integer_of (take-length d i))) (alone len (drop-length d i)))
    ∙ ap (λ r. followed (found len d r) (alone len [])) e

signed_front : {s : List ℕ} → IsSigned s → without_spaces s ≡ s
signed_front nought = refl
signed_front (minus bs h few) = refl
signed_front (plus b bs ne h few) =
    let p = positive_parts (b ∷ bs) h few in
    elim (first_known b bs p.0 p.1 p.2.whole p.2.text) [ inl low ↦ rw (ne_eqb b 32 (λ e. omega arith)) refl | inr e ↦ rw e refl ]

integer_front : (d : List ℕ) (n : ℤ) → integer_of d ≡ Some n → without_spaces d ≡ d
integer_front d n e = signed_front (numeral_signed d (integer_number d n e))

-- a node at the front

node_whole : (len : ℕ) {t : List ℕ} {key : Key} → IsNode t key → last_node len t ≡ Ok key
node_whole len {t} {key} n =
    ap (λ k. followed (node_at len t (key_reading (take k t))) (alone len (drop k t))) (ends_last 32 t (stay_node 32 (inl refl) n))
    ∙ (λ i. followed (node_at len t (key_reading (take-length t i))) (alone len (drop-length t i)))
    ∙ ap (λ r. followed (node_at len t r) (alone len [])) (node_read n)

value_statement_at : (make : Key → List ℕ → Statement) (len : ℕ) {k v value : List ℕ} {key : Key} → IsNode k key → IsSubText v value → length value ≤ LONGEST_VALUE
    → value_statement make len (k ++ (61 ∷ v)) (length k) ≡ Ok (make key value)
value_statement_at make len {k} {v} {value} {key} n s few =
    let left : List ℕ = k ++ (61 ∷ v) in
    (λ i. followed (node_at len left (key_reading (take-append_seam k (61 ∷ v) i))) (λ q. followed (assigned len (drop-append_seam k (61 ∷ v) i)) (λ x. Ok (make q x))))
    ∙ ap (λ r. followed (node_at len left r) (λ q. followed (assigned len (61 ∷ v)) (λ x. Ok (make q x)))) (node_read n)
    ∙ ap (λ r. followed r (λ x. Ok (make key x))) (value_whole len s few)

key_place : {k : List ℕ} {key : Key} (v : List ℕ) → IsNode k key → key_end (k ++ (61 ∷ v)) ≡ length k
key_place {k} v n = ends_before 61 k 61 v (stay_node 61 (inr refl) n) refl

set_read : (len : ℕ) {k v value : List ℕ} {key : Key} → IsNode k key → IsSubText v value → length value ≤ LONGEST_VALUE
    → value_statement Set len (k ++ (61 ∷ v)) (key_end (k ++ (61 ∷ v))) ≡ Ok (Set key value)
set_read len {k} {v} n s few = ap (value_statement Set len (k ++ (61 ∷ v))) (key_place v n) ∙ value_statement_at Set len n s few

incr_read : (len : ℕ) {k : List ℕ} {key : Key} (d : List ℕ) (n : ℤ) (m : ℕ) → IsNode k key → integer_of d ≡ Some n
    → incr_reading len (k ++ (32 ∷ (replicate m 32 ++ d))) ≡ Ok (Incr key n)
incr_read len {k} {key} d n m node e =
    let rest : List ℕ = replicate m 32 ++ d in
    let left : List ℕ = k ++ (32 ∷ rest) in
    ap (λ j. followed (node_reading len left j) (λ q. followed (last_integer len (without_spaces (drop j left))) (λ x. Ok (Incr q x)))) (ends_before 32 k 32 rest (stay_node 32 (inl refl) node) refl)
    ∙ (λ i. followed (node_at len left (key_reading (take-append_seam k (32 ∷ rest) i))) (λ q. followed (last_integer len (without_spaces (drop-append_seam k (32 ∷ rest) i))) (λ x. Ok (Incr q x))))
    ∙ ap (λ r. followed (node_at len left r) (λ q. followed (last_integer len (without_spaces rest)) (λ x. Ok (Incr q x)))) (node_read node)
    ∙ ap (λ r. followed (last_integer len r) (λ x. Ok (Incr key x))) (spaces_gone m d (integer_front d n e))
    ∙ ap (λ r. followed r (λ x. Ok (Incr key x))) (integer_whole len d n e)

-- levels

-- subscripts end with a closing bracket, and an empty one may come before it
record IsOpened (t : List ℕ) (subs : List (List ℕ)) : Type 0 where
  pub front : List ℕ
  pub whole : t ≡ front ++ (41 ∷ [])
  pub text_is : IsSubsText (front ++ (44 ∷ 34 ∷ 34 ∷ 41 ∷ [])) (subs ++ ([] ∷ []))

none_quoted : IsSubText (34 ∷ 34 ∷ []) []
none_quoted = string (one (quoted [] refl))

subs_opened : {t : List ℕ} {subs : List (List ℕ)} → IsSubsText t subs → IsOpened t subs
subs_opened (last {t} {v} p) = record { front = t; whole = refl; text_is = another p (last none_quoted) }
subs_opened (another {t} {v} {u} {subs} p z) =
    let r = subs_opened z in
    record {
      front = t ++ (44 ∷ r.front);
      whole = ap (λ x. t ++ (44 ∷ x)) r.whole ∙ sym (append_assoc t (44 ∷ r.front) (41 ∷ []));
      text_is = subst (λ x. IsSubsText x (v ∷ (subs ++ ([] ∷ [])))) (sym (append_assoc t (44 ∷ r.front) (44 ∷ 34 ∷ 34 ∷ 41 ∷ []))) (another p r.text_is);
    }

letter_no_end : (b : ℕ) → is_ascii_alphanumeric b ≡ true → b ≢ 41
letter_no_end b h e = true≢false (sym h ∙ ap is_ascii_alphanumeric e)

letters_no_end : (bs t : List ℕ) → list_all is_ascii_alphanumeric bs ≡ true → bs ≡ t ++ (41 ∷ []) → ⊥
letters_no_end [] [] h e = cc
letters_no_end [] (c ∷ t) h e = cc
letters_no_end (b ∷ bs) [] h e = letter_no_end b (and_parts (is_ascii_alphanumeric b) (list_all is_ascii_alphanumeric bs) h).0 (cc e)
letters_no_end (b ∷ bs) (c ∷ t) h e = letters_no_end bs t (and_parts (is_ascii_alphanumeric b) (list_all is_ascii_alphanumeric bs) h).1 (cc e)

name_no_end : (name t : List ℕ) → is_name name ≡ true → name ≡ t ++ (41 ∷ []) → ⊥
name_no_end [] t h e = cc
name_no_end (b ∷ bs) [] h e =
    let first = (and_parts (b == 37 || is_ascii_alphabetic b) (list_all is_ascii_alphanumeric bs) h).0 in
    let is : b ≡ 41 = cc e in
    true≢false (sym first ∙ ap (λ c. c == 37 || is_ascii_alphabetic c) is)
name_no_end (b ∷ bs) (c ∷ t) h e = letters_no_end bs t (and_parts (b == 37 || is_ascii_alphabetic b) (list_all is_ascii_alphanumeric bs) h).1 (cc e)

bare_no_end : (c : ℕ) (name t : List ℕ) → c ≢ 41 → is_name name ≡ true → c ∷ name ≡ t ++ (41 ∷ []) → ⊥
bare_no_end c name [] ne h e = ne (cc e)
bare_no_end c name (d ∷ t) ne h e = name_no_end name t h (cc e)

-- a node's text with an empty subscript more
key_opened : {u name : List ℕ} {subs : List (List ℕ)} → IsKeyText u name subs → is_name name ≡ true → (t : List ℕ) → u ≡ t ++ (41 ∷ [])
    → IsKeyText (t ++ (44 ∷ 34 ∷ 34 ∷ 41 ∷ [])) name (subs ++ ([] ∷ []))
key_opened (bare name) good t e = absurd (bare_no_end 94 name t (λ x. omega arith) good e)
key_opened (branched name {t = s} {subs} z) good t e =
    let o = subs_opened z in
    let w : List ℕ = 94 ∷ (name ++ (40 ∷ o.front)) in
    let split : t ++ (41 ∷ []) ≡ w ++ (41 ∷ []) = sym e ∙ ap (λ x. 94 ∷ (name ++ (40 ∷ x))) o.whole ∙ ap (λ x. 94 ∷ x) (sym (append_assoc name (40 ∷ o.front) (41 ∷ []))) in
    let same : t ≡ w = append_cancel_right t w (41 ∷ []) split in
    subst (λ x. IsKeyText x name (subs ++ ([] ∷ [])))
    (ap (λ x. 94 ∷ x) (sym (append_assoc name (40 ∷ o.front) (44 ∷ 34 ∷ 34 ∷ 41 ∷ []))) ∙ ap (λ x. x ++ (44 ∷ 34 ∷ 34 ∷ 41 ∷ [])) (sym same))
    (branched name o.text_is)

subs_some : {t : List ℕ} {subs : List (List ℕ)} → IsSubsText t subs → length subs ≢ 0
subs_some (last p) e = omega arith
subs_some (another p z) e = omega arith

top_opened : {t name : List ℕ} {subs : List (List ℕ)} → IsKeyText t name subs → length subs ≡ 0 → IsKeyText (t ++ (40 ∷ 34 ∷ 34 ∷ 41 ∷ [])) name ([] ∷ [])
top_opened (bare name) e = branched name (last none_quoted)
top_opened (branched name z) e = absurd (subs_some z e)

empty_faulty : (subs : List (List ℕ)) (n : ℕ) → (e : KeyError) × (subs_fault n (subs ++ ([] ∷ [])) ≡ Some e)
empty_faulty [] n = (NullSub, refl)
empty_faulty (s ∷ ss) n = elim (cases_Bool (length s == 0)) [
  | inl h ↦ (NullSub, rw h refl)
  | inr h ↦ elim (cases_Bool (nat_lt 30 n)) [
    | inl k ↦ (TooManySubs, rw (h, k) refl)
    | inr k ↦ let r = empty_faulty ss (n + 1) in (r.0, rw (h, k) r.1)
  ]
]

key_faulty : (name : List ℕ) (subs : List (List ℕ)) → (e : KeyError) × (key_fault name (subs ++ ([] ∷ [])) ≡ Some e)
key_faulty name subs = elim (cases_Bool (is_name name)) [
  | inl h ↦ elim (cases_Bool (nat_lt 31 (length name))) [
    | inl k ↦ (NameTooLong, rw (h, k) refl)
    | inr k ↦ let r = empty_faulty subs 0 in (r.0, rw (h, k, r.1) refl)
  ]
  | inr h ↦ (BadName, rw h refl)
]

opened_bad : {u name : List ℕ} (subs : List (List ℕ)) → IsKeyText u name (subs ++ ([] ∷ [])) → is_name name ≡ true → (e : KeyError) × (key_reading u ≡ Err e)
opened_bad {u} {name} subs t good = let f = key_faulty name subs in (f.0, key_text_read good t ∙ ap (answered name (subs ++ ([] ∷ []))) f.1)

opened_at : (t end : List ℕ) (e : KeyError) → length end ≡ 4 → level_from (t ++ end) (Err e) ≡ empty_level t end
opened_at t end e four =
    let place : length (t ++ end) - 4 ≡ length t = omega (arith, length-append t end) in
    ap (λ n. empty_level (take n (t ++ end)) (drop n (t ++ end))) place ∙ (λ i. empty_level (take-append_seam t end i) (drop-append_seam t end i))

node_few : {t : List ℕ} {key : Key} (n : IsNode t key) → length key.subs ≡ 0 → length n.subs ≡ 0
node_few n z = omega (arith, z, ap (λ k. length k.subs) n.key_is, length-map n.subs sub_of)

top_text : {t : List ℕ} {key : Key} (n : IsNode t key) → length key.subs ≡ 0 → IsKeyText (t ++ (40 ∷ 34 ∷ 34 ∷ 41 ∷ [])) n.name ([] ∷ [])
top_text n z = top_opened n.text_is (node_few n z)

below_text : (t : List ℕ) {key : Key} (n : IsNode (t ++ (41 ∷ [])) key) → IsKeyText (t ++ (44 ∷ 34 ∷ 34 ∷ 41 ∷ [])) n.name (n.subs ++ ([] ∷ []))
below_text t n = key_opened n.text_is (name_good n.name n.subs n.no_fault) t refl

within_is : (key : Key) (s : Sub) → level_of (record { name = key.name; subs = key.subs ++ (s ∷ []) }) ≡ Some (key, sub_bytes s)
within_is key s =
    let subs : List Sub = key.subs ++ (s ∷ []) in
    let less : length subs - 1 ≡ length key.subs = omega (arith, length-append key.subs (s ∷ [])) in
    let some : (length subs == 0) ≡ false = ne_eqb (length subs) 0 (λ e. omega (arith, length-append key.subs (s ∷ []))) in
    rw some
    (ap (λ n. Some (record { name = key.name; subs = take n subs }, sub_bytes (get_or subs n (Text [])))) less
    ∙ (λ i. Some (record { name = key.name; subs = take-append_seam key.subs (s ∷ []) i }, sub_bytes (get_or-append_seam key.subs s [] (Text []) i))))

level_read : {t last : List ℕ} {key : Key} → IsLevel t key last → level_reading t ≡ Some (key, last)
level_read (within {t} key s n) = ap (level_from t) (node_read n) ∙ within_is key s
level_read (top {t} {key} n z) =
    let b = opened_bad [] (top_text n z) (name_good n.name n.subs n.no_fault) in
    ap (level_from (t ++ (40 ∷ 34 ∷ 34 ∷ 41 ∷ []))) b.1 ∙ opened_at t (40 ∷ 34 ∷ 34 ∷ 41 ∷ []) b.0 refl ∙ ap top_level (node_read n) ∙ rw (eq-eqb (length key.subs) 0 z) refl
level_read (below t {key} n few) =
    let b = opened_bad n.subs (below_text t n) (name_good n.name n.subs n.no_fault) in
    ap (level_from (t ++ (44 ∷ 34 ∷ 34 ∷ 41 ∷ []))) b.1 ∙ opened_at t (44 ∷ 34 ∷ 34 ∷ 41 ∷ []) b.0 refl ∙ ap below_level (node_read n) ∙ rw (le-ltb 30 (length key.subs) few) refl

stay_level : {t last : List ℕ} {key : Key} → IsLevel t key last → Stays 32 t
stay_level (within key s n) = stay_node 32 (inl refl) n
stay_level (top n z) = stay_key 32 (inl refl) (name_good n.name n.subs n.no_fault) (top_text n z)
stay_level (below t n few) = stay_key 32 (inl refl) (name_good n.name n.subs n.no_fault) (below_text t n)

level_first : {t last : List ℕ} {key : Key} → IsLevel t key last → without_spaces t ≡ t
level_first (within key s n) = key_first n.text_is
level_first (top n z) = key_first (top_text n z)
level_first (below t n few) = key_first (below_text t n)

level_whole : (len : ℕ) {t last : List ℕ} {key : Key} → IsLevel t key last → last_level len t ≡ Ok (key, last)
level_whole len {t} {last} {key} l =
    ap (λ k. followed (found len t (level_reading (take k t))) (alone len (drop k t))) (ends_last 32 t (stay_level l))
    ∙ (λ i. followed (found len t (level_reading (take-length t i))) (alone len (drop-length t i)))
    ∙ ap (λ r. followed (found len t r) (alone len [])) (level_read l)

-- no key ends with a greater-than sign

abbrev last_byte : List ℕ → ℕ
last_byte t = get_or t (length t - 1) 0

last_is : (w : List ℕ) (b : ℕ) → last_byte (w ++ (b ∷ [])) ≡ b
last_is w b =
    let less : length (w ++ (b ∷ [])) - 1 ≡ length w = omega (arith, length-append w (b ∷ [])) in
    ap (λ n. get_or (w ++ (b ∷ [])) n 0) less ∙ get_or-append_seam w b [] 0

last_letter : (c : ℕ) (bs : List ℕ) → (c == 62) ≡ false → list_all is_ascii_alphanumeric bs ≡ true → (last_byte (c ∷ bs) == 62) ≡ false
last_letter c [] h all = h
last_letter c (b ∷ bs) h all =
    let a = and_parts (is_ascii_alphanumeric b) (list_all is_ascii_alphanumeric bs) all in
    let other : (b == 62) ≡ false = ne_eqb b 62 (λ e. true≢false (sym a.0 ∙ ap is_ascii_alphanumeric e)) in
    let step : suc (suc (length bs)) - 1 ≡ suc (suc (length bs) - 1) = omega arith in
    ap (λ n. get_or (c ∷ b ∷ bs) n 0 == 62) step ∙ last_letter b bs other a.1

last_of_name : (name : List ℕ) → is_name name ≡ true → (last_byte (94 ∷ name) == 62) ≡ false
last_of_name [] h = refl
last_of_name (b ∷ bs) h =
    let a = and_parts (b == 37 || is_ascii_alphabetic b) (list_all is_ascii_alphanumeric bs) h in
    let other : (b == 62) ≡ false = ne_eqb b 62 (λ e. true≢false (sym a.0 ∙ ap (λ c. c == 37 || is_ascii_alphabetic c) e)) in
    let step : suc (suc (length bs)) - 1 ≡ suc (suc (length bs) - 1) = omega arith in
    ap (λ n. get_or (94 ∷ b ∷ bs) n 0 == 62) step ∙ last_letter b bs other a.1

last_of_key : {k name : List ℕ} {subs : List (List ℕ)} → IsKeyText k name subs → is_name name ≡ true → (last_byte k == 62) ≡ false
last_of_key (bare name) good = last_of_name name good
last_of_key (branched name {t} {subs} z) good =
    let o = subs_opened z in
    let w : List ℕ = 94 ∷ (name ++ (40 ∷ o.front)) in
    let whole : 94 ∷ (name ++ (40 ∷ t)) ≡ w ++ (41 ∷ []) = ap (λ x. 94 ∷ (name ++ (40 ∷ x))) o.whole ∙ ap (λ x. 94 ∷ x) (sym (append_assoc name (40 ∷ o.front) (41 ∷ []))) in
    ap (λ x. last_byte x == 62) whole ∙ ap (λ b. b == 62) (last_is w 41)

-- checks

check_value_read : (len : ℕ) {k v value : List ℕ} {key : Key} → IsNode k key → IsSubText v value → length value ≤ LONGEST_VALUE → check_reading len (k ++ (61 ∷ v)) ≡ Ok (CheckIs key value)
check_value_read len {k} {v} {value} {key} n s few =
    let left : List ℕ = k ++ (61 ∷ v) in
    ap (λ j. cond (is_at_least (take j left) (drop j left)) (check_integer len left (take j left) (drop j left)) (value_statement CheckIs len left j)) (key_place v n)
    ∙ (λ i. cond (is_at_least (take-append_seam k (61 ∷ v) i) (drop-append_seam k (61 ∷ v) i)) (check_integer len left (take (length k) left) (drop (length k) left)) (value_statement CheckIs len left (length k)))
    ∙ rw (last_of_key n.text_is (name_good n.name n.subs n.no_fault)) (value_statement_at CheckIs len n s few)

check_integer_at : (len : ℕ) (left : List ℕ) {k : List ℕ} {key : Key} (d : List ℕ) (n : ℤ) → IsNode k key → integer_of d ≡ Some n
    → check_integer len left (k ++ (62 ∷ [])) (61 ∷ d) ≡ Ok (CheckAtLeast key n)
check_integer_at len left {k} {key} d n node e =
    let p : List ℕ = k ++ (62 ∷ []) in
    let less : length p - 1 ≡ length k = omega (arith, length-append k (62 ∷ [])) in
    let front : take (length p - 1) p ≡ k = ap (λ j. take j p) less ∙ take-append_seam k (62 ∷ []) in
    ap (λ t. followed (node_at len left (key_reading t)) (λ q. followed (last_integer len d) (λ m. Ok (CheckAtLeast q m)))) front
    ∙ ap (λ r. followed (node_at len left r) (λ q. followed (last_integer len d) (λ m. Ok (CheckAtLeast q m)))) (node_read node)
    ∙ ap (λ r. followed r (λ m. Ok (CheckAtLeast key m))) (integer_whole len d n e)

check_integer_split : (len : ℕ) {k : List ℕ} {key : Key} (d : List ℕ) (n : ℤ) → IsNode k key → integer_of d ≡ Some n
    → check_reading len ((k ++ (62 ∷ [])) ++ (61 ∷ d)) ≡ Ok (CheckAtLeast key n)
check_integer_split len {k} {key} d n node e =
    let p : List ℕ = k ++ (62 ∷ []) in
    let left : List ℕ = p ++ (61 ∷ d) in
    let stays : Stays 61 p = stay_both 61 k (62 ∷ []) (stay_node 61 (inr refl) node) (stay_bytes 61 (62 ∷ []) refl) in
    let greater : (last_byte p == 62) ≡ true = ap (λ b. b == 62) (last_is k 62) in
    ap (λ j. cond (is_at_least (take j left) (drop j left)) (check_integer len left (take j left) (drop j left)) (value_statement CheckIs len left j)) (ends_before 61 p 61 d stays refl)
    ∙ (λ i. cond (is_at_least (take-append_seam p (61 ∷ d) i) (drop-append_seam p (61 ∷ d) i)) (check_integer len left (take-append_seam p (61 ∷ d) i) (drop-append_seam p (61 ∷ d) i)) (value_statement CheckIs len left (length p)))
    ∙ rw greater (check_integer_at len left d n node e)

check_integer_read : (len : ℕ) {k : List ℕ} {key : Key} (d : List ℕ) (n : ℤ) → IsNode k key → integer_of d ≡ Some n → check_reading len (k ++ (62 ∷ 61 ∷ d)) ≡ Ok (CheckAtLeast key n)
check_integer_read len {k} d n node e = ap (check_reading len) (sym (append_assoc k (62 ∷ []) (61 ∷ d))) ∙ check_integer_split len d n node e

-- words

abbrev spaced : List ℕ → ℕ → List ℕ → List ℕ
spaced word extra operand = word ++ (32 ∷ (replicate extra 32 ++ operand))

operand_read : {word operand : List ℕ} {s : Statement} → IsOperand word operand s → (extra : ℕ) → statement_reading (spaced word extra operand) ≡ Ok s
operand_read (set {k} {v} n p few) extra =
    let len = length (spaced (codes "SET") extra (k ++ (61 ∷ v))) in
    ap (λ left. value_statement Set len left (key_end left)) (spaces_gone extra (k ++ (61 ∷ v)) (key_front n.text_is (61 ∷ v))) ∙ set_read len n p few
operand_read (kill {k} n) extra =
    let len = length (spaced (codes "KILL") extra k) in
    ap (node_statement Kill len) (spaces_gone extra k (key_first n.text_is)) ∙ ap (λ r. followed r (λ q. Ok (Kill q))) (node_whole len n)
operand_read (zkill {k} n) extra =
    let len = length (spaced (codes "ZKILL") extra k) in
    ap (node_statement ZKill len) (spaces_gone extra k (key_first n.text_is)) ∙ ap (λ r. followed r (λ q. Ok (ZKill q))) (node_whole len n)
operand_read (incr {k} {key} {n} d m node e) extra =
    let len = length (spaced (codes "INCR") extra (k ++ (32 ∷ (replicate m 32 ++ d)))) in
    ap (incr_reading len) (spaces_gone extra (k ++ (32 ∷ (replicate m 32 ++ d))) (key_front node.text_is (32 ∷ (replicate m 32 ++ d)))) ∙ incr_read len d n m node e
operand_read (get {k} n) extra =
    let len = length (spaced (codes "GET") extra k) in
    ap (node_statement Get len) (spaces_gone extra k (key_first n.text_is)) ∙ ap (λ r. followed r (λ q. Ok (Get q))) (node_whole len n)
operand_read (defined {k} n) extra =
    let len = length (spaced (codes "DATA") extra k) in
    ap (node_statement Defined len) (spaces_gone extra k (key_first n.text_is)) ∙ ap (λ r. followed r (λ q. Ok (Defined q))) (node_whole len n)
operand_read (order {k} {last} {key} l) extra =
    let len = length (spaced (codes "ORDER") extra k) in
    ap (order_reading len) (spaces_gone extra k (level_first l)) ∙ ap (λ r. followed r (λ p. Ok (Order p.0 p.1))) (level_whole len l)
operand_read (check_is {k} {v} n p few) extra =
    let len = length (spaced (codes "CHECK") extra (k ++ (61 ∷ v))) in
    ap (check_reading len) (spaces_gone extra (k ++ (61 ∷ v)) (key_front n.text_is (61 ∷ v))) ∙ check_value_read len n p few
operand_read (check_at_least {k} {key} {n} d node e) extra =
    let len = length (spaced (codes "CHECK") extra (k ++ (62 ∷ 61 ∷ d))) in
    ap (check_reading len) (spaces_gone extra (k ++ (62 ∷ 61 ∷ d)) (key_front node.text_is (62 ∷ 61 ∷ d))) ∙ check_integer_read len d n node e

pub statement_read : (text : List ℕ) (s : Statement) → SpellsStatement text s → statement_reading text ≡ Ok s
statement_read text s p = ap statement_reading p.text_is ∙ operand_read p.operand_is p.more
