-- A text that is read as a statement spells it.
use Rattle.std.proofs.Common.{◌≡◌, ℕ, ℤ, suc, ◌-◌, ◌<◌, ◌≤◌, ◌⊎◌, Bool, true, false, not, ◌||◌, ◌&&◌, ◌==◌, nat_lt, List, [], ◌∷◌, ◌++◌, length, take, drop, replicate, get_or, codes, cond, Option, Some, None, refl, ap, sym, subst, ◌∙◌, arith, inl, inr, append_assoc, length-append}
use Rattle.std.specs.List.{position_or_len}
use Rattle.std.specs.Str.{bytes_eq}
use Rattle.std.specs.declared.result.Result.{Result}
use Rattle.std.specs.declared.result.Result.TheVariants.{Ok, Err}
use Rattle.std.proofs.lemmas.List.{append-nil, take-append-drop}
use Rattle.std.proofs.lemmas.Slice.Eq.{bytes_eq-Decides}
use Rattle.std.proofs.lemmas.Bool.{and_parts, cases_Bool, eqb-true, ltb-false, ne_eqb}
use Rattle.global_defs.specs.declared.limits.TheConstants.{LONGEST_VALUE}
use Rattle.global_defs.specs.Key.{Key, Sub, Text}
use Rattle.global_defs.specs.Jobs.{Statement, Set, Kill, ZKill, Incr, Get, Defined, Order, CheckIs, CheckAtLeast}
use Rattle.global_defs.specs.NodeText.{sub_bytes}
use Rattle.global_defs.specs.Numeral.{is_number, integer_of}
use Rattle.global_defs.specs.Valid.{is_name}
use Rattle.gvn_key.specs.Faults.{key_of, key_fault}
use Rattle.gvn_key.specs.ZwrText.{zwr_reading}
use Rattle.gvn_key.specs.KeyText.{IsSubText, number, string, IsKeyText, bare, branched, subs_in, fitting, named, is_bracket, split_name, answered, key_reading}
use Rattle.gvn_key.proofs.ZwrFound.{zwr_found, none_left}
use Rattle.gvn_key.proofs.KeyTextLaws.{key_text_read}
use Rattle.gvn_key.proofs.KeyTextFound.{text_found, chosen}
use Rattle.gvn_key.specs.declared.key.KeyError.{KeyError}
use Rattle.gvn_key.specs.declared.key.KeyError.TheVariants.{BadName}
use Rattle.gvn_key.specs.declared.reader.ZwrError.{ZwrError}
use Rattle.script_defs.specs.Parts.{IsNode, IsLevel, within, top, below, Fault, bad, followed, ends_at, part_end, word_end, key_end, without_spaces, alone, found, node_at, node_reading, valued, value_reading, sized, last_value, last_integer, last_node, assigned, level_of, top_level, below_level, empty_level, level_from, level_reading, last_level, too_long, BadChar}
use Rattle.script_defs.specs.Statements.{IsOperand, set, kill, zkill, incr, get, defined, order, check_is, check_at_least, SpellsStatement, value_statement, node_statement, incr_reading, order_reading, is_at_least, check_integer, check_reading, operand_reading, statement_reading}

followed_found : {X Y : Type 0} (r : Result X Fault) (next : X → Result Y Fault) (y : Y) → followed r next ≡ Ok y → (x : X) × (r ≡ Ok x) × (next x ≡ Ok y)
followed_found (Ok x) next y e = (x, refl, e)
followed_found (Err f) next y e = cc

found_found : {X : Type 0} (len : ℕ) (left : List ℕ) (o : Option X) (x : X) → found len left o ≡ Ok x → o ≡ Some x
found_found len left None x e = cc
found_found len left (Some y) x e = cc

alone_found : {X : Type 0} (len : ℕ) (left : List ℕ) (x y : X) → alone len left x ≡ Ok y → (left ≡ []) × (x ≡ y)
alone_found len left x y e = elim (chosen (length left == 0) (Ok x) (Err (bad len (without_spaces left))) (Ok y) e) [
  | inl h ↦ (none_left left h.0, cc h.1)
  | inr h ↦ absurd (cc h.1)
]

-- a part behind which nothing comes is the whole
all_taken : (n : ℕ) (t : List ℕ) → drop n t ≡ [] → take n t ≡ t
all_taken n t e = sym (append-nil (take n t)) ∙ ap (λ x. take n t ++ x) (sym e) ∙ take-append-drop n t

-- nodes

answered_found : (name : List ℕ) (subs : List (List ℕ)) (o : Option KeyError) (key : Key) → answered name subs o ≡ Ok key → (o ≡ None) × (key_of name subs ≡ key)
answered_found name subs None key e = (refl, cc)
answered_found name subs (Some f) key e = cc

fitting_good : (name : List ℕ) (r : Result (List (List ℕ)) KeyError) (key : Key) → is_name name ≡ true → fitting name r ≡ Ok key → is_name key.name ≡ true
fitting_good name (Err f) key good e = cc
fitting_good name (Ok subs) key good e = subst (λ k. is_name k.name ≡ true) (answered_found name subs (key_fault name subs) key e).1 good

named_good : (name tail : List ℕ) (key : Key) → named name tail ≡ Ok key → is_name key.name ≡ true
named_good name tail key e = elim (cases_Bool (is_name name)) [
  | inl good ↦ elim (cases_Bool (nat_lt 31 (length name))) [
    | inl long ↦ absurd (cc (rw long at (rw good at e)))
    | inr short ↦ fitting_good name (subs_in tail) key good (rw short at (rw good at e))
  ]
  | inr bad ↦ absurd (cc (rw bad at e))
]

key_good : (t : List ℕ) (key : Key) → key_reading t ≡ Ok key → is_name key.name ≡ true
key_good [] key e = cc
key_good (b ∷ bs) key e = elim (chosen (b == 94) (split_name (position_or_len is_bracket bs) bs) (Err BadName) (Ok key) e) [
  | inl h ↦ named_good (take (position_or_len is_bracket bs) bs) (drop (position_or_len is_bracket bs) bs) key h.1
  | inr h ↦ absurd (cc h.1)
]

pub node_found : (t : List ℕ) (key : Key) → key_reading t ≡ Ok key → IsNode t key
node_found t key e =
    let f = text_found t (Ok key) e in
    let good : is_name f.name ≡ true = ap (λ k. is_name k.name) (sym f.key_is) ∙ key_good t key e in
    record {
      name = f.name;
      subs = f.subs;
      text_is = f.text_is;
      no_fault = (answered_found f.name f.subs (key_fault f.name f.subs) key (sym (key_text_read good f.text_is) ∙ e)).0;
      key_is = f.key_is;
    }

node_at_found : (len : ℕ) (left : List ℕ) (r : Result Key KeyError) (key : Key) → node_at len left r ≡ Ok key → r ≡ Ok key
node_at_found len left (Ok k) key e = cc
node_at_found len left (Err f) key e = cc

front_found : (len : ℕ) (left : List ℕ) (n : ℕ) (key : Key) → node_reading len left n ≡ Ok key → IsNode (take n left) key
front_found len left n key e = node_found (take n left) key (node_at_found len left (key_reading (take n left)) key e)

last_node_found : (len : ℕ) (t : List ℕ) (key : Key) → last_node len t ≡ Ok key → IsNode t key
last_node_found len t key e =
    let n = word_end t in
    let f = followed_found (node_reading len t n) (alone len (drop n t)) key e in
    let a = alone_found len (drop n t) f.0 key f.2 in
    subst (λ k. IsNode t k) a.1 (subst (λ x. IsNode x f.0) (all_taken n t a.0) (front_found len t n f.0 f.1))

-- values and integers

valued_found : (len : ℕ) (left : List ℕ) (r : Result (List ℕ) ZwrError) (v : List ℕ) → valued len left r ≡ Ok v → r ≡ Ok v
valued_found len left (Ok w) v e = cc
valued_found len left (Err f) v e = cc

value_found : (t v : List ℕ) → value_reading t ≡ Ok v → IsSubText t v
value_found t v e = elim (chosen (is_number t) (Ok t) (zwr_reading t) (Ok v) e) [
  | inl h ↦ let is : t ≡ v = cc h.1 in subst (IsSubText t) is (number t h.0)
  | inr h ↦ string (zwr_found t v h.1)
]

sized_found : (len : ℕ) (left rest w v : List ℕ) → sized len left rest w ≡ Ok v → (rest ≡ []) × (w ≡ v) × (length v ≤ LONGEST_VALUE)
sized_found len left rest w v e = elim (chosen (nat_lt LONGEST_VALUE (length w)) (Err (cond (length rest == 0) (too_long len left) (bad len left))) (alone len rest w) (Ok v) e) [
  | inl h ↦ absurd (cc h.1)
  | inr h ↦ let a = alone_found len rest w v h.1 in (a.0, a.1, omega (arith, ltb-false 1500 (length w) h.0, ap (λ x. length x) a.1))
]

last_value_found : (len : ℕ) (t v : List ℕ) → last_value len t ≡ Ok v → IsSubText t v × (length v ≤ LONGEST_VALUE)
last_value_found len t v e =
    let n = word_end t in
    let f = followed_found (valued len t (value_reading (take n t))) (sized len t (drop n t)) v e in
    let a = sized_found len t (drop n t) f.0 v f.2 in
    let w = value_found (take n t) f.0 (valued_found len t (value_reading (take n t)) f.0 f.1) in
    (subst (IsSubText t) a.1 (subst (λ x. IsSubText x f.0) (all_taken n t a.0) w), a.2)

record IsAssigned (left v : List ℕ) : Type 0 where
  pub text : List ℕ
  pub whole : left ≡ 61 ∷ text
  pub value : IsSubText text v
  pub few : length v ≤ LONGEST_VALUE

assigned_found : (len : ℕ) (left v : List ℕ) → assigned len left ≡ Ok v → IsAssigned left v
assigned_found len [] v e = cc
assigned_found len (b ∷ bs) v e = elim (chosen (b == 61) (last_value len bs) (Err (bad len (b ∷ bs))) (Ok v) e) [
  | inl h ↦ let f = last_value_found len bs v h.1 in record { text = bs; whole = ap (λ c. c ∷ bs) (eqb-true b 61 h.0); value = f.0; few = f.1 }
  | inr h ↦ absurd (cc h.1)
]

last_integer_found : (len : ℕ) (t : List ℕ) (n : ℤ) → last_integer len t ≡ Ok n → integer_of t ≡ Some n
last_integer_found len t n e =
    let k = word_end t in
    let f = followed_found (found len t (integer_of (take k t))) (alone len (drop k t)) n e in
    let a = alone_found len (drop k t) f.0 n f.2 in
    ap integer_of (sym (all_taken k t a.0)) ∙ found_found len t (integer_of (take k t)) f.0 f.1 ∙ ap (λ x. Some x) a.1

-- a key with a value behind it

record IsSetting (left : List ℕ) (key : Key) (value : List ℕ) : Type 0 where
  pub key_text : List ℕ
  pub value_text : List ℕ
  pub whole : left ≡ key_text ++ (61 ∷ value_text)
  pub node : IsNode key_text key
  pub value_is : IsSubText value_text value
  pub few : length value ≤ LONGEST_VALUE

value_statement_found : (make : Key → List ℕ → Statement) (len : ℕ) (left : List ℕ) (n : ℕ) (s : Statement) → value_statement make len left n ≡ Ok s
    → (key : Key) × (value : List ℕ) × IsSetting left key value × (make key value ≡ s)
value_statement_found make len left n s e =
    let f = followed_found (node_reading len left n) (λ key. followed (assigned len (drop n left)) (λ value. Ok (make key value))) s e in
    let g = followed_found (assigned len (drop n left)) (λ value. Ok (make f.0 value)) s f.2 in
    let a = assigned_found len (drop n left) g.0 g.1 in (
      f.0,
      g.0,
      record {
        key_text = take n left;
        value_text = a.text;
        whole = sym (take-append-drop n left) ∙ ap (λ x. take n left ++ x) a.whole;
        node = front_found len left n f.0 f.1;
        value_is = a.value;
        few = a.few;
      },
      cc g.2,
    )

-- spaces

spaces_found : (t : List ℕ) → (n : ℕ) × (t ≡ replicate n 32 ++ without_spaces t)
spaces_found [] = (0, refl)
spaces_found (b ∷ bs) = elim (cases_Bool (b == 32)) [
  | inl h ↦ let r = spaces_found bs in (suc r.0, rw h (ap (λ c. c ∷ bs) (eqb-true b 32 h) ∙ ap (λ x. 32 ∷ x) r.1))
  | inr h ↦ (0, rw h refl)
]

same_ends : (b : Bool) → (b || b) ≡ true → b ≡ true
same_ends true h = refl
same_ends false h = h

-- behind a word a space comes, or the text's end
behind_word : (quoted : Bool) (t : List ℕ) → (drop (part_end 32 quoted t) t ≡ []) ⊎ ((rest : List ℕ) × (drop (part_end 32 quoted t) t ≡ 32 ∷ rest))
behind_word quoted [] = inl refl
behind_word quoted (b ∷ bs) = elim (cases_Bool (not quoted && ends_at 32 b)) [
  | inl h ↦ rw h (inr (bs, ap (λ c. c ∷ bs) (eqb-true b 32 (same_ends (b == 32) (and_parts (not quoted) (ends_at 32 b) h).1))))
  | inr h ↦ rw h (behind_word (cond (b == 34) (not quoted) quoted) bs)
]

spaced_rest : (d : List ℕ) → ((d ≡ []) ⊎ ((rest : List ℕ) × (d ≡ 32 ∷ rest))) → (without_spaces d ≡ [] → ⊥) → (m : ℕ) × (d ≡ 32 ∷ (replicate m 32 ++ without_spaces d))
spaced_rest d (inl none) some = absurd (some (ap without_spaces none))
spaced_rest d (inr r) some =
    let f = spaces_found r.0 in
    let P : List ℕ → Type 0 = λ x. (m : ℕ) × (x ≡ 32 ∷ (replicate m 32 ++ without_spaces x)) in
    subst P (sym r.1) (f.0, ap (λ x. 32 ∷ x) f.1)

integer_some : (t : List ℕ) (n : ℤ) → integer_of t ≡ Some n → t ≡ [] → ⊥
integer_some t n e none = let is : None ≡ Some n = sym (ap integer_of none) ∙ e in cc

incr_found : (len : ℕ) (left : List ℕ) (s : Statement) → incr_reading len left ≡ Ok s → IsOperand (codes "INCR") left s
incr_found len left s e =
    let n = word_end left in
    let d : List ℕ = without_spaces (drop n left) in
    let f = followed_found (node_reading len left n) (λ key. followed (last_integer len d) (λ m. Ok (Incr key m))) s e in
    let g = followed_found (last_integer len d) (λ m. Ok (Incr f.0 m)) s f.2 in
    let number = last_integer_found len d g.0 g.1 in
    let r = spaced_rest (drop n left) (behind_word false left) (integer_some d g.0 number) in
    let is : Incr f.0 g.0 ≡ s = cc g.2 in
    let whole : take n left ++ (32 ∷ (replicate r.0 32 ++ d)) ≡ left = ap (λ x. take n left ++ x) (sym r.1) ∙ take-append-drop n left in
    subst (IsOperand (codes "INCR") left) is (subst (λ x. IsOperand (codes "INCR") x (Incr f.0 g.0)) whole (incr d r.0 (front_found len left n f.0 f.1) number))

-- levels

split_last : {X : Type 0} (x : X) (xs : List X) (d : X) → take (length xs) (x ∷ xs) ++ (get_or (x ∷ xs) (length xs) d ∷ []) ≡ x ∷ xs
split_last x [] d = refl
split_last x (y ∷ ys) d = ap (λ t. x ∷ t) (split_last y ys d)

last_apart : {X : Type 0} (xs : List X) (d : X) → (length xs == 0) ≡ false → take (length xs - 1) xs ++ (get_or xs (length xs - 1) d ∷ []) ≡ xs
last_apart [] d h = cc
last_apart (x ∷ xs) d h =
    let less : suc (length xs) - 1 ≡ length xs = omega arith in
    ap (λ n. take n (x ∷ xs) ++ (get_or (x ∷ xs) n d ∷ [])) less ∙ split_last x xs d

abbrev pair_is : List ℕ → Key × List ℕ → Type 0
pair_is t p = IsLevel t p.0 p.1

level_of_found : (t : List ℕ) (k : Key) (p : Key × List ℕ) → IsNode t k → level_of k ≡ Some p → IsLevel t p.0 p.1
level_of_found t k p n e =
    let last : Sub = get_or k.subs (length k.subs - 1) (Text []) in
    let above : Key = record { name = k.name; subs = take (length k.subs - 1) k.subs } in
    elim (chosen (length k.subs == 0) None (Some (above, sub_bytes last)) (Some p) e) [
      | inl h ↦ absurd (cc h.1)
      | inr h ↦
          let is : (above, sub_bytes last) ≡ p = cc h.1 in
          let whole : k ≡ record { name = k.name; subs = above.subs ++ (last ∷ []) } = ap (λ x. record { name = k.name; subs = x }) (sym (last_apart k.subs (Text []) h.0)) in
          subst (pair_is t) is (within above last (subst (IsNode t) whole n))
    ]

abbrev top_end : List ℕ
top_end = 40 ∷ 34 ∷ 34 ∷ 41 ∷ []

abbrev below_end : List ℕ
below_end = 44 ∷ 34 ∷ 34 ∷ 41 ∷ []

top_found : (t : List ℕ) (r : Result Key KeyError) (p : Key × List ℕ) → key_reading t ≡ r → top_level r ≡ Some p → IsLevel (t ++ top_end) p.0 p.1
top_found t (Err f) p e h = cc
top_found t (Ok key) p e h = elim (chosen (length key.subs == 0) (Some (key, [])) None (Some p) h) [
  | inl z ↦ let is : (key, []) ≡ p = cc z.1 in subst (pair_is (t ++ top_end)) is (top (node_found t key e) (eqb-true (length key.subs) 0 z.0))
  | inr z ↦ absurd (cc z.1)
]

below_found : (t : List ℕ) (r : Result Key KeyError) (p : Key × List ℕ) → key_reading (t ++ (41 ∷ [])) ≡ r → below_level r ≡ Some p → IsLevel (t ++ below_end) p.0 p.1
below_found t (Err f) p e h = cc
below_found t (Ok key) p e h = elim (chosen (nat_lt 30 (length key.subs)) None (Some (key, [])) (Some p) h) [
  | inl z ↦ absurd (cc z.1)
  | inr z ↦ let is : (key, []) ≡ p = cc z.1 in subst (pair_is (t ++ below_end)) is (below t (node_found (t ++ (41 ∷ [])) key e) (ltb-false 30 (length key.subs) z.0))
]

empty_found : (front end : List ℕ) (p : Key × List ℕ) → empty_level front end ≡ Some p → IsLevel (front ++ end) p.0 p.1
empty_found front end p e = elim (chosen (bytes_eq end top_end) (top_level (key_reading front)) (cond (bytes_eq end below_end) (below_level (key_reading (front ++ (41 ∷ [])))) None) (Some p) e) [
  | inl h ↦ subst (λ x. IsLevel (front ++ x) p.0 p.1) (sym ((bytes_eq-Decides end top_end).0 h.0)) (top_found front (key_reading front) p refl h.1)
  | inr h ↦ elim (chosen (bytes_eq end below_end) (below_level (key_reading (front ++ (41 ∷ [])))) None (Some p) h.1) [
    | inl k ↦ subst (λ x. IsLevel (front ++ x) p.0 p.1) (sym ((bytes_eq-Decides end below_end).0 k.0)) (below_found front (key_reading (front ++ (41 ∷ []))) p refl k.1)
    | inr k ↦ absurd (cc k.1)
  ]
]

level_from_found : (t : List ℕ) (r : Result Key KeyError) (p : Key × List ℕ) → key_reading t ≡ r → level_from t r ≡ Some p → IsLevel t p.0 p.1
level_from_found t (Ok key) p is e = level_of_found t key p (node_found t key is) e
level_from_found t (Err f) p is e = subst (λ x. IsLevel x p.0 p.1) (take-append-drop (length t - 4) t) (empty_found (take (length t - 4) t) (drop (length t - 4) t) p e)

last_level_found : (len : ℕ) (t : List ℕ) (p : Key × List ℕ) → last_level len t ≡ Ok p → IsLevel t p.0 p.1
last_level_found len t p e =
    let n = word_end t in
    let f = followed_found (found len t (level_reading (take n t))) (alone len (drop n t)) p e in
    let a = alone_found len (drop n t) f.0 p f.2 in
    let l = level_from_found (take n t) (key_reading (take n t)) f.0 refl (found_found len t (level_reading (take n t)) f.0 f.1) in
    subst (pair_is t) a.1 (subst (λ x. IsLevel x f.0.0 f.0.1) (all_taken n t a.0) l)

-- checks

first_of : (t : List ℕ) → (get_or t 0 0 == 61) ≡ true → t ≡ 61 ∷ drop 1 t
first_of [] h = cc
first_of (b ∷ bs) h = ap (λ c. c ∷ bs) (eqb-true b 61 h)

some_last : (t : List ℕ) → (get_or t (length t - 1) 0 == 62) ≡ true → (length t == 0) ≡ false
some_last [] h = cc
some_last (b ∷ bs) h = ne_eqb (length (b ∷ bs)) 0 (λ e. omega arith)

last_greater : (t : List ℕ) → (get_or t (length t - 1) 0 == 62) ≡ true → take (length t - 1) t ++ (62 ∷ []) ≡ t
last_greater t h = ap (λ b. take (length t - 1) t ++ (b ∷ [])) (sym (eqb-true (get_or t (length t - 1) 0) 62 h)) ∙ last_apart t 0 (some_last t h)

check_integer_found : (len : ℕ) (left part rest : List ℕ) (s : Statement) → part ++ rest ≡ left → is_at_least part rest ≡ true → check_integer len left part rest ≡ Ok s → IsOperand (codes "CHECK") left s
check_integer_found len left part rest s whole h e =
    let signs = and_parts (get_or part (length part - 1) 0 == 62) (get_or rest 0 0 == 61) h in
    let k : List ℕ = take (length part - 1) part in
    let d : List ℕ = drop 1 rest in
    let f = followed_found (node_at len left (key_reading k)) (λ key. followed (last_integer len d) (λ m. Ok (CheckAtLeast key m))) s e in
    let g = followed_found (last_integer len d) (λ m. Ok (CheckAtLeast f.0 m)) s f.2 in
    let is : CheckAtLeast f.0 g.0 ≡ s = cc g.2 in
    let all : k ++ (62 ∷ 61 ∷ d) ≡ left = sym (append_assoc k (62 ∷ []) (61 ∷ d)) ∙ ap (λ x. x ++ (61 ∷ d)) (last_greater part signs.0) ∙ ap (λ x. part ++ x) (sym (first_of rest signs.1)) ∙ whole in
    subst (IsOperand (codes "CHECK") left) is (subst (λ x. IsOperand (codes "CHECK") x (CheckAtLeast f.0 g.0)) all
    (check_at_least d (node_found k f.0 (node_at_found len left (key_reading k) f.0 f.1)) (last_integer_found len d g.0 g.1)))

set_found : (len : ℕ) (left : List ℕ) (s : Statement) → value_statement Set len left (key_end left) ≡ Ok s → IsOperand (codes "SET") left s
set_found len left s e =
    let f = value_statement_found Set len left (key_end left) s e in
    subst (IsOperand (codes "SET") left) f.3 (subst (λ x. IsOperand (codes "SET") x (Set f.0 f.1)) (sym f.2.whole) (set f.2.node f.2.value_is f.2.few))

check_value_found : (len : ℕ) (left : List ℕ) (n : ℕ) (s : Statement) → value_statement CheckIs len left n ≡ Ok s → IsOperand (codes "CHECK") left s
check_value_found len left n s e =
    let f = value_statement_found CheckIs len left n s e in
    subst (IsOperand (codes "CHECK") left) f.3 (subst (λ x. IsOperand (codes "CHECK") x (CheckIs f.0 f.1)) (sym f.2.whole) (check_is f.2.node f.2.value_is f.2.few))

check_found : (len : ℕ) (left : List ℕ) (s : Statement) → check_reading len left ≡ Ok s → IsOperand (codes "CHECK") left s
check_found len left s e =
    let n = key_end left in
    elim (chosen (is_at_least (take n left) (drop n left)) (check_integer len left (take n left) (drop n left)) (value_statement CheckIs len left n) (Ok s) e) [
      | inl h ↦ check_integer_found len left (take n left) (drop n left) s (take-append-drop n left) h.0 h.1
      | inr h ↦ check_value_found len left n s h.1
    ]

order_found : (len : ℕ) (left : List ℕ) (s : Statement) → order_reading len left ≡ Ok s → IsOperand (codes "ORDER") left s
order_found len left s e =
    let f = followed_found (last_level len left) (λ p. Ok (Order p.0 p.1)) s e in
    let is : Order f.0.0 f.0.1 ≡ s = cc f.2 in
    subst (IsOperand (codes "ORDER") left) is (order (last_level_found len left f.0 f.1))

node_statement_found : (make : Key → Statement) (len : ℕ) (left : List ℕ) (s : Statement) → node_statement make len left ≡ Ok s → (key : Key) × IsNode left key × (make key ≡ s)
node_statement_found make len left s e = let f = followed_found (last_node len left) (λ key. Ok (make key)) s e in (f.0, last_node_found len left f.0 f.1, cc f.2)

-- words

word_is : (word w : List ℕ) → bytes_eq word w ≡ true → w ≡ word
word_is word w h = sym ((bytes_eq-Decides word w).0 h)

named_operand : (word w left : List ℕ) (s : Statement) → bytes_eq word w ≡ true → IsOperand w left s → IsOperand word left s
named_operand word w left s h o = subst (λ x. IsOperand x left s) (word_is word w h) o

-- the words behind these
abbrev later : List ℕ → ℕ → List ℕ → Result Statement Fault
later word len left = cond (bytes_eq word (codes "GET")) (node_statement Get len left)
    (cond (bytes_eq word (codes "DATA")) (node_statement Defined len left)
    (cond (bytes_eq word (codes "ORDER")) (order_reading len left)
    (cond (bytes_eq word (codes "CHECK")) (check_reading len left) (Err (record { part = 0; error = BadChar 0 })))))

later_found : (word : List ℕ) (len : ℕ) (left : List ℕ) (s : Statement) → later word len left ≡ Ok s → IsOperand word left s
later_found word len left s e = elim (cases_Bool (bytes_eq word (codes "GET"))) [
  | inl h ↦ let f = node_statement_found Get len left s (rw h at e) in named_operand word (codes "GET") left s h (subst (IsOperand (codes "GET") left) f.2 (get f.1))
  | inr n1 ↦ elim (cases_Bool (bytes_eq word (codes "DATA"))) [
    | inl h ↦ let f = node_statement_found Defined len left s (rw h at (rw n1 at e)) in named_operand word (codes "DATA") left s h (subst (IsOperand (codes "DATA") left) f.2 (defined f.1))
    | inr n2 ↦ elim (cases_Bool (bytes_eq word (codes "ORDER"))) [
      | inl h ↦ named_operand word (codes "ORDER") left s h (order_found len left s (rw h at (rw n2 at (rw n1 at e))))
      | inr n3 ↦ elim (cases_Bool (bytes_eq word (codes "CHECK"))) [
        | inl h ↦ named_operand word (codes "CHECK") left s h (check_found len left s (rw h at (rw n3 at (rw n2 at (rw n1 at e)))))
        | inr n4 ↦ absurd (cc (rw n4 at (rw n3 at (rw n2 at (rw n1 at e)))))
      ]
    ]
  ]
]

operand_found : (word : List ℕ) (len : ℕ) (left : List ℕ) (s : Statement) → operand_reading word len left ≡ Ok s → IsOperand word left s
operand_found word len left s e = elim (cases_Bool (bytes_eq word (codes "SET"))) [
  | inl h ↦ named_operand word (codes "SET") left s h (set_found len left s (rw h at e))
  | inr n1 ↦ elim (cases_Bool (bytes_eq word (codes "KILL"))) [
    | inl h ↦ let f = node_statement_found Kill len left s (rw h at (rw n1 at e)) in named_operand word (codes "KILL") left s h (subst (IsOperand (codes "KILL") left) f.2 (kill f.1))
    | inr n2 ↦ elim (cases_Bool (bytes_eq word (codes "ZKILL"))) [
      | inl h ↦ let f = node_statement_found ZKill len left s (rw h at (rw n2 at (rw n1 at e))) in named_operand word (codes "ZKILL") left s h (subst (IsOperand (codes "ZKILL") left) f.2 (zkill f.1))
      | inr n3 ↦ elim (cases_Bool (bytes_eq word (codes "INCR"))) [
        | inl h ↦ named_operand word (codes "INCR") left s h (incr_found len left s (rw h at (rw n3 at (rw n2 at (rw n1 at e)))))
        | inr n4 ↦ later_found word len left s (rw n4 at (rw n3 at (rw n2 at (rw n1 at e))))
      ]
    ]
  ]
]

-- an operand has some byte

key_some : {t name : List ℕ} {subs : List (List ℕ)} → IsKeyText t name subs → 0 < length t
key_some (bare name) = omega arith
key_some (branched name z) = omega arith

level_some : {t last : List ℕ} {key : Key} → IsLevel t key last → 0 < length t
level_some (within key s n) = key_some n.text_is
level_some (top {t} n z) = omega (arith, length-append t top_end)
level_some (below t n few) = omega (arith, length-append t below_end)

operand_some : {word t : List ℕ} {s : Statement} → IsOperand word t s → 0 < length t
operand_some (set {k} {v} n p few) = omega (arith, length-append k (61 ∷ v))
operand_some (kill n) = key_some n.text_is
operand_some (zkill n) = key_some n.text_is
operand_some (incr {k} d m n e) = omega (arith, length-append k (32 ∷ (replicate m 32 ++ d)))
operand_some (get n) = key_some n.text_is
operand_some (defined n) = key_some n.text_is
operand_some (order l) = level_some l
operand_some (check_is {k} {v} n p few) = omega (arith, length-append k (61 ∷ v))
operand_some (check_at_least {k} d n e) = omega (arith, length-append k (62 ∷ 61 ∷ d))

pub statement_found : (text : List ℕ) (s : Statement) → statement_reading text ≡ Ok s → SpellsStatement text s
statement_found text s e =
    let n = word_end text in
    let operand : List ℕ = without_spaces (drop n text) in
    let o = operand_found (take n text) (length text) operand s e in
    let r = spaced_rest (drop n text) (behind_word false text) (λ none. omega (arith, operand_some o, ap (λ x. length x) none)) in
    record { word = take n text; more = r.0; operand = operand; operand_is = o; text_is = sym (take-append-drop n text) ∙ ap (λ x. take n text ++ x) r.1 }
