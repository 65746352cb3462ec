-- The canonical text of a statement spells it.
use Rattle.std.proofs.Common.{◌≡◌, ℕ, ℤ, pos, negsuc, zero, suc, ◌^◌, ◌<◌, ◌≤◌, true, false, nat_le, List, [], ◌∷◌, ◌++◌, length, get_or, codes, Some, refl, ap, sym, subst, ◌∙◌, arith, append_assoc, count_by, position}
use Rattle.std.specs.List.{list_all, list_any}
use Rattle.std.specs.Char.{is_ascii_digit}
use Rattle.std.specs.Fmt.{decimal}
use Rattle.std.specs.Str.Parse.{digits_value}
use Rattle.std.proofs.lemmas.List.{append-nil}
use Rattle.std.proofs.lemmas.Fmt.{decimal_digit, first_decimal, length-decimal-le}
use Rattle.std.proofs.lemmas.Bool.{and_parts, ne_eqb, le-leb, ltb-true}
use Rattle.global_defs.specs.Key.{Key, Sub, Text, sub_of}
use Rattle.global_defs.specs.Jobs.{Statement, Set, Kill, ZKill, Incr, Get, Defined, Order, CheckIs, CheckAtLeast}
use Rattle.global_defs.specs.NodeText.{node_text, sub_text, subs_text}
use Rattle.global_defs.specs.Numeral.{is_point, is_positive, is_positive_at, integer_of, integer_text, is_counted}
use Rattle.global_defs.specs.Zwr.{zwr}
use Rattle.global_defs.proofs.Places.{none_pass, position_nowhere}
use Rattle.global_defs.proofs.Numerals.{below_zero, sub_bytes_back}
use Rattle.global_defs.proofs.NumberText.{decimal_is}
use Rattle.gvn_key.specs.ZwrText.{IsBytes}
use Rattle.gvn_key.specs.KeyText.{IsSubText, string}
use Rattle.gvn_key.proofs.ZwrWritten.{zwr_written}
use Rattle.gvn_key.proofs.KeyTextWritten.{written_read, others}
use Rattle.script_defs.specs.Parts.{IsNode, IsLevel, within, top, below}
use Rattle.script_defs.specs.Statements.{IsOperand, set, kill, zkill, incr, get, defined, order, check_is, check_at_least, SpellsStatement, behind_subs, text_above, statement_text, IsKey, HasLevel, IsStatement}
use Rattle.script_defs.proofs.StatementsFound.{node_found}
use Rattle.gvn_key.proofs.Decoded.{ascii_digits}
use Rattle.gvn_key.proofs.CodeNumbers.{count_from}

-- integers

digit_no_point : (c : ℕ) → is_ascii_digit c ≡ true → is_point c ≡ false
digit_no_point c h = ne_eqb c 46 (λ e. let is : false ≡ true = sym (ap is_ascii_digit e) ∙ h in cc)

digits_no_point : (ds : List ℕ) → list_all is_ascii_digit ds ≡ true → none_pass is_point ds ≡ true
digits_no_point [] h = refl
digits_no_point (c ∷ cs) h = let a = and_parts (is_ascii_digit c) (list_all is_ascii_digit cs) h in rw (digit_no_point c a.0) (digits_no_point cs a.1)

digits_any_point : (ds : List ℕ) → list_all is_ascii_digit ds ≡ true → list_any is_point ds ≡ false
digits_any_point [] h = refl
digits_any_point (c ∷ cs) h = let a = and_parts (is_ascii_digit c) (list_all is_ascii_digit cs) h in rw (digit_no_point c a.0) (digits_any_point cs a.1)

-- the digits of an integer above 0
record IsWhole (n : ℕ) (ds : List ℕ) : Type 0 where
  pub positive : is_positive ds ≡ true
  pub few : nat_le (count_by is_ascii_digit ds) 18 ≡ true
  pub no_point : list_any is_point ds ≡ false
  pub value : digits_value 10 ds ≡ n
  pub lead : 48 < get_or ds 0 0

whole_some : (ds : List ℕ) → list_all is_ascii_digit ds ≡ true → 48 < get_or ds 0 0 → is_positive_at ds (position is_point ds) ≡ true
whole_some [] all lead = absurd (omega arith)
whole_some (d ∷ ds) all lead = rw (position_nowhere is_point (d ∷ ds) (digits_no_point (d ∷ ds) all)) (rw all (rw (ne_eqb (length (d ∷ ds)) 0 (λ e. omega arith), ne_eqb d 48 (λ e. omega arith)) refl))

written : (n : ℕ) → 0 < n → n < 10 ^ 18 → IsWhole n (decimal n)
written n some small =
    let ds : List ℕ = decimal n in
    let d = decimal_is n (omega arith) in
    let all = ascii_digits ds d.digits in
    let lead = first_decimal n some (omega arith) in
    record {
      positive = whole_some ds all lead;
      few = le-leb (count_by is_ascii_digit ds) 18 (omega (arith, count_from 0 ds all, length-decimal-le 18 n (omega arith) small (omega arith)));
      no_point = digits_any_point ds all;
      value = d.value;
      lead = lead;
    }

plain_integer : (n : ℕ) (ds : List ℕ) → IsWhole n ds → integer_of ds ≡ Some (pos n)
plain_integer n [] w = absurd (omega (arith, w.lead))
plain_integer n (d ∷ ds) w =
    let lead : 48 < d = w.lead in
    rw (ne_eqb d 48 (λ e. omega arith), ne_eqb d 45 (λ e. omega arith)) (rw (w.positive, w.few, w.no_point) (ap (λ k. Some (pos k)) w.value))

minus_integer : (n : ℕ) (ds : List ℕ) → IsWhole (suc n) ds → integer_of (45 ∷ ds) ≡ Some (negsuc n)
minus_integer n ds w = rw (w.positive, w.few, w.no_point, w.value) (ap (λ z. Some z) (below_zero n))

pub integer_written : (n : ℤ) → is_counted n ≡ true → integer_of (integer_text n) ≡ Some n
integer_written (pos zero) h = ap integer_of (decimal_digit 0 (omega arith))
integer_written (pos (suc n)) h = plain_integer (suc n) (decimal (suc n)) (written (suc n) (omega arith) (ltb-true (suc n) (10 ^ 18) h))
integer_written (negsuc n) h = minus_integer n (decimal (suc n)) (written (suc n) (omega arith) (ltb-true (suc n) (10 ^ 18) h))

-- nodes and values

node_written : (key : Key) → IsKey key → IsNode (node_text key) key
node_written key h = node_found (node_text key) key (written_read key h.0 h.1)

value_written : (v : List ℕ) → IsBytes v → IsSubText (zwr v) v
value_written v h = string (zwr_written v h)

-- levels

others_more : (ss : List Sub) (s : Sub) → others (ss ++ (s ∷ [])) ≡ others ss ++ (44 ∷ sub_text s)
others_more [] s = append-nil (44 ∷ sub_text s)
others_more (t ∷ ss) s = ap (λ x. (44 ∷ sub_text t) ++ x) (others_more ss s) ∙ sym (append_assoc (44 ∷ sub_text t) (others ss) (44 ∷ sub_text s))

subs_more : (subs : List Sub) (s : Sub) → subs_text (subs ++ (s ∷ [])) ≡ behind_subs subs ++ (sub_text s ++ (41 ∷ []))
subs_more [] s = ap (λ x. 40 ∷ (x ++ (41 ∷ []))) (append-nil (sub_text s))
subs_more (t ∷ ss) s =
    let front : List ℕ = 40 ∷ sub_text t in
    ap (λ x. (front ++ x) ++ (41 ∷ [])) (others_more ss s)
    ∙ ap (λ x. x ++ (41 ∷ [])) (sym (append_assoc front (others ss) (44 ∷ sub_text s)))
    ∙ append_assoc (front ++ others ss) (44 ∷ sub_text s) (41 ∷ [])
    ∙ sym (append_assoc (front ++ others ss) (44 ∷ []) (sub_text s ++ (41 ∷ [])))

-- a node's text is that of the level above its last subscript, that subscript and a bracket
pub level_text : (key : Key) (s : Sub) → node_text (record { name = key.name; subs = key.subs ++ (s ∷ []) }) ≡ text_above key ++ (sub_text s ++ (41 ∷ []))
level_text key s = ap (λ x. (94 ∷ key.name) ++ x) (subs_more key.subs s) ∙ sym (append_assoc (94 ∷ key.name) (behind_subs key.subs) (sub_text s ++ (41 ∷ [])))

empty_written : (name : List ℕ) (subs : List Sub) → IsNode (node_text (record { name = name; subs = subs })) (record { name = name; subs = subs }) → length subs ≤ 30
    → IsLevel ((94 ∷ name) ++ subs_text (subs ++ (Text [] ∷ []))) (record { name = name; subs = subs }) []
empty_written name [] n few = subst (λ x. IsLevel x (record { name = name; subs = [] }) []) (ap (λ x. x ++ (40 ∷ 34 ∷ 34 ∷ 41 ∷ [])) (append-nil (94 ∷ name))) (top n refl)
empty_written name (s ∷ ss) n few =
    let key : Key = record { name = name; subs = s ∷ ss } in
    let front : List ℕ = (40 ∷ sub_text s) ++ others ss in
    let whole : (94 ∷ name) ++ (front ++ (41 ∷ [])) ≡ ((94 ∷ name) ++ front) ++ (41 ∷ []) = sym (append_assoc (94 ∷ name) front (41 ∷ [])) in
    let more : ((94 ∷ name) ++ front) ++ (44 ∷ 34 ∷ 34 ∷ 41 ∷ []) ≡ (94 ∷ name) ++ subs_text ((s ∷ ss) ++ (Text [] ∷ [])) =
    append_assoc (94 ∷ name) front (44 ∷ 34 ∷ 34 ∷ 41 ∷ [])
    ∙ ap (λ x. (94 ∷ name) ++ x) (sym (append_assoc front (44 ∷ []) (34 ∷ 34 ∷ 41 ∷ [])) ∙ sym (subs_more (s ∷ ss) (Text []))) in
    subst (λ x. IsLevel x key []) more (below ((94 ∷ name) ++ front) (subst (λ x. IsNode x key) whole n) few)

level_written : (key : Key) (last : List ℕ) → IsKey key → HasLevel key last → IsLevel (node_text (record { name = key.name; subs = key.subs ++ (sub_of last ∷ []) })) key last
level_written key [] h few = empty_written key.name key.subs (node_written key h) few
level_written key (b ∷ bs) h whole =
    let s : Sub = sub_of (b ∷ bs) in
    let t : List ℕ = node_text (record { name = key.name; subs = key.subs ++ (s ∷ []) }) in
    subst (IsLevel t key) (sub_bytes_back (b ∷ bs)) (within key s (node_written (record { name = key.name; subs = key.subs ++ (s ∷ []) }) whole))

-- statements

one_space : (word operand : List ℕ) (s : Statement) → IsOperand word operand s → SpellsStatement (word ++ (32 ∷ operand)) s
one_space word operand s o = record { word = word; more = 0; operand = operand; operand_is = o; text_is = refl }

pub statement_written : (s : Statement) → IsStatement s → SpellsStatement (statement_text s) s
statement_written (Set key value) h = one_space (codes "SET") (node_text key ++ (61 ∷ zwr value)) (Set key value) (set (node_written key h.0) (value_written value h.1.0) h.1.1)
statement_written (Kill key) h = one_space (codes "KILL") (node_text key) (Kill key) (kill (node_written key h))
statement_written (ZKill key) h = one_space (codes "ZKILL") (node_text key) (ZKill key) (zkill (node_written key h))
statement_written (Incr key n) h = one_space (codes "INCR") (node_text key ++ (32 ∷ integer_text n)) (Incr key n) (incr (integer_text n) 0 (node_written key h.0) (integer_written n h.1))
statement_written (Get key) h = one_space (codes "GET") (node_text key) (Get key) (get (node_written key h))
statement_written (Defined key) h = one_space (codes "DATA") (node_text key) (Defined key) (defined (node_written key h))
statement_written (Order key last) h = one_space (codes "ORDER") (node_text (record { name = key.name; subs = key.subs ++ (sub_of last ∷ []) })) (Order key last) (order (level_written key last h.0 h.1))
statement_written (CheckIs key value) h = one_space (codes "CHECK") (node_text key ++ (61 ∷ zwr value)) (CheckIs key value) (check_is (node_written key h.0) (value_written value h.1.0) h.1.1)
statement_written (CheckAtLeast key n) h = one_space (codes "CHECK") (node_text key ++ (62 ∷ 61 ∷ integer_text n)) (CheckAtLeast key n) (check_at_least (integer_text n) (node_written key h.0) (integer_written n h.1))
