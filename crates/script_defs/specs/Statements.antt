-- Statements as text (GT.M: SET, KILL, ZKILL, $INCREMENT, $GET, $DATA, $ORDER; the words and the forms of a line are this project's).
use Rattle.std.specs.Prelude.{◌≡◌, ◌≤◌, ℕ, ℤ, ◌-◌, ◌&&◌, ◌==◌, Bool, true, List, [], ◌∷◌, ◌++◌, length, take, drop, replicate, slice_index, Some, codes, if◌then◌else◌}
use Rattle.std.specs.List.{flat_map}
use Rattle.std.specs.Str.{bytes_eq}
use Rattle.std.specs.declared.result.Result.{Result}
use Rattle.std.specs.declared.result.Result.TheVariants.{Ok, Err}
use Rattle.global_defs.specs.declared.limits.TheConstants.{LONGEST_VALUE}
use Rattle.global_defs.specs.Key.{Key, Sub, sub_of}
use Rattle.global_defs.specs.Jobs.{Statement, Set, Kill, ZKill, Incr, Get, Defined, Order, CheckIs, CheckAtLeast}
use Rattle.global_defs.specs.Numeral.{integer_of, integer_text, is_counted}
use Rattle.global_defs.specs.NodeText.{node_text, sub_text}
use Rattle.global_defs.specs.Valid.{is_key}
use Rattle.global_defs.specs.Zwr.{zwr}
use Rattle.gvn_key.specs.KeyText.{IsSubText, AreBytes, key_reading}
use Rattle.gvn_key.specs.ZwrText.{IsBytes}
use Rattle.script_defs.specs.Parts.{IsNode, IsLevel, Fault, BadChar, followed, word_end, key_end, without_spaces, node_at, node_reading, last_integer, last_node, assigned, last_level}

-- Words, and what stands behind them and the spaces. A value is written as a subscript is: a canonical numeral, or any pieces in ZWR form.
pub data IsOperand : (word text : List ℕ) (s : Statement) → Type 0 where
  set : {k v value : List ℕ} {key : Key} → IsNode k key → IsSubText v value → length value ≤ LONGEST_VALUE → IsOperand (codes "SET") (k ++ 61 ∷ v) (Set key value)
  kill : {k : List ℕ} {key : Key} → IsNode k key → IsOperand (codes "KILL") k (Kill key)
  zkill : {k : List ℕ} {key : Key} → IsNode k key → IsOperand (codes "ZKILL") k (ZKill key)
  incr : {k : List ℕ} {key : Key} {n : ℤ} (d : List ℕ) (more : ℕ) → IsNode k key → integer_of d ≡ Some n → IsOperand (codes "INCR") (k ++ 32 ∷ (replicate more 32 ++ d)) (Incr key n)
  get : {k : List ℕ} {key : Key} → IsNode k key → IsOperand (codes "GET") k (Get key)
  defined : {k : List ℕ} {key : Key} → IsNode k key → IsOperand (codes "DATA") k (Defined key)
  order : {k last : List ℕ} {key : Key} → IsLevel k key last → IsOperand (codes "ORDER") k (Order key last)
  check_is : {k v value : List ℕ} {key : Key} → IsNode k key → IsSubText v value → length value ≤ LONGEST_VALUE → IsOperand (codes "CHECK") (k ++ 61 ∷ v) (CheckIs key value)
  check_at_least : {k : List ℕ} {key : Key} {n : ℤ} (d : List ℕ) → IsNode k key → integer_of d ≡ Some n → IsOperand (codes "CHECK") (k ++ 62 ∷ 61 ∷ d) (CheckAtLeast key n)

-- The text is the word, one space or more, and the operand.
pub record SpellsStatement (text : List ℕ) (s : Statement) : Type 0 where
  pub word : List ℕ
  pub more : ℕ
  pub operand : List ℕ
  pub operand_is : IsOperand word operand s
  pub text_is : text ≡ word ++ 32 ∷ (replicate more 32 ++ operand)

-- The reading of a text: its statement, or its first fault from the left.

-- a key, and a value behind an equals sign
abbrev pub value_statement : (Key → List ℕ → Statement) → ℕ → List ℕ → ℕ → Result Statement Fault
value_statement make len left n = followed (node_reading len left n) (λ key. followed (assigned len (drop n left)) (λ value. Ok (make key value)))

abbrev pub node_statement : (Key → Statement) → ℕ → List ℕ → Result Statement Fault
node_statement make len left = followed (last_node len left) (λ key. Ok (make key))

abbrev pub incr_reading : ℕ → List ℕ → Result Statement Fault
incr_reading len left = let n = word_end left in followed (node_reading len left n) (λ key. followed (last_integer len (without_spaces (drop n left))) (λ m. Ok (Incr key m)))

abbrev pub order_reading : ℕ → List ℕ → Result Statement Fault
order_reading len left = followed (last_level len left) (λ p. Ok (Order p.0 p.1))

-- a greater-than sign ends the part before an equals sign
abbrev pub is_at_least : List ℕ → List ℕ → Bool
is_at_least part rest = slice_index part (length part - 1) == 62 && slice_index rest 0 == 61

-- an integer behind both signs
abbrev pub check_integer : ℕ → (left part rest : List ℕ) → Result Statement Fault
check_integer len left part rest = followed (node_at len left (key_reading (take (length part - 1) part))) (λ key. followed (last_integer len (drop 1 rest)) (λ m. Ok (CheckAtLeast key m)))

abbrev pub check_reading : ℕ → List ℕ → Result Statement Fault
check_reading len left = let n = key_end left in if is_at_least (take n left) (drop n left) then check_integer len left (take n left) (drop n left) else value_statement CheckIs len left n

abbrev pub operand_reading : List ℕ → ℕ → List ℕ → Result Statement Fault
operand_reading word len left = if bytes_eq word (codes "SET") then value_statement Set len left (key_end left)
    else if bytes_eq word (codes "KILL") then node_statement Kill len left
    else if bytes_eq word (codes "ZKILL") then node_statement ZKill len left
    else if bytes_eq word (codes "INCR") then incr_reading len left
    else if bytes_eq word (codes "GET") then node_statement Get len left
    else if bytes_eq word (codes "DATA") then node_statement Defined len left
    else if bytes_eq word (codes "ORDER") then order_reading len left
    else if bytes_eq word (codes "CHECK") then check_reading len left
    else Err (record { part = 0; error = BadChar 0 })

abbrev pub statement_reading : List ℕ → Result Statement Fault
statement_reading text = let n = word_end text in operand_reading (take n text) (length text) (without_spaces (drop n text))

-- subscripts and the comma behind them, or the bracket before a first one
abbrev pub behind_subs : List Sub → List ℕ
behind_subs [] = 40 ∷ []
behind_subs (s ∷ ss) = 40 ∷ sub_text s ++ flat_map (λ t. 44 ∷ sub_text t) ss ++ 44 ∷ []

-- a node's text up to where one subscript more may stand
abbrev pub text_above : Key → List ℕ
text_above key = 94 ∷ key.name ++ behind_subs key.subs

-- The canonical text: one space between parts, and values always in ZWR form.
abbrev pub statement_text : Statement → List ℕ
statement_text (Set key value) = codes "SET " ++ (node_text key ++ 61 ∷ zwr value)
statement_text (Kill key) = codes "KILL " ++ node_text key
statement_text (ZKill key) = codes "ZKILL " ++ node_text key
statement_text (Incr key n) = codes "INCR " ++ (node_text key ++ 32 ∷ integer_text n)
statement_text (Get key) = codes "GET " ++ node_text key
statement_text (Defined key) = codes "DATA " ++ node_text key
statement_text (Order key last) = codes "ORDER " ++ node_text (record { name = key.name; subs = key.subs ++ sub_of last ∷ [] })
statement_text (CheckIs key value) = codes "CHECK " ++ (node_text key ++ 61 ∷ zwr value)
statement_text (CheckAtLeast key n) = codes "CHECK " ++ (node_text key ++ 62 ∷ 61 ∷ integer_text n)

-- a key that there is, of bytes
abbrev pub IsKey : Key → Type 0
IsKey key = (is_key key ≡ true) × AreBytes key

abbrev pub IsValue : List ℕ → Type 0
IsValue value = IsBytes value × (length value ≤ LONGEST_VALUE)

-- an empty last subscript leaves room for 30 before it; any other makes a key with them
abbrev pub HasLevel : Key → List ℕ → Type 0
HasLevel key [] = length key.subs ≤ 30
HasLevel key (b ∷ bs) = IsKey (record { name = key.name; subs = key.subs ++ sub_of (b ∷ bs) ∷ [] })

-- a statement of its form
abbrev pub IsStatement : Statement → Type 0
IsStatement (Set key value) = IsKey key × IsValue value
IsStatement (Kill key) = IsKey key
IsStatement (ZKill key) = IsKey key
IsStatement (Incr key n) = IsKey key × (is_counted n ≡ true)
IsStatement (Get key) = IsKey key
IsStatement (Defined key) = IsKey key
IsStatement (Order key last) = IsKey key × HasLevel key last
IsStatement (CheckIs key value) = IsKey key × IsValue value
IsStatement (CheckAtLeast key n) = IsKey key × (is_counted n ≡ true)
