-- Which statements are updates, by their words.
use Rattle.std.proofs.Common.{◌≡◌, ℕ, ◌-◌, ◌||◌, Bool, true, false, List, [], ◌∷◌, ◌++◌, refl, sym, ◌∙◌, subst, take, drop, length, length-append, zero-add, ap, arith, ◌+◌, ◌&&◌}
use Rattle.std.proofs.lemmas.List.Sums.{sum_by-append}
use Rattle.std.proofs.lemmas.Bool.Decides.{nat_tests}
use Rattle.std.specs.declared.result.Result.{Result}
use Rattle.std.specs.declared.result.Result.TheVariants.{Ok, Err}
use Rattle.std.specs.Prelude.{codes, nat_le, count_by, if◌then◌else◌}
use Rattle.std.specs.Str.{bytes_eq}
use Rattle.global_defs.specs.Key.{Key}
use Rattle.global_defs.specs.Jobs.{Statement, Set, Kill, ZKill, Incr, Get, Defined, Order, CheckIs, CheckAtLeast, Job}
use Rattle.gvn_key.specs.KeyText.{key_reading}
use Rattle.script_defs.specs.Parts.{Fault, BadChar, followed, word_end, key_end, without_spaces, node_at, node_reading, last_integer, last_node, assigned, last_level}
use Rattle.script_defs.specs.Statements.{value_statement, node_statement, incr_reading, order_reading, is_at_least, check_integer, check_reading, operand_reading, statement_reading}
use Rattle.command_defs.specs.Updaters.{is_update, is_of_size}
use Rattle.command_defs.specs.Sections.{is_update_word, is_full_job}

then_is : {X Y : Type 0} (r : Result X Fault) (next : X → Result Y Fault) (P : Y → Type 0) → ((x : X) (y : Y) → next x ≡ Ok y → P y) → (y : Y) → followed r next ≡ Ok y → P y
then_is (Ok x) next P each y e = each x y e
then_is (Err f) next P each y e = absurd (cc)

made_is : {X Y : Type 0} (r : Result X Fault) (make : X → Y) (P : Y → Type 0) → ((x : X) → P (make x)) → (y : Y) → followed r (λ x. Ok (make x)) ≡ Ok y → P y
made_is {X} {Y} r make P each y e = then_is r (λ x. Ok (make x)) P (λ x y' e'. let same : make x ≡ y' = cc in subst P same (each x)) y e

-- a word is an update's exactly where its statements are updates
abbrev IsOf : Bool → Result Statement Fault → Type 0
IsOf b r = (s : Statement) → r ≡ Ok s → is_update s ≡ b

value_of : (b : Bool) (make : Key → List ℕ → Statement) → ((key : Key) (v : List ℕ) → is_update (make key v) ≡ b) → (len : ℕ) (left : List ℕ) (n : ℕ) → IsOf b (value_statement make len left n)
value_of b make each len left n s e = then_is (node_reading len left n) (λ key. followed (assigned len (drop n left)) (λ value. Ok (make key value))) (λ t. is_update t ≡ b)
    (λ key t e'. made_is (assigned len (drop n left)) (make key) (λ t. is_update t ≡ b) (each key) t e') s e

node_of : (b : Bool) (make : Key → Statement) → ((key : Key) → is_update (make key) ≡ b) → (len : ℕ) (left : List ℕ) → IsOf b (node_statement make len left)
node_of b make each len left s e = made_is (last_node len left) make (λ t. is_update t ≡ b) each s e

incr_of : (len : ℕ) (left : List ℕ) → IsOf true (incr_reading len left)
incr_of len left s e = let n = word_end left in then_is (node_reading len left n) (λ key. followed (last_integer len (without_spaces (drop n left))) (λ m. Ok (Incr key m))) (λ t. is_update t ≡ true)
    (λ key t e'. made_is (last_integer len (without_spaces (drop n left))) (Incr key) (λ t. is_update t ≡ true) (λ m. refl) t e') s e

order_of : (len : ℕ) (left : List ℕ) → IsOf false (order_reading len left)
order_of len left s e = made_is (last_level len left) (λ p. Order p.0 p.1) (λ t. is_update t ≡ false) (λ p. refl) s e

integer_of : (len : ℕ) (left part rest : List ℕ) → IsOf false (check_integer len left part rest)
integer_of len left part rest s e = then_is (node_at len left (key_reading (take (length part - 1) part))) (λ key. followed (last_integer len (drop 1 rest)) (λ m. Ok (CheckAtLeast key m))) (λ t. is_update t ≡ false)
    (λ key t e'. made_is (last_integer len (drop 1 rest)) (CheckAtLeast key) (λ t. is_update t ≡ false) (λ m. refl) t e') s e

either : (c b : Bool) (r q : Result Statement Fault) → IsOf b r → IsOf b q → IsOf b (if c then r else q)
either true b r q f g = f
either false b r q f g = g

check_of : (len : ℕ) (left : List ℕ) → IsOf false (check_reading len left)
check_of len left = let n = key_end left in either (is_at_least (take n left) (drop n left)) false (check_integer len left (take n left) (drop n left)) (value_statement CheckIs len left n)
    (integer_of len left (take n left) (drop n left)) (value_of false CheckIs (λ key v. refl) len left n)

none_of : (b : Bool) (fault : Fault) → IsOf b (Err fault)
none_of b fault s e = absurd (cc)

-- of the eight words the first four are updates'
by_word : (set kill zkill incr get data' order check : Bool) (a b c d e f g h i : Result Statement Fault)
    → IsOf true a → IsOf true b → IsOf true c → IsOf true d → IsOf false e → IsOf false f → IsOf false g → IsOf false h → IsOf false i
    → IsOf (set || kill || zkill || incr) (if set then a else if kill then b else if zkill then c else if incr then d else if get then e else if data' then f else if order then g else if check then h else i)
by_word true kill zkill incr get data' order check a b c d e f g h i ha hb hc hd he hf hg hh hi = ha
by_word false true zkill incr get data' order check a b c d e f g h i ha hb hc hd he hf hg hh hi = hb
by_word false false true incr get data' order check a b c d e f g h i ha hb hc hd he hf hg hh hi = hc
by_word false false false true get data' order check a b c d e f g h i ha hb hc hd he hf hg hh hi = hd
by_word false false false false true data' order check a b c d e f g h i ha hb hc hd he hf hg hh hi = he
by_word false false false false false true order check a b c d e f g h i ha hb hc hd he hf hg hh hi = hf
by_word false false false false false false true check a b c d e f g h i ha hb hc hd he hf hg hh hi = hg
by_word false false false false false false false true a b c d e f g h i ha hb hc hd he hf hg hh hi = hh
by_word false false false false false false false false a b c d e f g h i ha hb hc hd he hf hg hh hi = hi

operand_word : (word : List ℕ) (len : ℕ) (left : List ℕ) → IsOf (is_update_word word) (operand_reading word len left)
operand_word word len left =
    by_word (bytes_eq word (codes "SET")) (bytes_eq word (codes "KILL")) (bytes_eq word (codes "ZKILL")) (bytes_eq word (codes "INCR")) (bytes_eq word (codes "GET")) (bytes_eq word (codes "DATA")) (bytes_eq word (codes "ORDER")) (bytes_eq word (codes "CHECK"))
    (value_statement Set len left (key_end left)) (node_statement Kill len left) (node_statement ZKill len left) (incr_reading len left) (node_statement Get len left) (node_statement Defined len left) (order_reading len left) (check_reading len left) (Err (record { part = 0; error = BadChar 0 }))
    (value_of true Set (λ key v. refl) len left (key_end left)) (node_of true Kill (λ key. refl) len left) (node_of true ZKill (λ key. refl) len left) (incr_of len left)
    (node_of false Get (λ key. refl) len left) (node_of false Defined (λ key. refl) len left) (order_of len left) (check_of len left) (none_of false (record { part = 0; error = BadChar 0 }))

-- a statement is an update exactly where its word is one's
pub update_word : (text : List ℕ) (s : Statement) → statement_reading text ≡ Ok s → is_update s ≡ is_update_word (take (word_end text) text)
update_word text s e = operand_word (take (word_end text) text) (length text) (without_spaces (drop (word_end text) text)) s e

limits : (n m : ℕ) (u w : Bool) → (nat_le n 1024 && nat_le m 256) ≡ true → (nat_le 1024 n || (w && nat_le 256 m)) ≡ false → u ≡ w → (nat_le (n + 1) 1024 && nat_le (m + (if u then 1 else 0)) 256) ≡ true
limits n m true true size free e = grind (arith, nat_tests)
limits n m false false size free e = grind (arith, nat_tests)
limits n m true false size free e = absurd (cc)
limits n m false true size free e = absurd (cc)

-- a job that takes a statement of its word stays within the limits
pub not_full : (job : Job) (word : List ℕ) (s : Statement) → is_of_size job ≡ true → is_full_job job word ≡ false → is_update s ≡ is_update_word word → is_of_size (job ++ s ∷ []) ≡ true
not_full job word s size free e =
    let longer : length (job ++ s ∷ []) ≡ length job + 1 = length-append job (s ∷ []) in
    let more : count_by is_update (job ++ s ∷ []) ≡ count_by is_update job + (if is_update s then 1 else 0) = sum_by-append (λ t. if is_update t then 1 else 0) job (s ∷ []) ∙ ap (λ (n : ℕ). count_by is_update job + n) (zero-add (if is_update s then 1 else 0)) in
    subst (λ n. (nat_le n 1024 && nat_le (count_by is_update (job ++ s ∷ [])) 256) ≡ true) (sym longer)
    (subst (λ m. (nat_le (length job + 1) 1024 && nat_le m 256) ≡ true) (sym more) (limits (length job) (count_by is_update job) (is_update s) (is_update_word word) size free e))
