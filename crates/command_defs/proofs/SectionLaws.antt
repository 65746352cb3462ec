-- A line of a section is read as what it spells.
use Rattle.std.proofs.Common.{◌≡◌, ℕ, zero, suc, ◌<◌, ◌≤◌, ◌==◌, ◌&&◌, ◌||◌, Bool, true, false, List, [], ◌∷◌, ◌++◌, length, take, replicate, codes, nat_lt, length-append, refl, sym, ap, ◌∙◌, subst, inl, inr, arith}
use Rattle.std.specs.Prelude.{count_by, nat_le, if◌then◌else◌}
use Rattle.std.specs.Fmt.{decimal}
use Rattle.std.specs.Str.{bytes_eq}
use Rattle.std.specs.Str.Parse.{AllDigits}
use Rattle.std.specs.List.{list_any}
use Rattle.std.specs.declared.result.Result.{Result}
use Rattle.std.specs.declared.result.Result.TheVariants.{Ok, Err}
use Rattle.std.proofs.lemmas.Slice.Eq.{bytes_eq-Decides}
use Rattle.std.proofs.lemmas.Str.Parse.{digit_from_value}
use Rattle.std.proofs.lemmas.Bool.{cases_Bool, ne_eqb}
use Rattle.std.proofs.lemmas.Bool.Decides.{nat_tests}
use Rattle.global_defs.specs.declared.limits.TheConstants.{LONGEST_LINE, MOST_STATEMENTS, MOST_UPDATES, MOST_UPDATERS}
use Rattle.global_defs.specs.Jobs.{Statement}
use Rattle.script_defs.specs.Parts.{Fault, part_end, word_end, without_spaces}
use Rattle.script_defs.specs.Statements.{statement_reading, operand_reading, SpellsStatement, IsOperand, set, kill, zkill, incr, get, defined, order, check_is, check_at_least}
use Rattle.script_defs.proofs.StatementsFound.{statement_found}
use Rattle.script_defs.proofs.StatementsRead.{statement_read}
use Rattle.command_defs.specs.Commands.{Command, Run}
use Rattle.command_defs.specs.Parts.{column, formed, taken, ended, number_form, trimmed}
use Rattle.command_defs.specs.Sections.{Section, is_open, is_full, is_full_job, is_update_word, jobs_of, last_job, transaction_begun, transaction_ended, with_statement}
use Rattle.command_defs.specs.Updaters.{UPDATERS, is_update}
use Rattle.command_defs.specs.Script.{Position, Within, Reading, Wrong, Goes, Ends, ending, within, end_reading, stated, job_by, job_reading, section_reading, text_reading, line_reading}
use Rattle.command_defs.specs.Spelling.{IsEnded, IsPart, stops_quoted, Joins, IsLineOf, IsStatementLine, HasRoom, Continues, begins, commits, states, EndsSection}
use Rattle.command_defs.proofs.LineEnds.{trimmed_found, trimmed_only}
use Rattle.command_defs.proofs.Joined as joined
use Rattle.command_defs.proofs.Joined.{IsFronted, Cuts, cuts, parted, part_fronted, spaces_gone, front_spaces}
use Rattle.command_defs.proofs.NumberForms.{digits_known, number_read}
use Rattle.command_defs.proofs.UpdateWords.{update_word}
use Rattle.command_defs.proofs.LineLaws.{left_of, left_tight, left_fronted, line_found, text_found, ending_found, ending_goes, line_of, line_read, text_read}
use Rattle.command_defs.proofs.Taken.{behind, Takes, ended_found, number_taken, number_at, at_end, ended_read}
use Rattle.gvn_key.proofs.KeyTextFound.{chosen}

-- From a reading to what is spelled.

within_found : (r : Result Section ℕ) (p : Position) → within r ≡ Goes p → (t : Section) × (r ≡ Ok t) × (p ≡ Within t)
within_found (Ok t) p e = (t, refl, cc)
within_found (Err at) p e = cc

within_ends : (r : Result Section ℕ) (c : Command) → within r ≡ Ends c → ⊥
within_ends (Ok t) c e = cc
within_ends (Err at) c e = cc

some_by : (n : ℕ) (t : List ℕ) (b : ℕ) (bs : List ℕ) → take n t ≡ b ∷ bs → 0 < length t
some_by zero [] b bs e = cc
some_by (suc n) [] b bs e = cc
some_by n (c ∷ cs) b bs e = omega arith

-- what a section goes on with, and that the line spells it
record Goes_on (s : Section) (line : List ℕ) (p : Position) : Type 0 where
  next : Section
  is : p ≡ Within next
  spelled : Continues s line next

room : (s : Section) (u : ℕ) (word : List ℕ) (statement : Statement) → is_full s u word ≡ false → is_update statement ≡ is_update_word word → HasRoom s u statement
room s u word statement free same = record {
  statements = λ opens. (let f : is_full_job (last_job (jobs_of s u)) word ≡ false = rw opens at free in grind (arith, nat_tests));
  updates = λ opens update. (let f : is_full_job (last_job (jobs_of s u)) word ≡ false = rw opens at free in let w : is_update_word word ≡ true = sym same ∙ update in grind (arith, nat_tests));
}

stated_found : (s : Section) (u at : ℕ) (p : Position) (r : Result Statement Fault) → stated s u at r ≡ Goes p → (statement : Statement) × (r ≡ Ok statement) × (p ≡ Within (with_statement s u statement))
stated_found s u at p (Ok statement) e = (statement, refl, cc)
stated_found s u at p (Err fault) e = cc

stated_ends : (s : Section) (u at : ℕ) (c : Command) (r : Result Statement Fault) → stated s u at r ≡ Ends c → ⊥
stated_ends s u at c (Ok statement) e = cc
stated_ends s u at c (Err fault) e = cc

-- an updater's line of two words
two_words : (line word : List ℕ) (u : ℕ) (rest : List ℕ) (len : ℕ) (b : ℕ) (bs : List ℕ) → length line ≤ LONGEST_LINE → Takes (decimal u) (left_of line) rest
    → bytes_eq (take (word_end rest) rest) (b ∷ bs) ≡ true → behind rest ≡ [] → IsLineOf (decimal u ∷ (b ∷ bs) ∷ []) line
two_words line word u rest len b bs short t same none =
    let is : take (word_end rest) rest ≡ b ∷ bs = (bytes_eq-Decides (take (word_end rest) rest) (b ∷ bs)).0 same in
    line_of line (decimal u ∷ (b ∷ bs) ∷ []) short
    (t.build ((b ∷ bs) ∷ []) (subst (λ (w : List ℕ). Joins (w ∷ []) rest) is (joined.joins rest [] t.tight t.fronted (some_by (word_end rest) rest b bs is) (at_end (behind rest) none))))

spelled_some : (text : List ℕ) (statement : Statement) → SpellsStatement text statement → 0 < length text
spelled_some text statement h = omega (arith, ap length h.text_is, length-append h.word (32 ∷ (replicate h.more 32 ++ h.operand)))

job_found : (s : Section) (line : List ℕ) (len u : ℕ) (rest : List ℕ) (p : Position) → length line ≤ LONGEST_LINE → 1 ≤ u → u ≤ UPDATERS → Takes (decimal u) (left_of line) rest → decimal u ≡ take (word_end (left_of line)) (left_of line) → rest ≡ behind (left_of line)
    → job_by s u (take (word_end rest) rest) len rest (behind rest) ≡ Goes p → Goes_on s line p
job_found s line len u rest p short low high t first is e0 =
    let word = take (word_end rest) rest in
    elim (chosen (bytes_eq word (codes "TSTART")) (if is_open s u then Wrong (column len rest) else within (ended len (behind rest) (transaction_begun s u))) _ (Goes p) e0) [
      | inl h ↦ elim (chosen (is_open s u) (Wrong (column len rest)) (within (ended len (behind rest) (transaction_begun s u))) (Goes p) h.1) [
        | inl k ↦ absurd (cc k.1)
        | inr k ↦ (let w = within_found (ended len (behind rest) (transaction_begun s u)) p k.1 in
            let z = ended_found len (behind rest) (transaction_begun s u) w.0 w.1 in
            record { next = transaction_begun s u; is = w.2 ∙ ap Within (sym z.1); spelled = begins u low high k.0 (two_words line word u rest len 84 (codes "START") short t h.0 z.0) })
      ]
      | inr h ↦ (let e1 = h.1 in elim (chosen (bytes_eq word (codes "TCOMMIT")) (if is_open s u then within (ended len (behind rest) (transaction_ended s u)) else Wrong (column len rest)) _ (Goes p) e1) [
        | inl h ↦ elim (chosen (is_open s u) (within (ended len (behind rest) (transaction_ended s u))) (Wrong (column len rest)) (Goes p) h.1) [
          | inl k ↦ (let w = within_found (ended len (behind rest) (transaction_ended s u)) p k.1 in
              let z = ended_found len (behind rest) (transaction_ended s u) w.0 w.1 in
              record { next = transaction_ended s u; is = w.2 ∙ ap Within (sym z.1); spelled = commits u low high k.0 (two_words line word u rest len 84 (codes "COMMIT") short t h.0 z.0) })
          | inr k ↦ absurd (cc k.1)
        ]
        | inr h ↦ (let e2 = h.1 in elim (chosen (is_full s u word) (Wrong (column len rest)) (stated s u (column len rest) (statement_reading rest)) (Goes p) e2) [
          | inl h ↦ absurd (cc h.1)
          | inr h ↦ (let g = stated_found s u (column len rest) p (statement_reading rest) h.1 in
              let spelled = statement_found rest g.0 g.1 in
              let some : 0 < length (behind (left_of line)) = subst (λ (x : List ℕ). 0 < length x) is (spelled_some rest g.0 spelled) in
              let q = parted (left_of line) some in
              let f = front_spaces (trimmed line) in
              let whole : left_of line ≡ decimal u ++ 32 ∷ (replicate q.0 32 ++ rest) = q.1 ∙ (ap (λ (x : List ℕ). x ++ 32 ∷ (replicate q.0 32 ++ behind (left_of line))) (sym first) ∙ ap (λ (x : List ℕ). decimal u ++ 32 ∷ (replicate q.0 32 ++ x)) (sym is)) in
              record {
                next = with_statement s u g.0;
                is = g.2;
                spelled = states u g.0 low high (room s u word g.0 h.0 (update_word rest g.0 g.1)) (record {
                  short = short;
                  before = f.0;
                  gap = q.0;
                  text = rest;
                  spelled = spelled;
                  is_ended = subst (λ (x : List ℕ). IsEnded (replicate f.0 32 ++ x) line) whole (subst (λ (x : List ℕ). IsEnded x line) f.1 (trimmed_found line));
                });
              })
        ])
      ])
    ]

job_ends : (s : Section) (len u : ℕ) (rest : List ℕ) (c : Command) → job_by s u (take (word_end rest) rest) len rest (behind rest) ≡ Ends c → ⊥
job_ends s len u rest c e0 =
    let word = take (word_end rest) rest in
    elim (chosen (bytes_eq word (codes "TSTART")) (if is_open s u then Wrong (column len rest) else within (ended len (behind rest) (transaction_begun s u))) _ (Ends c) e0) [
      | inl h ↦ elim (chosen (is_open s u) (Wrong (column len rest)) (within (ended len (behind rest) (transaction_begun s u))) (Ends c) h.1) [
        | inl k ↦ cc k.1
        | inr k ↦ within_ends (ended len (behind rest) (transaction_begun s u)) c k.1
      ]
      | inr h ↦ (let e1 = h.1 in elim (chosen (bytes_eq word (codes "TCOMMIT")) (if is_open s u then within (ended len (behind rest) (transaction_ended s u)) else Wrong (column len rest)) _ (Ends c) e1) [
        | inl h ↦ elim (chosen (is_open s u) (within (ended len (behind rest) (transaction_ended s u))) (Wrong (column len rest)) (Ends c) h.1) [
          | inl k ↦ within_ends (ended len (behind rest) (transaction_ended s u)) c k.1
          | inr k ↦ cc k.1
        ]
        | inr h ↦ (let e2 = h.1 in elim (chosen (is_full s u word) (Wrong (column len rest)) (stated s u (column len rest) (statement_reading rest)) (Ends c) e2) [
          | inl h ↦ cc h.1
          | inr h ↦ stated_ends s u (column len rest) c (statement_reading rest) h.1
        ])
      ])
    ]

by_found : (s : Section) (line : List ℕ) (len : ℕ) (p : Position) → length line ≤ LONGEST_LINE → (r : Result (ℕ × List ℕ) ℕ) → taken (number_form 1 UPDATERS) len (left_of line) ≡ r → job_reading s len r ≡ Goes p → Goes_on s line p
by_found s line len p short (Ok q) same e =
    let n = number_taken 1 UPDATERS len (left_of line) q (omega arith) (left_tight line) (left_fronted line) same in
    let m = number_at 1 UPDATERS len (left_of line) q (omega arith) same in
    job_found s line len q.0 q.1 p short n.0 n.1 n.2 (sym m.0) m.1 e
by_found s line len p short (Err at) same e = absurd (cc)

by_ends : (s : Section) (len : ℕ) (c : Command) (r : Result (ℕ × List ℕ) ℕ) → job_reading s len r ≡ Ends c → ⊥
by_ends s len c (Ok q) e = job_ends s len q.0 q.1 c e
by_ends s len c (Err at) e = cc

pub section_goes : (s : Section) (line : List ℕ) (p : Position) → line_reading (Within s) line ≡ Goes p → (next : Section) × (p ≡ Within next) × Continues s line next
section_goes s line p e =
    let a = line_found (Within s) line (Goes p) (λ at w. cc) e in
    let len = length (trimmed line) in
    let left = left_of line in
    let b = text_found (Within s) len left (Goes p) (λ w. cc) a.1 in
    let g : Goes_on s line p = elim (chosen (bytes_eq (take (word_end left) left) (codes "END")) (end_reading s len (behind left)) (job_reading s len (taken (number_form 1 UPDATERS) len left)) (Goes p) b.1) [
      | inl h ↦ absurd (elim (chosen (list_any (λ b. b) s.opened) (Wrong 1) (ending (ended len (behind left) (Run s.name s.jobs s.order))) (Goes p) h.1) [
        | inl k ↦ cc k.1
        | inr k ↦ ending_goes (ended len (behind left) (Run s.name s.jobs s.order)) p k.1
      ])
      | inr h ↦ by_found s line len p a.0 (taken (number_form 1 UPDATERS) len left) refl h.1
    ] in
    (g.next, g.is, g.spelled)

pub section_ends : (s : Section) (line : List ℕ) (c : Command) → line_reading (Within s) line ≡ Ends c → (c ≡ Run s.name s.jobs s.order) × EndsSection s line
section_ends s line c e =
    let a = line_found (Within s) line (Ends c) (λ at w. cc) e in
    let len = length (trimmed line) in
    let left = left_of line in
    let b = text_found (Within s) len left (Ends c) (λ w. cc) a.1 in
    elim (chosen (bytes_eq (take (word_end left) left) (codes "END")) (end_reading s len (behind left)) (job_reading s len (taken (number_form 1 UPDATERS) len left)) (Ends c) b.1) [
      | inl h ↦ elim (chosen (list_any (λ b. b) s.opened) (Wrong 1) (ending (ended len (behind left) (Run s.name s.jobs s.order))) (Ends c) h.1) [
        | inl k ↦ absurd (cc k.1)
        | inr k ↦ (let z = ended_found len (behind left) (Run s.name s.jobs s.order) c (ending_found (ended len (behind left) (Run s.name s.jobs s.order)) c k.1) in
            let is : take (word_end left) left ≡ codes "END" = (bytes_eq-Decides (take (word_end left) left) (codes "END")).0 h.0 in
            let j = joined.joins left [] (left_tight line) (left_fronted line) b.0 (at_end (behind left) z.0) in
            (sym z.1, record { closed = k.0; line_is = line_of line (codes "END" ∷ []) a.0 (subst (λ (w : List ℕ). Joins (w ∷ []) left) is j) }))
      ]
      | inr h ↦ absurd (by_ends s len c (taken (number_form 1 UPDATERS) len left) h.1)
    ]

-- From what is spelled to a reading.

digits_end : (ds : List ℕ) → AllDigits 10 ds → (part_end 32 false ds ≡ length ds) × (stops_quoted false ds ≡ false)
digits_end [] h = (refl, refl)
digits_end (d ∷ ds) h =
    let b = digit_from_value d h.0 in
    let below = digits_end ds h.1 in
    (rw (ne_eqb d 32 (λ e. omega (arith, e, b)), ne_eqb d 34 (λ e. omega (arith, e, b))) (ap suc below.0), rw (ne_eqb d 34 (λ e. omega (arith, e, b))) below.1)

decimal_part : (u : ℕ) → u ≤ MOST_UPDATERS → IsPart (decimal u) × (stops_quoted false (decimal u) ≡ false)
decimal_part u high = let k = digits_known u (omega arith) in let d = digits_end (decimal u) k.0 in ((k.1, d.0), d.1)

head_of : (ds : List ℕ) → AllDigits 10 ds → 0 < length ds → (b : ℕ) × (bs : List ℕ) × (ds ≡ b ∷ bs) × (48 ≤ b) × (b ≤ 57)
head_of [] h some = absurd (omega arith)
head_of (d ∷ ds) h some = let b = digit_from_value d h.0 in (d, ds, refl, b.0, b.1)

decimal_head : (u : ℕ) → u ≤ MOST_UPDATERS → (b : ℕ) × (bs : List ℕ) × (decimal u ≡ b ∷ bs) × (48 ≤ b) × (b ≤ 57)
decimal_head u high = let k = digits_known u (omega arith) in head_of (decimal u) k.0 k.1

not_end : (u : ℕ) → u ≤ MOST_UPDATERS → bytes_eq (decimal u) (codes "END") ≡ false
not_end u high = elim (cases_Bool (bytes_eq (decimal u) (codes "END"))) [
  | inl h ↦ absurd (let e : decimal u ≡ codes "END" = (bytes_eq-Decides (decimal u) (codes "END")).0 h in let d = decimal_head u high in let f : d.0 ≡ 69 = cc (sym d.2 ∙ e) in omega (arith, f, d.4))
  | inr h ↦ h
]

-- a line with an updater's number in front
cuts_read : (len u : ℕ) (rest t : List ℕ) → 1 ≤ u → u ≤ UPDATERS → Cuts (decimal u) rest t → taken (number_form 1 UPDATERS) len t ≡ Ok (u, rest)
cuts_read len u rest t low high c =
    let some : (length t == 0) ≡ false = (let f = c.some in grind (arith, nat_tests)) in
    rw some (ap (λ (w : List ℕ). formed (column len t) (behind t) (number_form 1 UPDATERS w)) c.first ∙ (rw (number_read 1 UPDATERS u (omega arith) low high) (ap (λ (x : List ℕ). Ok (u, x)) c.behind)))

updater_read : (s : Section) (len u : ℕ) (rest t : List ℕ) → 1 ≤ u → u ≤ UPDATERS → Cuts (decimal u) rest t → section_reading s len t ≡ job_by s u (take (word_end rest) rest) len rest (behind rest)
updater_read s len u rest t low high c =
    let other : bytes_eq (take (word_end t) t) (codes "END") ≡ false = ap (λ (w : List ℕ). bytes_eq w (codes "END")) c.first ∙ not_end u high in
    rw other (ap (job_reading s len) (cuts_read len u rest t low high c))

words_cut : (u : ℕ) (word t : List ℕ) → Joins (decimal u ∷ word ∷ []) t → Cuts (decimal u) (behind t) t
words_cut u word t j = let b = joined.begins j in record { some = b.some; first = b.first; behind = refl }

-- a line of an updater's number and a word
two_read : (s : Section) (line : List ℕ) (u : ℕ) (word : List ℕ) (r : Reading) → 1 ≤ u → u ≤ UPDATERS → IsLineOf (decimal u ∷ word ∷ []) line
    → ((len : ℕ) (rest : List ℕ) → Joins [] (behind rest) → job_by s u word len rest (behind rest) ≡ r) → line_reading (Within s) line ≡ r
two_read s line u word r low high l each =
    let d = decimal_head u high in
    let l' : IsLineOf ((d.0 ∷ d.1) ∷ word ∷ []) line = subst (λ w. IsLineOf (w ∷ word ∷ []) line) d.2 l in
    let len = length (trimmed line) in
    let t = l'.text in
    let j : Joins (decimal u ∷ word ∷ []) t = subst (λ w. Joins (w ∷ word ∷ []) t) (sym d.2) l'.joined in
    let b = joined.begins j in
    let c = joined.begins b.behind in
    line_read (Within s) l' (λ e. omega (arith, e, d.4))
    ∙ (updater_read s len u (behind t) t low high (words_cut u word t j)
    ∙ (ap (λ (w : List ℕ). job_by s u w len (behind t) (behind (behind t))) c.first ∙ each len (behind t) c.behind))

begins_read : (s : Section) (line : List ℕ) (u : ℕ) → 1 ≤ u → u ≤ UPDATERS → is_open s u ≡ false → IsLineOf (decimal u ∷ codes "TSTART" ∷ []) line → line_reading (Within s) line ≡ Goes (Within (transaction_begun s u))
begins_read s line u low high closed l = two_read s line u (codes "TSTART") (Goes (Within (transaction_begun s u))) low high l
    (λ len rest j. rw closed (ap within (ended_read len (behind rest) (transaction_begun s u) j)))

commits_read : (s : Section) (line : List ℕ) (u : ℕ) → 1 ≤ u → u ≤ UPDATERS → is_open s u ≡ true → IsLineOf (decimal u ∷ codes "TCOMMIT" ∷ []) line → line_reading (Within s) line ≡ Goes (Within (transaction_ended s u))
commits_read s line u low high opens l = two_read s line u (codes "TCOMMIT") (Goes (Within (transaction_ended s u))) low high l
    (λ len rest j. rw opens (ap within (ended_read len (behind rest) (transaction_ended s u) j)))

operand_fronted : {word operand : List ℕ} {statement : Statement} → IsOperand word operand statement → (rest : List ℕ) → without_spaces (word ++ rest) ≡ word ++ rest
operand_fronted (set k v l) rest = refl
operand_fronted (kill k) rest = refl
operand_fronted (zkill k) rest = refl
operand_fronted (incr d m k n) rest = refl
operand_fronted (get k) rest = refl
operand_fronted (defined k) rest = refl
operand_fronted (order k) rest = refl
operand_fronted (check_is k v l) rest = refl
operand_fronted (check_at_least d k n) rest = refl

spelled_fronted : (text : List ℕ) (statement : Statement) → SpellsStatement text statement → IsFronted text
spelled_fronted text statement h = subst (λ (x : List ℕ). IsFronted x) (sym h.text_is) (operand_fronted h.operand_is (32 ∷ (replicate h.more 32 ++ h.operand)))

-- a statement's word is none of a transaction's
other_word : (text word : List ℕ) (statement : Statement) → statement_reading text ≡ Ok statement → ((len : ℕ) (left : List ℕ) → operand_reading word len left ≡ Ok statement → ⊥) → bytes_eq (take (word_end text) text) word ≡ false
other_word text word statement e never = elim (cases_Bool (bytes_eq (take (word_end text) text) word)) [
  | inl h ↦ absurd (let same : take (word_end text) text ≡ word = (bytes_eq-Decides (take (word_end text) text) word).0 h in
      never (length text) (behind text) (subst (λ (w : List ℕ). operand_reading w (length text) (behind text) ≡ Ok statement) same e))
  | inr h ↦ h
]

free_by : (a b c : Bool) → a ≡ false → (b ≡ true → c ≡ false) → (a || (b && c)) ≡ false
free_by true b c e f = cc
free_by false true c e f = f refl
free_by false false c e f = refl

pub roomy : (s : Section) (u : ℕ) (word : List ℕ) (statement : Statement) → HasRoom s u statement → is_update statement ≡ is_update_word word → is_full s u word ≡ false
roomy s u word statement h same = elim (cases_Bool (is_open s u)) [
  | inl opens ↦ (let job = last_job (jobs_of s u) in
      let few : nat_le MOST_STATEMENTS (length job) ≡ false = (let f = h.statements opens in grind (arith, nat_tests)) in
      rw opens (free_by (nat_le MOST_STATEMENTS (length job)) (is_update_word word) (nat_le MOST_UPDATES (count_by is_update job)) few
      (λ w. let f = h.updates opens (same ∙ w) in grind (arith, nat_tests))))
  | inr closed ↦ rw closed refl
]

states_read : (s : Section) (line : List ℕ) (u : ℕ) (statement : Statement) → 1 ≤ u → u ≤ UPDATERS → HasRoom s u statement → IsStatementLine u statement line → line_reading (Within s) line ≡ Goes (Within (with_statement s u statement))
states_read s line u statement low high h l =
    let d = decimal_head u high in
    let q = decimal_part u high in
    let text = l.text in
    let t = decimal u ++ 32 ∷ (replicate l.gap 32 ++ text) in
    let len = length (trimmed line) in
    let fronted = spelled_fronted text statement l.spelled in
    let c = cuts (decimal u) l.gap text q.0 q.1 fronted in
    let left : left_of line ≡ t = ap without_spaces (trimmed_only l.is_ended) ∙ spaces_gone l.before t (part_fronted (decimal u) (32 ∷ (replicate l.gap 32 ++ text)) q.0) in
    let short : nat_lt LONGEST_LINE (length line) ≡ false = (let f = l.short in grind (arith, nat_tests)) in
    let read = statement_read text statement l.spelled in
    let first = other_word text (codes "TSTART") statement read (λ n x e. cc) in
    let second = other_word text (codes "TCOMMIT") statement read (λ n x e. cc) in
    let third = roomy s u (take (word_end text) text) statement h (update_word text statement read) in
    rw short (ap (text_reading (Within s) len) left ∙ (text_read (Within s) len t d.0 d.1 (λ e. omega (arith, e, d.4)) (c.first ∙ d.2)
    ∙ (updater_read s len u text t low high c ∙ rw first (rw second (rw third (ap (stated s u (column len text)) read))))))

pub section_continues : (s : Section) (line : List ℕ) (next : Section) → Continues s line next → line_reading (Within s) line ≡ Goes (Within next)
section_continues s line _ (begins u low high closed l) = begins_read s line u low high closed l
section_continues s line _ (commits u low high opens l) = commits_read s line u low high opens l
section_continues s line _ (states u statement low high h l) = states_read s line u statement low high h l

pub section_ended : (s : Section) (line : List ℕ) → EndsSection s line → line_reading (Within s) line ≡ Ends (Run s.name s.jobs s.order)
section_ended s line h =
    let l = h.line_is in
    let len = length (trimmed line) in
    let b = joined.begins l.joined in
    let is : bytes_eq (take (word_end l.text) l.text) (codes "END") ≡ true = ap (λ (w : List ℕ). bytes_eq w (codes "END")) b.first ∙ refl in
    line_read (Within s) l (λ e. omega arith) ∙ rw is (rw h.closed (ap ending (ended_read len (behind l.text) (Run s.name s.jobs s.order) b.behind)))
