-- A line is ignored exactly where it's blank or a comment, wherever it stands.
use Rattle.std.proofs.Common.{◌≡◌, ◌⊎◌, ℕ, ◌≤◌, ◌==◌, false, List, [], ◌∷◌, ◌++◌, length, take, replicate, codes, nat_lt, refl, ap, ◌∙◌, subst, inl, inr, arith}
use Rattle.std.specs.Prelude.{if◌then◌else◌}
use Rattle.std.specs.Str.{bytes_eq}
use Rattle.std.specs.List.{list_any}
use Rattle.std.specs.declared.result.Result.{Result}
use Rattle.std.specs.declared.result.Result.TheVariants.{Ok, Err}
use Rattle.std.proofs.lemmas.Bool.{eqb-true}
use Rattle.std.proofs.lemmas.Bool.Decides.{nat_tests}
use Rattle.global_defs.specs.declared.limits.TheConstants.{LONGEST_LINE}
use Rattle.global_defs.specs.Jobs.{Statement}
use Rattle.script_defs.specs.Parts.{Fault, word_end, without_spaces}
use Rattle.script_defs.specs.Statements.{statement_reading}
use Rattle.command_defs.specs.Commands.{Name, Command, Run, command_by, run_reading}
use Rattle.command_defs.specs.Parts.{column, taken, ended, number_form, trimmed}
use Rattle.command_defs.specs.Sections.{Section, is_open, is_full, transaction_begun, transaction_ended}
use Rattle.command_defs.specs.Updaters.{UPDATERS}
use Rattle.command_defs.specs.Script.{Position, Outside, Within, Skips, Wrong, ending, within, beginning, end_reading, stated, job_by, job_reading, reading_at, text_reading, line_reading}
use Rattle.command_defs.specs.Spelling.{IsEnded, IsIgnored, empty, comment}
use Rattle.command_defs.proofs.LineEnds.{trimmed_found, trimmed_only, trimmed_tight}
use Rattle.command_defs.proofs.Joined.{tight_none, front_spaces, spaces_gone}
use Rattle.command_defs.proofs.LineLaws.{left_of, line_found}
use Rattle.command_defs.proofs.Taken.{behind}
use Rattle.gvn_key.proofs.KeyTextFound.{chosen}

ending_skips : (r : Result Command ℕ) → ending r ≡ Skips → ⊥
ending_skips (Ok c) e = cc
ending_skips (Err at) e = cc

beginning_skips : (r : Result Name ℕ) → beginning r ≡ Skips → ⊥
beginning_skips (Ok site) e = cc
beginning_skips (Err at) e = cc

within_skips : (r : Result Section ℕ) → within r ≡ Skips → ⊥
within_skips (Ok s) e = cc
within_skips (Err at) e = cc

stated_skips : (s : Section) (u at : ℕ) (r : Result Statement Fault) → stated s u at r ≡ Skips → ⊥
stated_skips s u at (Ok statement) e = cc
stated_skips s u at (Err fault) e = cc

job_skips : (s : Section) (len u : ℕ) (rest : List ℕ) → job_by s u (take (word_end rest) rest) len rest (behind rest) ≡ Skips → ⊥
job_skips s len u rest e0 =
    let word = take (word_end rest) rest in
    elim (chosen (bytes_eq word (codes "TSTART")) (if is_open s u then Wrong (column len rest) else within (ended len (behind rest) (transaction_begun s u))) _ Skips e0) [
      | inl h ↦ elim (chosen (is_open s u) (Wrong (column len rest)) (within (ended len (behind rest) (transaction_begun s u))) Skips h.1) [
        | inl k ↦ cc k.1
        | inr k ↦ within_skips (ended len (behind rest) (transaction_begun s u)) k.1
      ]
      | inr h ↦ (let e1 = h.1 in elim (chosen (bytes_eq word (codes "TCOMMIT")) (if is_open s u then within (ended len (behind rest) (transaction_ended s u)) else Wrong (column len rest)) _ Skips e1) [
        | inl h ↦ elim (chosen (is_open s u) (within (ended len (behind rest) (transaction_ended s u))) (Wrong (column len rest)) Skips h.1) [
          | inl k ↦ within_skips (ended len (behind rest) (transaction_ended s u)) k.1
          | inr k ↦ cc k.1
        ]
        | inr h ↦ (let e2 = h.1 in elim (chosen (is_full s u word) (Wrong (column len rest)) (stated s u (column len rest) (statement_reading rest)) Skips e2) [
          | inl h ↦ cc h.1
          | inr h ↦ stated_skips s u (column len rest) (statement_reading rest) h.1
        ])
      ])
    ]

by_skips : (s : Section) (len : ℕ) (r : Result (ℕ × List ℕ) ℕ) → job_reading s len r ≡ Skips → ⊥
by_skips s len (Ok q) e = job_skips s len q.0 q.1 e
by_skips s len (Err at) e = cc

none_skips : (p : Position) (len : ℕ) (left : List ℕ) → reading_at p len left ≡ Skips → ⊥
none_skips Outside len left e =
    let word = take (word_end left) left in
    elim (chosen (bytes_eq word (codes "RUN")) (beginning (run_reading len (behind left))) (ending (command_by word len left (behind left))) Skips e) [
      | inl h ↦ beginning_skips (run_reading len (behind left)) h.1
      | inr h ↦ ending_skips (command_by word len left (behind left)) h.1
    ]
none_skips (Within s) len left e = elim (chosen (bytes_eq (take (word_end left) left) (codes "END")) (end_reading s len (behind left)) (job_reading s len (taken (number_form 1 UPDATERS) len left)) Skips e) [
  | inl h ↦ elim (chosen (list_any (λ b. b) s.opened) (Wrong 1) (ending (ended len (behind left) (Run s.name s.jobs s.order))) Skips h.1) [
    | inl k ↦ cc k.1
    | inr k ↦ ending_skips (ended len (behind left) (Run s.name s.jobs s.order)) k.1
  ]
  | inr h ↦ by_skips s len (taken (number_form 1 UPDATERS) len left) h.1
]

skipped : (p : Position) (len : ℕ) (left : List ℕ) → text_reading p len left ≡ Skips → (left ≡ []) ⊎ ((bs : List ℕ) × (left ≡ 59 ∷ bs))
skipped p len [] e = inl refl
skipped p len (b ∷ bs) e = elim (chosen (b == 59) Skips (reading_at p len (b ∷ bs)) Skips e) [
  | inl h ↦ inr (bs, ap (λ (x : ℕ). x ∷ bs) (eqb-true b 59 h.0))
  | inr h ↦ absurd (none_skips p len (b ∷ bs) h.1)
]

pub ignored_found : (p : Position) (line : List ℕ) → line_reading p line ≡ Skips → IsIgnored line
ignored_found p line e =
    let a = line_found p line Skips (λ at w. cc) e in
    elim (skipped p (length (trimmed line)) (left_of line) a.1) [
      | inl none ↦ empty a.0 (subst (λ (t : List ℕ). IsEnded t line) (tight_none (trimmed line) (trimmed_tight line) none) (trimmed_found line))
      | inr r ↦ (let f = front_spaces (trimmed line) in
          comment f.0 r.0 a.0 (subst (λ (t : List ℕ). IsEnded t line) (f.1 ∙ ap (λ (x : List ℕ). replicate f.0 32 ++ x) r.1) (trimmed_found line)))
    ]

short_so : (line : List ℕ) → length line ≤ LONGEST_LINE → nat_lt LONGEST_LINE (length line) ≡ false
short_so line h = grind (arith, nat_tests)

pub ignored_read : (p : Position) {line : List ℕ} → IsIgnored line → line_reading p line ≡ Skips
ignored_read p (empty {line} short e) = rw (short_so line short) (ap (text_reading p (length (trimmed line))) (ap without_spaces (trimmed_only e)))
ignored_read p (comment {line} n rest short e) = rw (short_so line short) (ap (text_reading p (length (trimmed line))) (ap without_spaces (trimmed_only e) ∙ spaces_gone n (59 ∷ rest) refl))
