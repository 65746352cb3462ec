-- A line between commands is read as what it spells.
use Rattle.std.proofs.Common.{◌≡◌, ◌≢◌, ℕ, zero, suc, ◌+◌, ◌<◌, ◌≤◌, ◌==◌, true, false, List, [], ◌∷◌, length, take, drop, codes, nat_lt, refl, sym, ap, ◌∙◌, subst, inl, inr, arith}
use Rattle.std.specs.Str.{bytes_eq}
use Rattle.std.specs.declared.result.Result.{Result}
use Rattle.std.specs.declared.result.Result.TheVariants.{Ok, Err}
use Rattle.std.proofs.lemmas.Slice.Eq.{bytes_eq-Decides}
use Rattle.std.proofs.lemmas.Bool.{ne_eqb}
use Rattle.std.proofs.lemmas.Bool.Decides.{nat_tests}
use Rattle.global_defs.specs.declared.limits.TheConstants.{LONGEST_LINE}
use Rattle.script_defs.specs.Parts.{word_end, without_spaces}
use Rattle.command_defs.specs.Commands.{Name, Command, command_by, run_reading}
use Rattle.command_defs.specs.Parts.{trimmed}
use Rattle.command_defs.specs.Sections.{begun}
use Rattle.command_defs.specs.Script.{Position, Outside, Within, Reading, Skips, Wrong, Goes, Ends, ending, beginning, reading_at, text_reading, line_reading}
use Rattle.command_defs.specs.Spelling.{IsEnded, Joins, IsLineOf, SpellsCommand, BeginsSection}
use Rattle.command_defs.proofs.LineEnds.{trimmed_found, trimmed_only, trimmed_tight}
use Rattle.command_defs.proofs.Joined.{IsTight, IsFronted, tight_drop, tight_without, fronted_without, front_spaces, spaces_gone, joins, joins_fronted, begins}
use Rattle.command_defs.proofs.Taken.{behind}
use Rattle.command_defs.proofs.Orders.{command_found, run_found, run_read, order_told}
use Rattle.gvn_key.proofs.KeyTextFound.{chosen}

-- what is left of a line behind the spaces at its front
abbrev pub left_of : List ℕ → List ℕ
left_of line = without_spaces (trimmed line)

pub left_tight : (line : List ℕ) → IsTight (left_of line)
left_tight line = tight_without (trimmed line) (trimmed_tight line)

pub left_fronted : (line : List ℕ) → IsFronted (left_of line)
left_fronted line = fronted_without (trimmed line)

pub behind_tight : (left : List ℕ) → IsTight left → IsTight (behind left)
behind_tight left h = tight_without (drop (word_end left) left) (tight_drop (word_end left) left h)

pub behind_fronted : (left : List ℕ) → IsFronted (behind left)
behind_fronted left = fronted_without (drop (word_end left) left)

short_is : (line : List ℕ) → nat_lt LONGEST_LINE (length line) ≡ false → length line ≤ LONGEST_LINE
short_is line h = grind (arith, nat_tests)

-- a line that isn't bad as a whole
pub line_found : (p : Position) (line : List ℕ) (r : Reading) → ((at : ℕ) → Wrong at ≡ r → ⊥) → line_reading p line ≡ r
    → (length line ≤ LONGEST_LINE) × (text_reading p (length (trimmed line)) (left_of line) ≡ r)
line_found p line r never e = elim (chosen (nat_lt LONGEST_LINE (length line)) (Wrong (LONGEST_LINE + 1)) (text_reading p (length (trimmed line)) (left_of line)) r e) [
  | inl h ↦ absurd (never (LONGEST_LINE + 1) h.1)
  | inr h ↦ (short_is line h.0, h.1)
]

-- one that isn't ignored
pub text_found : (p : Position) (len : ℕ) (left : List ℕ) (r : Reading) → (Skips ≡ r → ⊥) → text_reading p len left ≡ r → (0 < length left) × (reading_at p len left ≡ r)
text_found p len [] r never e = absurd (never e)
text_found p len (b ∷ bs) r never e = elim (chosen (b == 59) Skips (reading_at p len (b ∷ bs)) r e) [
  | inl h ↦ absurd (never h.1)
  | inr h ↦ (omega arith, h.1)
]

pub ending_found : (r : Result Command ℕ) (c : Command) → ending r ≡ Ends c → r ≡ Ok c
ending_found (Ok d) c e = cc
ending_found (Err at) c e = cc

beginning_ends : (r : Result Name ℕ) (c : Command) → beginning r ≡ Ends c → ⊥
beginning_ends (Ok d) c e = cc
beginning_ends (Err at) c e = cc

pub ending_goes : (r : Result Command ℕ) (p : Position) → ending r ≡ Goes p → ⊥
ending_goes (Ok d) p e = cc
ending_goes (Err at) p e = cc

beginning_goes : (r : Result Name ℕ) (p : Position) → beginning r ≡ Goes p → (site : Name) × (r ≡ Ok site) × (p ≡ Within (begun site))
beginning_goes (Ok site) p e = (site, refl, cc)
beginning_goes (Err at) p e = cc

-- a line of parts, from what is left of it
pub line_of : (line : List ℕ) (parts : List (List ℕ)) → length line ≤ LONGEST_LINE → Joins parts (left_of line) → IsLineOf parts line
line_of line parts short j = let f = front_spaces (trimmed line) in record {
  short = short;
  before = f.0;
  text = left_of line;
  joined = j;
  is_ended = subst (λ (t : List ℕ). IsEnded t line) f.1 (trimmed_found line);
}

pub command_spelled : (line : List ℕ) (c : Command) → line_reading Outside line ≡ Ends c → SpellsCommand line c
command_spelled line c e =
    let a = line_found Outside line (Ends c) (λ at w. cc) e in
    let b = text_found Outside (length (trimmed line)) (left_of line) (Ends c) (λ w. cc) a.1 in
    let left = left_of line in
    let len = length (trimmed line) in
    let word = take (word_end left) left in
    elim (chosen (bytes_eq word (codes "RUN")) (beginning (run_reading len (behind left))) (ending (command_by word len left (behind left))) (Ends c) b.1) [
      | inl h ↦ absurd (beginning_ends (run_reading len (behind left)) c h.1)
      | inr h ↦ (let m = command_found word len left (behind left) c (behind_tight left (left_tight line)) (behind_fronted left) (ending_found (command_by word len left (behind left)) c h.1) in
          record { parts = word ∷ m.0; order = m.1; line_is = line_of line (word ∷ m.0) a.0 (joins left m.0 (left_tight line) (left_fronted line) b.0 m.2) })
    ]

pub section_spelled : (line : List ℕ) (p : Position) → line_reading Outside line ≡ Goes p → (site : Name) × (p ≡ Within (begun site)) × BeginsSection line site
section_spelled line p e =
    let a = line_found Outside line (Goes p) (λ at w. cc) e in
    let b = text_found Outside (length (trimmed line)) (left_of line) (Goes p) (λ w. cc) a.1 in
    let left = left_of line in
    let len = length (trimmed line) in
    let word = take (word_end left) left in
    elim (chosen (bytes_eq word (codes "RUN")) (beginning (run_reading len (behind left))) (ending (command_by word len left (behind left))) (Goes p) b.1) [
      | inl h ↦ (let g = beginning_goes (run_reading len (behind left)) p h.1 in
          let r = run_found len (behind left) g.0 (behind_tight left (left_tight line)) (behind_fronted left) g.1 in
          let j = joins left (g.0 ∷ []) (left_tight line) (left_fronted line) b.0 r.1 in
          let run : word ≡ codes "RUN" = (bytes_eq-Decides word (codes "RUN")).0 h.0 in
          (g.0, g.2, record { is_site = r.0; line_is = line_of line (codes "RUN" ∷ g.0 ∷ []) a.0 (subst (λ (w : List ℕ). Joins (w ∷ g.0 ∷ []) left) run j) }))
      | inr h ↦ absurd (ending_goes (command_by word len left (behind left)) p h.1)
    ]

-- From parts to a reading.

-- what is left of a line of parts
pub left_is : {parts : List (List ℕ)} {line : List ℕ} (l : IsLineOf parts line) → left_of line ≡ l.text
left_is {parts} {line} l = ap without_spaces (trimmed_only l.is_ended) ∙ spaces_gone l.before l.text (joins_fronted l.joined)

head_is : (n : ℕ) (c : ℕ) (cs : List ℕ) (b : ℕ) (bs : List ℕ) → take n (c ∷ cs) ≡ b ∷ bs → c ≡ b
head_is zero c cs b bs e = cc
head_is (suc n) c cs b bs e = cc

-- a text whose first part begins with no semicolon is read
pub text_read : (p : Position) (len : ℕ) (t : List ℕ) (b : ℕ) (bs : List ℕ) → b ≢ 59 → take (word_end t) t ≡ b ∷ bs → text_reading p len t ≡ reading_at p len t
text_read p len [] b bs ne e = cc
text_read p len (c ∷ cs) b bs ne e = let same = head_is (word_end (c ∷ cs)) c cs b bs e in rw (ne_eqb c 59 (λ f. ne (sym same ∙ f))) refl

pub line_read : (p : Position) {b : ℕ} {bs : List ℕ} {parts : List (List ℕ)} {line : List ℕ} (l : IsLineOf ((b ∷ bs) ∷ parts) line) → b ≢ 59 → line_reading p line ≡ reading_at p (length (trimmed line)) l.text
line_read p {b} {bs} {parts} {line} l ne =
    let short : nat_lt LONGEST_LINE (length line) ≡ false = (let s = l.short in grind (arith, nat_tests)) in
    rw short (ap (text_reading p (length (trimmed line))) (left_is l) ∙ text_read p (length (trimmed line)) l.text b bs ne (begins l.joined).first)

pub command_read : (line : List ℕ) (c : Command) → SpellsCommand line c → line_reading Outside line ≡ Ends c
command_read line c s =
    let t = order_told s.order in
    let h = t.head in
    let l : IsLineOf ((h.b ∷ h.bs) ∷ h.rest) line = subst (λ x. IsLineOf x line) h.is s.line_is in
    let joined : Joins s.parts l.text = subst (λ x. Joins x l.text) (sym h.is) l.joined in
    let len = length (trimmed line) in
    let not_run : bytes_eq (take (word_end l.text) l.text) (codes "RUN") ≡ false = ap (λ (w : List ℕ). bytes_eq w (codes "RUN")) (begins l.joined).first ∙ h.not_run in
    line_read Outside l h.other ∙ rw not_run (ap ending (t.read len l.text joined))

pub section_read : (line : List ℕ) (site : Name) → BeginsSection line site → line_reading Outside line ≡ Goes (Within (begun site))
section_read line site s =
    let l = s.line_is in
    let len = length (trimmed line) in
    let run : bytes_eq (take (word_end l.text) l.text) (codes "RUN") ≡ true = ap (λ (w : List ℕ). bytes_eq w (codes "RUN")) (begins l.joined).first ∙ refl in
    line_read Outside l (λ e. omega arith) ∙ rw run (ap beginning (run_read len (behind l.text) site s.is_site (begins l.joined).behind))
