-- What a line spells: the grammar of lines in its own words, beside their reading.
use Rattle.std.specs.Prelude.{◌≡◌, ◌≢◌, ◌<◌, ◌≤◌, ℕ, ◌==◌, not, Bool, true, false, List, [], ◌∷◌, ◌++◌, length, replicate, count_by, codes, if◌then◌else◌}
use Rattle.std.specs.List.{list_any}
use Rattle.std.specs.Fmt.{decimal}
use Rattle.global_defs.specs.declared.limits.TheConstants.{LONGEST_LINE, MOST_STATEMENTS, MOST_UPDATES}
use Rattle.global_defs.specs.Jobs.{Statement}
use Rattle.script_defs.specs.Parts.{word_end}
use Rattle.script_defs.specs.Statements.{SpellsStatement}
use Rattle.command_defs.specs.Commands.{Name, Command, IsOrder}
use Rattle.command_defs.specs.Parts.{is_name}
use Rattle.command_defs.specs.Sections.{Section, is_open, jobs_of, last_job, transaction_begun, transaction_ended, with_statement}
use Rattle.command_defs.specs.Updaters.{UPDATERS, is_update}

-- A line, and its text without what is ignored at its end: spaces, at most one carriage return, and again spaces.
pub data IsEnded : (text line : List ℕ) → Type 0 where
  blank : (n : ℕ) → IsEnded [] (replicate n 32)
  blank_return : (n m : ℕ) → IsEnded [] (replicate n 32 ++ 13 ∷ replicate m 32)
  spaces : (front : List ℕ) (b n : ℕ) → b ≢ 32 → b ≢ 13 → IsEnded (front ++ b ∷ []) (front ++ b ∷ replicate n 32)
  carriage : (front : List ℕ) (b n m : ℕ) → b ≢ 32 → IsEnded (front ++ b ∷ []) (front ++ b ∷ (replicate n 32 ++ 13 ∷ replicate m 32))

-- whether a text stops within quotes
abbrev pub stops_quoted : Bool → List ℕ → Bool
stops_quoted quoted [] = quoted
stops_quoted quoted (b ∷ bs) = stops_quoted (if b == 34 then not quoted else quoted) bs

-- a part: one byte or more, and no space outside quotes
abbrev pub IsPart : List ℕ → Type 0
IsPart part = (0 < length part) × (word_end part ≡ length part)

-- Parts with one or more spaces between them.
pub data Joins : (parts : List (List ℕ)) (text : List ℕ) → Type 0 where
  nothing : Joins [] []
  last : {part : List ℕ} → IsPart part → Joins (part ∷ []) part
  more : {part next text : List ℕ} {parts : List (List ℕ)} (n : ℕ) → IsPart part → stops_quoted false part ≡ false → Joins (next ∷ parts) text → Joins (part ∷ next ∷ parts) (part ++ 32 ∷ (replicate n 32 ++ text))

-- A line of these parts, with any spaces before them and what is ignored behind them.
pub record IsLineOf (parts : List (List ℕ)) (line : List ℕ) : Type 0 where
  pub short : length line ≤ LONGEST_LINE
  pub before : ℕ
  pub text : List ℕ
  pub joined : Joins parts text
  pub is_ended : IsEnded (replicate before 32 ++ text) line

-- a line that is this command
pub record SpellsCommand (line : List ℕ) (command : Command) : Type 0 where
  pub parts : List (List ℕ)
  pub order : IsOrder parts command
  pub line_is : IsLineOf parts line

-- a line that begins a section of this site
pub record BeginsSection (line : List ℕ) (site : Name) : Type 0 where
  pub is_site : is_name site ≡ true
  pub line_is : IsLineOf (codes "RUN" ∷ site ∷ []) line

-- a line without a part, or a comment, which begins with a semicolon
pub data IsIgnored : (line : List ℕ) → Type 0 where
  empty : {line : List ℕ} → length line ≤ LONGEST_LINE → IsEnded [] line → IsIgnored line
  comment : {line : List ℕ} (n : ℕ) (rest : List ℕ) → length line ≤ LONGEST_LINE → IsEnded (replicate n 32 ++ 59 ∷ rest) line → IsIgnored line

-- A statement's text behind an updater's number, with one or more spaces between them.
pub record IsStatementLine (updater : ℕ) (statement : Statement) (line : List ℕ) : Type 0 where
  pub short : length line ≤ LONGEST_LINE
  pub before : ℕ
  pub gap : ℕ
  pub text : List ℕ
  pub spelled : SpellsStatement text statement
  pub is_ended : IsEnded (replicate before 32 ++ (decimal updater ++ 32 ∷ (replicate gap 32 ++ text))) line

-- the updater's open transaction, if it has one, takes this statement
pub record HasRoom (s : Section) (updater : ℕ) (statement : Statement) : Type 0 where
  pub statements : is_open s updater ≡ true → length (last_job (jobs_of s updater)) < MOST_STATEMENTS
  pub updates : is_open s updater ≡ true → is_update statement ≡ true → count_by is_update (last_job (jobs_of s updater)) < MOST_UPDATES

-- A line with which a section goes on: an updater's TSTART, TCOMMIT or statement.
pub data Continues : (s : Section) (line : List ℕ) (next : Section) → Type 0 where
  begins : {s : Section} {line : List ℕ} (updater : ℕ) → 1 ≤ updater → updater ≤ UPDATERS → is_open s updater ≡ false → IsLineOf (decimal updater ∷ codes "TSTART" ∷ []) line → Continues s line (transaction_begun s updater)
  commits : {s : Section} {line : List ℕ} (updater : ℕ) → 1 ≤ updater → updater ≤ UPDATERS → is_open s updater ≡ true → IsLineOf (decimal updater ∷ codes "TCOMMIT" ∷ []) line → Continues s line (transaction_ended s updater)
  states : {s : Section} {line : List ℕ} (updater : ℕ) (statement : Statement) → 1 ≤ updater → updater ≤ UPDATERS → HasRoom s updater statement → IsStatementLine updater statement line → Continues s line (with_statement s updater statement)

-- END, where no transaction is open
pub record EndsSection (s : Section) (line : List ℕ) : Type 0 where
  pub closed : list_any (λ b. b) s.opened ≡ false
  pub line_is : IsLineOf (codes "END" ∷ []) line
