-- Extracts of their form, and the first line that no extract goes on with.
use Rattle.std.specs.Prelude.{◌≡◌, ◌≤◌, ◌^◌, ◌+◌, ◌==◌, ℕ, Bool, false, List, [], ◌∷◌, ◌++◌, length}
use Rattle.std.specs.List.{AllByRecursion, enumerate_from, flat_map, list_any}
use Rattle.global_defs.specs.declared.limits.TheConstants.{NUMBERS_END}
use Rattle.global_defs.specs.Entry.{Update, Entry, Sequence}
use Rattle.global_defs.specs.Extract.{header, entries_text}
use Rattle.global_defs.specs.Fields.{IsSiteName, IsStamp, IsTransaction}
use Rattle.script_defs.specs.Statements.{statement_text, SpellsStatement}
use Rattle.jnl_extract.specs.Updates.{statement_of}

-- an update that its canonical text makes: of a key that there is, with a value of at most 1,500 bytes
abbrev pub IsSpelled : Update → Type 0
IsSpelled u = SpellsStatement (statement_text (statement_of u)) (statement_of u)

-- an entry of its form
pub record IsEntry (e : Entry) : Type 0 where
  pub stamp : IsStamp e.stamp
  pub transaction : IsTransaction e.transaction
  pub each : AllByRecursion IsSpelled e.transaction.updates

-- what an extract is of: a site's name, the number that it begins with, and the entries from that number on, each with a number below 2 ^ 40
pub record IsExtract (site : List ℕ) (from : ℕ) (entries : Sequence) : Type 0 where
  pub name : IsSiteName site
  pub first : 1 ≤ from
  pub last : from + length entries ≤ NUMBERS_END
  pub each : AllByRecursion IsEntry entries

abbrev pub extract_text : List ℕ → ℕ → Sequence → List ℕ
extract_text site from entries = header site from ++ entries_text from entries

-- the text is the extract of these entries, which have their numbers
pub record IsExtractOf (text site : List ℕ) (from : ℕ) (entries : List (ℕ × Entry)) : Type 0 where
  pub sequence : Sequence
  pub numbered : entries ≡ enumerate_from from sequence
  pub form : IsExtract site from sequence
  pub text_is : text ≡ extract_text site from sequence

-- the text of some extract begins with these bytes
pub record IsFront (bytes : List ℕ) : Type 0 where
  pub site : List ℕ
  pub from : ℕ
  pub entries : Sequence
  pub rest : List ℕ
  pub form : IsExtract site from entries
  pub begins : extract_text site from entries ≡ bytes ++ rest

abbrev pub is_feed : ℕ → Bool
is_feed b = b == 10

-- whole lines: each ends in a line feed
abbrev pub ended : List (List ℕ) → List ℕ
ended lines = flat_map (λ line. line ++ 10 ∷ []) lines

-- The lines before the offset are a front of some extract's text, and with the line at the offset they are of none. The text itself is no extract:
-- so where no whole line stands at the offset, a line without a line feed stands there, or one is missing.
pub record IsBadLine (text : List ℕ) (offset : ℕ) : Type 0 where
  pub lines : List (List ℕ)
  pub rest : List ℕ
  pub text_is : text ≡ ended lines ++ rest
  pub place : offset ≡ length (ended lines)
  pub front : IsFront (ended lines)
  pub outside : (line more : List ℕ) → list_any is_feed line ≡ false → rest ≡ line ++ 10 ∷ more → IsFront (ended lines ++ (line ++ 10 ∷ [])) → ⊥
  pub unfinished : (site : List ℕ) (from : ℕ) (entries : Sequence) → IsExtract site from entries → text ≡ extract_text site from entries → ⊥
