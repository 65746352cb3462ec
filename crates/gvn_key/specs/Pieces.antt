-- The ZWR form byte by byte: what stands between the open piece and the next byte.
use Rattle.std.specs.Prelude.{ℕ, List, [], ◌∷◌, ◌++◌, if◌then◌else◌}
use Rattle.std.specs.Fmt.{decimal}
use Rattle.global_defs.specs.Zwr.{is_plain, quoted_byte}
use Rattle.gvn_key.specs.declared.zwr.Open.{Open}
use Rattle.gvn_key.specs.declared.zwr.Open.TheVariants.{Nothing, Quotes, Codes}

-- the piece that is open behind a byte
abbrev pub opened : ℕ → Open
opened b = if is_plain b then Quotes else Codes

-- the text of a plain byte, with what comes before it
abbrev pub plain_text : Open → ℕ → List ℕ
plain_text Nothing b = 34 ∷ quoted_byte b
plain_text Quotes b = quoted_byte b
plain_text Codes b = 41 ∷ 95 ∷ 34 ∷ quoted_byte b

-- the same of another byte
abbrev pub code_text : Open → ℕ → List ℕ
code_text Nothing b = 36 ∷ 67 ∷ 40 ∷ decimal b
code_text Quotes b = 34 ∷ 95 ∷ 36 ∷ 67 ∷ 40 ∷ decimal b
code_text Codes b = 44 ∷ decimal b

abbrev pub byte_text : Open → ℕ → List ℕ
byte_text piece b = if is_plain b then plain_text piece b else code_text piece b

-- the end of a piece
abbrev pub closing : Open → List ℕ
closing Nothing = []
closing Quotes = 34 ∷ []
closing Codes = 41 ∷ []

-- what is still to be written where a piece is open
abbrev pub remaining_text : Open → List ℕ → List ℕ
remaining_text piece [] = closing piece
remaining_text piece (b ∷ bs) = byte_text piece b ++ remaining_text (opened b) bs
