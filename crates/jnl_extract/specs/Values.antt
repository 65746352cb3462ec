-- What lines and stages of the code stand for, and what an answer tells.
use Rattle.std.specs.Prelude.{◌≡◌, ℕ, List}
use Rattle.std.specs.List.{enumerate_from}
use Rattle.std.specs.declared.result.Result.{Result}
use Rattle.std.specs.declared.result.Result.TheVariants.{Ok, Err}
use Rattle.global_defs.specs.Entry.{Sequence}
use Rattle.jnl_extract.specs.Extracts.{IsBadLine}
use Rattle.jnl_extract.specs.declared.reading.Extract.{Extract}
use Rattle.jnl_extract.specs.declared.reading.ExtractError.{ExtractError}
use Rattle.jnl_extract.specs.declared.reading.ExtractError.TheVariants as errors
use Rattle.std.specs.Option.{option_map}
use Rattle.gvn_key.specs.Terms.{update_value}
use Rattle.gvn_model.specs.Reigns.{stamp_value}
use Rattle.gvn_model.specs.Entries.{origin_value}
use Rattle.gvn_model.specs.Numbered.{numbered}
use Rattle.jnl_extract.specs.Lines as lines
use Rattle.jnl_extract.specs.declared.fields.Head.{Head}
use Rattle.jnl_extract.specs.declared.lines.Line.{Line}
use Rattle.jnl_extract.specs.declared.lines.Line.TheVariants as variants
use Rattle.jnl_extract.specs.declared.stage.Stage.{Stage}

abbrev pub head_value : Head → lines.Head
head_value h = record { number = h.number; stamp = stamp_value h.stamp; origin = origin_value h.origin }

abbrev pub line_value : Line → lines.Line
line_value (variants.Opens h) = lines.Opens (head_value h)
line_value (variants.Holds h u) = lines.Holds (head_value h) (update_value u)
line_value (variants.Closes h) = lines.Closes (head_value h)

abbrev pub stage_value : Stage → lines.Stage
stage_value s = record { next = s.next; entries = s.entries; pending = option_map numbered s.pending }

-- the text's first bad line, unless memory ran out
abbrev pub TellsBadLine : List ℕ → ExtractError → Type 0
TellsBadLine text (errors.BadLine offset) = IsBadLine text offset
TellsBadLine text errors.NoMemory = Unit {0}

-- what was read is this extract, unless memory ran out
abbrev pub Gives : List ℕ → ℕ → Sequence → Result Extract ExtractError → Type 0
Gives site from entries (Ok x) = (x.site ≡ site) × (x.from ≡ from) × (x.entries ≡ enumerate_from from entries)
Gives site from entries (Err e) = e ≡ errors.NoMemory

-- the answer tells that the bad line is here, unless memory ran out
abbrev pub TellsAt : ℕ → Result Extract ExtractError → Type 0
TellsAt at (Ok x) = ⊥
TellsAt at (Err (errors.BadLine offset)) = offset ≡ at
TellsAt at (Err errors.NoMemory) = Unit {0}
