-- The types of frames.
use Rattle.std.specs.Prelude.{ℕ}
use Rattle.global_defs.specs.declared.limits.TheConstants.{LONGEST_BODY}
use Rattle.repl_wire.specs.declared.field.Kind.{Kind}
use Rattle.repl_wire.specs.declared.field.Kind.TheVariants.{Hello, Resume, RollbackFirst, History, Entry, Bye}

abbrev pub type_of : Kind → ℕ
type_of Hello = 1
type_of Resume = 2
type_of RollbackFirst = 3
type_of History = 4
type_of Entry = 5
type_of Bye = 6

-- in how few bytes, and in how many, a body of that type can be
abbrev pub least_body : Kind → ℕ
least_body Hello = 15
least_body Resume = 8
least_body RollbackFirst = 8
least_body History = 14
least_body Entry = 19
least_body Bye = 8

abbrev pub most_body : Kind → ℕ
most_body Hello = LONGEST_BODY
most_body Resume = 8
most_body RollbackFirst = 8
most_body History = 28
most_body Entry = 450319
most_body Bye = 8
