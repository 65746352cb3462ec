-- What a record says, but for the values and the image in it.
use Rattle.std.specs.Prelude.{ℕ, ◌+◌, ◌==◌, ◌&&◌, Bool, true, List, [], ◌∷◌, length}
use Rattle.journal_defs.specs.Journal as journal
use Rattle.journal_defs.specs.Journal.{JournalRecord, Item}
use Rattle.entry_index.specs.declared.sign.Span.{Span}
use Rattle.entry_index.specs.declared.sign.Sign.{Sign}
use Rattle.entry_index.specs.declared.sign.Sign.TheVariants.{Pini, Epoch, Pblk, Tcom}

-- the position of the first item, or 0
abbrev pub first_of : List Item → ℕ
first_of [] = 0
first_of (i ∷ items) = i.position

-- the items have the positions from this one on, in order
abbrev pub is_row : ℕ → List Item → Bool
is_row p [] = true
is_row p (i ∷ items) = i.position == p && is_row (p + 1) items

abbrev pub span_of : List Item → Span
span_of items = record { first = first_of items; many = length items; in_a_row = is_row (first_of items) items }

abbrev pub sign_of : JournalRecord → Sign
sign_of (journal.Pini s) = Pini s.region s.before s.generation s.previous
sign_of (journal.Epoch m) = Epoch m.closing m.number m.blocks
sign_of (journal.Pblk b) = Pblk b.block
sign_of (journal.Tcom p) = Tcom p.number p.mask (record { updater = p.origin.updater; serial = p.origin.serial }) p.count (span_of p.items)
