-- The numbers of a site's files, in this project's layout. Files 9 to 15 are kept free.
use Rattle.std.specs.Prelude.{ℕ, ◌+◌, ◌*◌}
use Rattle.journal_defs.specs.declared.files.TheConstants.{INSTANCE_FILE, DATABASE_FILES, JOURNAL_FILES, LOST_FILES, BROKEN_FILES}

-- the instance file
abbrev pub INSTANCE : ℕ
INSTANCE = INSTANCE_FILE

-- the database file of region r, counted from 0
abbrev pub database_file : ℕ → ℕ
database_file r = DATABASE_FILES + r

-- the journal of generation g of region r
abbrev pub journal_file : (generation region : ℕ) → ℕ
journal_file g r = JOURNAL_FILES + 8 * g + r

-- the lost-transaction file of a generation
abbrev pub lost_file : ℕ → ℕ
lost_file g = LOST_FILES + g

-- the broken-transaction file of a generation
abbrev pub broken_file : ℕ → ℕ
broken_file g = BROKEN_FILES + g
