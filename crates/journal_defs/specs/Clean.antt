-- Files past the newest generation: there is nothing in them yet. This project's rule, so that a generation that is drawn is new.
use Rattle.std.specs.Prelude.{◌≡◌, ℕ, ◌+◌, ◌<◌, ◌≤◌, [], length, Some}
use Rattle.global_defs.specs.declared.limits.TheConstants.{MOST_GENERATIONS}
use Rattle.disk_defs.specs.Disk.{Files}
use Rattle.disk_defs.specs.Gates.{records}
use Rattle.journal_defs.specs.Numbers.{journal_file, lost_file, broken_file}
use Rattle.journal_defs.specs.Instance.{regions, generation, site_name}
use Rattle.journal_defs.specs.Sequence.{Records}
use Rattle.journal_defs.specs.Broken.{broken, broken_text}

-- a generation past that of every CUT, so that it isn't drawn yet
abbrev pub IsUndrawn : Records → ℕ → Type 0
IsUndrawn s g = (generation s.instance < g) × (g ≤ MOST_GENERATIONS)

-- No journal of a generation past that of every CUT has an open record, and no text file of one has a byte, but that the first
-- broken-transaction file may have some, at most as many as the text of the broken list.
pub record AreClean (files : Files) (s : Records) (length_of : ℕ) : Type 0 where
  pub journals : (g r : ℕ) → IsUndrawn s g → r < length (regions s.instance) → records (files (journal_file g r)) ≡ Some []
  pub lost : (g : ℕ) → IsUndrawn s g → files (lost_file g) ≡ []
  pub first_broken : (g : ℕ) → IsUndrawn s g → g ≡ generation s.instance + 1 → length (files (broken_file g)) ≤ length (broken_text (site_name s.instance) length_of (broken s length_of))
  pub later_broken : (g : ℕ) → IsUndrawn s g → generation s.instance + 1 < g → files (broken_file g) ≡ []
