-- TYPE: the lost-transaction or the broken-transaction file of a generation.
use Rattle.std.specs.Prelude.{◌≡◌, ◌≢◌, ℕ, ◌-◌, ◌==◌, Bool, true, false, List, [], ◌∷◌, ◌++◌, length, get_or, Option}
use Rattle.disk_defs.specs.Disk.{Files}
use Rattle.journal_defs.specs.Numbers.{lost_file, broken_file}
use Rattle.command_defs.specs.Commands.{Name}
use Rattle.world_defs.specs.World.{Failed, Place, IfKnown, IfShown, Kept}
use Rattle.world_defs.specs.Answers.{Cause, NoFile, Answer}
use Rattle.world_defs.specs.Shown.{ByAnswer, Anywhere}
use Rattle.world_defs.specs.Changes.{in_new_state, FailsUnchanged, KeptUnknown}
use Rattle.world_defs.specs.Row.{Row, quiet, refused_with, caused, in_state, stopped, where_known}

-- these files, by generation from 1 on: the next broken-transaction file may have bytes, the next lost-transaction file has none
abbrev pub files_typed : (lost : Bool) → Place → List (List ℕ)
files_typed true p = p.now.losts
files_typed false p = p.now.texts ++ p.left.torn ∷ []

-- as it reads
abbrev pub typed : (lost : Bool) → ℕ → Place → List ℕ
typed lost g p = get_or (files_typed lost p) (g - 1) []

abbrev pub file_typed : (lost : Bool) → ℕ → ℕ
file_typed true g = lost_file g
file_typed false g = broken_file g

-- the file of that generation has no byte
abbrev pub no_file : (lost : Bool) → ℕ → Place → Option Cause
no_file lost g p = where_known p (caused (length (typed lost g p) == 0) NoFile)

-- a file has some bytes, and where a site's files are known, these
pub record Types (lost : Bool) (g : ℕ) (text : List ℕ) (old new : Place) : Type 0 where
  pub some : text ≢ []
  pub told : IfKnown old (text ≡ typed lost g old)
  pub kept : Kept old new

-- the bytes of that file: none, or these
abbrev pub TypedBy : (lost : Bool) → ℕ → Answer → Files → Type 0
TypedBy lost g a files = ByAnswer (Unit {0}) (λ r. r.cause ≡ NoFile → files (file_typed lost g) ≡ []) Anywhere (λ text. text ≡ files (file_typed lost g)) a

abbrev pub print : (lost : Bool) → (generation : ℕ) → Name → Place → Row
print lost g name p = record (quiet name p) {
  early = refused_with name (in_state stopped p.site);
  late = refused_with name (no_file lost g p);
  may_refuse = λ r q. (r ≡ record { site = name; cause = NoFile }) × KeptUnknown p q;
  by_bytes = λ a. IfShown p (TypedBy lost g a);
  typed = λ text q. Types lost g text p q;
  fault = λ k q. FailsUnchanged k (in_new_state (Failed k) p.site) p q;
}
