-- A region of a site.
use Rattle.std.specs.Prelude.{ℕ, Bool, List}

-- its name, and whether its blocks are kept as they were before they change (GT.M: MUPIP SET -JOURNAL=[NO]BEFORE_IMAGES)
pub record Region : Type 0 where
  pub name : List ℕ
  pub before : Bool
