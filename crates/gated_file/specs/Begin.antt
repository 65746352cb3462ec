-- Taking up a gated file.
use Rattle.std.specs.Prelude.{◌≡◌, ◌≢◌, ℕ, List, ◌∷◌}
use Rattle.disk_defs.specs.Disk.{Files, View, Image, From, OnFile, IsDurable}
use Rattle.disk_defs.specs.Gates.{records}

-- The file begins with a closed gate, and all of it is on the disk.
pub record IsBegun (v : View) (file : ℕ) (bytes : List ℕ) : Type 0 where
  pub gate : ℕ
  pub tail : List ℕ
  pub shut : gate ≢ 1
  pub is : bytes ≡ gate ∷ tail
  pub durable : IsDurable v file bytes

-- An image from before the call, in which this file may have other bytes that stand for the same records.
abbrev pub KeepsRecords : View → ℕ → Files → Type 0
KeepsRecords old file = From (Image old) (OnFile file (λ was now. records now ≡ records was))
