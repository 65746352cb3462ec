-- Facts of the files that a disk tells.
use Rattle.std.proofs.Common.{◌≡◌, Option, Some, None, IfSome, refl, sym, subst}
use Rattle.disk_defs.specs.Disk.{Files}

-- where it tells them
pub told_then : (o : Option Files) (P Q : Files → Type 0) → IfSome o P → ((files : Files) → o ≡ Some files → P files → IfSome o Q) → IfSome o Q
told_then None P Q told f = tt
told_then (Some files) P Q told f = f files refl told

pub as_told : (o : Option Files) (files : Files) (P : Files → Type 0) → o ≡ Some files → P files → IfSome o P
as_told o files P is p = subst (λ (x : Option Files). IfSome x P) (sym is) p

pub at_files : (o : Option Files) (files : Files) (P : Files → Type 0) → o ≡ Some files → IfSome o P → P files
at_files o files P is p = subst (λ (x : Option Files). IfSome x P) is p
