-- The error of a call below, handed on by a call with another result.
use Rattle.std.proofs.Common.{◌≡◌, ◌⊎◌, inl, inr, ℕ, Err, IsErrOf, ap}
use Rattle.site_files.specs.declared.error.FilesError.{FilesError}
use Rattle.site_files.specs.declared.error.FilesError.TheVariants as error

pub handed_on : {T U : Type 0} (e x : FilesError) → IsErrOf {T = T} (Err e) x → IsErrOf {T = U} (Err e) x
handed_on e x is = let same : e ≡ x = cc is in ap Err same

pub causes_on : {T U : Type 0} (e : FilesError) → ((x : ℕ) × IsErrOf {T = T} (Err e) (error.Failed x)) ⊎ ((x : ℕ) × (y : ℕ) × IsErrOf {T = T} (Err e) (error.NotAFile x y)) ⊎ IsErrOf {T = T} (Err e) error.NoMemory
    → ((x : ℕ) × IsErrOf {T = U} (Err e) (error.Failed x)) ⊎ ((x : ℕ) × (y : ℕ) × IsErrOf {T = U} (Err e) (error.NotAFile x y)) ⊎ IsErrOf {T = U} (Err e) error.NoMemory
causes_on e (inl failed) = inl (failed.0, handed_on e (error.Failed failed.0) failed.1)
causes_on e (inr (inl file)) = inr (inl (file.0, file.1, handed_on e (error.NotAFile file.0 file.1) file.2))
causes_on e (inr (inr none)) = inr (inr (handed_on e error.NoMemory none))
