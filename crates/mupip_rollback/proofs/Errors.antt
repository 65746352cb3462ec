-- The error of a call below, handed on.
use Rattle.std.proofs.Common.{◌≡◌, ◌⊎◌, inl, inr, ℕ, Err, IsErrOf, ◌∙◌, ap}
use Rattle.site_files.specs.declared.error.FilesError.{FilesError}
use Rattle.site_files.specs.declared.error.FilesError.TheVariants as files
use Rattle.site_store.specs.declared.error.SiteError.{SiteError}
use Rattle.site_store.specs.declared.error.SiteError.TheVariants as sites
use Rattle.mupip_rollback.specs.declared.error.RollError.{RollError}
use Rattle.mupip_rollback.specs.declared.error.RollError.TheVariants as error
use Rattle.mupip_rollback.specs.Errors.{site_error, files_error}

-- the same error with another result
pub handed_on : {T U E : Type 0} (e x : E) → IsErrOf {T = T} (Err e) x → IsErrOf {T = U} (Err e) x
handed_on e x is = let same : e ≡ x = cc is in ap Err same

-- which error it was
site_file : (x : SiteError) (file offset : ℕ) → site_error x ≡ error.NotAFile file offset → x ≡ sites.NotAFile file offset
site_file (sites.NotAFile f o) file offset is =
    let one : f ≡ file = cc is in
    let two : o ≡ offset = cc is in
    λ i. sites.NotAFile (one i) (two i)
site_file (sites.Failed f) file offset is = absurd (cc is)
site_file sites.GenLimit file offset is = absurd (cc is)
site_file (sites.NeedForward r) file offset is = absurd (cc is)
site_file sites.NoMemory file offset is = absurd (cc is)
site_file (sites.Stopped f) file offset is = absurd (cc is)
site_file (sites.Full n) file offset is = absurd (cc is)
site_file sites.SeqLimit file offset is = absurd (cc is)
site_file sites.ReignLimit file offset is = absurd (cc is)

pub site_was : {T U : Type 0} (x : SiteError) (y : RollError) (file offset : ℕ) → y ≡ site_error x → IsErrOf {T = T} (Err y) (error.NotAFile file offset) → IsErrOf {T = U} (Err x) (sites.NotAFile file offset)
site_was x y file offset same is = let there : y ≡ error.NotAFile file offset = cc is in ap Err (site_file x file offset (cc (same, there)))

site_fault : (x : SiteError) (fault : ℕ) → site_error x ≡ error.Failed fault → x ≡ sites.Failed fault
site_fault (sites.Failed f) fault is = let one : f ≡ fault = cc is in λ i. sites.Failed (one i)
site_fault (sites.NotAFile f o) fault is = absurd (cc is)
site_fault sites.GenLimit fault is = absurd (cc is)
site_fault (sites.NeedForward r) fault is = absurd (cc is)
site_fault sites.NoMemory fault is = absurd (cc is)
site_fault (sites.Stopped f) fault is = absurd (cc is)
site_fault (sites.Full n) fault is = absurd (cc is)
site_fault sites.SeqLimit fault is = absurd (cc is)
site_fault sites.ReignLimit fault is = absurd (cc is)

pub failed_was : {T U : Type 0} (x : SiteError) (y : RollError) (fault : ℕ) → y ≡ site_error x → IsErrOf {T = T} (Err y) (error.Failed fault) → IsErrOf {T = U} (Err x) (sites.Failed fault)
failed_was x y fault same is = let there : y ≡ error.Failed fault = cc is in ap Err (site_fault x fault (cc (same, there)))

-- an epoch's error
pub epoch_was : {T U : Type 0} (x : SiteError) (y : RollError) → y ≡ site_error x → ((fault : ℕ) × IsErrOf {T = T} (Err x) (sites.Failed fault)) ⊎ IsErrOf {T = T} (Err x) sites.NoMemory
    → ((fault : ℕ) × IsErrOf {T = U} (Err y) (error.Failed fault)) ⊎ IsErrOf {T = U} (Err y) error.NoMemory
epoch_was x y same (inl failed) = let is = failed.1 in let there : x ≡ sites.Failed failed.0 = cc is in inl (failed.0, ap Err (same ∙ ap site_error there))
epoch_was x y same (inr is) = let there : x ≡ sites.NoMemory = cc is in inr (ap Err (same ∙ ap site_error there))

files_file : (x : FilesError) (file offset : ℕ) → files_error x ≡ error.NotAFile file offset → x ≡ files.NotAFile file offset
files_file (files.NotAFile f o) file offset is =
    let one : f ≡ file = cc is in
    let two : o ≡ offset = cc is in
    λ i. files.NotAFile (one i) (two i)
files_file (files.Failed f) file offset is = absurd (cc is)
files_file files.GenLimit file offset is = absurd (cc is)
files_file files.NoMemory file offset is = absurd (cc is)

pub files_was : {T U : Type 0} (x : FilesError) (y : RollError) (file offset : ℕ) → y ≡ files_error x → IsErrOf {T = T} (Err y) (error.NotAFile file offset) → IsErrOf {T = U} (Err x) (files.NotAFile file offset)
files_was x y file offset same is = let there : y ≡ error.NotAFile file offset = cc is in ap Err (files_file x file offset (cc (same, there)))
