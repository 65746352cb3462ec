-- The error of a call below, handed on.
use Rattle.std.proofs.Common.{◌≡◌, ◌⊎◌, inl, inr, ℕ, Result, Ok, Err, IsErrOf, IsOk, OnOk, OnErr, ap}
use Rattle.site_files.specs.declared.error.FilesError.{FilesError}
use Rattle.site_files.specs.declared.error.FilesError.TheVariants as files
use Rattle.site_store.specs.declared.error.SiteError.{SiteError}
use Rattle.site_store.specs.declared.error.SiteError.TheVariants as error
use Rattle.region_store.specs.declared.error.RegionError.{RegionError}
use Rattle.region_store.specs.declared.error.RegionError.TheVariants as regions
use Rattle.entry_index.specs.declared.error.IndexError.{IndexError}
use Rattle.entry_index.specs.declared.error.IndexError.TheVariants as index
use Rattle.site_store.specs.Errors.{files_error, region_error, index_error}

-- the same error with another result
pub handed_on : {T U : Type 0} (e x : SiteError) → IsErrOf {T = T} (Err e) x → IsErrOf {T = U} (Err e) x
handed_on e x is = let same : e ≡ x = cc is in ap Err same

-- what an error of the files was
pub failed_was : {T U : Type 0} (x : FilesError) (fault : ℕ) → IsErrOf {T = T} (Err (files_error x)) (error.Failed fault) → IsErrOf {T = U} (Err x) (files.Failed fault)
failed_was (files.Failed f) fault is = let same : f ≡ fault = cc is in ap (λ (k : ℕ). Err (files.Failed k)) same
failed_was files.GenLimit fault is = absurd (cc is)
failed_was (files.NotAFile f o) fault is = absurd (cc is)
failed_was files.NoMemory fault is = absurd (cc is)

pub file_was : {T U : Type 0} (x : FilesError) (file offset : ℕ) → IsErrOf {T = T} (Err (files_error x)) (error.NotAFile file offset) → IsErrOf {T = U} (Err x) (files.NotAFile file offset)
file_was (files.Failed f) file offset is = absurd (cc is)
file_was files.GenLimit file offset is = absurd (cc is)
file_was (files.NotAFile f o) file offset is =
    let one : f ≡ file = cc is in
    let two : o ≡ offset = cc is in
    λ i. Err (files.NotAFile (one i) (two i))
file_was files.NoMemory file offset is = absurd (cc is)

pub region_was : {T U : Type 0} (x : RegionError) (file offset : ℕ) → IsErrOf {T = T} (Err (region_error x)) (error.NotAFile file offset) → IsErrOf {T = U} (Err x) (regions.NotAFile file offset)
region_was (regions.Failed f) file offset is = absurd (cc is)
region_was (regions.NotAFile f o) file offset is =
    let one : f ≡ file = cc is in
    let two : o ≡ offset = cc is in
    λ i. Err (regions.NotAFile (one i) (two i))
region_was regions.NoMemory file offset is = absurd (cc is)

-- one of three errors of the files is one of three of a site
pub causes_on : {T U : Type 0} (x : FilesError) → ((fault : ℕ) × IsErrOf {T = T} (Err x) (files.Failed fault)) ⊎ ((file : ℕ) × (offset : ℕ) × IsErrOf {T = T} (Err x) (files.NotAFile file offset)) ⊎ IsErrOf {T = T} (Err x) files.NoMemory
    → ((fault : ℕ) × IsErrOf {T = U} (Err (files_error x)) (error.Failed fault)) ⊎ ((file : ℕ) × (offset : ℕ) × IsErrOf {T = U} (Err (files_error x)) (error.NotAFile file offset)) ⊎ IsErrOf {T = U} (Err (files_error x)) error.NoMemory
causes_on x (inl failed) = inl (failed.0, let same : x ≡ files.Failed failed.0 = cc failed.1 in ap (λ (e : FilesError). Err (files_error e)) same)
causes_on x (inr (inl file)) = inr (inl (file.0, file.1, let same : x ≡ files.NotAFile file.0 file.1 = cc file.2 in ap (λ (e : FilesError). Err (files_error e)) same))
causes_on x (inr (inr none)) = inr (inr (let same : x ≡ files.NoMemory = cc none in ap (λ (e : FilesError). Err (files_error e)) same))

-- an error that is one of two is no other one
pub no_fault : {T : Type 0} (r : Result T SiteError) → OnErr r (((file : ℕ) × (offset : ℕ) × IsErrOf r (error.NotAFile file offset)) ⊎ IsErrOf r error.NoMemory) → (fault : ℕ) → IsErrOf r (error.Failed fault) → ⊥
no_fault (Ok x) causes fault is = cc is
no_fault (Err e) (inl file) fault is = cc (file.2, is)
no_fault (Err e) (inr none) fault is = cc (none, is)

pub no_stop : {T : Type 0} (r : Result T SiteError) → OnErr r (((file : ℕ) × (offset : ℕ) × IsErrOf r (error.NotAFile file offset)) ⊎ IsErrOf r error.NoMemory) → (fault : ℕ) → IsErrOf r (error.Stopped fault) → ⊥
no_stop (Ok x) causes fault is = cc is
no_stop (Err e) (inl file) fault is = cc (file.2, is)
no_stop (Err e) (inr none) fault is = cc (none, is)

-- one of two errors, with another result
pub two_on : {T U : Type 0} (e : SiteError) → ((x : ℕ) × IsErrOf {T = T} (Err e) (error.Failed x)) ⊎ IsErrOf {T = T} (Err e) error.NoMemory → ((x : ℕ) × IsErrOf {T = U} (Err e) (error.Failed x)) ⊎ IsErrOf {T = U} (Err e) error.NoMemory
two_on e (inl failed) = inl (failed.0, handed_on e (error.Failed failed.0) failed.1)
two_on e (inr none) = inr (handed_on e error.NoMemory none)

-- one of these errors, and of three
pub finish_causes : (r : Result Unit SiteError) → OnErr r (((x : ℕ) × IsErrOf r (error.Failed x)) ⊎ IsErrOf r error.NoMemory) → OnErr r (((x : ℕ) × IsErrOf r (error.Failed x)) ⊎ ((x : ℕ) × IsErrOf r (error.Stopped x)) ⊎ IsErrOf r error.NoMemory)
finish_causes (Ok x) causes = tt
finish_causes (Err e) (inl failed) = inl failed
finish_causes (Err e) (inr none) = inr (inr none)

pub harden_causes : {T U : Type 0} (e : SiteError) → ((x : ℕ) × IsErrOf {T = T} (Err e) (error.Failed x)) ⊎ ((x : ℕ) × IsErrOf {T = T} (Err e) (error.Stopped x))
    → ((x : ℕ) × IsErrOf {T = U} (Err e) (error.Failed x)) ⊎ ((x : ℕ) × IsErrOf {T = U} (Err e) (error.Stopped x)) ⊎ IsErrOf {T = U} (Err e) error.NoMemory
harden_causes e (inl failed) = inl (failed.0, handed_on e (error.Failed failed.0) failed.1)
harden_causes e (inr stopped) = inr (inl (stopped.0, handed_on e (error.Stopped stopped.0) stopped.1))

-- what an error of the index was
pub index_file_was : {T U : Type 0} (fault : ℕ) (x : IndexError) (file offset : ℕ) → IsErrOf {T = T} (Err (index_error fault x)) (error.NotAFile file offset) → IsErrOf {T = U} (Err x) (index.NotAFile file offset)
index_file_was fault index.Failed file offset is = absurd (cc is)
index_file_was fault (index.NotAFile f o) file offset is =
    let one : f ≡ file = cc is in
    let two : o ≡ offset = cc is in
    λ i. Err (index.NotAFile (one i) (two i))
index_file_was fault index.NoMemory file offset is = absurd (cc is)

-- what holds of a result
pub on_ok : {T E : Type 0} (result : Result T E) (P Q : Type 0) → OnOk result P → (P → Q) → OnOk result Q
on_ok (Ok x) P Q p k = k p
on_ok (Err e) P Q p k = tt

pub on_err : {T E : Type 0} (result : Result T E) (P : Type 0) → P → OnErr result P
on_err (Ok x) P p = tt
on_err (Err e) P p = p

pub of_err : {T E : Type 0} (result : Result T E) (P : Type 0) (e : E) → OnErr result P → IsErrOf result e → P
of_err (Ok x) P e p is = absurd (cc is)
of_err (Err d) P e p is = p

-- what holds of an epoch that was taken, or of an image that was logged
pub of_taken : {E F : Type 0} (taken : Result Unit E) (result : Result Unit F) (P Q : Type 0) → OnOk result (IsOk taken) → OnOk taken P → (P → Q) → OnOk result Q
of_taken (Ok x) (Ok y) P Q done p k = k p
of_taken (Err e) (Ok y) P Q done p k = absurd (cc done)
of_taken taken (Err e) P Q done p k = tt

pub of_each : {E F : Type 0} (taken : Result Unit E) (result : Result Unit F) (P Q R S T U : Type 0) → OnOk result (IsOk taken) → OnOk taken P → OnOk taken Q → OnOk taken R → OnOk taken S → OnOk taken T → (P → Q → R → S → T → U) → OnOk result U
of_each (Ok x) (Ok y) P Q R S T U done p q r s t k = k p q r s t
of_each (Err e) (Ok y) P Q R S T U done p q r s t k = absurd (cc done)
of_each taken (Err e) P Q R S T U done p q r s t k = tt
