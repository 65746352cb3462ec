-- What the layers below answer, as a rollback or a recovery answers it.
use Rattle.site_files.specs.declared.error.FilesError.{FilesError}
use Rattle.site_files.specs.declared.error.FilesError.TheVariants as files
use Rattle.site_store.specs.declared.error.SiteError.{SiteError}
use Rattle.site_store.specs.declared.error.SiteError.TheVariants as sites
use Rattle.mupip_rollback.specs.declared.error.RollError.{RollError}
use Rattle.mupip_rollback.specs.declared.error.RollError.TheVariants as error

-- an opening and an epoch may answer this error
abbrev pub IsOfOpening : SiteError → Type 0
IsOfOpening (sites.Failed fault) = Unit {0}
IsOfOpening sites.GenLimit = Unit {0}
IsOfOpening (sites.NeedForward region) = Unit {0}
IsOfOpening (sites.NotAFile file offset) = Unit {0}
IsOfOpening sites.NoMemory = Unit {0}
IsOfOpening (sites.Stopped fault) = ⊥
IsOfOpening (sites.Full nodes) = ⊥
IsOfOpening sites.SeqLimit = ⊥
IsOfOpening sites.ReignLimit = ⊥

-- as it is answered
abbrev pub site_error : SiteError → RollError
site_error (sites.Failed fault) = error.Failed fault
site_error sites.GenLimit = error.GenLimit
site_error (sites.NeedForward region) = error.NeedForward region
site_error (sites.NotAFile file offset) = error.NotAFile file offset
site_error sites.NoMemory = error.NoMemory
site_error (sites.Stopped fault) = error.NoMemory
site_error (sites.Full nodes) = error.NoMemory
site_error sites.SeqLimit = error.NoMemory
site_error sites.ReignLimit = error.NoMemory

abbrev pub files_error : FilesError → RollError
files_error (files.Failed fault) = error.Failed fault
files_error files.GenLimit = error.GenLimit
files_error (files.NotAFile file offset) = error.NotAFile file offset
files_error files.NoMemory = error.NoMemory
