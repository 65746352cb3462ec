-- What the layers below answer, as a site answers it on a disk with this count of faults.
use Rattle.std.specs.Prelude.{ℕ}
use Rattle.instance_file.specs.declared.error.InstanceError.{InstanceError}
use Rattle.instance_file.specs.declared.error.InstanceError.TheVariants as instances
use Rattle.site_files.specs.declared.error.FilesError.{FilesError}
use Rattle.site_files.specs.declared.error.FilesError.TheVariants as files
use Rattle.region_store.specs.declared.error.RegionError.{RegionError}
use Rattle.region_store.specs.declared.error.RegionError.TheVariants as regions
use Rattle.entry_index.specs.declared.error.IndexError.{IndexError}
use Rattle.entry_index.specs.declared.error.IndexError.TheVariants as index
use Rattle.site_store.specs.declared.error.SiteError.{SiteError}
use Rattle.site_store.specs.declared.error.SiteError.TheVariants as error

abbrev pub instance_error : ℕ → InstanceError → SiteError
instance_error fault instances.Failed = error.Failed fault
instance_error fault (instances.NotARecord offset) = error.NotAFile 0 offset
instance_error fault instances.NoMemory = error.NoMemory

abbrev pub files_error : FilesError → SiteError
files_error (files.Failed fault) = error.Failed fault
files_error files.GenLimit = error.GenLimit
files_error (files.NotAFile file offset) = error.NotAFile file offset
files_error files.NoMemory = error.NoMemory

abbrev pub region_error : RegionError → SiteError
region_error (regions.Failed fault) = error.Failed fault
region_error (regions.NotAFile file offset) = error.NotAFile file offset
region_error regions.NoMemory = error.NoMemory

abbrev pub index_error : ℕ → IndexError → SiteError
index_error fault index.Failed = error.Failed fault
index_error fault (index.NotAFile file offset) = error.NotAFile file offset
index_error fault index.NoMemory = error.NoMemory
