-- What the records of an instance file say of a site.
use Rattle.std.specs.Prelude.{◌≡◌, ◌<◌, true, List, [], length, map, Option, Some, None}
use Rattle.journal_defs.specs.Instance.{InstanceRecord, site_name, generation, regions}
use Rattle.journal_defs.specs.Directory.{patterns}
use Rattle.global_dir.specs.Directory.{Mapping}
use Rattle.site_defs.specs.Contents.{Contents, nothing, is_made}
use Rattle.site_store.specs.Opening.{region_value}
use Rattle.site_store.specs.declared.layout.Layout.{Layout}

-- the directory of these records
abbrev pub mapping_of : List InstanceRecord → Mapping
mapping_of rs = record { regions = length (regions rs); patterns = patterns rs }

-- these records give this layout
pub record HasLayout (rs : List InstanceRecord) (found : Layout) : Type 0 where
  pub name : found.name ≡ site_name rs
  pub regions : map region_value found.regions.items ≡ regions rs
  pub directory : found.directory ≡ mapping_of rs
  pub generation : found.generation ≡ generation rs

-- the layout that these records give, or that there is none
abbrev pub IsLaidOut : List InstanceRecord → Option Layout → Type 0
IsLaidOut rs None = rs ≡ []
IsLaidOut rs (Some found) = (0 < length rs) × HasLayout rs found

-- the layout of a site that was found on a disk, or that there is none
abbrev pub IsFound : Contents → Option Layout → Type 0
IsFound c None = c ≡ nothing
IsFound c (Some found) = (is_made c ≡ true) × HasLayout c.instance found
