-- Making a site, and opening one.
use Rattle.std.specs.Prelude.{◌⊎◌, ◌≤◌, ◌<◌, ℕ, Bool, false, List, [], ◌∷◌, map}
use Rattle.global_defs.specs.Region.{Region}
use Rattle.disk_defs.specs.Disk.{Files, View, Image, From, IsDurable}
use Rattle.journal_defs.specs.Numbers.{lost_file, broken_file, database_file}
use Rattle.journal_defs.specs.Instance as records
use Rattle.site_defs.specs.Contents.{Contents, Standing}
use Rattle.site_defs.specs.Forward.{MayOpenAs, MayOpenAsLeft}
use Rattle.site_defs.specs.Stands.{IsBlank, IsSite, Stands}
use Rattle.site_defs.specs.Behind.{IsStanding}
use Rattle.site_store.specs.declared.layout.RegionSpec.{RegionSpec}

abbrev pub region_value : RegionSpec → Region
region_value r = record { name = r.name; before = r.before }

-- a site that was made with these regions
abbrev pub made : List ℕ → List RegionSpec → Contents
made name regions = record { instance = records.Create name (map region_value regions) ∷ []; starts = λ r. []; epochs = λ r. []; texts = []; losts = []; sequence = [] }

-- An image from before the call, in which a blank disk may be that of the new site.
abbrev pub MayMake : View → List ℕ → List RegionSpec → Files → Type 0
MayMake old name regions = From (Image old) (λ was now. IsBlank was → IsBlank now ⊎ IsSite now (made name regions))

-- an image from before the call, whose site may have been opened, with this text of what is broken: with its regions anew, or on their blocks
abbrev pub MayBeOpenAs : (anew : Bool) → View → List ℕ → Files → Type 0
MayBeOpenAs anew old broken = From (Image old) (λ was now. (c : Contents) → IsSite was c → (o : Contents) × MayOpenAs anew broken c o × IsSite now o)

abbrev pub MayBeOpen : View → List ℕ → Files → Type 0
MayBeOpen = MayBeOpenAs false

-- an image from before the call, whose site may have been opened, with the text of what was broken in that image; and what lies behind that
abbrev pub MayBeOpenWithAs : (anew : Bool) → View → Files → Type 0
MayBeOpenWithAs anew old = From (Image old) (λ was now. (s : Standing) → IsStanding was s → (o : Standing) × MayOpenAsLeft anew s o × IsStanding now o)

abbrev pub MayBeOpenWith : View → Files → Type 0
MayBeOpenWith = MayBeOpenWithAs false

-- each image stands for something
abbrev pub EachStands : View → Type 0
EachStands v = (f : Files) → Image v f → (o : Contents) × Stands f o

-- the broken-transaction file and the lost-transaction file of a generation are on the disk for good
abbrev pub AreBothDurable : View → ℕ → Files → Type 0
AreBothDurable v h files = IsDurable v (broken_file h) (files (broken_file h)) × IsDurable v (lost_file h) (files (lost_file h))

-- those of the first g generations are
abbrev pub AreTextsDurable : View → ℕ → Files → Type 0
AreTextsDurable v g files = (h : ℕ) → 1 ≤ h → h ≤ g → AreBothDurable v h files

-- and the database files of the first n regions are
abbrev pub AreDatabasesDurable : View → ℕ → Files → Type 0
AreDatabasesDurable v n files = (r : ℕ) → r < n → IsDurable v (database_file r) (files (database_file r))
