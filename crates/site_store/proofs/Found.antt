-- The instance file of files that stand for something.
use Rattle.std.proofs.Common.{◌≡◌, inl, inr, ℕ, ◌<◌, ◌≤◌, true, List, [], ◌∷◌, length, Option, Some, None, refl, sym, ◌∙◌, ap, subst, arith}
use Rattle.std.proofs.lemmas.Bool.Decides.{nat_tests}
use Rattle.std.specs.List.{AllByRecursion, AllZip}
use Rattle.global_defs.specs.declared.limits.TheConstants.{MOST_REGIONS}
use Rattle.disk_defs.specs.Disk.{Files}
use Rattle.disk_defs.specs.Gates.{Body, records}
use Rattle.journal_defs.specs.Numbers.{INSTANCE}
use Rattle.journal_defs.specs.Instance.{InstanceRecord, Create, Reigned, Cut, Map, Mode, BeginsWithCreate, IsInForm, IsInstanceBody, regions}
use Rattle.journal_defs.specs.Stands.{IsInstance}
use Rattle.std.specs.Prelude.{IfSome}
use Rattle.disk_defs.proofs.Told.{weaker_told}
use Rattle.site_files.specs.Loading.{IsDirectory}
use Rattle.site_defs.specs.Contents.{Contents, nothing, is_made}
use Rattle.site_defs.specs.Stands.{IsSite, Stands}
use Rattle.site_store.specs.declared.layout.Layout.{Layout}
use Rattle.site_store.specs.Finding.{IsLaidOut, IsFound}
use Rattle.site_files.proofs.WhatIsRead.{instance_one}

-- what was laid out by the records that were read is what any records of the instance file give
pub exact_by : (o : Option Files) (rs : List InstanceRecord) (found : Option Layout) → IfSome o (λ files. IsInstance (files INSTANCE) rs) → IsLaidOut rs found
    → IfSome o (λ files. (qs : List InstanceRecord) → IsInstance (files INSTANCE) qs → IsLaidOut qs found)
exact_by o rs found read own = weaker_told o (λ files. IsInstance (files INSTANCE) rs) (λ files. (qs : List InstanceRecord) → IsInstance (files INSTANCE) qs → IsLaidOut qs found) read
    (λ files is qs other. subst (λ (l : List InstanceRecord). IsLaidOut l found) (instance_one (files INSTANCE) rs qs is other) own)

pub held_by : (o : Option Files) (rs : List InstanceRecord) (found : Option Layout) → IfSome o (λ files. IsInstance (files INSTANCE) rs) → IsLaidOut rs found
    → IfSome o (λ files. (qs : List InstanceRecord) × IsInstance (files INSTANCE) qs × IsLaidOut qs found)
held_by o rs found read own = weaker_told o (λ files. IsInstance (files INSTANCE) rs) (λ files. (qs : List InstanceRecord) × IsInstance (files INSTANCE) qs × IsLaidOut qs found) read
    (λ files is. (rs, is, own))

none_zip : (bodies : List Body) → AllZip IsInstanceBody bodies [] → bodies ≡ []
none_zip [] zip = refl
none_zip (b ∷ bodies) zip = absurd zip

pub no_bodies : (file : List ℕ) → IsInstance file [] → records file ≡ Some []
no_bodies file is = is.bodies.1 ∙ ap Some (none_zip is.bodies.0 is.bodies.2)

pub blank_instance : (file : List ℕ) → records file ≡ Some [] → IsInstance file []
blank_instance file none = record { bodies = ([], none, tt); create = tt; cuts = tt; reigns = tt }

-- a file without an open record is an instance file
pub none_written : (o : Option Files) → IfSome o (λ files. (rs : List InstanceRecord) → IsInstance (files INSTANCE) rs → ⊥) → IfSome o (λ files. records (files INSTANCE) ≡ Some [] → ⊥)
none_written o none = weaker_told o (λ files. (rs : List InstanceRecord) → IsInstance (files INSTANCE) rs → ⊥) (λ files. records (files INSTANCE) ≡ Some [] → ⊥) none
    (λ files no blank. no [] (blank_instance (files INSTANCE) blank))

pub some_written : (o : Option Files) (rs : List InstanceRecord) → 0 < length rs → IfSome o (λ files. IsInstance (files INSTANCE) rs) → IfSome o (λ files. records (files INSTANCE) ≡ Some [] → ⊥)
some_written o rs some read = weaker_told o (λ files. IsInstance (files INSTANCE) rs) (λ files. records (files INSTANCE) ≡ Some [] → ⊥) read
    (λ files own blank.
    let none : rs ≡ [] = instance_one (files INSTANCE) rs [] own (blank_instance (files INSTANCE) blank) in
    let few : 0 < length rs → ⊥ = λ more. (let e = ap (λ (l : List InstanceRecord). length l) none in omega (arith, e, more)) in few some)

pub site_instance : (files : Files) (c : Contents) → IsSite files c → IsInstance (files INSTANCE) c.instance
site_instance files c site = subst (λ (rs : List InstanceRecord). IsInstance (files INSTANCE) rs) site.instance site.image.held.instance

pub stands_instance : (files : Files) (c : Contents) → Stands files c → IsInstance (files INSTANCE) c.instance
stands_instance files c (inl blank) = subst (λ (x : Contents). IsInstance (files INSTANCE) x.instance) (sym blank.0) (blank_instance (files INSTANCE) blank.1.instance)
stands_instance files c (inr site) = site_instance files c site

-- the records are those of bodies of their form, and begin with CREATE
pub all_in_form : (bodies : List Body) (rs : List InstanceRecord) → AllZip IsInstanceBody bodies rs → AllByRecursion IsInForm rs
all_in_form [] [] zip = tt
all_in_form [] (r ∷ rs) zip = absurd zip
all_in_form (b ∷ bodies) [] zip = tt
all_in_form (b ∷ bodies) (r ∷ rs) zip = (zip.0.form, all_in_form bodies rs zip.1)

pub region_bounds : (rs : List InstanceRecord) → AllByRecursion IsInForm rs → BeginsWithCreate rs → 0 < length rs → (1 ≤ length (regions rs)) × (length (regions rs) ≤ MOST_REGIONS)
region_bounds [] form begins some = absurd (omega (arith, some))
region_bounds (Create name named ∷ rs) form begins some = (form.0.1, form.0.2)
region_bounds (Reigned r ∷ rs) form begins some = absurd begins
region_bounds (Cut n g ∷ rs) form begins some = absurd begins
region_bounds (Map region star name ∷ rs) form begins some = absurd begins
region_bounds (Mode region before ∷ rs) form begins some = absurd begins

pub region_count : (file : List ℕ) (rs : List InstanceRecord) → IsInstance file rs → 0 < length rs → (1 ≤ length (regions rs)) × (length (regions rs) ≤ MOST_REGIONS)
region_count file rs is some = region_bounds rs (all_in_form is.bodies.0 rs is.bodies.2) is.create some

pub made_some : (c : Contents) → is_made c ≡ true → 0 < length c.instance
made_some c made = grind (arith, nat_tests, made)

pub some_made : (c : Contents) → 0 < length c.instance → is_made c ≡ true
some_made c some = grind (arith, nat_tests, some)

-- no site stands where there is no record
pub site_made : (files : Files) (c : Contents) → IsSite files c → c.instance ≡ [] → ⊥
site_made files c site none =
    let size : length c.instance ≡ 0 = ap length none in
    let some = made_some c site.made in
    omega (arith, size, some)

-- a site has a directory
pub site_directory : (files : Files) (c : Contents) → IsSite files c → IsDirectory c.instance None → ⊥
site_directory files c site none =
    let count = region_count (files INSTANCE) c.instance (site_instance files c site) (made_some c site.made) in
    none (count.0, count.1, site.mapped)

none_found : (files : Files) (c : Contents) → Stands files c → c.instance ≡ [] → c ≡ nothing
none_found files c (inl blank) none = blank.0
none_found files c (inr site) none = absurd (site_made files c site none)

pub found_by : (files : Files) (c : Contents) (rs : List InstanceRecord) (found : Option Layout) → IsInstance (files INSTANCE) rs → IsLaidOut rs found → Stands files c → IsFound c found
found_by files c rs None is laid stands = none_found files c stands (instance_one (files INSTANCE) c.instance rs (stands_instance files c stands) is ∙ laid)
found_by files c rs (Some l) is laid stands =
    subst (λ (x : List InstanceRecord). IsLaidOut x (Some l) → IsFound c (Some l)) (instance_one (files INSTANCE) c.instance rs (stands_instance files c stands) is)
    (λ own. (some_made c own.0, own.1)) laid

-- records that are there and give no directory are no site's
no_layout : (files : Files) (c : Contents) → 0 < length c.instance → IsDirectory c.instance None → Stands files c → ⊥
no_layout files c some none (inl blank) = let size : length c.instance ≡ 0 = ap (λ (x : Contents). length x.instance) blank.0 in omega (arith, size, some)
no_layout files c some none (inr site) = site_directory files c site none

pub not_laid : (files : Files) (c : Contents) (rs : List InstanceRecord) → IsInstance (files INSTANCE) rs → 0 < length rs → IsDirectory rs None → Stands files c → ⊥
not_laid files c rs is some none stands =
    let own = instance_one (files INSTANCE) rs c.instance is (stands_instance files c stands) in
    no_layout files c (subst (λ (x : List InstanceRecord). 0 < length x) own some) (subst (λ (x : List InstanceRecord). IsDirectory x None) own none) stands

-- files with the same instance file
pub alike_by : (files f : Files) (c o : Contents) → f INSTANCE ≡ files INSTANCE → Stands files c → Stands f o → o.instance ≡ c.instance
alike_by files f c o same here there = instance_one (files INSTANCE) o.instance c.instance (subst (λ (b : List ℕ). IsInstance b o.instance) same (stands_instance f o there)) (stands_instance files c here)
