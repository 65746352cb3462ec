-- What the layout of a site that was found says of its regions and its patterns.
use Rattle.std.proofs.Common.{◌≡◌, ℕ, ◌<◌, ◌≤◌, Bool, true, false, List, [], ◌∷◌, ◌++◌, length, map, take, None, Some, refl, sym, ◌∙◌, ap, subst, inl, inr, if◌then◌else◌, arith}
use Rattle.std.specs.Prelude.{Option, codes, IfSome}
use Rattle.std.proofs.lemmas.Bool.{false≢true}
use Rattle.std.specs.List.{list_any}
use Rattle.std.proofs.lemmas.List.{length-map}
use Rattle.std.proofs.Math.Seq.{take-length}
use Rattle.disk_defs.specs.Disk.{Files, View}
use Rattle.disk_defs.specs.Gates.{records}
use Rattle.journal_defs.specs.Instance.{InstanceRecord, Create, regions, site_name}
use Rattle.journal_defs.specs.Directory.{patterns}
use Rattle.journal_defs.specs.Numbers.{INSTANCE}
use Rattle.journal_defs.specs.Stands.{IsInstance}
use Rattle.global_dir.specs.Directory.{is_mapped}
use Rattle.global_defs.specs.Pattern.{ends_in_star, stem}
use Rattle.global_defs.specs.Region.{Region}
use Rattle.command_defs.specs.Commands.{Name}
use Rattle.site_store.specs.declared.layout.Layout.{Layout}
use Rattle.site_making.specs.declared.finding.FoundSite.{FoundSite}
use Rattle.site_store.specs.Finding.{HasLayout, IsFound}
use Rattle.site_making.specs.Finding.{IsFoundIn}
use Rattle.site_store.specs.Opening.{region_value}
use Rattle.site_defs.specs.Lists.{first_where}
use Rattle.world_defs.specs.World.{Place}
use Rattle.site_defs.specs.Contents.{Contents, nothing, is_made, same_name}
use Rattle.world_defs.specs.Answers.{Cause, Started, NoRegion, TwiceMapped, line}
use Rattle.world_defs.specs.Shown.{HasNoLayout, IsOfAnother}
use Rattle.world_defs.specs.rows.Map.{twice_mapped, unmapped_by, UnmappedBy}
use Rattle.site_defs.specs.Limits.{is_written, region_number}
use Rattle.site_defs.specs.Stands.{IsSite, Stands}
use Rattle.site_runner.specs.Sites.{IsOf, Site}
use Rattle.site_runner.specs.Mapping.{IsSeenAt, IsUnmappedIn, MapsAt}
use Rattle.site_runner.proofs.Looked.{same_self}
use Rattle.site_runner.proofs.Stopped.{names_same}
use Rattle.site_runner.proofs.Ats.{some_both, reads_stand}
use Rattle.site_runner.proofs.Patterns.{by_started, by_no_region, by_twice, by_nothing, refused_started, refused_no_region, refused_twice}
use Rattle.site_runner.proofs.Mapped.{map_refused}
use Rattle.site_making.proofs.Mapped.{plain as of_records}
use Rattle.site_store.proofs.Unwritten.{some_read as if_some}

-- what was found on a disk that has these files
abbrev pub FoundIn : Option Files → Option Layout → Type 0
FoundIn o found = IfSome o (λ files. (c : Contents) → Stands files c → IsFound c found)

pub found_again : (o n : Option Files) (r : Option Layout) (found : Layout) → n ≡ o → r ≡ Some found → FoundIn o r → FoundIn n (Some found)
found_again o n r found e s h = subst (λ (x : Option Files). FoundIn x (Some found)) (sym e) (subst (λ (y : Option Layout). FoundIn o y) s h)

-- where nothing was found there is no site
pub none_found : (o : Option Files) (r : Option Layout) → r ≡ None → FoundIn o r → IfSome o (λ files. (c : Contents) → IsSite files c → ⊥)
none_found None r e h = tt
none_found (Some f) r e h = λ c site. (let n : c ≡ nothing = subst (λ (y : Option Layout). IsFound c y) e (h c (inr site)) in false≢true (sym (ap is_made n) ∙ site.made))

pub nothing_there : (o : Option Files) → IfSome o (λ files. (c : Contents) → Stands files c → ⊥) → IfSome o (λ files. (c : Contents) → IsSite files c → ⊥)
nothing_there None h = h
nothing_there (Some f) h = λ c site. h c (inr site)

-- an instance file without records is no site's
pub blank_there : (o n : Option Files) → n ≡ o → IfSome n (λ files. records (files INSTANCE) ≡ Some []) → IfSome o (HasNoLayout 0 0)
blank_there o n same blank = if_some o (λ files. records (files INSTANCE) ≡ Some []) (HasNoLayout 0 0)
    (λ f none. inr ([], record { bodies = ([], none, tt); create = tt; cuts = tt; reigns = tt }, (λ some. absurd (no_region some.0)), refl, refl))
    (subst (λ (x : Option Files). IfSome x (λ files. records (files INSTANCE) ≡ Some [])) same blank)
  where
    no_region : 1 ≤ 0 → ⊥
    no_region some = omega (arith, some)

-- a site of another name was found
pub other_found : (o : Option Files) (found : Layout) (name : Name) → same_name found.name name ≡ false → FoundIn o (Some found) → IfSome o (λ files. (c : Contents) → IsSite files c → IsOf name c → ⊥)
other_found None found name e h = h
other_found (Some f) found name e h = λ c site of. (let l = (h c (inr site)).1 in false≢true (sym e ∙ ap (λ (n : Name). same_name n name) (l.name ∙ of.name) ∙ same_self name))

pub another_there : (w : View) (found : FoundSite) (name : Name) → same_name found.layout.name name ≡ false → IsFoundIn w found → IfSome w.content (IsOfAnother name 0 0)
another_there w found name e told = if_some w.content _ (IsOfAnother name 0 0) (λ f is. (refl, refl, (found.log.records, is, λ same. false≢true (sym e ∙ ap (λ (n : Name). same_name n name) (told.layout.name ∙ same) ∙ same_self name)))) told.told

pub layout_at : (w : View) (s : Site) (p : Place) (found : Layout) → FoundIn w.content (Some found) → IsSeenAt w s p → p.told ≡ true → HasLayout p.now.instance found
layout_at w s p found f h sure = let here = some_both w.content _ _ (h.reads sure) f in (here.2 p.now (reads_stand here.0 p.now p.left here.1)).1

-- the regions that the directory counts are all of them
pub regions_found : (rs : List InstanceRecord) (found : Layout) → HasLayout rs found → map region_value (take found.directory.regions found.regions.items) ≡ regions rs
regions_found rs found h =
    let items = found.regions.items in
    let count : found.directory.regions ≡ length items = ap (λ m. m.regions) h.directory ∙ ap (λ (l : List Region). length l) (sym h.regions) ∙ length-map items region_value in
    ap (λ (n : ℕ). map region_value (take n items)) count ∙ ap (map region_value) (take-length items) ∙ h.regions

pub number_found : (region : Name) (c : Contents) (found : Layout) (n : Option ℕ) → HasLayout c.instance found → n ≡ first_where (λ r. same_name r.name region) (map region_value (take found.directory.regions found.regions.items)) → region_number region c ≡ n
number_found region c found n h e = ap (first_where (λ r. same_name r.name region)) (sym (regions_found c.instance found h)) ∙ sym e

-- contents with the regions that were found
pub some_contents : (region : Name) (found : Layout) (number : ℕ) → Some number ≡ first_where (λ r. same_name r.name region) (map region_value (take found.directory.regions found.regions.items)) → (c : Contents) × (region_number region c ≡ Some number)
some_contents region found number e = (record { instance = Create [] (map region_value (take found.directory.regions found.regions.items)) ∷ []; starts = λ r. []; epochs = λ r. []; texts = []; losts = []; sequence = [] }, sym e)

twice_by : (b : Bool) → b ≡ true → (if b then Some TwiceMapped else None) ≡ Some TwiceMapped
twice_by true e = refl
twice_by false e = cc

once_by : (b : Bool) → (b ≡ true → ⊥) → (if b then Some TwiceMapped else None) ≡ None
once_by true f = absurd (f refl)
once_by false f = refl

-- the directory's test is that of the site's patterns
pub twice_found : (text : List ℕ) (c : Contents) (found : Layout) → HasLayout c.instance found → is_mapped found.directory.patterns (ends_in_star text) (stem text) ≡ true → twice_mapped text c.instance ≡ Some TwiceMapped
twice_found text c found h e = twice_by (list_any (is_written text) (patterns c.instance)) (ap (λ m. is_mapped m.patterns (ends_in_star text) (stem text)) (sym h.directory) ∙ e)

pub once_found : (text : List ℕ) (c : Contents) (found : Layout) → HasLayout c.instance found → (is_mapped found.directory.patterns (ends_in_star text) (stem text) ≡ true → ⊥) → twice_mapped text c.instance ≡ None
once_found text c found h f = once_by (list_any (is_written text) (patterns c.instance)) (λ e. f (ap (λ m. is_mapped m.patterns (ends_in_star text) (stem text)) h.directory ∙ e))

pub free_found : (region : Name) (number : ℕ) (text : List ℕ) (found : Layout) → found.generation ≡ 0 → number < found.directory.regions
    → Some number ≡ first_where (λ r. same_name r.name region) (map region_value (take found.directory.regions found.regions.items))
    → (is_mapped found.directory.patterns (ends_in_star text) (stem text) ≡ true → ⊥) → (c : Contents) → HasLayout c.instance found → IsUnmappedIn region number text c
free_found region number text found none inside e once c h = record {
  unbegun = sym h.generation ∙ none;
  named = number_found region c found (Some number) h e;
  inside = subst (λ (n : ℕ). number < n) (ap (λ m. m.regions) h.directory) inside;
  once = once_found text c found h once;
}

-- nothing is against it, whatever site stands there
pub free_in : (o : Option Files) (region : Name) (number : ℕ) (text : List ℕ) (found : Layout) → FoundIn o (Some found) → found.generation ≡ 0 → number < found.directory.regions
    → Some number ≡ first_where (λ r. same_name r.name region) (map region_value (take found.directory.regions found.regions.items))
    → (is_mapped found.directory.patterns (ends_in_star text) (stem text) ≡ true → ⊥) → IfSome o (λ files. (c : Contents) → IsSite files c → IsUnmappedIn region number text c)
free_in None region number text found h none inside e once = h
free_in (Some f) region number text found h none inside e once = λ c site. free_found region number text found none inside e once c (h c (inr site)).1

-- The refusals. The records of the instance file are what was found, on a disk that tells its bytes.

refused_by : (w : View) (region : Name) (text : List ℕ) (name : Name) (rs : List InstanceRecord) (cause : Cause) → IfSome w.content (λ files. IsInstance (files INSTANCE) rs) → site_name rs ≡ name → unmapped_by region text rs ≡ Some cause
    → IfSome w.content (UnmappedBy region text name cause)
refused_by w region text name rs cause told named e = if_some w.content _ (UnmappedBy region text name cause) (λ f i. (rs, i, (named, e))) told

pub found_started : (region : Name) (text : List ℕ) (w : View) (s : Site) (found : FoundSite) (before now : List ℕ) → IsFoundIn w found → site_name found.log.records ≡ s.name → FoundIn w.content (Some found.layout) → 0 < found.layout.generation → now ≡ before ++ line s.name (codes "STARTED") → MapsAt region text w s w s before now false
found_started region text w s found before now told named f some t p h =
    let rs = found.log.records in
    map_refused region text w s Started before now (inl refl) (refused_by w region text s.name rs Started told.told named (by_started region text rs (subst (λ (n : ℕ). 0 < n) told.layout.generation some))) t p h
    (λ sure. refused_started region text p sure (subst (λ (n : ℕ). 0 < n) (layout_at w s p found.layout f h sure).generation some))

pub found_no_region : (region : Name) (text : List ℕ) (w : View) (s : Site) (found : FoundSite) (before now : List ℕ) → IsFoundIn w found → site_name found.log.records ≡ s.name → FoundIn w.content (Some found.layout) → found.layout.generation ≡ 0
    → None ≡ first_where (λ r. same_name r.name region) (map region_value (take found.layout.directory.regions found.layout.regions.items)) → now ≡ before ++ line s.name (codes "NOREGION " ++ region) → MapsAt region text w s w s before now false
found_no_region region text w s found before now told named f none e t p h =
    let rs = found.log.records in
    map_refused region text w s (NoRegion region) before now (inr (inl refl))
    (refused_by w region text s.name rs (NoRegion region) told.told named (by_no_region region text rs (sym told.layout.generation ∙ none) (number_found region (of_records rs) found.layout None told.layout e))) t p h (λ sure.
    let l = layout_at w s p found.layout f h sure in
    refused_no_region region text p sure (sym l.generation ∙ none) (number_found region p.now found.layout None l e))

pub found_twice : (region : Name) (text : List ℕ) (w : View) (s : Site) (found : FoundSite) (number : ℕ) (before now : List ℕ) → IsFoundIn w found → site_name found.log.records ≡ s.name → FoundIn w.content (Some found.layout) → found.layout.generation ≡ 0
    → Some number ≡ first_where (λ r. same_name r.name region) (map region_value (take found.layout.directory.regions found.layout.regions.items)) → is_mapped found.layout.directory.patterns (ends_in_star text) (stem text) ≡ true
    → now ≡ before ++ line s.name (codes "TWICEMAPPED") → MapsAt region text w s w s before now false
found_twice region text w s found number before now told named f none e twice t p h =
    let rs = found.log.records in
    map_refused region text w s TwiceMapped before now (inr (inr refl))
    (refused_by w region text s.name rs TwiceMapped told.told named (by_twice region text rs number (sym told.layout.generation ∙ none) (number_found region (of_records rs) found.layout (Some number) told.layout e) (twice_found text (of_records rs) found.layout told.layout twice))) t p h (λ sure.
    let l = layout_at w s p found.layout f h sure in
    refused_twice region text p number sure (sym l.generation ∙ none) (number_found region p.now found.layout (Some number) l e) (twice_found text p.now found.layout l twice))

-- and nothing is against it
pub free_by : (region : Name) (text : List ℕ) (w : View) (found : FoundSite) (number : ℕ) → IsFoundIn w found → found.layout.generation ≡ 0
    → Some number ≡ first_where (λ r. same_name r.name region) (map region_value (take found.layout.directory.regions found.layout.regions.items))
    → (is_mapped found.layout.directory.patterns (ends_in_star text) (stem text) ≡ true → ⊥) → unmapped_by region text found.log.records ≡ None
free_by region text w found number told none e once =
    let rs = found.log.records in
    by_nothing region text rs number (sym told.layout.generation ∙ none) (number_found region (of_records rs) found.layout (Some number) told.layout e) (once_found text (of_records rs) found.layout told.layout once)

-- the search of a region, by the name that was asked for
pub by_name : (found : Layout) (o : Option ℕ) (name n : List ℕ) → n ≡ name → o ≡ first_where (λ r. same_name r.name n) (map region_value (take found.directory.regions found.regions.items))
    → o ≡ first_where (λ r. same_name r.name name) (map region_value (take found.directory.regions found.regions.items))
by_name found o name n e h = h ∙ ap (λ (x : List ℕ). first_where (λ r. same_name r.name x) (map region_value (take found.directory.regions found.regions.items))) e

-- the site that was found has the name that was asked for
pub called : (found name n : List ℕ) (named : Bool) {own : List ℕ} → own ≡ found → n ≡ name → named ≡ same_name found n → named ≡ true → own ≡ name
called found name n named own is same sure = own ∙ names_same found name (ap (same_name found) (sym is) ∙ sym same ∙ sure)
