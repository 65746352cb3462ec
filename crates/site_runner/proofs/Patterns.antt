-- What mapping a pattern makes of contents, and the refusals of it.
use Rattle.std.proofs.Common.{◌≡◌, ℕ, ◌<◌, max, nat_lt, Bool, true, false, List, [], ◌∷◌, ◌++◌, length, None, Some, refl, sym, ◌∙◌, ap, subst, arith, inl, inr, if◌then◌else◌}
use Rattle.std.specs.Prelude.{Option}
use Rattle.std.proofs.lemmas.Bool.{le-leb}
use Rattle.journal_defs.specs.Instance.{InstanceRecord, Create, Reigned, Cut, Map, Mode, generation, regions, pattern_record}
use Rattle.command_defs.specs.Commands.{Name}
use Rattle.site_defs.specs.Lists.{Among, first_where}
use Rattle.world_defs.specs.World.{Place}
use Rattle.site_defs.specs.Contents.{Contents, same_name}
use Rattle.world_defs.specs.Answers.{Cause, Started, NoRegion, TwiceMapped}
use Rattle.world_defs.specs.Row.{first}
use Rattle.world_defs.specs.rows.Map.{started, no_region_at, twice_mapped, unmapped_by, unmapped}
use Rattle.site_defs.specs.Limits.{region_number}
use Rattle.site_defs.specs.Opening.{with_pattern, MayMap}
use Rattle.world_laws.proofs.ContentsFit.{name-pattern}
use Rattle.site_runner.specs.Sites.{IsOf}

-- with the pattern for the region of that number, or the same where there is none
abbrev pub mapped_to : Option ℕ → List ℕ → Contents → Contents
mapped_to None text c = c
mapped_to (Some number) text c = with_pattern number text c

-- what mapping may leave of any of these
abbrev pub maps : Name → List ℕ → List Contents → List Contents
maps region text [] = []
maps region text (c ∷ cs) = c ∷ mapped_to (region_number region c) text c ∷ maps region text cs

may_map_to : (region : Name) (text : List ℕ) (c : Contents) (n : Option ℕ) → region_number region c ≡ n → MayMap region text c (mapped_to n text c)
may_map_to region text c None e = inl refl
may_map_to region text c (Some number) e = inr (number, e, refl)

pub among_maps : (region : Name) (text : List ℕ) (cs : List Contents) (o : Contents) → Among (maps region text cs) o → (c : Contents) × Among cs c × MayMap region text c o
among_maps region text [] o h = absurd h
among_maps region text (c ∷ cs) o (inl e) = (c, inl refl, inl e)
among_maps region text (c ∷ cs) o (inr (inl e)) = (c, inl refl, subst (MayMap region text c) (sym e) (may_map_to region text c (region_number region c) refl))
among_maps region text (c ∷ cs) o (inr (inr h)) = let k = among_maps region text cs o h in (k.0, inr k.1, k.2)

maps_of : (region : Name) (text : List ℕ) (c : Contents) (cs : List Contents) (o : Contents) → MayMap region text c o → Among (maps region text (c ∷ cs)) o
maps_of region text c cs o (inl e) = inl e
maps_of region text c cs o (inr m) = inr (inl (m.2 ∙ sym (ap (λ (n : Option ℕ). mapped_to n text c) m.1)))

pub maps_among : (region : Name) (text : List ℕ) (cs : List Contents) (c o : Contents) → Among cs c → MayMap region text c o → Among (maps region text cs) o
maps_among region text [] c o a m = absurd a
maps_among region text (d ∷ cs) c o (inl e) m = maps_of region text d cs o (subst (λ (x : Contents). MayMap region text x o) e m)
maps_among region text (d ∷ cs) c o (inr a) m = inr (inr (maps_among region text cs c o a m))

-- A site stays the same one as it gains a pattern.

made_more : (rs : List InstanceRecord) (x : InstanceRecord) → nat_lt 0 (length (rs ++ x ∷ [])) ≡ true
made_more [] x = refl
made_more (r ∷ rs) x = le-leb 1 (length ((r ∷ rs) ++ x ∷ [])) (omega arith)

pub of_pattern : (name : Name) (number : ℕ) (text : List ℕ) (c : Contents) → IsOf name c → IsOf name (with_pattern number text c)
of_pattern name number text c h = record { made = made_more c.instance (pattern_record number text); name = name-pattern number text c ∙ h.name }

pub of_may_map : (name region : Name) (text : List ℕ) (c o : Contents) → IsOf name c → MayMap region text c o → IsOf name o
of_may_map name region text c o h (inl e) = subst (IsOf name) (sym e) h
of_may_map name region text c o h (inr m) = subst (IsOf name) (sym m.2) (of_pattern name m.0 text c h)

-- a pattern draws no generation
pub generation_map : (rs : List InstanceRecord) (region : ℕ) (star : Bool) (name : List ℕ) → generation (rs ++ Map region star name ∷ []) ≡ generation rs
generation_map [] region star name = refl
generation_map (Create called parts ∷ rs) region star name = generation_map rs region star name
generation_map (Reigned r ∷ rs) region star name = generation_map rs region star name
generation_map (Cut n g ∷ rs) region star name = ap (max g) (generation_map rs region star name)
generation_map (Map other with_star stem ∷ rs) region star name = generation_map rs region star name
generation_map (Mode other before ∷ rs) region star name = generation_map rs region star name

-- The causes of a refusal, by the records of the instance file.

-- the region of that name, by records
abbrev number_in : Name → List InstanceRecord → Option ℕ
number_in region rs = first_where (λ r. same_name r.name region) (regions rs)

unmapped_of : (region : Name) (text : List ℕ) (rs : List InstanceRecord) (x y z : Option Cause) → started rs ≡ x → no_region_at region (number_in region rs) ≡ y → twice_mapped text rs ≡ z
    → unmapped_by region text rs ≡ first (x ∷ y ∷ z ∷ [])
unmapped_of region text rs x y z ex ey ez =
    ap (λ (a : Option Cause). first (a ∷ no_region_at region (number_in region rs) ∷ twice_mapped text rs ∷ [])) ex
    ∙ ap (λ (a : Option Cause). first (x ∷ a ∷ twice_mapped text rs ∷ [])) ey
    ∙ ap (λ (a : Option Cause). first (x ∷ y ∷ a ∷ [])) ez

-- its journals have begun
is_started : (rs : List InstanceRecord) → 0 < generation rs → started rs ≡ Some Started
is_started rs h = let e : nat_lt 0 (generation rs) ≡ true = le-leb 1 (generation rs) h in rw e refl

not_started : (rs : List InstanceRecord) → generation rs ≡ 0 → started rs ≡ None
not_started rs h = rw h refl

pub by_started : (region : Name) (text : List ℕ) (rs : List InstanceRecord) → 0 < generation rs → unmapped_by region text rs ≡ Some Started
by_started region text rs h = unmapped_of region text rs (Some Started) _ _ (is_started rs h) refl refl

pub by_no_region : (region : Name) (text : List ℕ) (rs : List InstanceRecord) → generation rs ≡ 0 → number_in region rs ≡ None → unmapped_by region text rs ≡ Some (NoRegion region)
by_no_region region text rs h e = unmapped_of region text rs None (Some (NoRegion region)) _ (not_started rs h) (ap (no_region_at region) e) refl

pub by_twice : (region : Name) (text : List ℕ) (rs : List InstanceRecord) (number : ℕ) → generation rs ≡ 0 → number_in region rs ≡ Some number → twice_mapped text rs ≡ Some TwiceMapped → unmapped_by region text rs ≡ Some TwiceMapped
by_twice region text rs number h e twice = unmapped_of region text rs None None (Some TwiceMapped) (not_started rs h) (ap (no_region_at region) e) twice

pub by_nothing : (region : Name) (text : List ℕ) (rs : List InstanceRecord) (number : ℕ) → generation rs ≡ 0 → number_in region rs ≡ Some number → twice_mapped text rs ≡ None → unmapped_by region text rs ≡ None
by_nothing region text rs number h e once = unmapped_of region text rs None None None (not_started rs h) (ap (no_region_at region) e) once

-- where the site's files are known

unmapped_told : (region : Name) (text : List ℕ) (p : Place) → p.told ≡ true → unmapped region text p ≡ unmapped_by region text p.now.instance
unmapped_told region text p sure = ap (λ (b : Bool). if b then unmapped_by region text p.now.instance else None) sure

pub unmapped_unknown : (region : Name) (text : List ℕ) (p : Place) → p.told ≡ false → unmapped region text p ≡ None
unmapped_unknown region text p unsure = ap (λ (b : Bool). if b then unmapped_by region text p.now.instance else None) unsure

pub refused_started : (region : Name) (text : List ℕ) (p : Place) → p.told ≡ true → 0 < generation p.now.instance → unmapped region text p ≡ Some Started
refused_started region text p sure h = unmapped_told region text p sure ∙ by_started region text p.now.instance h

pub refused_no_region : (region : Name) (text : List ℕ) (p : Place) → p.told ≡ true → generation p.now.instance ≡ 0 → region_number region p.now ≡ None → unmapped region text p ≡ Some (NoRegion region)
refused_no_region region text p sure h e = unmapped_told region text p sure ∙ by_no_region region text p.now.instance h e

pub refused_twice : (region : Name) (text : List ℕ) (p : Place) (number : ℕ) → p.told ≡ true → generation p.now.instance ≡ 0 → region_number region p.now ≡ Some number → twice_mapped text p.now.instance ≡ Some TwiceMapped
    → unmapped region text p ≡ Some TwiceMapped
refused_twice region text p number sure h e twice = unmapped_told region text p sure ∙ by_twice region text p.now.instance number h e twice

pub not_refused : (region : Name) (text : List ℕ) (p : Place) (number : ℕ) → p.told ≡ true → generation p.now.instance ≡ 0 → region_number region p.now ≡ Some number → twice_mapped text p.now.instance ≡ None
    → unmapped region text p ≡ None
not_refused region text p number sure h e once = unmapped_told region text p sure ∙ by_nothing region text p.now.instance number h e once
