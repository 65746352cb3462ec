use Rattle.std.proofs.Common.{◌≡◌, ◌≤◌, ◌-◌, ℕ, true, List, [], ◌∷◌, ◌++◌, map, length, ◌∙◌, sym, ap}
use Rattle.std.specs.Prelude.{IfOk, Bool}
use Rattle.std.specs.List.{list_all, IsDistinct}
use Rattle.std.specs.Str.{bytes_eq}
use Rattle.std.specs.declared.result.Result.{Result}
use Rattle.std.specs.declared.result.Result.TheVariants.{Ok, Err}
use Rattle.global_defs.specs.declared.limits.TheConstants.{MOST_REGIONS}
use Rattle.global_defs.specs.Region.{Region}
use Rattle.gvn_model.specs.Regions.{named_region}
use Rattle.command_defs.specs.Commands.{region_form, regions_behind, regions_reading}
use Rattle.command_defs.specs.Parts.{followed, taken, is_name}
use Rattle.command_defs.proofs.RegionForms.{regions_formed}
use Rattle.repl_script.specs.Reads.{Reads}
use Rattle.repl_script.specs.declared.fault.Fault.{Fault}
use Rattle.repl_script.proofs.regions.read_regions.Goals as goal

-- what holds of regions that were read
answered : (P : List Region → Type 0) (reading : Result (List Region) ℕ) (result : Result (List (List ℕ × Bool)) Fault) → ((regions : List Region) → reading ≡ Ok regions → P regions) → Reads (λ regions. map named_region regions) reading result → IfOk result (λ regions. P (map named_region regions))
answered P reading (Ok regions) each h = each (map named_region regions) h
answered P reading (Err fault) each h = tt

-- regions behind the first one
whole : (len : ℕ) (left : List ℕ) (region : Region) (behind : List ℕ) (none one : List (List ℕ × Bool)) → none ≡ [] → taken (region_form []) len left ≡ Ok (region, behind) → map named_region one ≡ map named_region none ++ region ∷ []
    → regions_behind 7 len behind (map named_region one) ≡ regions_reading len left
whole len left region behind none one empty read added =
    let step = λ (first : Region × List ℕ). regions_behind (MOST_REGIONS - 1) len first.1 (first.0 ∷ []) in
    ap (regions_behind 7 len behind) (added ∙ ap (λ (rs : List (List ℕ × Bool)). map named_region rs ++ region ∷ []) empty) ∙ sym (ap (λ (r : Result (Region × List ℕ) ℕ). followed r step) read)

pub returns-clause-names : goal.returns-clause-names
returns-clause-names c =
    let e = whole c.args.len c.args.left.now (named_region (c.in_ok-first.first.name.now, c.in_ok-first.first.before)) c.in_ok-first.first.behind.now c.new-regions.result c.add_region.new.regions c.new-regions.ensures c.in_ok-first.ensures c.in_ok-add_region.ensures in
    answered (λ rs. list_all (λ r. is_name r.name) rs ≡ true) _ c.more_regions.result (λ rs h. (regions_formed c.args.len c.args.left.now rs (sym e ∙ h)).0) c.more_regions.ensures

pub returns-clause-some : goal.returns-clause-some
returns-clause-some c =
    let e = whole c.args.len c.args.left.now (named_region (c.in_ok-first.first.name.now, c.in_ok-first.first.before)) c.in_ok-first.first.behind.now c.new-regions.result c.add_region.new.regions c.new-regions.ensures c.in_ok-first.ensures c.in_ok-add_region.ensures in
    answered (λ rs. 1 ≤ length rs) _ c.more_regions.result (λ rs h. (regions_formed c.args.len c.args.left.now rs (sym e ∙ h)).1) c.more_regions.ensures

pub returns-clause-few : goal.returns-clause-few
returns-clause-few c =
    let e = whole c.args.len c.args.left.now (named_region (c.in_ok-first.first.name.now, c.in_ok-first.first.before)) c.in_ok-first.first.behind.now c.new-regions.result c.add_region.new.regions c.new-regions.ensures c.in_ok-first.ensures c.in_ok-add_region.ensures in
    answered (λ rs. length rs ≤ 8) _ c.more_regions.result (λ rs h. (regions_formed c.args.len c.args.left.now rs (sym e ∙ h)).2) c.more_regions.ensures

pub returns-clause-different : goal.returns-clause-different
returns-clause-different c =
    let e = whole c.args.len c.args.left.now (named_region (c.in_ok-first.first.name.now, c.in_ok-first.first.before)) c.in_ok-first.first.behind.now c.new-regions.result c.add_region.new.regions c.new-regions.ensures c.in_ok-first.ensures c.in_ok-add_region.ensures in
    answered (λ rs. IsDistinct bytes_eq (map (λ r. r.name) rs)) _ c.more_regions.result (λ rs h. (regions_formed c.args.len c.args.left.now rs (sym e ∙ h)).3) c.more_regions.ensures
