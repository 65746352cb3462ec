use Rattle.std.proofs.Common.{◌≡◌, ◌<◌, ◌≤◌, min, ℕ, Bool, List, length, take, get_or, sym, ◌∙◌, ap, subst, arith, add-one, nat_eq}
use Rattle.std.specs.Cmp.Lexicographic.{pointwise}
use Rattle.global_defs.specs.Region.{Region}
use Rattle.site_defs.specs.Lists.{first_where}
use Rattle.site_defs.specs.Contents.{same_name}
use Rattle.site_store.specs.declared.layout.RegionSpec.{RegionSpec}
use Rattle.site_store.specs.Opening.{region_value}
use Rattle.site_runner.proofs.FirstWhere.{found, one_more, first_map, all_taken}
use Rattle.site_runner.proofs.Written.{take_least}
use Rattle.site_runner.proofs.mapping.region_named.Goals as goal

pub returns-then-eq-clause-number : goal.returns-then-eq-clause-number
returns-then-eq-clause-number c =
    let name = c.args.name.now in
    let items = c.args.found.now.regions.items in
    let most = c.args.found.now.directory.regions in
    let t : RegionSpec → Bool = λ (r : RegionSpec). same_name r.name name in
    let count : c.min-count.result ≡ min (length items) most = omega (arith, c.min-count.ensures, c.from.ensures, c.regions.ensures.count, c.len.ensures) in
    let all : take c.min-count.result items ≡ take most items = ap (λ (n : ℕ). take n items) count ∙ take_least items most in
    let xs = take c.min-count.result items in
    let same : take c.min-count.result c.deref.result.now ≡ xs = ap (take c.min-count.result) c.deref.ensures.value in
    let at = ap (λ (ys : List RegionSpec). get_or ys c.loop-number.number c.region-item.result) same in
    let k : c.loop-number.number < length xs = subst (λ (ys : List RegionSpec). c.loop-number.number < length ys) same c.loop-number-test.true in
    let passes : t c.region-item.result ≡ _ = sym (c.eq.ensures ∙ ap (λ (x : List ℕ). pointwise nat_eq x name) c.as_slice.ensures) ∙ c.if-eq.true in
    sym (first_map region_value (λ (r : Region). same_name r.name name) (take most items) ∙ ap (first_where t) (sym all)
    ∙ found t xs c.loop-number.number c.region-item.result c.loop-number.invariant k (ap t (sym (c.region-item.is ∙ at)) ∙ passes))

pub loop-number-preserved : goal.loop-number-preserved
loop-number-preserved c =
    let name = c.args.name.now in
    let items = c.args.found.now.regions.items in
    let t : RegionSpec → Bool = λ (r : RegionSpec). same_name r.name name in
    let xs = take c.min-count.result items in
    let same : take c.min-count.result c.deref.result.now ≡ xs = ap (take c.min-count.result) c.deref.ensures.value in
    let at = ap (λ (ys : List RegionSpec). get_or ys c.loop-number.number c.region-item.result) same in
    let k : c.loop-number.number < length xs = subst (λ (ys : List RegionSpec). c.loop-number.number < length ys) same c.loop-number-test.true in
    let fails : t c.region-item.result ≡ _ = sym (c.eq.ensures ∙ ap (λ (x : List ℕ). pointwise nat_eq x name) c.as_slice.ensures) ∙ c.if-eq.false in
    rw add-one (one_more t xs c.loop-number.number c.region-item.result c.loop-number.invariant k (ap t (sym (c.region-item.is ∙ at)) ∙ fails))

pub returns-clause-number : goal.returns-clause-number
returns-clause-number c =
    let name = c.args.name.now in
    let items = c.args.found.now.regions.items in
    let most = c.args.found.now.directory.regions in
    let t : RegionSpec → Bool = λ (r : RegionSpec). same_name r.name name in
    let count : c.min-count.result ≡ min (length items) most = omega (arith, c.min-count.ensures, c.from.ensures, c.regions.ensures.count, c.len.ensures) in
    let all : take c.min-count.result items ≡ take most items = ap (λ (n : ℕ). take n items) count ∙ take_least items most in
    let xs = take c.min-count.result items in
    let past : length xs ≤ c.loop-number.number = subst (λ (ys : List RegionSpec). length (take c.min-count.result ys) ≤ c.loop-number.number) c.deref.ensures.value c.loop-number-test.false in
    sym (first_map region_value (λ (r : Region). same_name r.name name) (take most items) ∙ ap (first_where t) (sym all)
    ∙ ap (first_where t) (sym (all_taken xs c.loop-number.number past)) ∙ c.loop-number.invariant)
