use Rattle.std.proofs.Common.{◌≡◌, List, Vec, Global, length, map, sym, ◌∙◌, ap, subst, arith}
use Rattle.journal_defs.specs.Instance.{regions}
use Rattle.entry_index.specs.declared.placed.PlacedSign.{PlacedSign}
use Rattle.region_opening.specs.Signs.{AllSay}
use Rattle.site_store.specs.Standing.{found_signs}
use Rattle.site_store.proofs.Without.{none_is, first_told}
use Rattle.site_store.proofs.needing.first_needing.Goals as goal
use Rattle.gated_file.proofs.Begins.{if_ok}

pub first_without_images-requires : goal.first_without_images-requires
first_without_images-requires c =
    let many = c.requires.has.signs in
    let few = c.requires.has.form.few_regions in
    let same : length c.deref.result.now ≡ length c.args.found.now.read.signs.items = ap length c.deref.ensures.value in
    omega (arith, many, few, same)

pub returns-clause-none : goal.returns-clause-none
returns-clause-none c =
    let rs = c.args.found.now.read.log.records in
    let signs = c.deref.result.now in
    let many : length signs ≡ length (regions rs) = ap length c.deref.ensures.value ∙ c.requires.has.signs in
    if_ok c.first_without_images.result _ _ c.first_without_images.ensures.none (λ found none is journal say.
    none_is rs c.args.target (length signs) journal many (none is journal (subst (λ (l : List (Vec PlacedSign Global)). AllSay rs c.args.target (map (λ s. s.items) l) journal) (sym c.deref.ensures.value) say)))

pub returns-clause-first : goal.returns-clause-first
returns-clause-first c =
    let rs = c.args.found.now.read.log.records in
    let signs = c.deref.result.now in
    let many : length signs ≡ length (regions rs) = ap length c.deref.ensures.value ∙ c.requires.has.signs in
    if_ok c.first_without_images.result _ _ c.first_without_images.ensures.first (λ found first.
    first_told rs c.args.target (length signs) many (λ journal. AllSay rs c.args.target (found_signs c.args.found.now) journal) (λ journal. AllSay rs c.args.target (map (λ s. s.items) signs) journal)
    (λ journal say. subst (λ (l : List (Vec PlacedSign Global)). AllSay rs c.args.target (map (λ s. s.items) l) journal) (sym c.deref.ensures.value) say) found first)
