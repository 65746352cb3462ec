use Rattle.std.proofs.Common.{◌≡◌, ℕ, ◌<◌, List, Vec, Global, map, length, refl, sym, ◌∙◌, arith}
use Rattle.entry_index.specs.declared.placed.PlacedSign.{PlacedSign}
use Rattle.region_opening.specs.declared.needing.WithoutImages.{WithoutImages}
use Rattle.region_opening.proofs.Needs.{none_yet, none_more, found_first, none_whole, first_whole}
use Rattle.region_opening.proofs.needing.first_without_images.Goals as goal

pub loop-number-init : goal.loop-number-init
loop-number-init c = λ journal say. none_yet c.args.instance.now c.args.target journal

pub loop-number-preserved : goal.loop-number-preserved
loop-number-preserved c =
    none_more c.args.instance.now c.args.target (map (λ (s : Vec PlacedSign Global). s.items) c.args.signs.now) c.loop-number.number _ c.in_ok-generation.field-0 c.loop-number.invariant c.signs_at-region.ensures
    c.in_ok-generation.ensures c.in_default.is

pub returns-in-Some-clause-first : goal.returns-in-Some-clause-first
returns-in-Some-clause-first c =
    let rs = c.args.instance.now in
    let t = c.args.target in
    let signs : List (List PlacedSign) = map (λ (s : Vec PlacedSign Global). s.items) c.args.signs.now in
    let many : ℕ = length c.args.signs.now in
    let n : ℕ = c.loop-number.number in
    let low : n < many = omega (arith, c.loop-number-test.true) in
    let x : WithoutImages = record { region = n; generation = c.in-Some.generation } in
    first_whole rs t signs many x (found_first rs t signs n many c.signs_at-region.result.now c.in_ok-generation.field-0 x low refl c.loop-number.invariant c.signs_at-region.ensures c.in_ok-generation.ensures c.in-Some.is)

pub returns-clause-none : goal.returns-clause-none
returns-clause-none c = λ is.
    let rs = c.args.instance.now in
    let t = c.args.target in
    let signs : List (List PlacedSign) = map (λ (s : Vec PlacedSign Global). s.items) c.args.signs.now in
    none_whole rs t signs (length c.args.signs.now) (λ journal say r low. c.loop-number.invariant journal say r (omega (arith, low, c.loop-number-test.false)))
