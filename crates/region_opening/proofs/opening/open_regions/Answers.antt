use Rattle.std.proofs.Common.{◌≡◌, ◌∙◌, ◌≤◌, List, Vec, Global, [], map, true, sym, subst, arith}
use Rattle.std.proofs.lemmas.Result.{err_from_is_err_and}
use Rattle.entry_index.specs.declared.placed.PlacedSign.{PlacedSign}
use Rattle.journal_defs.specs.Directory.{Pattern, patterns}
use Rattle.region_store.specs.declared.error.RegionError.TheVariants.{NotAFile}
use Rattle.region_store.proofs.Handed.{handed_on}
use Rattle.region_store.specs.Joined.{ArePartsOf, joined}
use Rattle.region_opening.specs.Opening.{are_home}
use Rattle.region_opening.proofs.Opened.{have_parts, empty_parts, files_are, parts_told, state_told, holds_told, held_told, outside_told, unsound_told}
use Rattle.region_opening.proofs.opening.open_regions.Goals as goal

pub new-requires-clause-parts : goal.new-requires-clause-parts
new-requires-clause-parts g c = have_parts c.args.directory.patterns c.in_ok-regions.regions.items (λ r s here.
    subst (λ (ps : List Pattern). are_home ps r s.globals ≡ true) (sym c.requires.patterns) (c.in_ok-regions.ensures.own r s here).home)

pub returns-clause-files : goal.returns-clause-files
returns-clause-files g c = files_are (patterns c.args.instance.now) c.args.target c.in_ok-regions.regions.items c.in_ok-new.field-0.regions c.in_ok-new.ensures.regions c.in_ok-regions.ensures.own

pub returns-clause-none : goal.returns-clause-none
returns-clause-none g c at_zero =
    c.in_ok-new.ensures.joined [] (subst (λ (ps : List Pattern). ArePartsOf ps c.in_ok-regions.regions.items []) (sym c.requires.patterns)
    (empty_parts (patterns c.args.instance.now) c.in_ok-regions.regions.items c.args.target at_zero c.in_ok-regions.ensures.own))

pub returns-clause-some : goal.returns-clause-some
returns-clause-some g c =
    let parts = have_parts c.args.directory.patterns c.in_ok-regions.regions.items (λ r s here.
    subst (λ (ps : List Pattern). are_home ps r s.globals ≡ true) (sym c.requires.patterns) (c.in_ok-regions.ensures.own r s here).home) in
    (parts.0, c.in_ok-new.ensures.joined parts.0 parts.1)

pub returns-clause-state : goal.returns-clause-state
returns-clause-state g c =
    let o = (g.D.Disk.disk c.args.disk.now).content in
    let index = c.args.entries.now in
    let signs = map (λ (s : Vec PlacedSign Global). s.items) c.args.signs.now in
    let some : 1 ≤ index.regions = omega (arith, c.requires.regions, c.regions.ensures.count, c.regions.ensures.some) in
    state_told o c.args.instance.now signs index c.args.target some c.requires.target c.args.directory.patterns c.requires.patterns
    c.in_ok-regions.regions.items c.in_ok-new.field-0.regions c.in_ok-new.ensures.regions (c.in_ok-regions.ensures.count ∙ c.requires.count) c.in_ok-regions.ensures.opened (joined c.in_ok-new.field-0) c.in_ok-new.ensures.joined

pub returns-clause-parts : goal.returns-clause-parts
returns-clause-parts g c =
    let o = (g.D.Disk.disk c.args.disk.now).content in
    let index = c.args.entries.now in
    let signs = map (λ (s : Vec PlacedSign Global). s.items) c.args.signs.now in
    let some : 1 ≤ index.regions = omega (arith, c.requires.regions, c.regions.ensures.count, c.regions.ensures.some) in
    parts_told o c.args.instance.now signs index c.args.target some c.requires.target c.args.directory.patterns c.requires.patterns
    c.in_ok-regions.regions.items c.in_ok-new.field-0.regions c.in_ok-new.ensures.regions (c.in_ok-regions.ensures.count ∙ c.requires.count) c.in_ok-regions.ensures.opened

pub returns-clause-holds : goal.returns-clause-holds
returns-clause-holds g c =
    let o = (g.D.Disk.disk c.args.disk.now).content in
    let index = c.args.entries.now in
    let signs = map (λ (s : Vec PlacedSign Global). s.items) c.args.signs.now in
    let some : 1 ≤ index.regions = omega (arith, c.requires.regions, c.regions.ensures.count, c.regions.ensures.some) in
    holds_told o c.args.instance.now signs index c.args.target some c.requires.target c.args.directory.patterns c.requires.patterns
    c.in_ok-regions.regions.items c.in_ok-new.field-0.regions c.in_ok-new.ensures.regions (c.in_ok-regions.ensures.count ∙ c.requires.count) c.in_ok-regions.ensures.opened

pub returns-clause-held : goal.returns-clause-held
returns-clause-held g c = held_told (g.D.Disk.disk c.args.disk.now).content c.in_ok-regions.regions.items c.in_ok-new.field-0.regions c.in_ok-new.ensures.regions c.in_ok-regions.ensures.held

pub returns-in_err-regions-clause-outside : goal.returns-in_err-regions-clause-outside
returns-in_err-regions-clause-outside g c =
    let o = (g.D.Disk.disk c.args.disk.now).content in
    let index = c.args.entries.now in
    let signs = map (λ (s : Vec PlacedSign Global). s.items) c.args.signs.now in
    let some : 1 ≤ index.regions = omega (arith, c.requires.regions, c.regions.ensures.count, c.regions.ensures.some) in
    let p = err_from_is_err_and c.from_residual.result c.from_residual.ensures.1 in
    rw (p.1, p.2) (λ f offset is aim aims.
    outside_told o c.args.instance.now signs index c.args.target c.args.directory.regions f offset some c.requires.target c.requires.count
    (c.in_err-regions.ensures.outside f offset (handed_on c.in_err-regions.field-0.0 (NotAFile f offset) is)) aim aims)

pub returns-in_err-regions-clause-unsound : goal.returns-in_err-regions-clause-unsound
returns-in_err-regions-clause-unsound g c =
    let o = (g.D.Disk.disk c.args.disk.now).content in
    let index = c.args.entries.now in
    let signs = map (λ (s : Vec PlacedSign Global). s.items) c.args.signs.now in
    let some : 1 ≤ index.regions = omega (arith, c.requires.regions, c.regions.ensures.count, c.regions.ensures.some) in
    let p = err_from_is_err_and c.from_residual.result c.from_residual.ensures.1 in
    rw (p.1, p.2) (λ f offset is.
    unsound_told o c.args.instance.now signs index c.args.target c.args.directory.regions f offset some c.requires.target c.requires.count
    (c.in_err-regions.ensures.outside f offset (handed_on c.in_err-regions.field-0.0 (NotAFile f offset) is)))
