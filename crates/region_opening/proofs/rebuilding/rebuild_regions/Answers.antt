use Rattle.std.proofs.Common.{◌≡◌, ◌∙◌, ◌≤◌, ℕ, List, Vec, Global, [], map, take, slice_get, Some, IfSome, true, sym, ap, subst, arith}
use Rattle.std.proofs.lemmas.Result.{err_from_is_err_and}
use Rattle.global_defs.specs.Entry.{Sequence}
use Rattle.journal_defs.specs.Directory.{Pattern, patterns}
use Rattle.journal_defs.specs.Sound.{region_state}
use Rattle.journal_defs.specs.Surviving.{reigns}
use Rattle.entry_index.specs.declared.placed.PlacedSign.{PlacedSign}
use Rattle.entry_index.specs.Found.{entry_count}
use Rattle.entry_index.specs.Indexes.{Indexes}
use Rattle.entry_index.specs.Signs.{signs_of}
use Rattle.region_store.specs.Region.{Standing}
use Rattle.region_store.specs.declared.error.RegionError.TheVariants.{NotAFile}
use Rattle.region_store.proofs.Handed.{handed_on}
use Rattle.region_store.specs.Joined.{ArePartsOf, joined}
use Rattle.region_opening.specs.Opening.{are_home}
use Rattle.region_opening.proofs.Opened.{AreGivenRefused, have_parts, empty_parts, anew_parts, anew_state, anew_told, files_are, held_told}
use Rattle.region_opening.proofs.rebuilding.rebuild_regions.Goals as goal
use Rattle.entry_index.specs.Parts.{InFiles}

pub open_each-requires-clause-target : goal.open_each-requires-clause-target
open_each-requires-clause-target g c = let all : c.len-target.result ≡ entry_count c.args.entries.now = c.len-target.ensures.count in omega (arith, all)

pub new-requires-clause-parts : goal.new-requires-clause-parts
new-requires-clause-parts g c = have_parts c.args.directory.patterns c.in_ok-regions.regions.items (λ r s here.
    subst (λ (ps : List Pattern). are_home ps r s.globals ≡ true) (sym c.requires.patterns) (c.in_ok-regions.ensures.own r s here).home)

pub returns-clause-files : goal.returns-clause-files
returns-clause-files g c = files_are (patterns c.args.instance.now) c.len-target.result c.in_ok-regions.regions.items c.in_ok-new.field-0.regions c.in_ok-new.ensures.regions c.in_ok-regions.ensures.own

pub returns-clause-none : goal.returns-clause-none
returns-clause-none g c no_entry =
    c.in_ok-new.ensures.joined [] (subst (λ (ps : List Pattern). ArePartsOf ps c.in_ok-regions.regions.items []) (sym c.requires.patterns)
    (empty_parts (patterns c.args.instance.now) c.in_ok-regions.regions.items c.len-target.result (c.len-target.ensures.count ∙ no_entry) c.in_ok-regions.ensures.own))

pub returns-clause-some : goal.returns-clause-some
returns-clause-some g c =
    let parts = have_parts c.args.directory.patterns c.in_ok-regions.regions.items (λ r s here.
    subst (λ (ps : List Pattern). are_home ps r s.globals ≡ true) (sym c.requires.patterns) (c.in_ok-regions.ensures.own r s here).home) in
    (parts.0, c.in_ok-new.ensures.joined parts.0 parts.1)

pub returns-clause-state : goal.returns-clause-state
returns-clause-state g c =
    let o = (g.D.Disk.disk c.args.disk.now).content in
    let instance = c.args.instance.now in
    let index = c.args.entries.now in
    let some : 1 ≤ index.regions = omega (arith, c.requires.regions, c.regions.ensures.count, c.regions.ensures.some) in
    let t = c.len-target.result in
    let all : t ≡ entry_count index = c.len-target.ensures.count in
    let empty : map (λ (s : Vec PlacedSign Global). s.items) c.deref.result.now ≡ [] = ap (map (λ (s : Vec PlacedSign Global). s.items)) (c.deref.ensures.value ∙ c.new-signs.ensures.items) in
    let rs = c.in_ok-regions.regions.items in
    let told : (r : ℕ) (s : Standing) → slice_get rs r ≡ Some s → IfSome o (λ files. (seq : Sequence) → Indexes (InFiles files) (reigns instance) index seq → s.globals ≡ region_state (patterns instance) r (take t seq)) =
    (λ r s here. c.in_ok-regions.ensures.anew r s here (ap (λ (ss : List (List PlacedSign)). signs_of ss r) empty)) in
    anew_state o instance index t some all rs told c.args.directory.patterns c.requires.patterns (joined c.in_ok-new.field-0) c.in_ok-new.ensures.joined

pub returns-clause-parts : goal.returns-clause-parts
returns-clause-parts g c =
    let o = (g.D.Disk.disk c.args.disk.now).content in
    let instance = c.args.instance.now in
    let index = c.args.entries.now in
    let some : 1 ≤ index.regions = omega (arith, c.requires.regions, c.regions.ensures.count, c.regions.ensures.some) in
    let t = c.len-target.result in
    let all : t ≡ entry_count index = c.len-target.ensures.count in
    let empty : map (λ (s : Vec PlacedSign Global). s.items) c.deref.result.now ≡ [] = ap (map (λ (s : Vec PlacedSign Global). s.items)) (c.deref.ensures.value ∙ c.new-signs.ensures.items) in
    let rs = c.in_ok-regions.regions.items in
    let told : (r : ℕ) (s : Standing) → slice_get rs r ≡ Some s → IfSome o (λ files. (seq : Sequence) → Indexes (InFiles files) (reigns instance) index seq → s.globals ≡ region_state (patterns instance) r (take t seq)) =
    (λ r s here. c.in_ok-regions.ensures.anew r s here (ap (λ (ss : List (List PlacedSign)). signs_of ss r) empty)) in
    anew_parts o instance index t some all rs told c.args.directory.patterns c.requires.patterns c.in_ok-new.field-0.regions c.in_ok-new.ensures.regions

pub returns-clause-held : goal.returns-clause-held
returns-clause-held g c = held_told (g.D.Disk.disk c.args.disk.now).content c.in_ok-regions.regions.items c.in_ok-new.field-0.regions c.in_ok-new.ensures.regions c.in_ok-regions.ensures.held

pub returns-in_err-regions-clause-outside : goal.returns-in_err-regions-clause-outside
returns-in_err-regions-clause-outside g c =
    let o = (g.D.Disk.disk c.args.disk.now).content in
    let instance = c.args.instance.now in
    let index = c.args.entries.now in
    let some : 1 ≤ index.regions = omega (arith, c.requires.regions, c.regions.ensures.count, c.regions.ensures.some) in
    let t = c.len-target.result in
    let all : t ≡ entry_count index = c.len-target.ensures.count in
    let empty : map (λ (s : Vec PlacedSign Global). s.items) c.deref.result.now ≡ [] = ap (map (λ (s : Vec PlacedSign Global). s.items)) (c.deref.ensures.value ∙ c.new-signs.ensures.items) in
    let p = err_from_is_err_and c.from_residual.result c.from_residual.ensures.1 in
    rw (p.1, p.2) (λ f offset is.
    anew_told o instance index t some all c.args.directory.regions f offset
    (subst (λ (ss : List (List PlacedSign)). IfSome o (AreGivenRefused o instance ss index t c.args.directory.regions f offset)) empty
    (c.in_err-regions.ensures.outside f offset (handed_on c.in_err-regions.field-0.0 (NotAFile f offset) is))))
