use Rattle.std.proofs.Common.{◌≡◌, ◌==◌, ℕ, List, false, map, take, sym, ◌∙◌, ap, arith}
use Rattle.std.proofs.lemmas.Bool.Decides.{nat_tests}
use Rattle.std.specs.List.{list_all}
use Rattle.std.specs.FinMap as globals
use Rattle.global_defs.specs.Key.{Key}
use Rattle.journal_defs.specs.Directory.{region_of}
use Rattle.gvt_leaf.specs.Listed.{node_value}
use Rattle.region_opening.specs.Opening.{are_home}
use Rattle.region_opening.proofs.Homes.{none_home, one_home, not_part, not_first_part}
use Rattle.region_opening.proofs.checking.may_be_its_own.Goals as goal

pub returns-then-entries-eq0-clause-home : goal.returns-then-entries-eq0-clause-home
returns-then-entries-eq0-clause-home c is =
    let none : globals.len c.args.region.now.globals ≡ 0 = grind (arith, nat_tests, is, c.nodes.ensures) in
    none_home c.args.directory.now.patterns c.args.number c.args.region.now.globals none

pub returns-then-entries-eq0-clause-none : goal.returns-then-entries-eq0-clause-none
returns-then-entries-eq0-clause-none c is first =
    let none : globals.len c.args.region.now.globals ≡ 0 = grind (arith, nat_tests, is, c.nodes.ensures) in
    globals.empty_of_len c.args.region.now.globals none

pub returns-then-entries-eq0-clause-others : goal.returns-then-entries-eq0-clause-others
returns-then-entries-eq0-clause-others c is seq same =
    not_first_part c.args.directory.now.patterns c.args.number c.args.entries c.args.region.now.globals seq c.if-entries-eq0.true (λ none. grind (arith, nat_tests, is, c.nodes.ensures, none)) same

pub returns-clause-home : goal.returns-clause-home
returns-clause-home c is =
    let test = λ (e : Key × List ℕ). region_of c.args.directory.now.patterns e.0.name == c.args.number in
    let listed : map node_value c.deref.result.now ≡ globals.entries c.args.region.now.globals = ap (map node_value) c.deref.ensures.value ∙ c.in_ok-nodes.ensures in
    ap (list_all test) (sym listed) ∙ sym c.are_home.ensures ∙ is

pub returns-clause-others : goal.returns-clause-others
returns-clause-others c is seq same =
    let test = λ (e : Key × List ℕ). region_of c.args.directory.now.patterns e.0.name == c.args.number in
    let listed : map node_value c.deref.result.now ≡ globals.entries c.args.region.now.globals = ap (map node_value) c.deref.ensures.value ∙ c.in_ok-nodes.ensures in
    let away : are_home c.args.directory.now.patterns c.args.number c.args.region.now.globals ≡ false = ap (list_all test) (sym listed) ∙ sym c.are_home.ensures ∙ is in
    not_part c.args.directory.now.patterns c.args.number c.args.region.now.globals (take c.args.entries seq) away same

pub returns-then-regions-eq1-clause-home : goal.returns-then-regions-eq1-clause-home
returns-then-regions-eq1-clause-home c is =
    let one = c.if-regions-eq1.true in
    let inside = c.requires in
    one_home c.args.directory.now.patterns c.args.number c.args.region.now.globals (λ name. let low = c.regions.ensures.there name in grind (arith, nat_tests, one, low)) (let count = c.regions.ensures.count in grind (arith, nat_tests, one, inside, count))
