use Rattle.std.proofs.Common.{rules, ◌==◌, List, ℕ, sym, ◌∙◌, tests}
use Rattle.std.proofs.lemmas.Iterator.{YieldsList-from_slice}
use Rattle.std.proofs.lemmas.Iterator.Search.{all_from_yields_List}
use Rattle.std.proofs.lemmas.List.Folds.{list_all-map}
use Rattle.global_defs.specs.Key.{Key}
use Rattle.journal_defs.specs.Directory.{region_of}
use Rattle.gvt_leaf.specs.Listed.{node_value}
use Rattle.gvt_leaf.specs.declared.nodes.Node.{Node}
use Rattle.region_opening.proofs.checking.are_home.Goals as goal

pub returns : goal.returns
returns c =
    all_from_yields_List (λ (x : Node). region_of c.args.directory.now.patterns x.key.name == c.args.number) _ _ _ c.all.ensures.ran (YieldsList-from_slice c.args.nodes.now cc) (λ x b q k. search (rules, tests))
    ∙ sym (list_all-map (λ (e : Key × List ℕ). region_of c.args.directory.now.patterns e.0.name == c.args.number) node_value c.args.nodes.now)
