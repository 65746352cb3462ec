use Rattle.std.proofs.Common.{List, [], ◌∷◌, ◌++◌, ℕ, map, ap, sym, ◌∙◌, Bor}
use Rattle.std.proofs.lemmas.List.{map-append}
use Rattle.std.specs.Map.Iter.{deref_pair}
use Rattle.global_defs.specs.Key.{Key}
use Rattle.gvn_globals.specs.Nodes.{entries_of}
use Rattle.gvn_globals.specs.Lists.{listed_value}
use Rattle.gvn_globals.specs.declared.globals.Node.{Node}
use Rattle.gvn_globals.proofs.globals.list_between.Goals as goal

pub loop-node-preserved : goal.loop-node-preserved
loop-node-preserved c =
    let item : Bor (List ℕ) × Bor Node = (c.in-Some.field-0-0, c.in-Some.node) in
    ap (map listed_value) c.in_ok-push.ensures.items ∙ map-append listed_value c.loop-node.list.items _
    ∙ ap (λ (front : List (Key × List ℕ)). front ++ (c.in-Some.node.now.key, c.as_slice.result.now) ∷ []) c.loop-node.invariant
    ∙ ap (λ (value : List ℕ). entries_of (map deref_pair c.loop-node.yielded) ++ (c.in-Some.node.now.key, value) ∷ []) c.as_slice.ensures
    ∙ sym (ap entries_of (map-append deref_pair c.loop-node.yielded (item ∷ [])) ∙ map-append (λ e. (e.1.key, e.1.value)) (map deref_pair c.loop-node.yielded) (deref_pair item ∷ []))
