use Rattle.std.proofs.Common.{rules, ◌≡◌, ◌∷◌, ◌++◌, [], List, refl, ◌∙◌, ap}
use Rattle.std.proofs.lemmas.Fn.{filter_same}
use Rattle.std.specs.Prelude.{filter}
use Rattle.entry_index.specs.Cursors.{stays_by}
use Rattle.entry_index.specs.declared.placed.PlacedSign.{PlacedSign}
use Rattle.entry_index.proofs.Forgetting.{keeps_forgotten}
use Rattle.entry_index.proofs.kept.Kept.forget.Goals as goal

pub returns : goal.returns
returns c files instance lowest region n before e ends lives low least past k =
    let ss = c.pop.new.self.items in
    let last = c.in-Some.last in
    let left : c.retain.new.self.items ≡ filter (λ (q : PlacedSign). stays_by q.sign) ss = filter_same _ _ _ (λ x b f t. search rules) _ _ c.retain.ensures.filtered in
    keeps_forgotten files instance lowest region n c.args.self.now _ e ss last before ends c.in-Some.ensures.items
    (c.in_ok-push.ensures.items ∙ ap (λ (l : List PlacedSign). l ++ last ∷ []) left) refl lives low least past k
