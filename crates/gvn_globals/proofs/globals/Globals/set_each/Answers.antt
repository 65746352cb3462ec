use Rattle.std.proofs.Common.{◌≡◌, true, not, map, fold, take, sym, ap, subst, ◌∙◌, List, [], ◌∷◌, ◌++◌, if◌then◌else◌}
use Rattle.std.specs.Prelude.{reverse}
use Rattle.std.specs.Result.{is_ok}
use Rattle.std.specs.FinMap as globals
use Rattle.global_defs.specs.Entry as defs
use Rattle.gvn_key.specs.Terms.{update_value}
use Rattle.gvn_globals.specs.Undoing.{undo_of, undone, CanUndo}
use Rattle.gvn_globals.specs.declared.globals.Undo.{Undo}
use Rattle.gvn_globals.proofs.Undone.{can_push, undone_push, one_step}
use Rattle.gvn_globals.proofs.globals.Globals.set_each.Goals as goal

pub loop-update-preserved : goal.loop-update-preserved
loop-update-preserved c =
    let us : List Undo = c.loop-update.done.items in
    let g = c.loop-update.self in
    let now = c.replace.new.self in
    let k = c.in-Set.key in
    let v = c.in_ok-value.value in
    let u = c.in_ok-undo.undo in
    let i = c.loop-update.update-index in
    let first = c.args.self.now in
    let item = c.update-item.result in
    let made : is_ok c.push.result ≡ true = c.is_err.ensures.negation ∙ ap not c.if-is_err.false in
    let grown : c.push.new.self.items ≡ us ++ u ∷ [] =
    c.push.ensures.items ∙ ap (λ b. if b then c.reserve.new.self.items ++ u ∷ [] else c.reserve.new.self.items) made ∙ ap (λ (l : List Undo). l ++ u ∷ []) c.reserve.ensures.items in
    let set : now ≡ globals.insert g k v = c.in_ok-undo.ensures.ok in
    let back : u ≡ undo_of k (globals.get g k) = c.in_ok-undo.ensures.undo in
    let is : defs.Set k v ≡ update_value item = ap (defs.Set k) c.in_ok-value.ensures ∙ sym (ap update_value c.in-Set.is) in (
      subst (λ (l : List Undo). CanUndo now (reverse l)) (sym grown) (can_push g now k v us u set back c.loop-update.invariant.0),
      subst (λ (l : List Undo). undone now (reverse l) ≡ first) (sym grown) (undone_push g now k v us u set back first c.loop-update.invariant.1),
      set ∙ ap (λ m. globals.insert m k v) c.loop-update.invariant.2 ∙ ap (defs.apply (fold defs.apply first (map update_value (take i c.args.updates.now)))) is
          ∙ one_step update_value first c.args.updates.now i item c.loop-update-test.true c.update-item.is,
    )
