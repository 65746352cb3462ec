use Rattle.std.proofs.Common.{ap, sym, subst, ◌∙◌}
use Rattle.gvn_globals.specs.Overlaid.{with_all}
use Rattle.gvn_globals.specs.Together.{AreHeld}
use Rattle.gvn_globals.proofs.AllOrNone.{are_new, are_held, made}
use Rattle.gvn_globals.proofs.globals.Globals.change_all.Goals as goal

pub add_all-requires : goal.add_all-requires
add_all-requires c = are_new c.args.self.now c.in_ok-sets.field-0.sets c.deref.result.now (c.deref.ensures.value ∙ c.in_ok-added.ensures)

pub put_all-requires : goal.put_all-requires
put_all-requires c = subst (AreHeld c.remove_all.new.self) (sym c.in_ok-all.ensures)
    (are_held c.args.self.now c.in_ok-sets.field-0.sets c.in_ok-sets.field-0.gone c.add_all.new.self c.remove_all.new.self c.deref.result.now c.deref-2.result.now
    (c.deref.ensures.value ∙ c.in_ok-added.ensures) (c.deref-2.ensures.value ∙ c.in_ok-removed.ensures) c.in_ok-add_all.ensures.ok c.remove_all.ensures)

pub returns-clause-ok : goal.returns-clause-ok
returns-clause-ok c =
    c.put_all.ensures ∙ ap (with_all c.remove_all.new.self) c.in_ok-all.ensures
    ∙ made c.args.self.now c.in_ok-sets.field-0.sets c.in_ok-sets.field-0.gone c.add_all.new.self c.remove_all.new.self c.deref.result.now c.deref-2.result.now
    (c.deref.ensures.value ∙ c.in_ok-added.ensures) (c.deref-2.ensures.value ∙ c.in_ok-removed.ensures) c.in_ok-add_all.ensures.ok c.remove_all.ensures
    ∙ c.in_ok-sets.ensures
