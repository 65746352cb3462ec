use Rattle.std.proofs.Common.{List, sym, ap, subst, ◌∙◌, arith}
use Rattle.std.specs.List.{AllByRecursion}
use Rattle.global_defs.specs.Entry.{Reign}
use Rattle.global_defs.specs.Fields.{IsReign}
use Rattle.gvn_model.specs.Reigns.{reign_value}
use Rattle.ship_stands.proofs.Rising.{all_push, rise_push}
use Rattle.global_defs.proofs.Starts.{last_start, last_push}
use Rattle.global_defs.specs.Rising.{StartsRise}
use Rattle.ship_stands.proofs.histories.history.Goals as goal

pub loop-told-preserved : goal.loop-told-preserved
loop-told-preserved c = record {
  form = subst (λ (l : List Reign). AllByRecursion IsReign l) (sym c.in_ok-push.ensures.ok) (all_push c.loop-told.reigns (reign_value c.in_ok-reign.reign) c.loop-told.invariant.form c.in_ok-reign.ensures.form);
  rising = subst (λ (l : List Reign). StartsRise 0 l) (sym c.in_ok-push.ensures.ok)
      (rise_push 0 c.loop-told.reigns (reign_value c.in_ok-reign.reign) c.loop-told.invariant.rising (omega (arith, c.if-reign-last.false, c.loop-told.invariant.last)));
  last = ap (λ (l : List Reign). last_start 0 l) c.in_ok-push.ensures.ok ∙ last_push 0 c.loop-told.reigns (reign_value c.in_ok-reign.reign);
}
