use Rattle.std.proofs.Common.{true, false, ◌≡◌, sym, ◌∙◌, subst}
use Rattle.std.specs.List.{AllByRecursion}
use Rattle.global_defs.specs.Fields.{IsUpdate}
use Rattle.gvn_key.specs.Terms.{update_value}
use Rattle.region_opening.proofs.Replays.{holds_at}
use Rattle.region_opening.proofs.entries.are_formed.Goals as goal

pub returns-then-not-is_formed : goal.returns-then-not-is_formed
returns-then-not-is_formed c = (
  λ e. let gone : false ≡ true = e in cc,
  λ all.
      let this = holds_at IsUpdate update_value c.as_slice-update-items.result.now c.loop-update.update-index c.update-item.result c.loop-update-test.true c.update-item.is (subst (AllByRecursion IsUpdate) (sym c.as_slice-update-items.ensures) all) in
      let so : c.is_formed.result ≡ true = c.is_formed.ensures.1 this in
      sym c.if-not-is_formed.true ∙ so,
)
