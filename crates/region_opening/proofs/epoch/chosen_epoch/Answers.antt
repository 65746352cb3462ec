use Rattle.std.proofs.Common.{◌≡◌, ◌-◌, get_or, None, refl, ap, ◌∙◌, arith}
use Rattle.std.specs.Option.{option_map}
use Rattle.region_opening.proofs.Said.{NO_SIGN}
use Rattle.region_opening.proofs.Epochs.{with_behind, last_before, none_last, chosen_before, none_chosen}
use Rattle.region_opening.proofs.epoch.chosen_epoch.Goals as goal

pub loop-end-init : goal.loop-end-init
loop-end-init c = record { within = omega arith; none = λ journal say. none_last c.args.instance.now c.args.target c.args.signs.now journal _ refl say }

pub loop-end-preserved : goal.loop-end-preserved
loop-end-preserved c =
    let ss = c.args.signs.now in
    let n = c.loop-end.end in
    record {
      within = omega (arith, c.loop-end.invariant.within);
      none = λ journal say. last_before c.args.instance.now c.args.target ss journal n (get_or ss (n - 1) NO_SIGN) NO_SIGN None say c.loop-end-test.true c.loop-end.invariant.within refl
          (λ behind. c.epoch_in.ensures.epoch behind ∙ ap (option_map (with_behind behind)) c.in_default.is) (c.loop-end.invariant.none journal say);
    }

pub returns-in-Some-clause-chosen : goal.returns-in-Some-clause-chosen
returns-in-Some-clause-chosen c journal say =
    let ss = c.args.signs.now in
    let n = c.loop-end.end in
    chosen_before c.args.instance.now c.args.target ss journal n (get_or ss (n - 1) NO_SIGN) NO_SIGN c.in-Some.epoch say c.loop-end-test.true c.loop-end.invariant.within refl
    (λ behind. c.epoch_in.ensures.epoch behind ∙ ap (option_map (with_behind behind)) c.in-Some.is) (rw c.in-Some.is at c.epoch_in.ensures.after) (c.loop-end.invariant.none journal say)

pub returns-clause-chosen : goal.returns-clause-chosen
returns-clause-chosen c journal say =
    let zero : c.loop-end.end ≡ 0 = omega (arith, c.loop-end-test.false) in
    none_chosen c.args.instance.now c.args.target journal c.loop-end.end zero (c.loop-end.invariant.none journal say)
