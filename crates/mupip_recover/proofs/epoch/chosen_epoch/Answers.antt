use Rattle.std.proofs.Common.{◌≡◌, ◌-◌, ℕ, map, drop, None, ap, sym, ◌∙◌, subst, arith}
use Rattle.std.specs.Option.{option_map}
use Rattle.journal_defs.specs.Epochs.{Chosen, last_epoch}
use Rattle.jnl_record.specs.Values.{placed_value}
use Rattle.mupip_recover.specs.declared.epoch.EpochAt.{EpochAt}
use Rattle.mupip_recover.proofs.Epochs.{last_before, chosen_there, none_chosen}
use Rattle.mupip_recover.proofs.epoch.chosen_epoch.Goals as goal

pub loop-end-preserved : goal.loop-end-preserved
loop-end-preserved c =
    let xs = c.args.journal.now in
    let behind = map placed_value (drop c.loop-end.end xs) in
    record {
      within = omega (arith, c.loop-end.invariant.within);
      none = last_before c.args.instance.now c.args.target xs c.loop-end.end c.index-journal-end.result _ None c.loop-end-test.true c.loop-end.invariant.within c.index-journal-end.is c.loop-end.invariant.none
          (c.epoch_in.ensures.epoch behind ∙ ap (option_map (λ (e : EpochAt). record { number = e.number; blocks = e.blocks; after = behind })) c.in_default.is);
    }

pub returns-in-Some-clause-chosen : goal.returns-in-Some-clause-chosen
returns-in-Some-clause-chosen c =
    let xs = c.args.journal.now in
    let e = c.in-Some.epoch in
    let behind = map placed_value (drop c.loop-end.end xs) in
    let found : Chosen = record { number = e.number; blocks = e.blocks; after = behind } in
    chosen_there c.args.instance.now c.args.target xs (c.loop-end.end - 1) found
    (last_before c.args.instance.now c.args.target xs c.loop-end.end c.index-journal-end.result _ _ c.loop-end-test.true c.loop-end.invariant.within c.index-journal-end.is c.loop-end.invariant.none
    (c.epoch_in.ensures.epoch behind ∙ ap (option_map (λ (x : EpochAt). record { number = x.number; blocks = x.blocks; after = behind })) c.in-Some.is))
    ∙ ap (λ (n : ℕ). record { number = e.number; blocks = e.blocks; after = map placed_value (drop n xs) }) (sym (rw c.in-Some.is at c.epoch_in.ensures.after))

pub returns-clause-chosen : goal.returns-clause-chosen
returns-clause-chosen c =
    let xs = c.args.journal.now in
    let zero : c.loop-end.end ≡ 0 = omega (arith, c.loop-end-test.false) in
    none_chosen c.args.instance.now c.args.target xs (subst (λ (n : ℕ). last_epoch c.args.instance.now c.args.target (map placed_value (drop n xs)) ≡ None) zero c.loop-end.invariant.none)
