use Rattle.std.proofs.Common.{◌≡◌, nat_le, true, false, refl, ◌∙◌, sym, ap, arith}
use Rattle.std.proofs.lemmas.Bool.Decides.{nat_tests}
use Rattle.std.specs.List.{list_all}
use Rattle.journal_defs.specs.Surviving.{spares_start}
use Rattle.instance_file.proofs.Bounds.{stays_bound, not_reigned}
use Rattle.instance_file.proofs.surviving.survivor.Goals as goal
use Rattle.instance_file.proofs.surviving.survivor.Goals.{in_default-via-in-Reign+else-reign-later, in_default-via-in_default}

pub returns-in-Reign : goal.returns-in-Reign
returns-in-Reign c behind is =
    let r = c.in-Reign.reign in
    let yes : nat_le r.start c.args.later ≡ true = grind (arith, nat_tests, c.if-reign-later.true) in
    let kept : list_all (spares_start r.start) behind ≡ true = stays_bound r.start (omega arith) behind ∙ ap (nat_le r.start) (sym is) ∙ yes in
    rw (c.in-Reign.is, kept) refl

pub returns-in_default : goal.returns-in_default
returns-in_default c behind is =
    elim c.in_default.branch [
      | in_default-via-in-Reign+else-reign-later w ↦
          let r = w.in-Reign.reign in
          let no : nat_le r.start c.args.later ≡ false = grind (arith, nat_tests, w.if-reign-later.false) in
          let gone : list_all (spares_start r.start) behind ≡ false = stays_bound r.start (omega arith) behind ∙ ap (nat_le r.start) (sym is) ∙ no in
          rw (w.in-Reign.is, gone) refl
      | in_default-via-in_default w ↦ not_reigned behind c.args.first.now w.in_default.not-Reign
    ]
