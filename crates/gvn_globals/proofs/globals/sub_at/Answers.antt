use Rattle.std.proofs.Common.{None, length, drop, sym, ap, ◌∙◌, if◌then◌else◌}
use Rattle.std.proofs.lemmas.Result.{IfOk-weaker}
use Rattle.global_defs.specs.Evaluation.{first_sub}
use Rattle.gvn_globals.proofs.globals.sub_at.Goals as goal

pub next_sub-requires : goal.next_sub-requires
next_sub-requires c = (c.args.key.now, c.as_encoded.ensures.valid, c.as_encoded.ensures.value)

pub returns-clause-next : goal.returns-clause-next
returns-clause-next c =
    let below = first_sub (drop (length c.args.top.now.subs) c.args.key.now.subs) in
    IfOk-weaker c.next_sub.result _ _
    (λ sub r. r ∙ ap (λ b. if b then below else None) c.requires)
    (c.next_sub.ensures.next c.args.key.now c.as_encoded.ensures.valid (sym c.as_encoded.ensures.value))
