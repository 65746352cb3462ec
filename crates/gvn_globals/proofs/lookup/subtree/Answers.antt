use Rattle.std.proofs.Common.{◌++◌, ◌∷◌, [], sym, ap, subst, ◌∙◌, arith}
use Rattle.gvn_globals.specs.Walks.{after}
use Rattle.gvn_globals.proofs.Subtree.{IsWalked, begins_empty, begins_here, goes, ends, ends_none, walk_smaller, left}
use Rattle.gvn_globals.proofs.lookup.subtree.Goals.{then-has+in_ok-copy+in_ok-push, else-has}
use Rattle.gvn_globals.proofs.lookup.subtree.Goals as goal

pub loop-found-init : goal.loop-found-init
loop-found-init g c =
    subst (λ o. IsWalked (g.W.Walk.walked c.args.on.now) c.args.top.now c.if-has.keys.items o) (sym c.in_ok-found.ensures)
    (elim c.if-has.branch [
      | then-has+in_ok-copy+in_ok-push w ↦
          subst (λ ks. IsWalked (g.W.Walk.walked c.args.on.now) c.args.top.now ks (after (g.W.Walk.walked c.args.on.now) c.args.top.now))
          (sym (ap (λ v. v.items) w.keys-is ∙ w.in_ok-push.ensures.items ∙ ap (λ l. l ++ w.in_ok-copy.field-0 ∷ []) c.new-keys.ensures.items ∙ ap (λ k. k ∷ []) w.in_ok-copy.ensures))
          (begins_here (g.W.Walk.walked c.args.on.now) c.args.top.now)
      | else-has w ↦
          subst (λ ks. IsWalked (g.W.Walk.walked c.args.on.now) c.args.top.now ks (after (g.W.Walk.walked c.args.on.now) c.args.top.now))
          (sym (ap (λ v. v.items) w.keys-is ∙ c.new-keys.ensures.items))
          (begins_empty (g.W.Walk.walked c.args.on.now) c.args.top.now (sym w.if-has.ensures))
    ])

pub returns-then-not-is_under : goal.returns-then-not-is_under
returns-then-not-is_under g c =
    ends (g.W.Walk.walked c.args.on.now) c.args.top.now c.loop-found.keys.items c.in-Some.key
    (subst (λ o. IsWalked (g.W.Walk.walked c.args.on.now) c.args.top.now c.loop-found.keys.items o) c.in-Some.is c.loop-found.invariant) (sym c.is_under.ensures ∙ c.if-not-is_under.true)

pub loop-found-smaller : goal.loop-found-smaller
loop-found-smaller g c =
    let e = walk_smaller (g.W.Walk.walked c.args.on.now) c.in-Some.key in
    let f = ap (left (g.W.Walk.walked c.args.on.now)) c.in_ok-found-2.ensures in
    let h = ap (left (g.W.Walk.walked c.args.on.now)) c.in-Some.is in
    omega arith

pub loop-found-preserved : goal.loop-found-preserved
loop-found-preserved g c =
    subst (λ ks. IsWalked (g.W.Walk.walked c.args.on.now) c.args.top.now ks c.in_ok-found-2.found) (sym c.in_ok-push-2.ensures.items)
    (subst (λ o. IsWalked (g.W.Walk.walked c.args.on.now) c.args.top.now (c.loop-found.keys.items ++ c.in-Some.key ∷ []) o) (sym c.in_ok-found-2.ensures)
    (goes (g.W.Walk.walked c.args.on.now) c.args.top.now c.loop-found.keys.items c.in-Some.key
    (subst (λ o. IsWalked (g.W.Walk.walked c.args.on.now) c.args.top.now c.loop-found.keys.items o) c.in-Some.is c.loop-found.invariant) (sym c.is_under.ensures ∙ c.if-not-is_under.false)))

pub returns : goal.returns
returns g c = ends_none (g.W.Walk.walked c.args.on.now) c.args.top.now c.loop-found.keys.items
    (subst (λ o. IsWalked (g.W.Walk.walked c.args.on.now) c.args.top.now c.loop-found.keys.items o) c.in_default.is c.loop-found.invariant)
