use Rattle.std.proofs.Common.{◌≡◌, ◌<◌, ◌∷◌, ◌++◌, [], ℕ, List, false, length, ap, ◌∙◌, arith}
use Rattle.std.proofs.lemmas.List.{length-append}
use Rattle.std.proofs.lemmas.List.Sums.{count_by_more_no, count_by_more_yes}
use Rattle.gvt_leaf.specs.Links.{times}
use Rattle.gvt_leaf.proofs.Links.{times-append}
use Rattle.gvt_leaf.proofs.Opened.{marked_more, marked_still, inside_more}
use Rattle.gvt_leaf.proofs.walk.unseen.Goals as goal
use Rattle.gvt_leaf.proofs.walk.unseen.Goals.{then-not-is_seen+in_ok-push, else-not-is_seen}

pub loop-number-preserved : goal.loop-number-preserved
loop-number-preserved c =
    let n = c.loop-number.number in
    let seen = c.args.seen.now in
    let old = c.loop-number.free.items in
    let inv = c.loop-number.invariant in
    let low : n < length seen = omega (arith, c.loop-number-test.true) in
    elim c.if-not-is_seen.branch [
      | then-not-is_seen+in_ok-push w ↦
          let free : c.if-not-is_seen.free.items ≡ old ++ n ∷ [] = ap (λ v. v.items) w.free-is ∙ w.in_ok-push.ensures.items in
          record {
            apart = λ b. omega (arith, ap (times b) free, times-append b old (n ∷ []), marked_still seen n b low w.if-not-is_seen.true, inv.apart b, inside_more n b);
            count = omega (arith, ap (λ (ns : List ℕ). length ns) free, length-append old (n ∷ []), count_by_more_no (λ s. s) seen n false low w.if-not-is_seen.true, inv.count);
          }
      | else-not-is_seen w ↦
          let free : c.if-not-is_seen.free.items ≡ old = ap (λ v. v.items) w.free-is in
          record {
            apart = λ b. omega (arith, ap (times b) free, marked_more seen n b low w.if-not-is_seen.false, inv.apart b, inside_more n b);
            count = omega (arith, ap (λ (ns : List ℕ). length ns) free, count_by_more_yes (λ s. s) seen n false low w.if-not-is_seen.false, inv.count);
          }
    ]
