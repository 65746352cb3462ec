use Rattle.std.proofs.Common.{◌≡◌, ◌∷◌, ◌++◌, [], ℕ, List, Bool, false, true, length, replicate, slice_set, MatchBool, sym, ap, subst, ◌∙◌, arith}
use Rattle.std.proofs.lemmas.List.{length-append, length-set}
use Rattle.std.proofs.lemmas.List.Sums.{count_by-le-length}
use Rattle.journal_defs.specs.Leaves.{Leaf, IsLeaf}
use Rattle.gvt_leaf.specs.Walked.{Follows, Breaks, BreaksAt, IsWalked}
use Rattle.gvt_leaf.proofs.Walks.{walk_begins, walk_goes_on, breaks_there, breaks_at_once}
use Rattle.gvt_leaf.proofs.walk.walk.Goals as goal

pub loop-number-init : goal.loop-number-init
loop-number-init c =
    let p = c.args.pool.now in
    let order : c.push.new.self.items ≡ 0 ∷ [] = c.in_ok-push.ensures.items ∙ ap (λ (ns : List ℕ). ns ++ 0 ∷ []) c.new-order.ensures.items in
    let marks : c.in_ok-seen.seen.items ≡ replicate (length p.leaves) false = c.in_ok-seen.ensures.items_if_clones_equal (λ y same. same) ∙ ap (λ n. replicate n false) c.count-2.ensures.count in
    let begins : IsWalked p (0 ∷ []) (slice_set (replicate (length p.leaves) false) 0 true) 0 = walk_begins p (omega (arith, c.count.ensures.count, c.if-count-eq0.false)) (subst IsLeaf c.block.ensures c.next-number.ensures.form) in
    record {
      walked = subst (λ (ns : List ℕ). IsWalked p ns (slice_set c.in_ok-seen.seen.items 0 true) 0) (sym order) (subst (λ (ms : List Bool). IsWalked p (0 ∷ []) (slice_set ms 0 true) 0) (sym marks) begins);
      next = c.next-number.ensures.next ∙ ap (λ (l : Leaf). l.next) c.block.ensures;
    }

pub returns-then-not-follows-clause-broken : goal.returns-then-not-follows-clause-broken
returns-then-not-follows-clause-broken c block is =
    let p = c.args.pool.now in
    let l = c.loop-number in
    let at_marks : MatchBool false (Follows p c.deref.result.now l.last l.number) (Breaks p c.deref.result.now l.last l.number) =
    subst (λ r. MatchBool r (Follows p c.deref.result.now l.last l.number) (Breaks p c.deref.result.now l.last l.number)) c.if-not-follows.true c.follows.ensures in
    let broken : Breaks p l.seen.items l.last l.number = subst (λ (ms : List Bool). Breaks p ms l.last l.number) c.deref.ensures.value at_marks in
    let same : l.number ≡ block = cc in
    subst (BreaksAt p) same (breaks_there p l.order.items l.seen.items l.last l.number l.invariant.walked (sym l.invariant.next) c.loop-number-test.true broken)

walked : (c : goal.After-next-number-in-loop-number) → IsWalked c.args.pool.now (c.loop-number.order.items ++ c.loop-number.number ∷ []) (slice_set c.loop-number.seen.items c.loop-number.number true) c.loop-number.number
walked c =
    let p = c.args.pool.now in
    let l = c.loop-number in
    let at_marks : MatchBool true (Follows p c.deref.result.now l.last l.number) (Breaks p c.deref.result.now l.last l.number) =
    subst (λ r. MatchBool r (Follows p c.deref.result.now l.last l.number) (Breaks p c.deref.result.now l.last l.number)) c.if-not-follows.false c.follows.ensures in
    let follows : Follows p l.seen.items l.last l.number = subst (λ (ms : List Bool). Follows p ms l.last l.number) c.deref.ensures.value at_marks in
    walk_goes_on p l.order.items l.seen.items l.last l.number l.invariant.walked (sym l.invariant.next) c.loop-number-test.true follows

pub loop-number-smaller : goal.loop-number-smaller
loop-number-smaller c =
    let l = c.loop-number in
    let marks : List Bool = slice_set l.seen.items l.number true in
    omega (
      arith,
      (walked c).count,
      count_by-le-length (λ (s : Bool). s) marks,
      length-set l.seen.items l.number true,
      length-append l.order.items (l.number ∷ []),
      ap (λ (ns : List ℕ). length ns) c.in_ok-push-2.ensures.items,
    )

pub loop-number-preserved : goal.loop-number-preserved
loop-number-preserved c =
    let l = c.loop-number in
    record {
      walked = subst (λ (ns : List ℕ). IsWalked c.args.pool.now ns (slice_set l.seen.items l.number true) l.number) (sym c.in_ok-push-2.ensures.items) (walked c);
      next = c.next-number-in-loop-number.ensures.next ∙ ap (λ (m : Leaf). m.next) c.block-in-loop-number.ensures;
    }

pub returns-then-count-eq0-clause-broken : goal.returns-then-count-eq0-clause-broken
returns-then-count-eq0-clause-broken c block is =
    let same : 0 ≡ block = cc in
    subst (BreaksAt c.args.pool.now) same (breaks_at_once c.args.pool.now (omega (arith, c.count.ensures.count, c.if-count-eq0.true)))
