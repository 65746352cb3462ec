use Rattle.std.proofs.Common.{◌≡◌, ◌+◌, ◌<◌, sym, subst, ap, arith, length, drop, length-drop}
use Rattle.gvn_key.proofs.Subscripts.{rest_is}
use Rattle.gvn_key.specs.declared.told.Seen.{Seen}
use Rattle.gvn_key.specs.Plain.{BeginWithSub, HasText}
use Rattle.gvn_key.proofs.Behind.{AreReadTo, none_yet, one_more, no_more}
use Rattle.gvn_key.proofs.next.plain_subs.Goals as goal

pub loop-init : goal.loop-init
loop-init c = none_yet c.args.bytes.now c.args.end c.nothing-seen.result c.requires.inside c.nothing-seen.ensures.longest

pub loop-preserved : goal.loop-preserved
loop-preserved c =
    let bytes = c.args.bytes.now in
    let at = c.loop.at in
    let rest = rest_is bytes at in
    let inside = c.in-Some.ensures.inside in
    let to = c.loop.invariant.inside in
    let sub = c.seen.result in
    let made = c.behind-seen.result in
    let told = c.behind-seen.ensures in
    let same = c.seen.ensures in
    let size : c.in-Some.sub.size ≡ c.size-at.result = sym c.size-at.ensures in
    let texts : 0 < sub.longest → HasText sub.from sub.low sub.most sub.longest c.size-at.result (drop at bytes) =
    subst (λ (s : Seen). 0 < s.longest → HasText s.from s.low s.most s.longest c.size-at.result (drop at bytes)) (sym same)
    (λ some. subst (λ k. HasText c.in-Some.sub.seen.from c.in-Some.sub.seen.low c.in-Some.sub.seen.most c.in-Some.sub.seen.longest k (drop at bytes)) size
    (subst (HasText c.in-Some.sub.seen.from c.in-Some.sub.seen.low c.in-Some.sub.seen.most c.in-Some.sub.seen.longest c.in-Some.sub.size) rest (c.in-Some.ensures.text some))) in
    let from = told.from in
    let short = told.short in
    subst (AreReadTo bytes c.args.end (c.loop.counter + 1) (at + c.size-at.result)) (λ i. record { from = sym from i; longest = made.longest; low = sym told.low i; most = sym told.most i })
    (one_more bytes c.args.end c.loop.counter at c.size-at.result made.longest c.loop.seen sub c.loop.invariant c.requires.name (omega (arith, c.loop-test.true))
    (subst (λ k. BeginWithSub k (drop at bytes)) size (subst (BeginWithSub c.in-Some.sub.size) rest c.in-Some.ensures.sub))
    texts told.longest (λ some. omega (arith, from, short some)) (omega (arith, to, inside, size, ap length rest, length-drop at bytes)))

pub returns-then-at-bytes-clause-code : goal.returns-then-at-bytes-clause-code
returns-then-at-bytes-clause-code c = (no_more c.args.bytes.now c.args.end c.loop.counter c.loop.at c.loop.seen c.loop.invariant c.requires.name c.if-at-bytes.true (omega (arith, c.loop.auto.counter-end)) c.requires.short).0

pub returns-then-at-bytes-clause-tells : goal.returns-then-at-bytes-clause-tells
returns-then-at-bytes-clause-tells c = (no_more c.args.bytes.now c.args.end c.loop.counter c.loop.at c.loop.seen c.loop.invariant c.requires.name c.if-at-bytes.true (omega (arith, c.loop.auto.counter-end)) c.requires.short).1
