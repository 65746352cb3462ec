use Rattle.std.proofs.Common.{◌≡◌, ◌≤◌, ◌<◌, ◌+◌, ◌-◌, length, take, drop, arith}
use Rattle.global_defs.specs.declared.limits.TheConstants.{LONGEST_BODY}
use Rattle.disk_defs.specs.Gates.{NoGate, gate_at}
use Rattle.disk_defs.proofs.Told.{told_at, both_weak}
use Rattle.gated_file.proofs.Gates.{WasRead, was_short, was_unfit, was_open}
use Rattle.gated_file.proofs.read.body_length.Goals as goal
use Rattle.gated_file.proofs.read.body_length.Goals.{then-n-eq0-via-then-n-eq0, then-n-eq0-via-else-n-eq0+then-n-gt-LONGEST, then-n-eq0-via-else-n-eq0+else-n-gt-LONGEST+then-size-at}

pub returns-then-size-at-lt6-clause-outside : goal.returns-then-size-at-lt6-clause-outside
returns-then-size-at-lt6-clause-outside g c _ =
    both_weak _ (λ files. c.args.size ≡ length (files c.args.file)) (λ files. c.read_at.new.buf ≡ take 1 (drop c.args.at (files c.args.file))) (λ files. gate_at (files c.args.file) c.args.at ≡ NoGate)
    c.requires.told c.in_ok-read_at.ensures.bytes
    (λ files size gate. was_short (files c.args.file) c.args.at c.args.size c.read_at.new.buf c.requires.long size c.if-at-size.false gate c.if-gate-ne1.false c.if-size-at-lt6.true)

pub returns-then-n-eq0-clause-outside : goal.returns-then-n-eq0-clause-outside
returns-then-n-eq0-clause-outside g c _ =
    let n = c.big_endian-n.result in
    let unfit : 1 ≤ n → n ≤ LONGEST_BODY → c.args.size - c.args.at < n + 6 = λ low high. elim c.then-n-eq0.branch [
      | then-n-eq0-via-then-n-eq0 w ↦ absurd (omega (arith, low, w.if-n-eq0.true))
      | then-n-eq0-via-else-n-eq0+then-n-gt-LONGEST w ↦ absurd (omega (arith, high, w.if-n-gt-LONGEST.true))
      | then-n-eq0-via-else-n-eq0+else-n-gt-LONGEST+then-size-at w ↦ w.if-size-at.true
    ] in
    let heads = told_at _ _ _ c.read_at.ensures.reads.content c.in_ok-read_at-2.ensures.bytes in
    both_weak _ (WasRead c.args.file c.args.at c.args.size c.read_at.new.buf) (λ files. c.read_at-2.new.buf ≡ take 4 (drop (c.args.at + 1) (files c.args.file))) (λ files. gate_at (files c.args.file) c.args.at ≡ NoGate)
    (both_weak _ (λ files. c.args.size ≡ length (files c.args.file)) (λ files. c.read_at.new.buf ≡ take 1 (drop c.args.at (files c.args.file))) (WasRead c.args.file c.args.at c.args.size c.read_at.new.buf) c.requires.told c.in_ok-read_at.ensures.bytes
    (λ files size gate. record { whole = size; byte = gate })) heads
    (λ files was head. was_unfit (files c.args.file) c.args.at c.args.size n c.read_at.new.buf c.read_at-2.new.buf c.requires.long was.whole c.if-at-size.false was.byte c.if-gate-ne1.false head c.big_endian-n.ensures.value unfit)

pub returns-clause-found : goal.returns-clause-found
returns-clause-found g c =
    let n = c.big_endian-n.result in
    let heads = told_at _ _ _ c.read_at.ensures.reads.content c.in_ok-read_at-2.ensures.bytes in
    both_weak _ (WasRead c.args.file c.args.at c.args.size c.read_at.new.buf) (λ files. c.read_at-2.new.buf ≡ take 4 (drop (c.args.at + 1) (files c.args.file))) _
    (both_weak _ (λ files. c.args.size ≡ length (files c.args.file)) (λ files. c.read_at.new.buf ≡ take 1 (drop c.args.at (files c.args.file))) (WasRead c.args.file c.args.at c.args.size c.read_at.new.buf) c.requires.told c.in_ok-read_at.ensures.bytes
    (λ files size gate. record { whole = size; byte = gate })) heads
    (λ files was head. was_open (files c.args.file) c.args.at c.args.size n c.read_at.new.buf c.read_at-2.new.buf was.whole was.byte c.if-gate-ne1.false head c.big_endian-n.ensures.spelled c.if-n-eq0.false c.if-n-gt-LONGEST.false c.if-size-at.false)
