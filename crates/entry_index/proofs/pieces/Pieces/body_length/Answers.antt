use Rattle.std.proofs.Common.{◌≡◌, ◌≤◌, ◌<◌, ◌+◌, ◌-◌, [], ◌∷◌, take, drop, ◌∙◌, arith}
use Rattle.global_defs.specs.declared.limits.TheConstants.{LONGEST_BODY}
use Rattle.disk_defs.specs.Gates.{NoGate, gate_at}
use Rattle.disk_defs.proofs.Told.{weaker_told, both_weak}
use Rattle.entry_index.specs.Pieces.{IsPieceOf}
use Rattle.entry_index.proofs.Heads.{gate_short, gate_unfit, Seen, told_seen}
use Rattle.entry_index.proofs.pieces.Pieces.body_length.Goals as goal
use Rattle.entry_index.proofs.pieces.Pieces.body_length.Goals.{then-n-eq0-via-then-n-eq0, then-n-eq0-via-else-n-eq0+then-n-gt-LONGEST, then-n-eq0-via-else-n-eq0+else-n-gt-LONGEST+then-self-at}

pub returns-then-self-at-lt6-clause-outside : goal.returns-then-self-at-lt6-clause-outside
returns-then-self-at-lt6-clause-outside g c _ =
    let p = c.args.self.now in
    let at = c.args.at in
    both_weak (g.D.Disk.disk c.args.disk.now).content (IsPieceOf p) (λ files. c.in_ok-gate.gate ∷ [] ≡ take 1 (drop at (files p.file))) (λ files. gate_at (files p.file) at ≡ NoGate) c.requires.told c.in_ok-gate.ensures.value
    (λ files is gate. gate_short p files is at c.requires.long (omega arith) c.in_ok-gate.gate gate c.if-gate-ne1.false (omega (arith, c.byte_at.ensures.same.size)))

pub returns-then-n-eq0-clause-outside : goal.returns-then-n-eq0-clause-outside
returns-then-n-eq0-clause-outside g c _ =
    let view = g.D.Disk.disk in
    let o = (view c.args.disk.now).content in
    let p = c.args.self.now in
    let at = c.args.at in
    let b = c.in_ok-gate.gate in
    let m = c.in_ok-number_at.field-0 in
    let n = c.from-n.result in
    let same : n ≡ m = c.from-n.ensures in
    let sizes : c.number_at.new.self.size ≡ p.size = c.number_at.ensures.same.size ∙ c.byte_at.ensures.same.size in
    let unfit : 1 ≤ n → n ≤ LONGEST_BODY → p.size - at < n + 6 = λ low high. elim c.then-n-eq0.branch [
      | then-n-eq0-via-then-n-eq0 w ↦ absurd (omega (arith, low, w.if-n-eq0.true))
      | then-n-eq0-via-else-n-eq0+then-n-gt-LONGEST w ↦ absurd (omega (arith, high, w.if-n-gt-LONGEST.true))
      | then-n-eq0-via-else-n-eq0+else-n-gt-LONGEST+then-self-at w ↦ omega (arith, w.if-self-at.true, sizes)
    ] in
    weaker_told o (Seen p at b m) (λ files. gate_at (files p.file) at ≡ NoGate)
    (told_seen o (view c.byte_at.new.disk).content p c.byte_at.new.self at b m c.byte_at.ensures.reads.content c.byte_at.ensures.same.file c.requires.told c.in_ok-gate.ensures.value c.in_ok-number_at.ensures.read)
    (λ files s. gate_unfit p files s.is at c.requires.long (omega arith) b s.gate c.if-gate-ne1.false n (same ∙ s.number) unfit)
