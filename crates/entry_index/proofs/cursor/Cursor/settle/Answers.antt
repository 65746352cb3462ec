use Rattle.std.proofs.Common.{◌≡◌, inl, ◌+◌, refl, sym, ◌∙◌, ap, arith}
use Rattle.entry_index.specs.declared.signed_part.PartSign.{PartSign}
use Rattle.entry_index.specs.Signs.{if_numbered}
use Rattle.entry_index.proofs.Cursors.{settled_part, settled_none, other_waits}
use Rattle.entry_index.proofs.cursor.Cursor.settle.Goals as goal

pub returns-clause-settled : goal.returns-clause-settled
returns-clause-settled c files n number =
    let s : PartSign = c.in-Some.part in
    let of : s.number ≡ c.args.number = omega (arith, c.if-part-number.false) in
    settled_part files n c.args.self.now _ s c.in-Some.is (of ∙ number) refl refl
    (λ instance lowest before x drawn sign keeps. c.in_ok-keep_part.ensures files instance lowest c.args.self.now.reader.region (n + 1) before x (λ _. inl (omega (arith, of, number))) drawn sign keeps)

pub returns-then-part-number-clause-settled : goal.returns-then-part-number-clause-settled
returns-then-part-number-clause-settled c files n number =
    settled_none files n c.args.self.now (other_waits (n + 1) c.args.self.now.waiting c.in-Some.part c.in-Some.is (λ same. c.if-part-number.true (same ∙ sym number)))

pub returns-in_default-clause-settled : goal.returns-in_default-clause-settled
returns-in_default-clause-settled c files n number = settled_none files n c.args.self.now (ap (if_numbered (n + 1)) c.in_default.is)
