use Rattle.std.proofs.Common.{◌≡◌, length, take, drop, ◌∙◌, arith}
use Rattle.read_ahead.proofs.Kept.{given}
use Rattle.read_ahead.proofs.piece.Piece.give.Goals as goal

pub returns : goal.returns
returns c = λ is files kept.
    let n = length c.args.buf.now in
    let shown : c.copy_from_slice.new.self ≡ take n (drop c.in-Some.from c.args.self.now.bytes.items) = grind (arith, c.copy_from_slice.ensures.after, c.deref.ensures.value) in
    shown ∙ given files c.args.self.now c.in-Some.from c.args.at n c.in-Some.ensures.from c.in-Some.ensures.to kept
