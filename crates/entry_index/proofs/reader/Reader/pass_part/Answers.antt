use Rattle.std.proofs.Common.{ℕ, List, refl, subst, arith}
use Rattle.entry_index.specs.Pieces.{IsBodyOf}
use Rattle.entry_index.proofs.Readers.{at_part}
use Rattle.entry_index.proofs.reader.Reader.pass_part.Goals as goal

pub returns-clause-passed : goal.returns-clause-passed
returns-clause-passed c files piece journal is =
    let p = c.args.self.now in
    let body : List ℕ = c.in_ok-body.body.now in
    let of : IsBodyOf (files p.pieces.file) p.at body = c.in_ok-body.ensures.body files piece in
    let here = subst (λ (f : ℕ). IsBodyOf (files f) p.at body) (c.requires.sound.file c.requires.inside) of in
    at_part files p _ journal c.requires.inside is body c.in_ok-part.part (omega (arith, c.requires.inside, c.requires.sound.last)) here c.in_ok-part.ensures.1 c.in_ok-part.ensures.0 c.if-offset-eq0.false refl
