use Rattle.std.proofs.Common.{nat_eq, ℕ, Some, refl, subst, arith}
use Rattle.entry_index.specs.Generations.{MayJoin}
use Rattle.entry_index.specs.Pieces.{FindsSign}
use Rattle.entry_index.proofs.Readers.{at_next}
use Rattle.entry_index.proofs.reader.Reader.pass.Goals as goal

pub returns-clause-stepped : goal.returns-clause-stepped
returns-clause-stepped c files journal is found =
    let p = c.args.self.now in
    let s = c.args.sign in
    let may : MayJoin (nat_eq p.at 0) p.region p.generation p.previous s = c.may_join.ensures.0 c.if-not-may_join.false in
    let here = subst (λ (f : ℕ). FindsSign (files f) p.at (Some (s, c.args.next))) (c.requires.sound.file c.requires.inside) found in
    at_next files p _ journal c.requires.inside is s c.args.next (omega (arith, c.requires.inside, c.requires.sound.last)) here may refl
