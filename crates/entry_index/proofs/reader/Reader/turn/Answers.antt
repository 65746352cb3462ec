use Rattle.std.proofs.Common.{ℕ, None, refl, subst}
use Rattle.entry_index.specs.Pieces.{FindsSign}
use Rattle.entry_index.proofs.Readers.{at_turn}
use Rattle.entry_index.proofs.reader.Reader.turn.Goals as goal

pub returns-in_ok-self-clause-turned : goal.returns-in_ok-self-clause-turned
returns-in_ok-self-clause-turned g c files journal is found =
    let p = c.args.self.now in
    let here = subst (λ (f : ℕ). FindsSign (files f) p.at None) (c.requires.sound.file c.requires.inside) found in
    at_turn files p _ journal c.requires.inside is here refl refl refl refl refl refl

pub returns-else-self-clause-turned : goal.returns-else-self-clause-turned
returns-else-self-clause-turned g c files journal is found =
    let p = c.args.self.now in
    let here = subst (λ (f : ℕ). FindsSign (files f) p.at None) (c.requires.sound.file c.requires.inside) found in
    at_turn files p _ journal c.requires.inside is here refl refl refl refl refl refl
