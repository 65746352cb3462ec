-- Whole runs.
use Rattle.std.specs.Prelude.{◌≡◌, ℕ, List, [], ◌∷◌, ◌++◌, map}
use Rattle.command_defs.specs.Commands.{Command}
use Rattle.world_defs.specs.World.{World}
use Rattle.world_defs.specs.Answers.{Answer}
use Rattle.world_defs.specs.Step.{Step}
use Rattle.world_defs.specs.Ties.{AreShown}

-- a command and what it answered
pub record Told : Type 0 where
  pub command : Command
  pub answers : List Answer

-- These commands, with these answers, lead from one world to another and write this. Behind each command it's shown what each known place's files read as: so what the
-- bytes say of an answer (`by_bytes` of a row) holds of each command at a known place.
abbrev pub Runs : World → List Told → World → List ℕ → Type 0
Runs w [] after t = (after ≡ w) × (t ≡ [])
Runs w (c ∷ cs) after t = (m : World) × (text rest : List ℕ) × Step w c.command c.answers m text × Runs m cs after rest × (t ≡ text ++ rest) × AreShown m

abbrev pub commands : List Told → List Command
commands told = map (λ c. c.command) told
