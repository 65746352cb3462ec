-- FUSE: nothing changes that the world has.
use Rattle.std.specs.Prelude.{ℕ, [], ◌∷◌, ◌++◌, codes}
use Rattle.std.specs.Fmt.{decimal}
use Rattle.command_defs.specs.Commands.{Name}
use Rattle.world_defs.specs.World.{Place, Kept}
use Rattle.world_defs.specs.Answers.{line}
use Rattle.world_defs.specs.Row.{Row, quiet, first, refused_with, in_state, stopped, not_simulated}

abbrev pub fuse : (calls : ℕ) → Name → Place → Row
fuse calls name p = record (quiet name p) {
  early = refused_with name (first (in_state stopped p.site ∷ not_simulated p.simulated ∷ []));
  done = λ q. Kept p q;
  says = λ q. line name (codes "FUSED " ++ decimal calls);
}
