-- What bringing an open site to an epoch means at its place, before anything else is done there.
use Rattle.std.specs.Prelude.{◌++◌, ℕ, List, length}
use Rattle.std.specs.Fmt.{decimal}
use Rattle.command_defs.specs.Commands.{Name}
use Rattle.site_defs.specs.Epochs.{marked, MayMark, MayMarkLeft}
use Rattle.world_defs.specs.World.{Place}
use Rattle.world_defs.specs.Answers.{line}
use Rattle.world_defs.specs.Changes.{Stays}
use Rattle.world_defs.specs.Without.{IsWithoutNeed}
use Rattle.world_defs.specs.Row.{Row, writing, refused_with, in_state, why_not_open}

-- The site stays open, and what is written is that word and its length.
abbrev pub marking : List ℕ → Name → Place → Row
marking word name p = record (writing name MayMark MayMarkLeft p) {
  early = refused_with name (in_state why_not_open p.site);
  damage = λ file offset q. ⊥;
  done = λ q. Stays p.site (marked p.now) p q × IsWithoutNeed q;
  says = λ q. line name (word ++ decimal (length p.now.sequence));
}
