-- EPOCH: all that was changed is in the regions' database files, each region has an epoch of all entries, and none needs forward recovery; the site stays open.
use Rattle.std.specs.Prelude.{◌++◌, codes, length}
use Rattle.std.specs.Fmt.{decimal}
use Rattle.command_defs.specs.Commands.{Name}
use Rattle.site_defs.specs.Epochs.{marked, MayMark, MayMarkLeft}
use Rattle.world_defs.specs.World.{Place}
use Rattle.world_defs.specs.Answers.{line}
use Rattle.world_defs.specs.Changes.{Stays}
use Rattle.world_defs.specs.Without.{IsWithoutNeed}
use Rattle.world_defs.specs.Row.{Row, writing, refused_with, in_state, why_not_open}

abbrev pub epoch : Name → Place → Row
epoch name p = record (writing name MayMark MayMarkLeft p) {
  early = refused_with name (in_state why_not_open p.site);
  -- nothing is read
  damage = λ file offset q. ⊥;
  done = λ q. Stays p.site (marked p.now) p q × IsWithoutNeed q;
  says = λ q. line name (codes "EPOCH " ++ decimal (length p.now.sequence));
}
