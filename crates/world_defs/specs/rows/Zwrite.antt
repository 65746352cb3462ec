-- ZWRITE: the nodes.
use Rattle.std.specs.Prelude.{Option}
use Rattle.global_defs.specs.Key.{Key}
use Rattle.global_defs.specs.Entry.{state}
use Rattle.command_defs.specs.Commands.{Name}
use Rattle.site_defs.specs.Texts as texts
use Rattle.world_defs.specs.World.{Place, Kept}
use Rattle.world_defs.specs.Row.{Row, quiet, refused_with, in_state, why_not_open}

abbrev pub zwrite : (top : Option Key) → Name → Place → Row
zwrite top name p = record (quiet name p) {
  early = refused_with name (in_state why_not_open p.site);
  done = λ q. Kept p q;
  says = λ q. texts.zwrite top (state p.now.sequence);
}
