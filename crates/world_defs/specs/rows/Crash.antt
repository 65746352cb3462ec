-- CRASH: one of its outcomes, for good.
use Rattle.std.specs.Prelude.{◌≡◌, ◌≤◌, [], ◌∷◌, codes, Some, IfSome}
use Rattle.command_defs.specs.Commands.{Name}
use Rattle.site_defs.specs.Contents.{Standing}
use Rattle.site_defs.specs.Opening.{IsBehind}
use Rattle.world_defs.specs.World.{Down, Place, AmongCovered, AmongCoveredSo, IfKnown}
use Rattle.world_defs.specs.Answers.{line}
use Rattle.world_defs.specs.Changes.{in_new_state}
use Rattle.world_defs.specs.Row.{Row, quiet, first, refused_with, in_state, not_running, not_simulated}

-- what its files stand for as they read, and the text behind that
abbrev pub standing_now : Place → Standing
standing_now p = record { contents = p.now; broken = p.left.broken }

pub record Crashes (old new : Place) : Type 0 where
  pub site : new.site ≡ in_new_state Down old.site
  pub told : new.told ≡ old.told
  pub chosen : IfKnown old (AmongCovered old.outcomes new.now)
  pub left : IfKnown old (IsBehind new.now new.left)
  -- which is what lay behind it in that image
  pub behind : IfKnown old (IfSome old.standings (λ os. AmongCoveredSo os (standing_now new)))
  pub outcomes : new.outcomes ≡ new.now ∷ []
  pub standings : new.standings ≡ Some (standing_now new ∷ [])
  pub faults : old.faults ≤ new.faults
  pub simulated : new.simulated ≡ old.simulated

abbrev pub crash : Name → Place → Row
crash name p = record (quiet name p) {
  early = refused_with name (first (in_state not_running p.site ∷ not_simulated p.simulated ∷ []));
  done = λ q. Crashes p q;
  says = λ q. line name (codes "CRASHED");
}
