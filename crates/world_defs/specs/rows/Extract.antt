-- EXTRACT: the entries from that number on, as the journals have them.
use Rattle.std.specs.Prelude.{◌≡◌, ℕ, List, length, Option}
use Rattle.global_defs.specs.Entry.{Sequence}
use Rattle.command_defs.specs.Commands.{Name}
use Rattle.site_defs.specs.Texts.{extract_from}
use Rattle.world_defs.specs.World.{Failed, Place, IfKnown, Kept}
use Rattle.world_defs.specs.Changes.{in_new_state, FailsUnchanged}
use Rattle.world_defs.specs.Row.{Row, reading, refused_with, in_state, why_not_open}

-- The text is that of as many entries as the site has, and of the site's where its files are known.
pub record Extracts (name : Name) (from : Option ℕ) (text : List ℕ) (old new : Place) : Type 0 where
  pub entries : Sequence
  pub count : length entries ≡ length old.now.sequence
  pub told : IfKnown old (entries ≡ old.now.sequence)
  pub shows : text ≡ extract_from name from entries
  pub kept : Kept old new

abbrev pub extract : (from : Option ℕ) → Name → Place → Row
extract from name p = record (reading name p) {
  early = refused_with name (in_state why_not_open p.site);
  typed = λ text q. Extracts name from text p q;
  fault = λ k q. FailsUnchanged k (in_new_state (Failed k) p.site) p q;
}
