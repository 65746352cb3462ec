-- What a stand-in of a secondary stands for.
use Rattle.std.specs.Prelude.{option_map, ◌≤◌, length}
use Rattle.std.specs.List.{AllByRecursion}
use Rattle.global_defs.specs.Entry.{state}
use Rattle.gvn_model.specs.Reigns.{reign_value}
use Rattle.update_process.specs.Copies.{Copy}
use Rattle.ship_stands.specs.declared.site.Site.{Site}

-- its globals are those of its entries
abbrev pub copy_of : Site → Copy
copy_of s = record {
  sequence = s.story.sequence;
  hardened = s.hardened;
  reigns = s.history.reigns;
  remembered = option_map reign_value s.remembered;
  globals = state s.story.sequence;
}

-- all its reigns have begun
abbrev pub IsFitSite : Site → Type 0
IsFitSite s = AllByRecursion (λ r. r.start ≤ length s.story.sequence) s.history.reigns
