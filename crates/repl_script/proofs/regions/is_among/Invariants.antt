use Rattle.std.proofs.Common.{◌≡◌, map, drop}
use Rattle.std.specs.List.{list_any}
use Rattle.std.specs.Str.{bytes_eq}
use Rattle.gvn_model.specs.Regions.{named_region}
use Rattle.repl_script.proofs.regions.is_among.Given as goal

-- what is left tells it
abbrev pub invariant-loop-region : goal.invariant-loop-region
invariant-loop-region l = list_any (λ r. bytes_eq r.name l.name) (map named_region (drop l.region-index l.regions)) ≡ list_any (λ r. bytes_eq r.name l.name) (map named_region l.regions)
