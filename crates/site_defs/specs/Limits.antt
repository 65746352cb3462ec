-- What a site's files allow.
use Rattle.global_defs.specs.declared.limits.TheConstants.{MOST_REIGNS, MOST_GENERATIONS}
use Rattle.site_defs.specs.Contents.{Name}
use Rattle.std.specs.Prelude.{ℕ, ◌-◌, ◌^◌, ◌==◌, nat_le, Bool, not, List, length, Option, ◌&&◌, ◌||◌, if◌then◌else◌}
use Rattle.std.specs.Str.{bytes_eq}
use Rattle.journal_defs.specs.Directory.{Pattern}
use Rattle.journal_defs.specs.Instance.{generation, greatest_cycle, regions}
use Rattle.journal_defs.specs.Surviving.{reigns}
use Rattle.global_defs.specs.Pattern.{ends_in_star, stem}
use Rattle.global_defs.specs.Rising.{begun_by}
use Rattle.site_defs.specs.Lists.{first_where}
use Rattle.site_defs.specs.Contents.{Contents, same_name}

-- the last generation that an opening may draw is one below the greatest that there is
abbrev pub LAST_GENERATION : ℕ
LAST_GENERATION = MOST_GENERATIONS - 1

-- the greatest cycle that there is
abbrev pub LAST_CYCLE : ℕ
LAST_CYCLE = 2 ^ 32 - 1

-- the number of the region of that name
abbrev pub region_number : Name → Contents → Option ℕ
region_number region c = first_where (λ r. same_name r.name region) (regions c.instance)

-- the pattern is written so, whatever its region
abbrev pub is_written : List ℕ → Pattern → Bool
is_written text p = (if p.star then ends_in_star text else not (ends_in_star text)) && bytes_eq p.name (stem text)

-- an opening may draw no generation more
abbrev pub no_generation_left : Contents → Bool
no_generation_left c = nat_le LAST_GENERATION (generation c.instance)

-- as many reigns as there may be have begun by the length, or a reign has the last cycle, also one that was dropped
abbrev pub no_reign_left : Contents → Bool
no_reign_left c = nat_le MOST_REIGNS (length (begun_by (length c.sequence) (reigns c.instance))) || greatest_cycle c.instance == LAST_CYCLE
