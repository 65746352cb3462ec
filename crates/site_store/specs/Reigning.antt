-- Beginning a reign, by what a site has in memory.
use Rattle.std.specs.Prelude.{◌≡◌, ◌⊎◌, ◌≤◌, ◌<◌, ◌≢◌, ◌+◌, length}
use Rattle.global_defs.specs.declared.limits.TheConstants.{MOST_REIGNS}
use Rattle.global_defs.specs.Entry.{Reign}
use Rattle.journal_defs.specs.Instance.{site_name, greatest_cycle}
use Rattle.journal_defs.specs.Surviving.{reigns}
use Rattle.site_defs.specs.Limits.{LAST_CYCLE}
use Rattle.site_store.specs.declared.memory.Memory.{Memory}
use Rattle.site_store.specs.Site.{count_of}

-- there are as many reigns as there may be, or one has the last cycle
abbrev pub HasNoReignLeft : Memory → Type 0
HasNoReignLeft s = (MOST_REIGNS ≤ length (reigns s.instance.records)) ⊎ (greatest_cycle s.instance.records ≡ LAST_CYCLE)

-- neither
pub record HasReignLeft (s : Memory) : Type 0 where
  pub reigns : length (reigns s.instance.records) < MOST_REIGNS
  pub cycle : greatest_cycle s.instance.records ≢ LAST_CYCLE

-- the reign that begins behind the last entry, under the site's own name and the next cycle
pub record IsNextReign (s : Memory) (r : Reign) : Type 0 where
  pub root : r.stamp.root ≡ site_name s.instance.records
  pub cycle : r.stamp.cycle ≡ greatest_cycle s.instance.records + 1
  pub start : r.start ≡ count_of s + 1
