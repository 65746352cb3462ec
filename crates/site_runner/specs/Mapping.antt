-- What mapping a pattern means at the place of a site that was looked at for it.
use Rattle.std.specs.Prelude.{◌≡◌, ◌≤◌, ◌<◌, ℕ, Bool, List, length, Some, None, IsTrue, IfSome, IsSomeAnd}
use Rattle.disk_defs.specs.Disk.{Files, View, Image}
use Rattle.journal_defs.specs.Instance.{generation, regions}
use Rattle.command_defs.specs.Commands.{Name}
use Rattle.site_defs.specs.Lists.{Among}
use Rattle.world_defs.specs.World.{Place, IfShown}
use Rattle.site_defs.specs.Contents.{Contents, Standing}
use Rattle.world_defs.specs.rows.Map.{map_pattern, twice_mapped}
use Rattle.site_defs.specs.Limits.{region_number}
use Rattle.world_defs.specs.Step.{LeftByRow}
use Rattle.world_defs.specs.Ties.{Matches}
use Rattle.site_defs.specs.Stands.{Stands, Reads}
use Rattle.site_defs.specs.Behind.{StandsSo}
use Rattle.site_runner.specs.Sites.{Down, Site, site_value, IsMade}
use Rattle.site_runner.specs.Executes.{Comes}
use Rattle.site_runner.specs.Steps.{IsAt}

-- A site that is down was looked at: its place as it was before. Each outcome that there still is has the same instance file.
pub record IsSeenAt (v : View) (s : Site) (p : Place) : Type 0 where
  pub site : p.site ≡ Some (site_value s)
  pub down : s.state ≡ Down
  pub made : IsTrue p.told → IsMade s.name p
  pub reads : IsTrue p.told → IsSomeAnd v.content (λ files. Reads files p.now p.left)
  pub images : IsTrue p.told → (f : Files) → Image v f → (o : Contents) × Among p.outcomes o × Stands f o
  pub standings : IsTrue p.told → IfSome p.standings (λ os. (f : Files) → Image v f → (o : Standing) × Among os o × StandsSo f o)
  pub alike : IsTrue p.told → (f : Files) (o : Contents) → Image v f → Stands f o → o.instance ≡ p.now.instance
  pub shown : IfShown p (λ files. v.content ≡ Some files)
  pub known : IsTrue p.told → p.shown ≡ v.content
  pub faults : p.faults ≤ v.faults
  pub simulated : v.simulated ≡ p.simulated

-- nothing is against mapping the pattern to the region of that name, which has this number
pub record IsUnmappedIn (region : Name) (number : ℕ) (text : List ℕ) (c : Contents) : Type 0 where
  pub unbegun : generation c.instance ≡ 0
  pub named : region_number region c ≡ Some number
  pub inside : number < length (regions c.instance)
  pub once : twice_mapped text c.instance ≡ None

-- Whatever place the site was looked at, MAP with some answer leads from there to one at which it stands, and this is its text.
abbrev pub MapsAt : Name → List ℕ → View → Site → View → Site → List ℕ → List ℕ → Bool → Type 0
MapsAt region text v old w new before now done = (p : Place) → IsSeenAt v old p
    → Comes (map_pattern region text old.name p) (IsAt w new) before now done

-- It was cut off for want of memory.
abbrev pub IsCutSeen : Name → List ℕ → View → Site → View → Type 0
IsCutSeen region text v old w = (p : Place) → IsSeenAt v old p → (q : Place) × LeftByRow (map_pattern region text old.name p) p q × Matches w q
