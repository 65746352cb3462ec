use Rattle.std.proofs.Common.{◌⊎◌, true, ℕ, Err, refl, ◌∙◌, ap}
use Rattle.disk_defs.specs.Disk.{AtEachMoment}
use Rattle.gvn_model.specs.Reigns.{reign_value}
use Rattle.site_defs.specs.Behind.{IsSiteWith}
use Rattle.site_defs.specs.Contents.{Contents, bare}
use Rattle.site_defs.specs.Stands.{IsSite}
use Rattle.site_store.specs.Following.{with_adopted}
use Rattle.site_store.specs.Site.{IsOpen}
use Rattle.site_store.proofs.Begun as reigning
use Rattle.site_store.proofs.Adopted as adopting
use Rattle.site_store.proofs.Adopted.{front}
use Rattle.site_store.proofs.memory.Memory.append_reign.Given.{Over}
use Rattle.site_store.proofs.memory.Memory.append_reign.Goals.{After-reign}
use Rattle.site_store.proofs.memory.Memory.append_reign.Goals as goal

abbrev MayBegin : (g : Over) (c : After-reign g) → Type 0
MayBegin g c = (y : Contents) (h : ℕ) → IsOpen (g.D.Disk.disk c.args.disk.now) true y h c.args.self.now
    → AtEachMoment (g.D.Disk.disk c.args.disk.now) (g.D.Disk.disk c.reign.new.disk) (λ f. IsSite f (front y h) ⊎ IsSite f (with_adopted (reign_value c.args.reign.now) (front y h)))

moments : (g : Over) (c : After-reign g) → MayBegin g c
moments g c y h = adopting.moments_adopted (g.D.Disk.disk c.args.disk.now) (g.D.Disk.disk c.reign.new.disk) y h c.args.self.now (reign_value c.args.reign.now) c.requires.to_come c.reign.ensures.any_moment

abbrev MayBeginBare : (g : Over) (c : After-reign g) → Type 0
MayBeginBare g c = (y : Contents) (h : ℕ) → IsOpen (g.D.Disk.disk c.args.disk.now) true y h c.args.self.now
    → AtEachMoment (g.D.Disk.disk c.args.disk.now) (g.D.Disk.disk c.reign.new.disk) (λ f. IsSiteWith f (bare (front y h)) ⊎ IsSiteWith f (bare (with_adopted (reign_value c.args.reign.now) (front y h))))

left : (g : Over) (c : After-reign g) → MayBeginBare g c
left g c y h = adopting.left_adopted (g.D.Disk.disk c.args.disk.now) (g.D.Disk.disk c.reign.new.disk) y h c.args.self.now (reign_value c.args.reign.now) c.requires.to_come c.reign.ensures.any_moment

pub returns-in-Ok-clause-any_moment : goal.returns-in-Ok-clause-any_moment
returns-in-Ok-clause-any_moment g c = moments g (goal.at.returns-in-Ok-clause-any_moment g c).After-reign

pub returns-in-Ok-clause-left : goal.returns-in-Ok-clause-left
returns-in-Ok-clause-left g c = left g (goal.at.returns-in-Ok-clause-left g c).After-reign

pub returns-in-Err-Failed-clause-any_moment : goal.returns-in-Err-Failed-clause-any_moment
returns-in-Err-Failed-clause-any_moment g c = moments g (goal.at.returns-in-Err-Failed-clause-any_moment g c).After-reign

pub returns-in-Err-Failed-clause-left : goal.returns-in-Err-Failed-clause-left
returns-in-Err-Failed-clause-left g c = left g (goal.at.returns-in-Err-Failed-clause-left g c).After-reign

pub returns-in-Err-NoMemory-clause-left : goal.returns-in-Err-NoMemory-clause-left
returns-in-Err-NoMemory-clause-left g c = left g (goal.at.returns-in-Err-NoMemory-clause-left g c).After-reign

pub returns-in-Ok-clause-journals : goal.returns-in-Ok-clause-journals
returns-in-Ok-clause-journals g c = adopting.journals_adopted (g.D.Disk.disk c.args.disk.now) (g.D.Disk.disk c.reign.new.disk) c.args.self.now c.requires.ready c.reign.ensures.frame

pub returns-in-Err-Failed-clause-journals : goal.returns-in-Err-Failed-clause-journals
returns-in-Err-Failed-clause-journals g c = adopting.journals_adopted (g.D.Disk.disk c.args.disk.now) (g.D.Disk.disk c.reign.new.disk) c.args.self.now c.requires.ready c.reign.ensures.frame

pub returns-in-Err-NoMemory-clause-journals : goal.returns-in-Err-NoMemory-clause-journals
returns-in-Err-NoMemory-clause-journals g c = adopting.journals_adopted (g.D.Disk.disk c.args.disk.now) (g.D.Disk.disk c.reign.new.disk) c.args.self.now c.requires.ready c.reign.ensures.frame

pub returns-in-Ok-clause-ready : goal.returns-in-Ok-clause-ready
returns-in-Ok-clause-ready g c =
    let ready = c.requires.ready in
    reigning.ready_begun (g.D.Disk.disk c.args.disk.now) (g.D.Disk.disk c.reign.new.disk) c.args.self.now _ (reign_value c.args.reign.now) ready (adopting.has_record (g.D.Disk.disk c.args.disk.now) c.args.self.now ready) c.in-Ok.ensures.ready c.in-Ok.ensures.records refl refl
    c.reign.ensures.frame refl refl

pub returns-in-Ok-clause-begun : goal.returns-in-Ok-clause-begun
returns-in-Ok-clause-begun g c told y h o =
    adopting.open_adopted (g.D.Disk.disk c.args.disk.now) (g.D.Disk.disk c.reign.new.disk) told y h c.args.self.now _ (reign_value c.args.reign.now) (g.met.D.Disk.lawful c.reign.new.disk)
    (record { ready = c.requires.ready; to_come = c.requires.to_come; stays = c.reign.ensures.frame; state = c.in-Ok.ensures.state; records = c.in-Ok.ensures.records }) refl refl refl refl o

pub returns-in-Err-NoMemory-clause-goes_on : goal.returns-in-Err-NoMemory-clause-goes_on
returns-in-Err-NoMemory-clause-goes_on g c is =
    reigning.ready_kept (g.D.Disk.disk c.args.disk.now) (g.D.Disk.disk c.reign.new.disk) c.args.self.now _ c.requires.ready (c.reign.ensures.no_memory_ready (c.in-Err-NoMemory.is ∙ ap Err c.in-Err-NoMemory.field-0-is)) c.in-Err-NoMemory.ensures.kept refl refl c.reign.ensures.frame refl refl

pub returns-in-Err-NoMemory-clause-stays_open : goal.returns-in-Err-NoMemory-clause-stays_open
returns-in-Err-NoMemory-clause-stays_open g c is told y h o =
    reigning.open_kept (g.D.Disk.disk c.args.disk.now) (g.D.Disk.disk c.reign.new.disk) told y h c.args.self.now _ (g.met.D.Disk.lawful c.reign.new.disk) c.requires.ready c.reign.ensures.frame (c.reign.ensures.no_memory_moment (c.in-Err-NoMemory.is ∙ ap Err c.in-Err-NoMemory.field-0-is))
    (c.reign.ensures.no_memory_state (c.in-Err-NoMemory.is ∙ ap Err c.in-Err-NoMemory.field-0-is)) c.in-Err-NoMemory.ensures.kept refl refl refl refl o
