use Rattle.std.proofs.Common.{Err, refl, sym, ◌∙◌, ap}
use Rattle.gvn_model.specs.Reigns.{reign_value}
use Rattle.site_store.proofs.Begun as reigning
use Rattle.site_store.proofs.memory.Memory.begin_reign.Goals as goal

pub reign-requires-clause-past : goal.reign-requires-clause-past
reign-requires-clause-past g c = reigning.past_all c.args.self.now (reign_value c.args.reign.now) c.requires.opened.no_reign_past c.requires.next

pub returns-in-Err-Failed-clause-any_moment : goal.returns-in-Err-Failed-clause-any_moment
returns-in-Err-Failed-clause-any_moment g c x o =
    reigning.moments_begun (g.D.Disk.disk c.args.disk.now) (g.D.Disk.disk c.reign.new.disk) x c.args.self.now (reign_value c.args.reign.now) c.requires.opened.no_reign_past c.requires.next c.reign.ensures.any_moment o

pub returns-in-Err-Failed-clause-stands : goal.returns-in-Err-Failed-clause-stands
returns-in-Err-Failed-clause-stands g c x o =
    reigning.stands_begun (g.D.Disk.disk c.args.disk.now) (g.D.Disk.disk c.reign.new.disk) x (g.met.D.Disk.lawful c.reign.new.disk)
    (reigning.moments_begun (g.D.Disk.disk c.args.disk.now) (g.D.Disk.disk c.reign.new.disk) x c.args.self.now (reign_value c.args.reign.now) c.requires.opened.no_reign_past c.requires.next c.reign.ensures.any_moment o)

pub returns-in-Err-NoMemory-clause-any_moment : goal.returns-in-Err-NoMemory-clause-any_moment
returns-in-Err-NoMemory-clause-any_moment g c x o =
    reigning.moments_begun (g.D.Disk.disk c.args.disk.now) (g.D.Disk.disk c.reign.new.disk) x c.args.self.now (reign_value c.args.reign.now) c.requires.opened.no_reign_past c.requires.next c.reign.ensures.any_moment o

pub returns-in-Err-NoMemory-clause-stands : goal.returns-in-Err-NoMemory-clause-stands
returns-in-Err-NoMemory-clause-stands g c x o =
    reigning.stands_begun (g.D.Disk.disk c.args.disk.now) (g.D.Disk.disk c.reign.new.disk) x (g.met.D.Disk.lawful c.reign.new.disk)
    (reigning.moments_begun (g.D.Disk.disk c.args.disk.now) (g.D.Disk.disk c.reign.new.disk) x c.args.self.now (reign_value c.args.reign.now) c.requires.opened.no_reign_past c.requires.next c.reign.ensures.any_moment o)

pub returns-in-Ok-clause-any_moment : goal.returns-in-Ok-clause-any_moment
returns-in-Ok-clause-any_moment g c x o =
    reigning.moments_begun (g.D.Disk.disk c.args.disk.now) (g.D.Disk.disk c.reign.new.disk) x c.args.self.now (reign_value c.args.reign.now) c.requires.opened.no_reign_past c.requires.next c.reign.ensures.any_moment o

pub returns-in-Ok-clause-stands : goal.returns-in-Ok-clause-stands
returns-in-Ok-clause-stands g c x o =
    reigning.stands_begun (g.D.Disk.disk c.args.disk.now) (g.D.Disk.disk c.reign.new.disk) x (g.met.D.Disk.lawful c.reign.new.disk)
    (reigning.moments_begun (g.D.Disk.disk c.args.disk.now) (g.D.Disk.disk c.reign.new.disk) x c.args.self.now (reign_value c.args.reign.now) c.requires.opened.no_reign_past c.requires.next c.reign.ensures.any_moment o)

pub returns-in-Ok-clause-ready : goal.returns-in-Ok-clause-ready
returns-in-Ok-clause-ready g c =
    reigning.ready_begun (g.D.Disk.disk c.args.disk.now) (g.D.Disk.disk c.reign.new.disk) c.args.self.now _ (reign_value c.args.reign.now) c.requires.ready c.requires.opened.created c.in-Ok.ensures.ready c.in-Ok.ensures.records refl refl c.reign.ensures.frame refl refl

pub returns-in-Ok-clause-begun : goal.returns-in-Ok-clause-begun
returns-in-Ok-clause-begun g c told x o =
    reigning.open_begun (g.D.Disk.disk c.args.disk.now) (g.D.Disk.disk c.reign.new.disk) told x c.args.self.now _ (reign_value c.args.reign.now) (g.met.D.Disk.lawful c.reign.new.disk)
    (record { ready = c.requires.ready; created = c.requires.opened.created; past = c.requires.opened.no_reign_past; next = c.requires.next; stays = c.reign.ensures.frame; state = c.in-Ok.ensures.state; records = c.in-Ok.ensures.records }) refl refl refl refl o

pub returns-in-Ok-clause-reign : goal.returns-in-Ok-clause-reign
returns-in-Ok-clause-reign g c =
    reigning.has_reign c.args.self.now _ (reign_value c.args.reign.now) c.args.kept c.requires.next c.in-Ok.ensures.records refl refl (sym c.requires.stamp)

pub returns-in-Err-NoMemory-clause-goes_on : goal.returns-in-Err-NoMemory-clause-goes_on
returns-in-Err-NoMemory-clause-goes_on g c is =
    reigning.ready_kept (g.D.Disk.disk c.args.disk.now) (g.D.Disk.disk c.reign.new.disk) c.args.self.now _ c.requires.ready (c.reign.ensures.no_memory_ready (c.in-Err-NoMemory.is ∙ ap Err c.in-Err-NoMemory.field-0-is)) c.in-Err-NoMemory.ensures.kept refl refl c.reign.ensures.frame refl refl

pub returns-in-Err-NoMemory-clause-again : goal.returns-in-Err-NoMemory-clause-again
returns-in-Err-NoMemory-clause-again g c is = reigning.opened_kept c.args.self.now _ c.requires.opened c.in-Err-NoMemory.ensures.kept refl refl refl

pub returns-in-Err-NoMemory-clause-stays_open : goal.returns-in-Err-NoMemory-clause-stays_open
returns-in-Err-NoMemory-clause-stays_open g c is told x h o =
    reigning.open_kept (g.D.Disk.disk c.args.disk.now) (g.D.Disk.disk c.reign.new.disk) told x h c.args.self.now _ (g.met.D.Disk.lawful c.reign.new.disk) c.requires.ready c.reign.ensures.frame (c.reign.ensures.no_memory_moment (c.in-Err-NoMemory.is ∙ ap Err c.in-Err-NoMemory.field-0-is)) (c.reign.ensures.no_memory_state (c.in-Err-NoMemory.is ∙ ap Err c.in-Err-NoMemory.field-0-is)) c.in-Err-NoMemory.ensures.kept refl refl refl refl o

pub returns-in-Err-Failed-clause-left : goal.returns-in-Err-Failed-clause-left
returns-in-Err-Failed-clause-left g c x o =
    reigning.left_begun (g.D.Disk.disk c.args.disk.now) (g.D.Disk.disk c.reign.new.disk) x c.args.self.now (reign_value c.args.reign.now) c.requires.opened.no_reign_past c.requires.next c.reign.ensures.any_moment o

pub returns-in-Err-NoMemory-clause-left : goal.returns-in-Err-NoMemory-clause-left
returns-in-Err-NoMemory-clause-left g c x o =
    reigning.left_begun (g.D.Disk.disk c.args.disk.now) (g.D.Disk.disk c.reign.new.disk) x c.args.self.now (reign_value c.args.reign.now) c.requires.opened.no_reign_past c.requires.next c.reign.ensures.any_moment o

pub returns-in-Ok-clause-left : goal.returns-in-Ok-clause-left
returns-in-Ok-clause-left g c x o =
    reigning.left_begun (g.D.Disk.disk c.args.disk.now) (g.D.Disk.disk c.reign.new.disk) x c.args.self.now (reign_value c.args.reign.now) c.requires.opened.no_reign_past c.requires.next c.reign.ensures.any_moment o
