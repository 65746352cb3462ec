use Rattle.std.proofs.Common.{refl, ap, arith}
use Rattle.region_store.specs.Joined.{joined}
use Rattle.site_store.proofs.Committed as committed
use Rattle.site_store.proofs.Errors.{of_each, of_err}
use Rattle.site_store.proofs.Logged as logging
use Rattle.region_epochs.specs.declared.error.EpochError.TheVariants as epochs
use Rattle.site_store.proofs.memory.Memory.log_first_image.Goals as goal

pub returns-clause-logged : goal.returns-clause-logged
returns-clause-logged g c =
    let t = c.log_first_image-logged in
    let v = g.D.Disk.disk c.args.disk.now in
    let w = g.D.Disk.disk t.new.disk in
    of_each t.result c.answered.result _ _ _ _ _ _ c.answered.ensures.done t.ensures.ready t.ensures.state t.ensures.marks t.ensures.holds t.ensures.elsewhere (λ journals state marks holds elsewhere.
    logging.has_logged v w c.args.self.now _
    (logging.logs_one v w c.args.self.now _ c.requires.ready journals t.ensures.count t.ensures.any_moment t.ensures.frame (record { instance = refl; layout = refl; hardened = refl; stamp = refl }) refl
    c.args.region c.args.block c.requires.inside marks elsewhere state holds)
    (let inside = c.requires.inside in omega (arith, inside)) (g.met.D.Disk.lawful c.args.disk.now) (g.met.D.Disk.lawful t.new.disk))

pub returns-clause-goes_on : goal.returns-clause-goes_on
returns-clause-goes_on g c none =
    let t = c.log_first_image-logged in
    let v = g.D.Disk.disk c.args.disk.now in
    let w = g.D.Disk.disk t.new.disk in
    let was = c.answered.ensures.memory none in
    logging.has_logged v w c.args.self.now _
    (logging.logs_none v w c.args.self.now _ c.requires.ready (t.ensures.goes_on was) t.ensures.count t.ensures.any_moment t.ensures.frame (record { instance = refl; layout = refl; hardened = refl; stamp = refl }) refl
    (t.ensures.none was) (of_err t.result _ epochs.NoMemory t.ensures.kept was))
    (let inside = c.requires.inside in omega (arith, inside)) (g.met.D.Disk.lawful c.args.disk.now) (g.met.D.Disk.lawful t.new.disk)

pub returns-clause-moments : goal.returns-clause-moments
returns-clause-moments g c =
    logging.logging_moments (g.D.Disk.disk c.args.disk.now) (g.D.Disk.disk c.log_first_image-logged.new.disk) c.args.self.now c.requires.ready c.log_first_image-logged.ensures.any_moment

pub returns-clause-frame : goal.returns-clause-frame
returns-clause-frame g c = committed.own_stays (g.D.Disk.disk c.args.disk.now) (g.D.Disk.disk c.log_first_image-logged.new.disk) c.args.self.now c.requires.ready c.log_first_image-logged.ensures.frame

pub returns-clause-still : goal.returns-clause-still
returns-clause-still g c fault is =
    let t = c.log_first_image-logged in
    record { entries = refl; globals = ap joined (of_err t.result _ epochs.Failed t.ensures.kept (c.answered.ensures.count fault is).1) }
