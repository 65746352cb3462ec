use Rattle.std.proofs.Common.{arith, refl}
use Rattle.journal_defs.specs.Instance.{generation}
use Rattle.site_store.proofs.Errors.{of_taken}
use Rattle.site_store.proofs.Marked as marking
use Rattle.site_store.proofs.Standing.{still}
use Rattle.site_store.proofs.memory.Memory.mark.Goals as goal

pub returns-clause-ready : goal.returns-clause-ready
returns-clause-ready g c =
    let t = c.take_epoch-taken in
    let v = g.D.Disk.disk c.args.disk.now in
    let w = g.D.Disk.disk t.new.disk in
    of_taken t.result c.answered.result _ _ c.answered.ensures.done t.ensures.together (λ together.
    marking.ready_taken v w c.args.self.now _ c.requires.ready t.ensures.frame together t.ensures.count t.ensures.same refl refl refl)

pub returns-clause-done : goal.returns-clause-done
returns-clause-done g c =
    let t = c.take_epoch-taken in
    let v = g.D.Disk.disk c.args.disk.now in
    let w = g.D.Disk.disk t.new.disk in
    of_taken t.result c.answered.result _ _ c.answered.ensures.done t.ensures.done (λ taken told x o.
    marking.open_taken v w told c.args.closing x c.args.self.now _ c.requires.ready c.count.ensures.joined (g.met.D.Disk.lawful c.args.disk.now) (g.met.D.Disk.lawful t.new.disk)
    (λ u seq h newer kept size. taken u seq h newer kept (let e = c.len-number.ensures in omega (arith, size, e))) t.ensures.frame t.ensures.same refl refl refl o)

pub returns-clause-none_needs : goal.returns-clause-none_needs
returns-clause-none_needs g c =
    let t = c.take_epoch-taken in
    let v = g.D.Disk.disk c.args.disk.now in
    let w = g.D.Disk.disk t.new.disk in
    of_taken t.result c.answered.result _ _ c.answered.ensures.done t.ensures.done (λ taken x o.
    let k = o.is.kept refl in
    let size = o.is.remembered.count in
    marking.none_needs w c.args.closing _ x.sequence _ _ _ _
    (taken k.records x.sequence k.g k.newer (marking.is_kept v x c.args.self.now k (o.none_waits refl) o.is.remembered c.requires.ready c.count.ensures.joined (g.met.D.Disk.lawful c.args.disk.now)) (let e = c.len-number.ensures in omega (arith, size, e))))

pub returns-clause-any_moment : goal.returns-clause-any_moment
returns-clause-any_moment g c x o =
    let t = c.take_epoch-taken in
    marking.marks_moments (g.D.Disk.disk c.args.disk.now) (g.D.Disk.disk t.new.disk) x c.args.self.now (o.is.kept refl) (o.none_waits refl) o.is.remembered c.requires.ready c.count.ensures.joined (g.met.D.Disk.lawful c.args.disk.now) (g.met.D.Disk.lawful t.new.disk)
    (λ u seq h newer kept size. t.ensures.any_moment u seq h newer kept (let e = c.len-number.ensures in omega (arith, size, e)))

pub returns-clause-left : goal.returns-clause-left
returns-clause-left g c x o =
    let t = c.take_epoch-taken in
    marking.marks_left (g.D.Disk.disk c.args.disk.now) (g.D.Disk.disk t.new.disk) x c.args.self.now (o.is.kept refl) (o.none_waits refl) o.is.remembered c.requires.ready c.count.ensures.joined (g.met.D.Disk.lawful c.args.disk.now) (g.met.D.Disk.lawful t.new.disk)
    (λ u seq h newer kept size. t.ensures.any_moment u seq h newer kept (let e = c.len-number.ensures in omega (arith, size, e)))

pub returns-clause-still_told : goal.returns-clause-still_told
returns-clause-still_told g c told =
    still (g.D.Disk.disk c.args.disk.now) (g.D.Disk.disk c.take_epoch-taken.new.disk) _ (c.take_epoch-taken.ensures.frame (generation c.args.self.now.instance.records) c.requires.ready.journals) told

pub returns-clause-simulated : goal.returns-clause-simulated
returns-clause-simulated g c = (c.take_epoch-taken.ensures.frame (generation c.args.self.now.instance.records) c.requires.ready.journals).simulated
