use Rattle.std.proofs.Common.{inl, refl, ◌∙◌, ap, arith}
use Rattle.disk_defs.proofs.Moments.{weaker, then_more, holds_now}
use Rattle.entry_index.specs.Found.{entry_count}
use Rattle.site_defs.specs.Contents.{Contents, Standing, bare}
use Rattle.site_defs.specs.Behind.{IsSiteWith}
use Rattle.site_defs.specs.Epochs.{MayMark, MayMarkLeft}
use Rattle.site_defs.specs.Stands.{IsSite}
use Rattle.site_store.proofs.Committed as committed
use Rattle.site_store.proofs.Errors.{on_ok}
use Rattle.site_store.proofs.Standing.{reads_of, still}
use Rattle.site_store.proofs.memory.Memory.epoch.Goals as goal

pub returns-in_err-settle-clause-any_moment : goal.returns-in_err-settle-clause-any_moment
returns-in_err-settle-clause-any_moment g c x o =
    weaker (g.D.Disk.disk c.args.disk.now) (g.D.Disk.disk c.settle.new.disk) (λ f. IsSiteWith f (bare x)) (λ f. (o : Contents) × MayMark x o × IsSite f o) (λ f q. (x, inl refl, q.site)) (c.settle.ensures.left x o)

pub returns-in_err-settle-clause-left : goal.returns-in_err-settle-clause-left
returns-in_err-settle-clause-left g c x o =
    weaker (g.D.Disk.disk c.args.disk.now) (g.D.Disk.disk c.settle.new.disk) (λ f. IsSiteWith f (bare x)) (λ f. (o : Standing) × MayMarkLeft (bare x) o × IsSiteWith f o) (λ f q. (bare x, inl refl, q)) (c.settle.ensures.left x o)

pub returns-in_err-settle-clause-stands : goal.returns-in_err-settle-clause-stands
returns-in_err-settle-clause-stands g c x o =
    let w = g.D.Disk.disk c.settle.new.disk in
    reads_of w (λ f. (o : Contents) × MayMark x o × IsSite f o) (g.met.D.Disk.lawful c.settle.new.disk)
    (λ f now. (x, inl refl, (holds_now (g.D.Disk.disk c.args.disk.now) w (λ f. IsSiteWith f (bare x)) (g.met.D.Disk.lawful c.settle.new.disk) (c.settle.ensures.left x o) f now).site))

pub returns-in_err-settle-clause-still_told : goal.returns-in_err-settle-clause-still_told
returns-in_err-settle-clause-still_told g c told = still (g.D.Disk.disk c.args.disk.now) (g.D.Disk.disk c.settle.new.disk) _ c.settle.ensures.frame told

pub returns-in_err-settle-clause-simulated : goal.returns-in_err-settle-clause-simulated
returns-in_err-settle-clause-simulated g c = c.settle.ensures.frame.simulated

pub returns-in_err-settle-clause-reign : goal.returns-in_err-settle-clause-reign
returns-in_err-settle-clause-reign g c r =
    committed.reign_stays c.args.self.now c.settle.new.self r c.settle.ensures.same.instance c.settle.ensures.same.stamp (let same = ap entry_count c.settle.ensures.entries in omega (arith, same))

pub returns-clause-any_moment : goal.returns-clause-any_moment
returns-clause-any_moment g c x o =
    let u = g.D.Disk.disk c.args.disk.now in
    let v = g.D.Disk.disk c.settle.new.disk in
    then_more u v (g.D.Disk.disk c.mark.new.disk) (λ f. (o : Contents) × MayMark x o × IsSite f o) (λ f. (o : Contents) × MayMark x o × IsSite f o)
    (weaker u v (λ f. IsSiteWith f (bare x)) (λ f. (o : Contents) × MayMark x o × IsSite f o) (λ f q. (x, inl refl, q.site)) (c.settle.ensures.left x o))
    (c.mark.ensures.any_moment x (c.in_ok-settle.ensures.settled _ x o)) (λ f q. q)

pub returns-clause-left : goal.returns-clause-left
returns-clause-left g c x o =
    let u = g.D.Disk.disk c.args.disk.now in
    let v = g.D.Disk.disk c.settle.new.disk in
    then_more u v (g.D.Disk.disk c.mark.new.disk) (λ f. (o : Standing) × MayMarkLeft (bare x) o × IsSiteWith f o) (λ f. (o : Standing) × MayMarkLeft (bare x) o × IsSiteWith f o)
    (weaker u v (λ f. IsSiteWith f (bare x)) (λ f. (o : Standing) × MayMarkLeft (bare x) o × IsSiteWith f o) (λ f q. (bare x, inl refl, q)) (c.settle.ensures.left x o))
    (c.mark.ensures.left x (c.in_ok-settle.ensures.settled _ x o)) (λ f q. q)

pub returns-clause-stands : goal.returns-clause-stands
returns-clause-stands g c x o =
    let v = g.D.Disk.disk c.settle.new.disk in
    let w = g.D.Disk.disk c.mark.new.disk in
    reads_of w (λ f. (o : Contents) × MayMark x o × IsSite f o) (g.met.D.Disk.lawful c.mark.new.disk)
    (holds_now v w (λ f. (o : Contents) × MayMark x o × IsSite f o) (g.met.D.Disk.lawful c.mark.new.disk) (c.mark.ensures.any_moment x (c.in_ok-settle.ensures.settled _ x o)))

pub returns-clause-still_told : goal.returns-clause-still_told
returns-clause-still_told g c told = c.mark.ensures.still_told (still (g.D.Disk.disk c.args.disk.now) (g.D.Disk.disk c.settle.new.disk) _ c.settle.ensures.frame told)

pub returns-clause-simulated : goal.returns-clause-simulated
returns-clause-simulated g c = c.mark.ensures.simulated ∙ c.settle.ensures.frame.simulated

pub returns-clause-reign : goal.returns-clause-reign
returns-clause-reign g c r =
    committed.reign_stays c.args.self.now c.mark.new.self r (c.mark.ensures.same.instance ∙ c.settle.ensures.same.instance) (c.mark.ensures.same.stamp ∙ c.settle.ensures.same.stamp)
    (let same = ap entry_count (c.mark.ensures.entries ∙ c.settle.ensures.entries) in omega (arith, same))

pub returns-clause-done : goal.returns-clause-done
returns-clause-done g c = on_ok c.mark.result _ _ c.mark.ensures.done (λ done told x o. done told x (c.in_ok-settle.ensures.settled told x o))
