use Rattle.std.proofs.Common.{length, sym, ◌∙◌, arith}
use Rattle.disk_defs.proofs.Frames.{others_then}
use Rattle.region_journals.specs.Fronts.{IsNewestFile}
use Rattle.region_store.specs.Joined.{region_at}
use Rattle.region_epochs.proofs.Reading.{frame_as}
use Rattle.region_epochs.proofs.Logs.{first_moments, image_moments, is_imaged, held_after}
use Rattle.region_epochs.proofs.imaging.log_images.Goals as goal

pub returns-in_err-log_regions-clause-any_moment : goal.returns-in_err-log_regions-clause-any_moment
returns-in_err-log_regions-clause-any_moment g c s seq h newer k =
    let view = g.D.Disk.disk in
    first_moments (view c.args.disk.now) (view c.log_regions.new.disk) s seq h newer c.args.journals.now.journals.items c.args.regions.now k c.log_regions.ensures.any_moment

pub harden-requires : goal.harden-requires
harden-requires g c = let t = c.requires.together in record { ready = (t.0, c.in_ok-log_regions.ensures.ready t.0 t.1.ready) }

pub returns-in_err-harden-clause-any_moment : goal.returns-in_err-harden-clause-any_moment
returns-in_err-harden-clause-any_moment g c s seq h newer k =
    let view = g.D.Disk.disk in
    let call = c.in_ok-log_regions.ensures in
    image_moments (view c.args.disk.now) (view c.log_regions.new.disk) (view c.harden.new.disk) s seq h newer c.args.journals.now.journals.items c.log_regions.new.journals.journals.items c.args.regions.now k
    (g.met.D.Disk.lawful c.log_regions.new.disk) c.log_regions.ensures.any_moment c.log_regions.ensures.frame c.log_regions.ensures.count call.ready call.state c.harden.ensures.any_moment

pub returns-in_err-harden-clause-frame : goal.returns-in_err-harden-clause-frame
returns-in_err-harden-clause-frame g c h ready =
    let view = g.D.Disk.disk in
    let js = c.args.journals.now.journals.items in
    let ks = c.log_regions.new.journals.journals.items in
    let v = view c.log_regions.new.disk in
    let w = view c.harden.new.disk in
    others_then (IsNewestFile h (length js)) (view c.args.disk.now) v w (c.log_regions.ensures.frame h ready) (frame_as v w h (length ks) (length js) c.log_regions.ensures.count (c.harden.ensures.frame h (c.in_ok-log_regions.ensures.ready h ready)))

pub returns-clause-any_moment : goal.returns-clause-any_moment
returns-clause-any_moment g c s seq h newer k =
    let view = g.D.Disk.disk in
    let call = c.in_ok-log_regions.ensures in
    image_moments (view c.args.disk.now) (view c.log_regions.new.disk) (view c.harden.new.disk) s seq h newer c.args.journals.now.journals.items c.log_regions.new.journals.journals.items c.args.regions.now k
    (g.met.D.Disk.lawful c.log_regions.new.disk) c.log_regions.ensures.any_moment c.log_regions.ensures.frame c.log_regions.ensures.count call.ready call.state c.harden.ensures.any_moment

pub returns-clause-frame : goal.returns-clause-frame
returns-clause-frame g c h ready =
    let view = g.D.Disk.disk in
    let js = c.args.journals.now.journals.items in
    let ks = c.log_regions.new.journals.journals.items in
    let v = view c.log_regions.new.disk in
    let w = view c.harden.new.disk in
    others_then (IsNewestFile h (length js)) (view c.args.disk.now) v w (c.log_regions.ensures.frame h ready) (frame_as v w h (length ks) (length js) c.log_regions.ensures.count (c.harden.ensures.frame h (c.in_ok-log_regions.ensures.ready h ready)))

pub returns-clause-together : goal.returns-clause-together
returns-clause-together g c h t =
    let view = g.D.Disk.disk in
    let u = view c.args.disk.now in
    let v = view c.log_regions.new.disk in
    let w = view c.harden.new.disk in
    let js = c.args.journals.now.journals.items in
    let ks = c.log_regions.new.journals.journals.items in
    let j = c.args.regions.now in
    let marked = c.mark_regions.ensures in
    let i = c.mark_regions.new.regions in
    let ready = c.in_ok-log_regions.ensures.ready h t.ready in
    let frame = others_then (IsNewestFile h (length js)) u v w (c.log_regions.ensures.frame h t.ready) (frame_as v w h (length ks) (length js) c.log_regions.ensures.count (c.harden.ensures.frame h ready)) in
    let many = t.count in
    let same = marked.same.count in
    record {
      ready = c.in_ok-harden.ensures.ready h ready;
      count = c.harden.ensures.count ∙ c.log_regions.ensures.count ∙ t.count ∙ sym marked.same.count;
      files = λ r low. marked.same.files r ∙ t.files r (omega (arith, low, same));
      held = λ r low. held_after u w h (length js) r (region_at j r) (region_at i r) frame t.ready.few (omega (arith, low, same, many)) (t.files r (omega (arith, low, same)))
          (marked.marks r (omega (arith, low, same)), λ e bytes q. marked.holds r e bytes q (omega (arith, low, same))) (t.held r (omega (arith, low, same)));
    }

pub returns-clause-done : goal.returns-clause-done
returns-clause-done g c s seq h newer k =
    let view = g.D.Disk.disk in
    let call = c.in_ok-log_regions.ensures in
    let last = c.in_ok-harden.ensures in
    let marked = c.mark_regions.ensures in
    is_imaged (view c.args.disk.now) (view c.log_regions.new.disk) (view c.harden.new.disk) s seq h newer c.args.journals.now.journals.items c.log_regions.new.journals.journals.items c.args.regions.now k
    (g.met.D.Disk.lawful c.log_regions.new.disk) c.log_regions.ensures.any_moment c.log_regions.ensures.frame c.log_regions.ensures.count call.ready call.state
    c.harden.new.self.journals.items c.mark_regions.new.regions (g.met.D.Disk.lawful c.harden.new.disk) c.harden.ensures.frame c.harden.ensures.count last.ready last.state marked.same.count
    (λ r low. (marked.marks r low, λ e bytes q. marked.holds r e bytes q low))
