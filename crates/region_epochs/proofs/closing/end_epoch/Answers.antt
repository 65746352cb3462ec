use Rattle.std.proofs.Common.{length, sym, ◌∙◌, arith}
use Rattle.disk_defs.proofs.Frames.{others_then}
use Rattle.region_journals.specs.Fronts.{IsNewestFile}
use Rattle.region_store.specs.Joined.{region_at}
use Rattle.region_epochs.proofs.Reading.{frame_as}
use Rattle.region_epochs.proofs.Logs.{first_moments}
use Rattle.region_epochs.proofs.Ends.{epoch_moments, is_taken, held_begun, state_as}
use Rattle.region_epochs.proofs.closing.end_epoch.Goals as goal

pub returns-in_err-log_each-clause-any_moment : goal.returns-in_err-log_each-clause-any_moment
returns-in_err-log_each-clause-any_moment g c closing s seq h newer k epochs restored =
    let view = g.D.Disk.disk in
    first_moments (view c.args.disk.now) (view c.log_each.new.disk) s seq h newer c.args.journals.now.journals.items c.args.regions.now k c.log_each.ensures.any_moment

pub harden-requires : goal.harden-requires
harden-requires g c = let t = c.requires.together in record { ready = (t.0, c.in_ok-log_each.ensures.ready t.0 t.1.ready) }

pub returns-in_err-harden-clause-any_moment : goal.returns-in_err-harden-clause-any_moment
returns-in_err-harden-clause-any_moment g c closing s seq h newer k epochs restored =
    let view = g.D.Disk.disk in
    let call = c.in_ok-log_each.ensures in
    epoch_moments (view c.args.disk.now) (view c.log_each.new.disk) (view c.harden.new.disk) closing s seq h newer c.args.journals.now.journals.items c.log_each.new.journals.journals.items c.args.regions.now k
    (g.met.D.Disk.lawful c.args.disk.now) (g.met.D.Disk.lawful c.log_each.new.disk) c.log_each.ensures.any_moment c.log_each.ensures.frame c.log_each.ensures.count call.ready c.args.made epochs restored (state_as (view c.args.disk.now) (view c.log_each.new.disk) c.args.journals.now.journals.items c.log_each.new.journals.journals.items c.as_slice.result.now c.args.made.epochs.items c.as_slice.ensures.value call.state) c.harden.ensures.any_moment

pub returns-in_err-harden-clause-frame : goal.returns-in_err-harden-clause-frame
returns-in_err-harden-clause-frame g c h ready =
    let view = g.D.Disk.disk in
    let js = c.args.journals.now.journals.items in
    let ks = c.log_each.new.journals.journals.items in
    let v = view c.log_each.new.disk in
    let w = view c.harden.new.disk in
    others_then (IsNewestFile h (length js)) (view c.args.disk.now) v w (c.log_each.ensures.frame h ready) (frame_as v w h (length ks) (length js) c.log_each.ensures.count (c.harden.ensures.frame h (c.in_ok-log_each.ensures.ready h ready)))

pub returns-clause-any_moment : goal.returns-clause-any_moment
returns-clause-any_moment g c closing s seq h newer k epochs restored =
    let view = g.D.Disk.disk in
    let call = c.in_ok-log_each.ensures in
    epoch_moments (view c.args.disk.now) (view c.log_each.new.disk) (view c.harden.new.disk) closing s seq h newer c.args.journals.now.journals.items c.log_each.new.journals.journals.items c.args.regions.now k
    (g.met.D.Disk.lawful c.args.disk.now) (g.met.D.Disk.lawful c.log_each.new.disk) c.log_each.ensures.any_moment c.log_each.ensures.frame c.log_each.ensures.count call.ready c.args.made epochs restored (state_as (view c.args.disk.now) (view c.log_each.new.disk) c.args.journals.now.journals.items c.log_each.new.journals.journals.items c.as_slice.result.now c.args.made.epochs.items c.as_slice.ensures.value call.state) c.harden.ensures.any_moment

pub returns-clause-frame : goal.returns-clause-frame
returns-clause-frame g c h ready =
    let view = g.D.Disk.disk in
    let js = c.args.journals.now.journals.items in
    let ks = c.log_each.new.journals.journals.items in
    let v = view c.log_each.new.disk in
    let w = view c.harden.new.disk in
    others_then (IsNewestFile h (length js)) (view c.args.disk.now) v w (c.log_each.ensures.frame h ready) (frame_as v w h (length ks) (length js) c.log_each.ensures.count (c.harden.ensures.frame h (c.in_ok-log_each.ensures.ready h ready)))

pub returns-clause-together : goal.returns-clause-together
returns-clause-together g c h t =
    let view = g.D.Disk.disk in
    let u = view c.args.disk.now in
    let v = view c.log_each.new.disk in
    let w = view c.harden.new.disk in
    let js = c.args.journals.now.journals.items in
    let ks = c.log_each.new.journals.journals.items in
    let j = c.args.regions.now in
    let begun = c.begin_regions.ensures in
    let i = c.begin_regions.new.regions in
    let ready = c.in_ok-log_each.ensures.ready h t.ready in
    let frame = others_then (IsNewestFile h (length js)) u v w (c.log_each.ensures.frame h t.ready) (frame_as v w h (length ks) (length js) c.log_each.ensures.count (c.harden.ensures.frame h ready)) in
    let many = t.count in
    let same = begun.same.count in
    record {
      ready = c.in_ok-harden.ensures.ready h ready;
      count = c.harden.ensures.count ∙ c.log_each.ensures.count ∙ t.count ∙ sym begun.same.count;
      files = λ r low. begun.same.files r ∙ t.files r (omega (arith, low, same));
      held = λ r low. held_begun u w h (length js) r (region_at j r) (region_at i r) frame t.ready.few (omega (arith, low, same, many)) (t.files r (omega (arith, low, same)))
          (record { is = begun.begun r (omega (arith, low, same)); holds = λ e bytes m. begun.holds r e bytes m (omega (arith, low, same)) }) (t.held r (omega (arith, low, same)));
    }

pub returns-clause-done : goal.returns-clause-done
returns-clause-done g c closing s seq h newer k epochs restored =
    let view = g.D.Disk.disk in
    let call = c.in_ok-log_each.ensures in
    let last = c.in_ok-harden.ensures in
    let begun = c.begin_regions.ensures in
    is_taken (view c.args.disk.now) (view c.log_each.new.disk) (view c.harden.new.disk) closing s seq h newer c.args.journals.now.journals.items c.log_each.new.journals.journals.items c.args.regions.now k
    (g.met.D.Disk.lawful c.args.disk.now) (g.met.D.Disk.lawful c.log_each.new.disk) c.log_each.ensures.any_moment c.log_each.ensures.frame c.log_each.ensures.count call.ready c.args.made epochs restored (state_as (view c.args.disk.now) (view c.log_each.new.disk) c.args.journals.now.journals.items c.log_each.new.journals.journals.items c.as_slice.result.now c.args.made.epochs.items c.as_slice.ensures.value call.state)
    c.harden.new.self.journals.items c.begin_regions.new.regions (g.met.D.Disk.lawful c.harden.new.disk) c.harden.ensures.frame c.harden.ensures.count last.ready last.state begun.same.count
    (λ r low. record { is = begun.begun r low; holds = λ e bytes m. begun.holds r e bytes m low }) c.requires.flushed
