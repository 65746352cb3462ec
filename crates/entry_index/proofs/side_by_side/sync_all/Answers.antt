use Rattle.std.proofs.Common.{◌<◌, ◌+◌, ◌∙◌, ℕ, refl, arith}
use Rattle.global_defs.specs.declared.limits.TheConstants.{MOST_REGIONS}
use Rattle.disk_defs.specs.Disk.{Image}
use Rattle.disk_defs.proofs.Moments.{started, nothing_new}
use Rattle.disk_defs.proofs.Told.{told_at, both_weak}
use Rattle.jnl_file.specs.Generations.{AreDurable}
use Rattle.jnl_file.proofs.Newer.{all_told}
use Rattle.entry_index.proofs.Syncing.{durable_more}
use Rattle.entry_index.proofs.side_by_side.sync_all.Goals as goal

pub loop-region-init : goal.loop-region-init
loop-region-init g c =
    let u = g.D.Disk.disk c.args.disk.now in
    record {
      durable = all_told u.content (λ files. (r : ℕ) → r < 0 → AreDurable u r c.args.last files) (λ files r low. absurd (omega (arith, low)));
      content = refl;
      moments = started u (Image u) (λ i now. now);
      simulated = refl;
      faults = omega arith;
    }

pub loop-region-preserved : goal.loop-region-preserved
loop-region-preserved g c =
    let view = g.D.Disk.disk in
    let l = c.loop-region in
    let inv = l.invariant in
    let u = view c.args.disk.now in
    let v = view l.disk in
    let w = view c.sync_region.new.disk in
    let call = c.sync_region.ensures in
    let low : l.region < MOST_REGIONS = omega (arith, c.requires.regions) in
    record {
      durable = both_weak u.content (λ files. (r : ℕ) → r < l.region → AreDurable v r c.args.last files) (AreDurable w l.region c.args.last) (λ files. (r : ℕ) → r < l.region + 1 → AreDurable w r c.args.last files) inv.durable
          (told_at u.content v.content (AreDurable w l.region c.args.last) inv.content c.in_ok-sync_region.ensures.durable) (λ files all here. durable_more v w files l.region c.args.last low call.frame here all);
      content = call.content ∙ inv.content;
      moments = nothing_new u v w (Image u) (g.met.D.Disk.lawful l.disk) inv.moments call.any_moment;
      simulated = call.frame.simulated ∙ inv.simulated;
      faults = omega (arith, inv.faults, call.faults.later);
    }
