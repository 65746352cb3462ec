use Rattle.std.proofs.Common.{◌≡◌, ◌+◌, ◌∙◌, ℕ, suc, IfSome, refl, subst, arith}
use Rattle.disk_defs.specs.Disk.{Image, IsDurable}
use Rattle.disk_defs.specs.Frames.{Only, OthersStay}
use Rattle.disk_defs.proofs.Frames.{others_same}
use Rattle.disk_defs.proofs.Moments.{started, nothing_new}
use Rattle.journal_defs.specs.Numbers.{journal_file}
use Rattle.jnl_file.specs.Generations.{AreJournals, AreDurable}
use Rattle.jnl_file.proofs.Newer.{all_told}
use Rattle.jnl_file.proofs.Chain.{told_durable, frame_joins}
use Rattle.entry_index.proofs.side_by_side.sync_region.Goals as goal

pub loop-before-init : goal.loop-before-init
loop-before-init g c =
    let u = g.D.Disk.disk c.args.disk.now in
    record {
      durable = all_told u.content (AreDurable u c.args.region 0) (λ files h first most. absurd (omega (arith, first, most)));
      content = refl;
      moments = started u (Image u) (λ i now. now);
      frame = others_same (AreJournals c.args.region c.args.last) u;
      faults = omega arith;
    }

pub loop-before-preserved : goal.loop-before-preserved
loop-before-preserved g c =
    let view = g.D.Disk.disk in
    let l = c.loop-before in
    let inv = l.invariant in
    let u = view c.args.disk.now in
    let v = view l.disk in
    let w = view c.sync_one.new.disk in
    let r = c.args.region in
    let n = l.before + 1 in
    let next : l.before + 1 ≡ suc l.before = omega arith in
    let file : c.journal_file.result ≡ journal_file n r = c.journal_file.ensures in
    let frame = subst (λ (f : ℕ). OthersStay (Only f) v w) file c.sync_one.ensures.frame in
    let here = subst (λ (f : ℕ). IfSome v.content (λ files. IsDurable w f (files f))) file c.in_ok-sync_one.ensures.durable in
    record {
      durable = told_durable u v w r l.before n next inv.content frame inv.durable here;
      content = c.sync_one.ensures.content ∙ inv.content;
      moments = nothing_new u v w (Image u) (g.met.D.Disk.lawful l.disk) inv.moments c.sync_one.ensures.any_moment;
      frame = frame_joins u v w r l.before n next inv.content c.args.last (omega arith) (omega arith) inv.frame frame;
      faults = omega (arith, inv.faults, c.sync_one.ensures.faults.later);
    }
