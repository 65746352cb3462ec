use Rattle.std.proofs.Common.{IsTrue, sym, subst, arith}
use Rattle.disk_defs.proofs.Frames.{reads_more}
use Rattle.disk_defs.proofs.Told.{told_at, both_weak}
use Rattle.entry_index.specs.Cursors.{IsReady, ReadsOnBy, ReadsOutBy}
use Rattle.entry_index.specs.declared.reader.Reader.{Reader}
use Rattle.entry_index.proofs.Cursors.{ready_on, outs_then}
use Rattle.entry_index.proofs.cursor.Cursor.read_out.Goals as goal

pub loop-self-preserved : goal.loop-self-preserved
loop-self-preserved g c =
    let view = g.D.Disk.disk in
    let a = c.args in
    let l = c.loop-self in
    let inv = l.invariant in
    let o = (view a.disk.now).content in
    let more : IsTrue c.in_ok-step.field-0 = c.if-not-branch.false in
    let call = c.in_ok-step.ensures in
    let mid = c.step.new.self in
    let new = c.release-in-loop-self.new.self in
    record {
      ready = subst (λ (p : Reader). IsReady (view c.step.new.disk).content a.self.now.reader.region a.self.now.reader.last p) (sym c.release-in-loop-self.ensures.same)
          (ready_on (view c.step.new.disk).content (view l.disk).content a.self.now.reader.region a.self.now.reader.last l.self.reader mid.reader inv.ready (call.ready more));
      read = both_weak o (ReadsOutBy a.cuts.now a.low a.self.now l.self) (ReadsOnBy a.cuts.now a.low l.self mid) (ReadsOutBy a.cuts.now a.low a.self.now new) inv.read
          (told_at o (view l.disk).content (ReadsOnBy a.cuts.now a.low l.self mid) inv.reads.content (call.read more))
          (λ files so_far step instance cuts lowest n low most journal way.
          outs_then files instance lowest n a.low l.self mid new journal (so_far instance cuts lowest n low most journal way) (λ now is. step instance cuts lowest n low most now is) (λ now is. c.in_ok-release-2.ensures.kept files instance lowest n now is));
      none = c.in_ok-release-2.ensures.none;
      reads = reads_more (view a.disk.now) (view l.disk) (view c.step.new.disk) (g.met.D.Disk.lawful a.disk.now) inv.reads call.reads;
      faults = omega (arith, inv.faults, c.step.ensures.faults.later);
    }
