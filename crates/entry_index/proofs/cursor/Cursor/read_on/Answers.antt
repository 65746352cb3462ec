use Rattle.std.proofs.Common.{◌≡◌, None, IsTrue, subst, arith}
use Rattle.disk_defs.proofs.Frames.{reads_more}
use Rattle.disk_defs.proofs.Told.{told_at, both_weak, weaker_told}
use Rattle.entry_index.specs.Cursors.{IsReady, ReadsOnBy, ReadsOnFor}
use Rattle.entry_index.specs.declared.reader.Reader.{Reader}
use Rattle.entry_index.proofs.Cursors.{ready_on, reads_both, reads_kept, nothing_waits, none_past}
use Rattle.entry_index.proofs.cursor.Cursor.read_on.Goals as goal

pub loop-alloc-preserved : goal.loop-alloc-preserved
loop-alloc-preserved g c =
    let view = g.D.Disk.disk in
    let a = c.args in
    let n = a.settled in
    let l = c.loop-alloc in
    let inv = l.invariant in
    let o = (view a.disk.now).content in
    let mid = c.rests.new.self in
    let new = c.step.new.self in
    let more : IsTrue c.in_ok-step.field-0 = c.if-not-branch.false in
    let call = c.in_ok-step.ensures in
    let none : l.self.waiting ≡ None = nothing_waits l.self.waiting c.loop-alloc-test.ensures in
    record {
      ready = ready_on (view c.step.new.disk).content (view l.disk).content a.self.now.reader.region a.self.now.reader.last l.self.reader new.reader inv.ready
          (subst (λ (p : Reader). IsReady (view c.step.new.disk).content p.region p.last new.reader) c.rests.ensures.same (call.ready more));
      read = both_weak o (ReadsOnFor a.cuts.now a.lowest n a.self.now l.self) (ReadsOnBy a.cuts.now n mid new) (ReadsOnFor a.cuts.now a.lowest n a.self.now new) inv.read
          (told_at o (view l.disk).content (ReadsOnBy a.cuts.now n mid new) inv.reads.content (call.read more))
          (λ files so_far step instance cuts journal way told.
          let first = so_far instance cuts journal way told in
          let kept = reads_kept files instance a.lowest n n l.self mid first.now c.rests.ensures.waiting c.rests.ensures.same
          (λ before waits. c.in_ok-rests.ensures.kept files instance cuts l.self.reader.region before (none_past files instance n l.self before first.now none waits (first.told told))) first.on_way in
          reads_both files instance a.lowest n n a.self.now l.self new journal first
          (reads_both files instance a.lowest n n l.self mid new first.now kept (step instance cuts a.lowest n (omega arith) (omega arith) kept.now kept.on_way)));
      reads = reads_more (view a.disk.now) (view l.disk) (view c.step.new.disk) (g.met.D.Disk.lawful a.disk.now) inv.reads call.reads;
      faults = omega (arith, inv.faults, c.step.ensures.faults.later);
    }

pub returns-then-branch-clause-read : goal.returns-then-branch-clause-read
returns-then-branch-clause-read g c _ =
    let a = c.args in
    let n = a.settled in
    let l = c.loop-alloc in
    let mid = c.rests.new.self in
    let none : l.self.waiting ≡ None = nothing_waits l.self.waiting c.loop-alloc-test.ensures in
    weaker_told (g.D.Disk.disk a.disk.now).content (ReadsOnFor a.cuts.now a.lowest n a.self.now l.self) (ReadsOnFor a.cuts.now a.lowest n a.self.now mid) l.invariant.read (λ files so_far instance cuts journal way told.
    let first = so_far instance cuts journal way told in
    reads_both files instance a.lowest n n a.self.now l.self mid journal first
    (reads_kept files instance a.lowest n n l.self mid first.now c.rests.ensures.waiting c.rests.ensures.same
    (λ before waits. c.in_ok-rests.ensures.kept files instance cuts l.self.reader.region before (none_past files instance n l.self before first.now none waits (first.told told))) first.on_way))
