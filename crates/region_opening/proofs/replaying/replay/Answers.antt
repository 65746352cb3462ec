use Rattle.std.proofs.Common.{◌≡◌, ℕ, ◌+◌, ◌-◌, length, slice_get, Some, IfSome, subst, arith}
use Rattle.disk_defs.proofs.Told.{told_at}
use Rattle.disk_defs.proofs.Frames.{reads_more}
use Rattle.global_defs.specs.Entry.{Sequence}
use Rattle.gvn_model.specs.Entries.{entry_value}
use Rattle.entry_index.specs.Indexes.{Indexes}
use Rattle.entry_index.specs.Parts.{InFiles}
use Rattle.region_opening.specs.Replaying.{AreBecome, IsGivenUpTo}
use Rattle.region_opening.proofs.Becoming.{all_more}
use Rattle.region_opening.proofs.replaying.replay.Goals as goal

pub loop-done-preserved : goal.loop-done-preserved
loop-done-preserved g c =
    let view = g.D.Disk.disk in
    let a = c.args in
    let l = c.loop-done in
    let inv = l.invariant in
    let u = view a.disk.now in
    let v = view l.disk in
    let e = c.in_ok-entry.entry in
    let same : l.done + 1 - 1 ≡ l.done = omega arith in
    let read : IfSome u.content (λ files. (seq : Sequence) → Indexes (InFiles files) a.history.now a.entries.now seq → slice_get seq l.done ≡ Some (entry_value e)) =
    told_at u.content v.content (λ files. (seq : Sequence) → Indexes (InFiles files) a.history.now a.entries.now seq → slice_get seq l.done ≡ Some (entry_value e)) inv.reads.content
    (subst (λ (n : ℕ). IfSome v.content (λ files. (seq : Sequence) → Indexes (InFiles files) a.history.now a.entries.now seq → slice_get seq n ≡ Some (entry_value e))) same c.in_ok-entry.ensures.entry) in
    record {
      become = all_more u.content a.history.now a.entries.now a.directory.now.patterns a.from.now l.done a.regions.now.items l.regions.items c.make_entry.new.regions.items (entry_value e) _ c.as_slice-in-loop-done.ensures read inv.become
          c.in_ok-make_entry.ensures.made;
      within = omega (arith, c.loop-done-test.true);
      reads = reads_more u v (view c.read_entry.new.disk) (g.met.D.Disk.lawful a.disk.now) inv.reads c.read_entry.ensures.reads;
      faults = omega (arith, inv.faults, c.read_entry.ensures.faults.later);
    }

pub returns-clause-made : goal.returns-clause-made
returns-clause-made g c =
    let a = c.args in
    let l = c.loop-done in
    let o = (g.D.Disk.disk a.disk.now).content in
    let all : l.done ≡ a.target = omega (arith, c.loop-done-test.false, l.invariant.within) in
    subst (λ (n : ℕ). AreBecome (IsGivenUpTo o a.history.now a.entries.now a.directory.now.patterns a.from.now n) (length a.regions.now.items) a.regions.now.items l.regions.items) all l.invariant.become
