use Rattle.std.proofs.Common.{rules, ◌≡◌, ◌+◌, ◌∙◌, ◌++◌, ◌∷◌, ℕ, List, [], length, sym, ap, subst, arith, length-append}
use Rattle.disk_defs.proofs.Frames.{reads_more}
use Rattle.disk_defs.proofs.Told.{told_at, both_weak}
use Rattle.jnl_file.proofs.Newer.{all_told}
use Rattle.journal_defs.specs.Instance.{InstanceRecord}
use Rattle.entry_index.specs.Cursors.{IsReady, IsOnWay, AreReady, AreOnWay, AreTold}
use Rattle.entry_index.specs.declared.cursor.Cursor.{Cursor}
use Rattle.entry_index.proofs.SideBySide.{none_begun, ready_pushed, begun_pushed, told_pushed}
use Rattle.entry_index.proofs.side_by_side.begin_all.Goals as goal

pub loop-region-init : goal.loop-region-init
loop-region-init g c =
    let view = g.D.Disk.disk in
    let v = view c.args.disk.now in
    let none : c.new-cursors.result.items ≡ [] = c.new-cursors.ensures.items in
    record {
      many = ap length none;
      ready = subst (AreReady v.content c.args.last) (sym none) (λ r d low. absurd (omega (arith, low)));
      begun = all_told v.content (λ files. (instance : List InstanceRecord) (lowest : ℕ) → AreOnWay files instance lowest 0 c.new-cursors.result.items (λ r. []))
          (λ files instance lowest. subst (λ (l : List Cursor). AreOnWay files instance lowest 0 l (λ r. [])) (sym none) (none_begun files instance lowest));
      told = λ files instance. subst (λ (l : List Cursor). AreTold files instance 0 l (λ r. [])) (sym none) (λ r d low. absurd (omega (arith, low)));
      reads = search rules;
      faults = omega arith;
    }

pub loop-region-preserved : goal.loop-region-preserved
loop-region-preserved g c =
    let view = g.D.Disk.disk in
    let a = c.args in
    let l = c.loop-region in
    let inv = l.invariant in
    let u = view a.disk.now in
    let v = view l.disk in
    let w = view c.of.new.disk in
    let x = c.in_ok-cursor.cursor in
    let cs = l.cursors.items in
    let new = c.add_cursor.new.cursors.items in
    let more : new ≡ cs ++ x ∷ [] = c.in_ok-add_cursor.ensures in
    let here : IsReady w.content (length cs) a.last x.reader = subst (λ (k : ℕ). IsReady w.content k a.last x.reader) (sym inv.many) c.in_ok-cursor.ensures.ready in
    record {
      many = ap length more ∙ length-append cs (x ∷ []) ∙ ap (λ (k : ℕ). k + 1) inv.many;
      ready = ready_pushed cs new x more v.content w.content a.last c.of.ensures.reads.content inv.ready here;
      begun = both_weak u.content (λ files. (instance : List InstanceRecord) (lowest : ℕ) → AreOnWay files instance lowest 0 cs (λ r. [])) (λ files. (instance : List InstanceRecord) (lowest : ℕ) → IsOnWay files instance lowest 0 x [])
          (λ files. (instance : List InstanceRecord) (lowest : ℕ) → AreOnWay files instance lowest 0 new (λ r. [])) inv.begun
          (told_at u.content v.content (λ files. (instance : List InstanceRecord) (lowest : ℕ) → IsOnWay files instance lowest 0 x []) inv.reads.content c.in_ok-cursor.ensures.begun)
          (λ files way at instance lowest. begun_pushed cs new x more files instance lowest (way instance lowest) (at instance lowest));
      told = λ files instance. told_pushed cs new x more files instance (inv.told files instance) (c.in_ok-cursor.ensures.told files instance);
      reads = reads_more u v w (g.met.D.Disk.lawful a.disk.now) inv.reads c.of.ensures.reads;
      faults = omega (arith, inv.faults, c.of.ensures.faults.later);
    }
