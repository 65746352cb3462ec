use Rattle.std.proofs.Common.{◌≡◌, ◌+◌, ◌*◌, ◌∙◌, ℕ, Bool, true, false, IsTrue, length, IfSome, if◌then◌else◌, refl, sym, ap, subst, arith}
use Rattle.disk_defs.proofs.Frames.{reads_more}
use Rattle.disk_defs.proofs.Told.{told_at}
use Rattle.entry_index.specs.Cursors.{AreReady, AllReadOnFor}
use Rattle.entry_index.specs.Table.{AddsRow}
use Rattle.entry_index.proofs.Adding.{NextBy, told_more, told_end}
use Rattle.entry_index.proofs.Rows.{rows_more}
use Rattle.entry_index.proofs.SideBySide.{row_of, ready_still}
use Rattle.entry_index.proofs.side_by_side.add_all.Goals as goal

pub read_all_on-requires-clause-ready : goal.read_all_on-requires-clause-ready
read_all_on-requires-clause-ready g c = (c.requires.ready.0, c.loop-done.invariant.ready c.requires.ready.0 c.requires.ready.1)

pub loop-done-preserved : goal.loop-done-preserved
loop-done-preserved g c =
    let view = g.D.Disk.disk in
    let lawful = g.met.D.Disk.lawful in
    let a = c.args in
    let l = c.loop-done in
    let inv = l.invariant in
    let n = l.done in
    let u = view a.disk.now in
    let v = view l.disk in
    let w = view c.read_all_on.new.disk in
    let x = view c.add_next.new.disk in
    let mid = c.read_all_on.new.cursors.items in
    let new = c.settle_all.new.cursors.items in
    let made = c.add_next.new.made in
    let yes : IsTrue c.in_ok-read_all_on.field-0 = c.if-not-branch.false in
    let on = c.in_ok-read_all_on.ensures in
    let add = c.in-Ok-true.ensures in
    let settle = c.in_ok-settle_all-in-Ok-true.ensures in
    let more : c.in-Ok-true.field-0 ≡ true = c.in-Ok-true.field-0-test in
    let old = l.made.places.items in
    let row = row_of (n + 1) c.deref.result.now in
    let row_is : row ≡ row_of (n + 1) mid = ap (row_of (n + 1)) c.deref.ensures.value in
    let last = c.requires.ready.0 in
    let ready : AreReady w.content last mid = on.ready yes last (inv.ready last c.requires.ready.1) in
    let many : length mid ≡ l.made.regions = on.many yes ∙ inv.many ∙ c.requires.many ∙ sym inv.regions in
    let places : length made.places.items ≡ length old + l.made.regions = add.many ∙ ap (λ (b : Bool). if b then length old + l.made.regions else length old) more in
    let content : w.content ≡ u.content = on.reads.content ∙ inv.reads.content in
    record {
      many = settle.many ∙ on.many yes ∙ inv.many;
      regions = c.add_next.ensures.regions ∙ inv.regions;
      rows = places ∙ ap (λ (k : ℕ). k + l.made.regions) inv.rows ∙ rows_more l.made.regions n ∙ ap (λ (k : ℕ). k * (n + 1)) (sym c.add_next.ensures.regions);
      ready = λ k start. settle.ready x.content k (ready_still w.content x.content k mid c.add_next.ensures.reads.content (on.ready yes k (inv.ready k start)));
      added = told_more a.cuts.now a.starts.now a.lowest a.cursors.now.items l.cursors.items mid n l.made made row w.content last ready many c.add_next.ensures.regions row_is u.content new
          (subst (λ (b : Bool). AddsRow row l.made.regions b old made.places.items) more add.row) (λ files. settle.settled files n refl) inv.added
          (told_at u.content v.content (AllReadOnFor a.cuts.now a.lowest n l.cursors.items mid) inv.reads.content (on.read yes))
          (told_at u.content w.content (NextBy row l.made.regions (n + 1) a.starts.now true old made.places.items) content
          (subst (λ (b : Bool). IfSome w.content (NextBy row l.made.regions (n + 1) a.starts.now b old made.places.items)) more add.added));
      reads = reads_more u w x (lawful a.disk.now) (reads_more u v w (lawful a.disk.now) inv.reads on.reads) c.add_next.ensures.reads;
      faults = omega (arith, inv.faults, c.read_all_on.ensures.faults.later, c.add_next.ensures.faults.later);
    }

pub returns-in-Ok-false-clause-added : goal.returns-in-Ok-false-clause-added
returns-in-Ok-false-clause-added g c =
    let view = g.D.Disk.disk in
    let a = c.args in
    let l = c.loop-done in
    let inv = l.invariant in
    let n = l.done in
    let u = view a.disk.now in
    let v = view l.disk in
    let w = view c.read_all_on.new.disk in
    let mid = c.read_all_on.new.cursors.items in
    let made = c.add_next.new.made in
    let yes : IsTrue c.in_ok-read_all_on.field-0 = c.if-not-branch.false in
    let on = c.in_ok-read_all_on.ensures in
    let add = c.in-Ok-false.ensures in
    let more : c.in-Ok-false.field-0 ≡ false = c.in-Ok-false.field-0-test in
    let old = l.made.places.items in
    let row = row_of (n + 1) c.deref.result.now in
    let row_is : row ≡ row_of (n + 1) mid = ap (row_of (n + 1)) c.deref.ensures.value in
    let last = c.requires.ready.0 in
    let ready : AreReady w.content last mid = on.ready yes last (inv.ready last c.requires.ready.1) in
    let many : length mid ≡ l.made.regions = on.many yes ∙ inv.many ∙ c.requires.many ∙ sym inv.regions in
    let content : w.content ≡ u.content = on.reads.content ∙ inv.reads.content in
    told_end a.cuts.now a.starts.now a.lowest a.cursors.now.items l.cursors.items mid n l.made made row w.content last ready many c.add_next.ensures.regions row_is u.content inv.added
    (told_at u.content v.content (AllReadOnFor a.cuts.now a.lowest n l.cursors.items mid) inv.reads.content (on.read yes))
    (told_at u.content w.content (NextBy row l.made.regions (n + 1) a.starts.now false old made.places.items) content
    (subst (λ (b : Bool). IfSome w.content (NextBy row l.made.regions (n + 1) a.starts.now b old made.places.items)) more add.added))

pub returns-in-Ok-false-clause-ready : goal.returns-in-Ok-false-clause-ready
returns-in-Ok-false-clause-ready g c k start =
    let view = g.D.Disk.disk in
    let yes : IsTrue c.in_ok-read_all_on.field-0 = c.if-not-branch.false in
    ready_still (view c.read_all_on.new.disk).content (view c.add_next.new.disk).content k c.read_all_on.new.cursors.items c.add_next.ensures.reads.content (c.in_ok-read_all_on.ensures.ready yes k (c.loop-done.invariant.ready k start))
