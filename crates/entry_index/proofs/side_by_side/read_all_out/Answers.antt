use Rattle.std.proofs.Common.{rules, ◌≡◌, ◌<◌, ◌∙◌, length, set, get_or, IsTrue, refl, sym, subst, arith}
use Rattle.std.proofs.lemmas.List.{length-set}
use Rattle.disk_defs.proofs.Frames.{reads_more}
use Rattle.disk_defs.proofs.Told.{told_at, both_weak}
use Rattle.jnl_file.proofs.Newer.{all_told}
use Rattle.entry_index.specs.Cursors.{IsOnWay, ReadsOutBy, AllReadOutBy}
use Rattle.entry_index.specs.declared.cursor.Cursor.{Cursor}
use Rattle.entry_index.proofs.Cursors.{ready_on}
use Rattle.entry_index.proofs.SideBySide.{ready_at, ready_own, ready_set, out_none, out_then, out_one, done_set}
use Rattle.entry_index.proofs.side_by_side.read_all_out.Goals as goal

pub read_out-requires-clause-ready : goal.read_out-requires-clause-ready
read_out-requires-clause-ready g c =
    let o = (g.D.Disk.disk c.loop-place.disk).content in
    let l = c.loop-place in
    let x = c.index_mut.result.now in
    let last = c.requires.ready.0 in
    let inside : l.place < length l.cursors.items = omega (arith, l.invariant.many) in
    ready_own o last l.place x.reader (ready_at o last l.place l.cursors.items x inside c.index_mut.ensures.value (l.invariant.ready last c.requires.ready.1))

pub loop-place-init : goal.loop-place-init
loop-place-init g c =
    let o = (g.D.Disk.disk c.args.disk.now).content in
    let cs = c.args.cursors.now.items in
    record {
      many = refl;
      ready = λ last ready. ready;
      read = all_told o (AllReadOutBy c.args.cuts.now c.args.low cs cs) (λ files instance cuts lowest n low most journal way. out_none files instance lowest n c.args.low cs journal way);
      done = λ r d low. absurd (omega (arith, low));
      reads = search rules;
      faults = omega arith;
    }

pub loop-place-preserved : goal.loop-place-preserved
loop-place-preserved g c =
    let view = g.D.Disk.disk in
    let a = c.args in
    let l = c.loop-place in
    let inv = l.invariant in
    let u = view a.disk.now in
    let v = view l.disk in
    let w = view c.read_out.new.disk in
    let old = a.cursors.now.items in
    let cs = l.cursors.items in
    let i = l.place in
    let x = c.index_mut.result.now in
    let y = c.read_out.new.self in
    let call = c.in_ok-read_out.ensures in
    let more : IsTrue c.in_ok-read_out.field-0 = c.if-not-branch.false in
    let inside : i < length cs = omega (arith, inv.many) in
    let is : x ≡ get_or cs i x = c.index_mut.ensures.value in
    record {
      many = length-set cs i y ∙ inv.many;
      ready = λ last start.
          let ready = inv.ready last start in
          let here = ready_at v.content last i cs x inside is ready in
          ready_set v.content w.content last cs i y c.read_out.ensures.reads.content ready (ready_on w.content v.content i last x.reader y.reader here (call.ready more));
      read = both_weak u.content (AllReadOutBy a.cuts.now a.low old cs) (ReadsOutBy a.cuts.now a.low x y) (AllReadOutBy a.cuts.now a.low old (set cs i y)) inv.read
          (told_at u.content v.content (ReadsOutBy a.cuts.now a.low x y) inv.reads.content (call.read more))
          (λ files so_far step instance cuts lowest n low most journal way.
          out_then files instance lowest n a.low cs (set cs i y) journal (so_far instance cuts lowest n low most journal way)
          (λ now at. out_one files instance lowest n cs now at i y inside a.low (step instance cuts lowest n low most (now i) (subst (λ (z : Cursor). IsOnWay files instance lowest n z (now i)) (sym is) (at.each i x inside)))));
      done = λ r d low. done_set cs i y inside inv.done (call.done more) r d low;
      reads = reads_more u v w (g.met.D.Disk.lawful a.disk.now) inv.reads call.reads;
      faults = omega (arith, inv.faults, c.read_out.ensures.faults.later);
    }
