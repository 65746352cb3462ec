use Rattle.std.proofs.Common.{length, refl, ◌∙◌, ap}
use Rattle.std.specs.Prelude.{codes}
use Rattle.entry_index.specs.Found.{entry_count}
use Rattle.site_store.specs.Owning.{disk_of}
use Rattle.site_runner.specs.declared.ending.Ended.{Ended}
use Rattle.site_runner.specs.Ending.{primary, primary_after, is_done_at}
use Rattle.site_runner.specs.Marking.{marking}
use Rattle.site_runner.specs.Sites.{reign_in}
use Rattle.site_runner.specs.Steps.{ExecutesAt}
use Rattle.site_runner.proofs.Ats.{nothing_in}
use Rattle.site_runner.proofs.Results.{err_holds, ok_then}
use Rattle.site_runner.proofs.Marked.{mark_cut, mark_faulted, marks_at, told_so}
use Rattle.site_runner.proofs.epoch.mark.Goals as goal

pub returns-clause-done : goal.returns-clause-done
returns-clause-done g c =
    let e = c.epoch-taken.ensures in
    let t = c.tell_epoch.ensures in
    let v = g.D.Disk.disk (disk_of c.args.reign.now.site) in
    let w = g.D.Disk.disk (disk_of c.epoch-taken.new.self) in
    let goes = c.requires.going.fault in
    let s = primary c.args.name.now c.args.reign.now in
    let old = reign_in c.args.reign.now in
    let new = reign_in (record { site = c.epoch-taken.new.self; serials = c.args.reign.now.serials }) in
    told_so c.epoch-taken.result c.tell_epoch.result _ _
    (λ (x : Ended). ExecutesAt (marking (codes "EPOCH ") c.args.name.now) v s w (primary_after c.args.name.now (record { site = c.epoch-taken.new.self; serials = c.args.reign.now.serials }) x) c.args.text.now c.tell_epoch.new.text (is_done_at x)) t.done t.failed
    (λ u is line.
    let going = ok_then c.epoch-taken.result u _ is e.ready in
    marks_at (codes "EPOCH ") v w s old new (nothing_in g.D.Disk.disk c.epoch-taken.new.self going.fault c.nothing_is_left.ensures) c.sequence_length.result c.args.text.now _ (g.met.D.Disk.lawful (disk_of c.epoch-taken.new.self)) refl e.stamp refl e.simulated e.faults.later
    (λ told x k. (ok_then c.epoch-taken.result u _ is e.done told x (length x.sequence) (record { fault = goes; inner = k })).inner)
    (λ x k. ok_then c.epoch-taken.result u _ is e.none_needs x (length x.sequence) (record { fault = goes; inner = k }))
    (c.sequence_length.ensures ∙ ap entry_count e.entries) line)
    (λ k is line.
    mark_faulted c.leftovers_hold.ensures (codes "EPOCH ") v w s old k c.args.text.now _ (g.met.D.Disk.lawful (disk_of c.args.reign.now.site)) refl
    (record { lawful = g.met.D.Disk.lawful (disk_of c.epoch-taken.new.self); left = λ x k. e.marks x (record { fault = goes; inner = k }); still_told = e.still_told; simulated = e.simulated; later = e.faults.later })
    (e.faults.count k is) (e.faults.cause k is) line)

pub returns-clause-cut_off : goal.returns-clause-cut_off
returns-clause-cut_off g c =
    let e = c.epoch-taken.ensures in
    err_holds c.tell_epoch.result _
    (mark_cut c.leftovers_hold.ensures (codes "EPOCH ") (g.D.Disk.disk (disk_of c.args.reign.now.site)) (g.D.Disk.disk (disk_of c.epoch-taken.new.self)) (primary c.args.name.now c.args.reign.now) (reign_in c.args.reign.now) (g.met.D.Disk.lawful (disk_of c.args.reign.now.site)) refl
    (record { lawful = g.met.D.Disk.lawful (disk_of c.epoch-taken.new.self); left = λ x k. e.marks x (record { fault = c.requires.going.fault; inner = k }); still_told = e.still_told; simulated = e.simulated; later = e.faults.later }))
