use Rattle.std.proofs.Common.{ap, ◌∙◌, Ok, Err, Option, IfSome, subst, refl}
use Rattle.site_making.specs.Finding.{IsFoundIn, layout_in}
use Rattle.site_making.specs.declared.finding.FoundSite.{FoundSite}
use Rattle.world_defs.specs.rows.SetJournal as rows
use Rattle.site_runner.specs.Steps.{ExecutesAt}
use Rattle.site_runner.proofs.Ats.{on_not_done, on_failed}
use Rattle.site_runner.proofs.Results.{on_err_of, err_holds}
use Rattle.site_runner.proofs.Written.{named, not_a_file}
use Rattle.site_runner.proofs.Moded.{look_faulted, look_damaged, look_cut, sets_so, cut_so}
use Rattle.site_runner.proofs.Found.{found_again, none_found, nothing_there, blank_there}
use Rattle.site_runner.specs.Ending.{down, down_after, is_done_at}
use Rattle.site_runner.specs.declared.ending.Ended.{Ended}
use Rattle.site_runner.proofs.setting.set_down.Goals as goal
use Rattle.repl_section.proofs.Results.{if_ok as on_done}

pub set_found-requires-clause-found : goal.set_found-requires-clause-found
set_found-requires-clause-found g c =
    let e = c.in-Ok-Some.ensures in
    found_again (g.D.Disk.disk c.args.disk.now).content (g.D.Disk.disk c.find.new.disk).content (layout_in c.in-Ok-Some.field-0) c.in-Ok-Some.found.layout e.content (ap layout_in c.in-Ok-Some.field-0-is) e.found

pub set_found-requires-clause-told : goal.set_found-requires-clause-told
set_found-requires-clause-told g c = subst (λ (o : Option FoundSite). IfSome o (IsFoundIn (g.D.Disk.disk c.find.new.disk))) c.in-Ok-Some.field-0-is c.in-Ok-Some.ensures.told

pub returns-in-Ok-Some-clause-done : goal.returns-in-Ok-Some-clause-done
returns-in-Ok-Some-clause-done g c =
    let e = c.in-Ok-Some.ensures in
    on_done c.set_found.result _ _ c.set_found.ensures.done (λ done m.
    sets_so c.args.region c.args.before (g.D.Disk.disk c.args.disk.now) (g.D.Disk.disk c.find.new.disk) (g.D.Disk.disk c.set_found.new.disk) (down c.args.name.now) (down_after c.args.name.now done) c.args.text.now c.set_found.new.text (is_done_at done)
    (record { lawful = g.met.D.Disk.lawful c.find.new.disk; any_moment = e.any_moment; untouched = e.untouched; content = e.content; simulated = e.simulated; later = e.faults.later }) refl e.alike m)

pub returns-in-Ok-Some-clause-cut_off : goal.returns-in-Ok-Some-clause-cut_off
returns-in-Ok-Some-clause-cut_off g c =
    let e = c.in-Ok-Some.ensures in
    on_err_of c.set_found.result _ _ c.set_found.ensures.cut_off (λ m.
    cut_so c.args.region c.args.before (g.D.Disk.disk c.args.disk.now) (g.D.Disk.disk c.find.new.disk) (g.D.Disk.disk c.set_found.new.disk) (down c.args.name.now)
    (record { lawful = g.met.D.Disk.lawful c.find.new.disk; any_moment = e.any_moment; untouched = e.untouched; content = e.content; simulated = e.simulated; later = e.faults.later }) refl e.alike m)

pub returns-in-Ok-None-clause-done : goal.returns-in-Ok-None-clause-done
returns-in-Ok-None-clause-done g c =
    let e = c.in-Ok-None.ensures in
    on_not_done c.damaged.result _ _ c.damaged.ensures (λ t.
    look_damaged c.args.region c.args.before (g.D.Disk.disk c.args.disk.now) (g.D.Disk.disk c.find.new.disk) (down c.args.name.now) 0 0 c.args.text.now _
    (record { lawful = g.met.D.Disk.lawful c.find.new.disk; any_moment = e.any_moment; untouched = e.untouched; content = e.content; simulated = e.simulated; later = e.faults.later }) refl (named _ _ refl t)
    (none_found (g.D.Disk.disk c.args.disk.now).content (layout_in c.in-Ok-None.field-0) (ap layout_in c.in-Ok-None.field-0-is) e.found)
    (blank_there (g.D.Disk.disk c.args.disk.now).content (g.D.Disk.disk c.find.new.disk).content e.content (e.empty (ap Ok c.in-Ok-None.field-0-is))))

pub returns-in-Ok-None-clause-cut_off : goal.returns-in-Ok-None-clause-cut_off
returns-in-Ok-None-clause-cut_off g c =
    let e = c.in-Ok-None.ensures in
    err_holds c.damaged.result _ (look_cut c.leftovers_hold.ensures c.args.region c.args.before (g.D.Disk.disk c.args.disk.now) (g.D.Disk.disk c.find.new.disk) (down c.args.name.now) refl
    (record { lawful = g.met.D.Disk.lawful c.find.new.disk; any_moment = e.any_moment; untouched = e.untouched; content = e.content; simulated = e.simulated; later = e.faults.later }))

pub returns-in-Err-Failed-clause-done : goal.returns-in-Err-Failed-clause-done
returns-in-Err-Failed-clause-done g c =
    let e = c.in-Err-Failed.ensures in
    let is = ap Err c.in-Err-Failed.field-0-is in
    let s = (down c.args.name.now) in
    let w = g.D.Disk.disk c.find.new.disk in
    on_failed c.fail.result _ _ (λ (x : Ended). ExecutesAt (rows.set_journal c.args.region c.args.before s.name) (g.D.Disk.disk c.args.disk.now) s w (down_after c.args.name.now x) c.args.text.now c.fail.new.text (is_done_at x)) c.fail.ensures (λ t.
    look_faulted c.leftovers_hold.ensures c.args.region c.args.before (g.D.Disk.disk c.args.disk.now) w s _ c.args.text.now _
    (record { lawful = g.met.D.Disk.lawful c.find.new.disk; any_moment = e.any_moment; untouched = e.untouched; content = e.content; simulated = e.simulated; later = e.faults.later }) refl
    (c.in-Err-Failed.fault-is ∙ e.faults.count c.in-Err-Failed.fault is) (e.faults.cause c.in-Err-Failed.fault is) t)

pub returns-in-Err-Failed-clause-cut_off : goal.returns-in-Err-Failed-clause-cut_off
returns-in-Err-Failed-clause-cut_off g c =
    let e = c.in-Err-Failed.ensures in
    err_holds c.fail.result _ (look_cut c.leftovers_hold.ensures c.args.region c.args.before (g.D.Disk.disk c.args.disk.now) (g.D.Disk.disk c.find.new.disk) (down c.args.name.now) refl
    (record { lawful = g.met.D.Disk.lawful c.find.new.disk; any_moment = e.any_moment; untouched = e.untouched; content = e.content; simulated = e.simulated; later = e.faults.later }))

pub returns-in-Err-NotAFile-clause-done : goal.returns-in-Err-NotAFile-clause-done
returns-in-Err-NotAFile-clause-done g c =
    let e = c.in-Err-NotAFile.ensures in
    let file = c.in-Err-NotAFile.file in
    let offset = c.in-Err-NotAFile.offset in
    on_not_done c.damaged-in-Err-NotAFile.result _ _ c.damaged-in-Err-NotAFile.ensures (λ t.
    look_damaged c.args.region c.args.before (g.D.Disk.disk c.args.disk.now) (g.D.Disk.disk c.find.new.disk) (down c.args.name.now) file offset c.args.text.now _
    (record { lawful = g.met.D.Disk.lawful c.find.new.disk; any_moment = e.any_moment; untouched = e.untouched; content = e.content; simulated = e.simulated; later = e.faults.later }) refl
    (not_a_file _ c.in-Err-NotAFile.file-is c.in-Err-NotAFile.offset-is refl t)
    (nothing_there (g.D.Disk.disk c.args.disk.now).content (e.outside file offset (ap Err c.in-Err-NotAFile.field-0-is))) (e.place file offset (ap Err c.in-Err-NotAFile.field-0-is)))

pub returns-in-Err-NotAFile-clause-cut_off : goal.returns-in-Err-NotAFile-clause-cut_off
returns-in-Err-NotAFile-clause-cut_off g c =
    let e = c.in-Err-NotAFile.ensures in
    err_holds c.damaged-in-Err-NotAFile.result _ (look_cut c.leftovers_hold.ensures c.args.region c.args.before (g.D.Disk.disk c.args.disk.now) (g.D.Disk.disk c.find.new.disk) (down c.args.name.now) refl
    (record { lawful = g.met.D.Disk.lawful c.find.new.disk; any_moment = e.any_moment; untouched = e.untouched; content = e.content; simulated = e.simulated; later = e.faults.later }))

pub returns : goal.returns
returns g c =
    let e = c.in-Err.ensures in
    record {
      done = tt;
      cut_off = look_cut c.leftovers_hold.ensures c.args.region c.args.before (g.D.Disk.disk c.args.disk.now) (g.D.Disk.disk c.find.new.disk) (down c.args.name.now) refl
          (record { lawful = g.met.D.Disk.lawful c.find.new.disk; any_moment = e.any_moment; untouched = e.untouched; content = e.content; simulated = e.simulated; later = e.faults.later });
    }
