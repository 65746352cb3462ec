use Rattle.std.proofs.Common.{Bool, Err, ◌++◌, ℕ, List, refl, ◌∙◌, ap, sym, subst}
use Rattle.std.specs.Prelude.{codes}
use Rattle.std.specs.Fmt.{decimal}
use Rattle.world_defs.specs.Answers.{line}
use Rattle.world_defs.specs.Meaning.{row_at}
use Rattle.repl_section.specs.declared.reign.Reign as code
use Rattle.site_runner.specs.Executes.{Leaves}
use Rattle.world_defs.specs.rows.Run.{undecided_line, run}
use Rattle.site_defs.specs.Contents.{Contents}
use Rattle.repl_script.specs.Places.{at_all}
use Rattle.repl_section.specs.Lines.{GaveLines}
use Rattle.repl_section.specs.Deciding.{Breaks, WithholdsNone, IsFault}
use Rattle.repl_section.specs.Reigns.{Reigns, stamp_of}
use Rattle.repl_section.specs.declared.running.RunError.{RunError}
use Rattle.site_store.specs.Owning.{disk_of}
use Rattle.site_runner.specs.declared.slot.Slot.TheVariants as slots
use Rattle.site_runner.specs.declared.ending.Ended.TheVariants as ends
use Rattle.site_runner.specs.Ending.{primary, failed}
use Rattle.site_runner.specs.Sites.{reign_in}
use Rattle.site_runner.proofs.Ats.{nothing_in}
use Rattle.site_runner.proofs.Results.{err_holds}
use Rattle.site_runner.proofs.Stopped.{cut_here}
use Rattle.site_runner.proofs.Endings.{written_leaves}
use Rattle.site_runner.proofs.LeftOut.{all_decided, all_fail_at, all_fail_in, all_may_leave, left_same}
use Rattle.site_runner.proofs.Ran.{decided_in, ran, ran_to_fault, left_after, run_cut, run_cut_any, decided_front, decided_behind}
use Rattle.site_runner.proofs.section.run_section.Goals as goal
use Rattle.repl_section.proofs.Results.{on_ok}

pub returns-in-Ok-clause-left : goal.returns-in-Ok-clause-left
returns-in-Ok-clause-left g c =
    let view = g.D.Disk.disk in
    let old = c.as_mut-open.result.now in
    let at = λ (o : code.Reign g.row.D.Denot). slots.Open (record c.args.reign { value = o }) c.args.name in
    let new = c.run.new.self in
    let name = c.args.name in
    let v = view (disk_of old.site) in
    let w = view (disk_of new.site) in
    let jobs = c.args.jobs in
    let order = c.args.order.now in
    let text = c.run.new.sink in
    let e = c.in-Ok.ensures in
    let law = g.met.D.Disk.lawful (disk_of new.site) in
    let nothing = nothing_in view new.site e.ready.fault c.nothing_is_left.ensures in
    let decided = λ (told : Bool) (d : Contents) (reigns : Reigns v told d old). decided_in w told d (at_all jobs) order old new (GaveLines c.args.text.now text) (all_decided w told d jobs order old new (GaveLines c.args.text.now text) (e.done told d reigns)) in
    subst (λ (o : code.Reign g.row.D.Denot). Leaves view (row_at (run (at_all jobs) order)) (at o) (at new, c.after.result) c.args.text.now c.write_numbered-written.new.text) c.as_mut-open.ensures.value
    (written_leaves view (run (at_all jobs) order) (at old) (at new) (primary name old) (primary name new) w c.write_numbered-written.result c.after.result ends.Undone c.args.text.now _ refl refl refl c.after.ensures.written c.after.ensures.unwritten
    (on_ok c.write_numbered-written.result _ _ c.write_numbered-written.ensures (λ t.
    ran v w (primary name old) (reign_in old) (reign_in new) nothing (at_all jobs) order c.args.text.now text _ law c.requires.whole refl e.stamp e.simulated e.later decided
    (t ∙ ap (λ (n : List ℕ). text ++ line n (codes "AT " ++ decimal c.sequence_length-length.result)) c.as_slice.ensures ∙ ap (λ (k : ℕ). text ++ line name (codes "AT " ++ decimal k)) c.sequence_length-length.ensures)))
    (err_holds c.write_numbered-written.result _ (run_cut c.leftovers_hold.ensures v w (primary name old) (reign_in old) (at_all jobs) order (g.met.D.Disk.lawful (disk_of old.site)) law refl e.simulated e.later
    (λ told d reigns. decided_front w told d (at_all jobs) order (reign_in old) (reign_in new) c.args.text.now text (decided told d reigns))
    (λ told d reigns sure. decided_behind w told d (at_all jobs) order (reign_in old) (reign_in new) nothing c.args.text.now text (decided told d reigns) sure))))

pub returns-in-Err-Failed-clause-left : goal.returns-in-Err-Failed-clause-left
returns-in-Err-Failed-clause-left g c =
    let view = g.D.Disk.disk in
    let old = c.as_mut-open.result.now in
    let at = λ (o : code.Reign g.row.D.Denot). slots.Open (record c.args.reign { value = o }) c.args.name in
    let new = c.run.new.self in
    let name = c.args.name in
    let v = view (disk_of old.site) in
    let w = view (disk_of new.site) in
    let jobs = c.args.jobs in
    let order = c.args.order.now in
    let text = c.run.new.sink in
    let e = c.in-Err-Failed.ensures in
    let stamp = stamp_of old in
    let undecided = c.in-Err-Failed.undecided in
    let fault = c.faults-fault.result in
    let was = g.met.D.Disk.lawful (disk_of old.site) in
    let law = g.met.D.Disk.lawful (disk_of new.site) in
    let breaks = subst (λ (x : RunError). (told : Bool) (d : Contents) → Reigns v told d old → Breaks x w stamp told d jobs order old.serials (GaveLines c.args.text.now text)) c.in-Err-Failed.field-0-is e.breaks in
    let fails = subst (λ (x : RunError). (told : Bool) (d : Contents) → Reigns v told d old → WithholdsNone x w stamp told d jobs order old.serials (GaveLines c.args.text.now text)) c.in-Err-Failed.field-0-is e.withholds_none in
    subst (λ (o : code.Reign g.row.D.Denot). Leaves view (row_at (run (at_all jobs) order)) (at o) (slots.Failed c.abandon-disk.result name fault, c.after-in-Err-Failed.result) c.args.text.now c.write_undecided-written.new.text) c.as_mut-open.ensures.value
    (written_leaves view (run (at_all jobs) order) (at old) (slots.Failed c.abandon-disk.result name fault) (primary name old) (failed name fault) w c.write_undecided-written.result c.after-in-Err-Failed.result (ends.Failed fault) c.args.text.now _ refl (ap view (c.abandon-disk.ensures ∙ ap (λ r. disk_of r.site) c.into_inner.ensures)) refl c.after-in-Err-Failed.ensures.written c.after-in-Err-Failed.ensures.unwritten
    (on_ok c.write_undecided-written.result _ _ c.write_undecided-written.ensures (λ t.
    ran_to_fault c.leftovers_hold.ensures v w (primary name old) (reign_in old) (at_all jobs) order fault undecided c.args.text.now text _ was law refl e.simulated (c.faults-fault.ensures ∙ ap (λ d. (view d).faults) (c.abandon-disk.ensures ∙ ap (λ r. disk_of r.site) c.into_inner.ensures))
    (e.cause (subst IsFault (sym c.in-Err-Failed.field-0-is) tt))
    (λ told d reigns. all_fail_in w stamp told d jobs order old.serials undecided (GaveLines c.args.text.now text) (fails told d reigns))
    (t ∙ ap (λ (u : ℕ). text ++ undecided_line c.as_slice-in-Err-Failed.result.now fault u) c.in-Err-Failed.undecided-is ∙ ap (λ (x : List ℕ). text ++ undecided_line x fault undecided) c.as_slice-in-Err-Failed.ensures)))
    (err_holds c.write_undecided-written.result _ (run_cut c.leftovers_hold.ensures v w (primary name old) (reign_in old) (at_all jobs) order was law refl e.simulated e.later
    (λ told d reigns. let b = breaks told d reigns in let a = all_fail_at w stamp told d jobs order old.serials undecided (GaveLines c.args.text.now text) b.0 b.1 in (b.0, a.hardened, a.begun, a.front))
    (λ told d reigns sure files i. let x = fails told d reigns in left_after stamp d (at_all jobs) order old.serials files (x.decided, left_same stamp d jobs order old.serials x.decided files (x.left sure files i))))))

pub returns-clause-left : goal.returns-clause-left
returns-clause-left g c =
    let view = g.D.Disk.disk in
    let old = c.as_mut-open.result.now in
    let at = λ (o : code.Reign g.row.D.Denot). slots.Open (record c.args.reign { value = o }) c.args.name in
    let new = c.run.new.self in
    let name = c.args.name in
    let v = view (disk_of old.site) in
    let w = view (disk_of new.site) in
    let jobs = c.args.jobs in
    let order = c.args.order.now in
    let e = c.in-Err-NoMemory.ensures in
    let stamp = stamp_of old in
    let breaks = subst (λ (x : RunError). (told : Bool) (d : Contents) → Reigns v told d old → Breaks x w stamp told d jobs order old.serials (GaveLines c.args.text.now c.run.new.sink)) c.in-Err-NoMemory.field-0-is e.breaks in
    subst (λ (o : code.Reign g.row.D.Denot). Leaves view (row_at (run (at_all jobs) order)) (at o) (at new, Err (record {})) c.args.text.now c.run.new.sink) c.as_mut-open.ensures.value
    (cut_here view (run (at_all jobs) order) (at old) (at new) w (primary name old) refl refl
    (run_cut_any c.leftovers_hold.ensures v w (primary name old) (reign_in old) (at_all jobs) order (g.met.D.Disk.lawful (disk_of old.site)) (g.met.D.Disk.lawful (disk_of new.site)) refl e.simulated e.later
    (λ told d reigns. all_may_leave w stamp told d jobs order old.serials (breaks told d reigns))))
