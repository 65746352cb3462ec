use Rattle.std.proofs.Common.{◌≡◌, ◌<◌, length, Some, get_or, arith}
use Rattle.std.specs.Prelude.{slice_get}
use Rattle.std.proofs.lemmas.Option.{slice_get-get_or}
use Rattle.disk_defs.proofs.Frames.{others_same}
use Rattle.region_journals.specs.Fronts.{IsNewestFile}
use Rattle.region_journals.specs.Rounds.{Before, HasDone, Becomes}
use Rattle.region_journals.proofs.Turns as turns
use Rattle.region_journals.proofs.Rounds.{round_begins, round_moments, round_frame}
use Rattle.region_journals.proofs.hardening.harden_all.Goals as goal

pub loop-journal-init : goal.loop-journal-init
loop-journal-init g c =
    let u = g.D.Disk.disk c.args.disk.now in
    let old = c.args.journals.now in
    let round = c.args.round in
    record {
      come = turns.begins (HasDone round) (Becomes round) u old;
      moments = λ h hard waiting ready has. round_begins u round h old hard waiting ready has;
      frame = λ h ready. others_same (IsNewestFile h (length old)) u;
      faults = omega arith;
    }

pub loop-journal-preserved : goal.loop-journal-preserved
loop-journal-preserved g c =
    let view = g.D.Disk.disk in
    let u = view c.args.disk.now in
    let v = view c.loop-journal.disk in
    let w = view c.harden_by.new.disk in
    let old = c.args.journals.now in
    let js = c.loop-journal.journals in
    let k = c.loop-journal.journal-index in
    let round = c.args.round in
    let inv = c.loop-journal.invariant in
    let y = get_or js k c.journal-item.result in
    let there : k < length old = c.loop-journal-test.true in
    let at : slice_get js k ≡ Some y = slice_get-get_or js k c.journal-item.result (omega (arith, there, inv.come.count)) in
    let call = c.harden_by.ensures in
    record {
      come = turns.goes_on (HasDone round) (Becomes round) u v c.requires.ready.0 (Before round) k old js c.requires.ready.1 inv.come w y c.harden_by.new.self at call.frame (c.in_ok-harden_by.ensures.turned k);
      moments = λ h hard waiting ready has. round_moments round u v w k old js y inv.come at there (g.met.D.Disk.lawful c.loop-journal.disk) call.any_moment h hard waiting ready has (inv.moments h hard waiting ready has);
      frame = λ h ready. round_frame round u v w k old js y inv.come at there h ready (inv.frame h ready) call.frame;
      faults = omega (arith, inv.faults, call.cause.later);
    }

pub harden_by-requires-clause-ready : goal.harden_by-requires-clause-ready
harden_by-requires-clause-ready g c =
    let view = g.D.Disk.disk in
    let js = c.loop-journal.journals in
    let k = c.loop-journal.journal-index in
    let round = c.args.round in
    let come = c.loop-journal.invariant.come in
    (turns.next_open (HasDone round) (Becomes round) (view c.args.disk.now) (view c.loop-journal.disk) c.requires.ready.0 (Before round) k c.args.journals.now js c.requires.ready.1 come (get_or js k c.journal-item.result)
    (slice_get-get_or js k c.journal-item.result (omega (arith, c.loop-journal-test.true, come.count)))).ready

pub harden_by-requires-clause-goes_on : goal.harden_by-requires-clause-goes_on
harden_by-requires-clause-goes_on g c =
    let view = g.D.Disk.disk in
    let js = c.loop-journal.journals in
    let k = c.loop-journal.journal-index in
    let round = c.args.round in
    let come = c.loop-journal.invariant.come in
    (turns.next_open (HasDone round) (Becomes round) (view c.args.disk.now) (view c.loop-journal.disk) c.requires.ready.0 (Before round) k c.args.journals.now js c.requires.ready.1 come (get_or js k c.journal-item.result)
    (slice_get-get_or js k c.journal-item.result (omega (arith, c.loop-journal-test.true, come.count)))).goes_on

pub returns-in_err-harden_by-clause-any_moment : goal.returns-in_err-harden_by-clause-any_moment
returns-in_err-harden_by-clause-any_moment g c h hard waiting ready has =
    let view = g.D.Disk.disk in
    let js = c.loop-journal.journals in
    let k = c.loop-journal.journal-index in
    let inv = c.loop-journal.invariant in
    round_moments c.args.round (view c.args.disk.now) (view c.loop-journal.disk) (view c.harden_by.new.disk) k c.args.journals.now js (get_or js k c.journal-item.result) inv.come
    (slice_get-get_or js k c.journal-item.result (omega (arith, c.loop-journal-test.true, inv.come.count))) c.loop-journal-test.true
    (g.met.D.Disk.lawful c.loop-journal.disk) c.harden_by.ensures.any_moment h hard waiting ready has (inv.moments h hard waiting ready has)

pub returns-in_err-harden_by-clause-frame : goal.returns-in_err-harden_by-clause-frame
returns-in_err-harden_by-clause-frame g c h ready =
    let view = g.D.Disk.disk in
    let js = c.loop-journal.journals in
    let k = c.loop-journal.journal-index in
    let inv = c.loop-journal.invariant in
    round_frame c.args.round (view c.args.disk.now) (view c.loop-journal.disk) (view c.harden_by.new.disk) k c.args.journals.now js (get_or js k c.journal-item.result) inv.come
    (slice_get-get_or js k c.journal-item.result (omega (arith, c.loop-journal-test.true, inv.come.count))) c.loop-journal-test.true h ready (inv.frame h ready) c.harden_by.ensures.frame

pub returns-clause-turned : goal.returns-clause-turned
returns-clause-turned g c =
    let view = g.D.Disk.disk in
    let js = c.loop-journal.journals in
    let k = c.loop-journal.journal-index in
    let round = c.args.round in
    turns.ends (HasDone round) (Becomes round) (view c.args.disk.now) (view c.loop-journal.disk) k c.args.journals.now js (grind (arith, c.loop-journal-test.false, c.loop-journal.auto.journal-index-end)) c.loop-journal.invariant.come
