use Rattle.std.proofs.Common.{◌<◌, ◌+◌, ◌-◌, ℕ, List, [], length, map, take, drop, refl, ◌∙◌, subst, arith}
use Rattle.disk_defs.proofs.Frames.{others_same, others_then}
use Rattle.journal_defs.specs.Journal.{JournalRecord}
use Rattle.jnl_record.specs.Values.{record_value}
use Rattle.region_journals.specs.Fronts.{IsNewestFile}
use Rattle.region_journals.specs.Journals.{KeepsJournals}
use Rattle.region_epochs.specs.Flushed.{one_each}
use Rattle.region_epochs.proofs.Reading.{begins, first_then, moments_as, frame_as}
use Rattle.region_epochs.proofs.Epochs.{one_waits, one_may_be, none_waits_past}
use Rattle.region_epochs.proofs.Turned.{up_to, none_at_first, one_more, all_of}
use Rattle.region_epochs.proofs.closing.log_each.Goals as goal

pub loop-region-init : goal.loop-region-init
loop-region-init g c =
    let u = g.D.Disk.disk c.args.disk.now in
    let old = c.args.journals.now.journals.items in
    record {
      few = omega arith;
      ready = λ h ready. ready;
      state = λ hard keeps. subst (λ (waiting : ℕ → List JournalRecord). KeepsJournals u hard waiting old) (none_at_first (one_each c.args.records.now)) keeps;
      count = refl;
      moments = λ h hard ready keeps. begins u h old hard (λ r. []) ready keeps;
      frame = λ h ready. others_same (IsNewestFile h (length old)) u;
      faults = omega arith;
    }

pub loop-region-preserved : goal.loop-region-preserved
loop-region-preserved g c =
    let view = g.D.Disk.disk in
    let u = view c.args.disk.now in
    let v = view c.loop-region.disk in
    let w = view c.append_records.new.disk in
    let old = c.args.journals.now.journals.items in
    let js = c.loop-region.journals.journals.items in
    let ks = c.append_records.new.self.journals.items in
    let rs = c.args.records.now in
    let k = c.loop-region.region in
    let inv = c.loop-region.invariant in
    let call = c.append_records.ensures in
    let low : k < length rs = c.loop-region-test.true in
    record {
      few = omega (arith, low);
      ready = λ h ready. c.in_ok-append_records.ensures.ready h (inv.ready h ready);
      state = λ hard keeps. subst (λ (waiting : ℕ → List JournalRecord). KeepsJournals w hard waiting ks)
          (one_more k (one_each rs) (map record_value (take ((k + 1) - k) (drop k rs))) (one_waits rs k low))
          (c.in_ok-append_records.ensures.state hard (up_to k (one_each rs)) (inv.state hard keeps));
      count = call.count ∙ inv.count;
      moments = λ h hard ready keeps.
          first_then u v w h (length old) hard (λ r. []) (up_to k (one_each rs)) (g.met.D.Disk.lawful c.loop-region.disk) (inv.moments h hard ready keeps)
          (moments_as v w h hard (up_to k (one_each rs)) (length js) (length old) inv.count (call.any_moment h hard (up_to k (one_each rs)) (inv.ready h ready) (inv.state hard keeps)));
      frame = λ h ready. others_then (IsNewestFile h (length old)) u v w (inv.frame h ready) (frame_as v w h (length js) (length old) inv.count (call.frame h (inv.ready h ready)));
      faults = omega (arith, inv.faults, call.faults.later);
    }

pub append_records-requires-clause-ready : goal.append_records-requires-clause-ready
append_records-requires-clause-ready g c = let t = c.requires.ready in (t.0, c.loop-region.invariant.ready t.0 t.1)

pub append_records-requires-clause-inside : goal.append_records-requires-clause-inside
append_records-requires-clause-inside g c = omega (arith, c.loop-region-test.true, c.requires.as_many, c.loop-region.invariant.count)

pub append_records-requires-clause-may_be : goal.append_records-requires-clause-may_be
append_records-requires-clause-may_be g c = one_may_be c.args.records.now c.loop-region.region c.loop-region-test.true c.requires.may_be

pub returns-in_err-append_records-clause-any_moment : goal.returns-in_err-append_records-clause-any_moment
returns-in_err-append_records-clause-any_moment g c h hard ready keeps =
    let view = g.D.Disk.disk in
    let v = view c.loop-region.disk in
    let w = view c.append_records.new.disk in
    let old = c.args.journals.now.journals.items in
    let waiting = up_to c.loop-region.region (one_each c.args.records.now) in
    let inv = c.loop-region.invariant in
    first_then (view c.args.disk.now) v w h (length old) hard (λ r. []) waiting (g.met.D.Disk.lawful c.loop-region.disk) (inv.moments h hard ready keeps)
    (moments_as v w h hard waiting (length c.loop-region.journals.journals.items) (length old) inv.count (c.append_records.ensures.any_moment h hard waiting (inv.ready h ready) (inv.state hard keeps)))

pub returns-in_err-append_records-clause-frame : goal.returns-in_err-append_records-clause-frame
returns-in_err-append_records-clause-frame g c h ready =
    let view = g.D.Disk.disk in
    let v = view c.loop-region.disk in
    let w = view c.append_records.new.disk in
    let old = c.args.journals.now.journals.items in
    let inv = c.loop-region.invariant in
    others_then (IsNewestFile h (length old)) (view c.args.disk.now) v w (inv.frame h ready) (frame_as v w h (length c.loop-region.journals.journals.items) (length old) inv.count (c.append_records.ensures.frame h (inv.ready h ready)))

pub returns-clause-state : goal.returns-clause-state
returns-clause-state g c hard keeps =
    let rs = c.args.records.now in
    subst (λ (waiting : ℕ → List JournalRecord). KeepsJournals (g.D.Disk.disk c.loop-region.disk) hard waiting c.loop-region.journals.journals.items)
    (all_of c.loop-region.region (one_each rs) (λ r past. none_waits_past rs r (omega (arith, past, c.loop-region-test.false)))) (c.loop-region.invariant.state hard keeps)
