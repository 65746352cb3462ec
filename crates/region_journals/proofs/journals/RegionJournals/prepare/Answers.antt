use Rattle.std.proofs.Common.{◌≡◌, ◌++◌, length, take, drop, sym, subst, ap, ◌∙◌, arith}
use Rattle.std.specs.Prelude.{slice_get, Some, OnOk}
use Rattle.disk_defs.specs.Frames.{OthersStay}
use Rattle.region_journals.specs.Fronts.{IsNewestFile}
use Rattle.region_journals.specs.Journals.{AreReady, KeepsJournals, ArePrepared}
use Rattle.region_journals.specs.Turns.{AllTurned}
use Rattle.region_journals.specs.Entering.{IsUnchanged, Stays}
use Rattle.region_journals.proofs.Hardened.{back}
use Rattle.region_journals.proofs.Prepared.{ready_same, keeps_same}
use Rattle.region_journals.proofs.journals.RegionJournals.prepare.Goals as goal

pub prepare_all-requires : goal.prepare_all-requires
prepare_all-requires g c =
    let view = g.D.Disk.disk in
    let u = view c.args.disk.now in
    let items = c.args.self.now.journals.items in
    let same : c.as_mut_slice.result.now ≡ items = cc (c.as_mut_slice.ensures.value) in
    let parts = c.args.parts.now in
    record { ready = (c.requires.ready.0, subst (λ l. AreReady u c.requires.ready.0 l) (sym same) c.requires.ready.1) }

pub returns-clause-ready : goal.returns-clause-ready
returns-clause-ready g c h ready =
    let view = g.D.Disk.disk in
    let u = view c.args.disk.now in
    let items = c.args.self.now.journals.items in
    let same : c.as_mut_slice.result.now ≡ items = cc (c.as_mut_slice.ensures.value) in
    let parts = c.args.parts.now in
    let w = view c.prepare_all.new.disk in
    let four = c.prepare_all.new.journals in
    let count : length four ≡ length items = c.prepare_all.auto.journals ∙ ap length same in
    let new = take c.args.self.now.journals.len (four ++ drop (length four) items) in
    let written : new ≡ four = back items four c.args.self.now.journals.len (omega arith) count in
    let turned = subst (λ l. AllTurned u w IsUnchanged Stays l four) same c.prepare_all.ensures.turned in
    subst (λ l. AreReady w h l) (sym written) (ready_same u w h items four count ready turned)

pub returns-clause-state : goal.returns-clause-state
returns-clause-state g c hard waiting keeps =
    let view = g.D.Disk.disk in
    let u = view c.args.disk.now in
    let items = c.args.self.now.journals.items in
    let same : c.as_mut_slice.result.now ≡ items = cc (c.as_mut_slice.ensures.value) in
    let parts = c.args.parts.now in
    let w = view c.prepare_all.new.disk in
    let four = c.prepare_all.new.journals in
    let count : length four ≡ length items = c.prepare_all.auto.journals ∙ ap length same in
    let new = take c.args.self.now.journals.len (four ++ drop (length four) items) in
    let written : new ≡ four = back items four c.args.self.now.journals.len (omega arith) count in
    let turned = subst (λ l. AllTurned u w IsUnchanged Stays l four) same c.prepare_all.ensures.turned in
    subst (λ l. KeepsJournals w hard waiting l) (sym written) (keeps_same u w hard waiting items four count turned keeps)

pub returns-clause-prepared : goal.returns-clause-prepared
returns-clause-prepared g c =
    let view = g.D.Disk.disk in
    let u = view c.args.disk.now in
    let items = c.args.self.now.journals.items in
    let same : c.as_mut_slice.result.now ≡ items = cc (c.as_mut_slice.ensures.value) in
    let parts = c.args.parts.now in
    let w = view c.prepare_all.new.disk in
    let four = c.prepare_all.new.journals in
    let count : length four ≡ length items = c.prepare_all.auto.journals ∙ ap length same in
    let new = take c.args.self.now.journals.len (four ++ drop (length four) items) in
    let written : new ≡ four = back items four c.args.self.now.journals.len (omega arith) count in
    let turned = subst (λ l. AllTurned u w IsUnchanged Stays l four) same c.prepare_all.ensures.turned in
    subst (λ l. OnOk c.prepare_all.result (ArePrepared parts l)) (sym written) c.prepare_all.ensures.prepared

pub returns-clause-frame : goal.returns-clause-frame
returns-clause-frame g c h ready =
    let view = g.D.Disk.disk in
    let u = view c.args.disk.now in
    let items = c.args.self.now.journals.items in
    let same : c.as_mut_slice.result.now ≡ items = cc (c.as_mut_slice.ensures.value) in
    let parts = c.args.parts.now in
    let w = view c.prepare_all.new.disk in
    subst (λ l. OthersStay (IsNewestFile h (length l)) u w) same (c.prepare_all.ensures.frame h (subst (λ l. AreReady u h l) (sym same) ready))

pub returns-clause-marks : goal.returns-clause-marks
returns-clause-marks g c r x y was is =
    let view = g.D.Disk.disk in
    let u = view c.args.disk.now in
    let items = c.args.self.now.journals.items in
    let same : c.as_mut_slice.result.now ≡ items = cc (c.as_mut_slice.ensures.value) in
    let w = view c.prepare_all.new.disk in
    let four = c.prepare_all.new.journals in
    let count : length four ≡ length items = c.prepare_all.auto.journals ∙ ap length same in
    let new = take c.args.self.now.journals.len (four ++ drop (length four) items) in
    let written : new ≡ four = back items four c.args.self.now.journals.len (omega arith) count in
    (subst (λ l. AllTurned u w IsUnchanged Stays l four) same c.prepare_all.ensures.turned r x y was (subst (λ l. slice_get l r ≡ Some y) written is)).facts.appended
