use Rattle.std.proofs.Common.{◌≡◌, ◌++◌, ℕ, List, [], length, take, drop, sym, subst, ap, ◌∙◌, arith}
use Rattle.std.specs.Prelude.{◌||◌, slice_get, Some, is_some, OnOk}
use Rattle.disk_defs.specs.Disk.{AtEachMoment}
use Rattle.disk_defs.specs.Frames.{OnlyIn, OthersStay}
use Rattle.journal_defs.specs.Journal.{JournalRecord}
use Rattle.jnl_file.specs.Records.{StandsRecords}
use Rattle.region_journals.specs.Fronts.{IsNewestFile}
use Rattle.region_journals.specs.Journals.{AreReady, KeepsJournals, ArePrepared, AreMarked, part_in, listed}
use Rattle.region_journals.specs.Turns.{AllTurned}
use Rattle.region_journals.specs.Entering.{HasTaken, Takes}
use Rattle.region_journals.proofs.Moments.{Have}
use Rattle.region_journals.proofs.Hardened.{back, ok_gives}
use Rattle.region_journals.proofs.Entered.{ready_entered, keeps_entered, none_first}
use Rattle.region_journals.proofs.journals.RegionJournals.append.Goals as goal

pub append_all-requires : goal.append_all-requires
append_all-requires g c =
    let view = g.D.Disk.disk in
    let u = view c.args.disk.now in
    let items = c.args.self.now.journals.items in
    let same : c.as_mut_slice.result.now ≡ items = cc (c.as_mut_slice.ensures.value) in
    let parts = c.args.parts.now in
    record { ready = (c.requires.ready.0, subst (λ l. AreReady u c.requires.ready.0 l) (sym same) c.requires.ready.1); prepared = subst (λ l. ArePrepared parts l) (sym same) c.requires.prepared }

pub returns-clause-ready : goal.returns-clause-ready
returns-clause-ready g c =
    let view = g.D.Disk.disk in
    let u = view c.args.disk.now in
    let items = c.args.self.now.journals.items in
    let same : c.as_mut_slice.result.now ≡ items = cc (c.as_mut_slice.ensures.value) in
    let parts = c.args.parts.now in
    let w = view c.append_all.new.disk in
    let four = c.append_all.new.journals in
    let count : length four ≡ length items = c.append_all.auto.journals ∙ ap length same in
    let new = take c.args.self.now.journals.len (four ++ drop (length four) items) in
    let written : new ≡ four = back items four c.args.self.now.journals.len (omega arith) count in
    let turned = subst (λ l. OnOk c.append_all.result (AllTurned u w (HasTaken parts) (Takes parts) l four)) same c.append_all.ensures.turned in
    ok_gives c.append_all.result (AllTurned u w (HasTaken parts) (Takes parts) items four) ((h : ℕ) → AreReady u h items → AreReady w h new) (λ all h ready. subst (λ l. AreReady w h l) (sym written) (ready_entered u w parts h items four count ready all)) turned

pub returns-clause-state : goal.returns-clause-state
returns-clause-state g c =
    let view = g.D.Disk.disk in
    let u = view c.args.disk.now in
    let items = c.args.self.now.journals.items in
    let same : c.as_mut_slice.result.now ≡ items = cc (c.as_mut_slice.ensures.value) in
    let parts = c.args.parts.now in
    let w = view c.append_all.new.disk in
    let four = c.append_all.new.journals in
    let count : length four ≡ length items = c.append_all.auto.journals ∙ ap length same in
    let new = take c.args.self.now.journals.len (four ++ drop (length four) items) in
    let written : new ≡ four = back items four c.args.self.now.journals.len (omega arith) count in
    let turned = subst (λ l. OnOk c.append_all.result (AllTurned u w (HasTaken parts) (Takes parts) l four)) same c.append_all.ensures.turned in
    ok_gives c.append_all.result (AllTurned u w (HasTaken parts) (Takes parts) items four) ((hard waiting : ℕ → List JournalRecord) → KeepsJournals u hard waiting items → KeepsJournals w hard (λ r. waiting r ++ listed (part_in parts r)) new) (λ all hard waiting keeps. subst (λ l. KeepsJournals w hard (λ r. waiting r ++ listed (part_in parts r)) l) (sym written) (keeps_entered u w parts hard waiting items four count all keeps)) turned

pub returns-clause-any_moment : goal.returns-clause-any_moment
returns-clause-any_moment g c h hard waiting ready keeps =
    let view = g.D.Disk.disk in
    let u = view c.args.disk.now in
    let items = c.args.self.now.journals.items in
    let same : c.as_mut_slice.result.now ≡ items = cc (c.as_mut_slice.ensures.value) in
    let parts = c.args.parts.now in
    let w = view c.append_all.new.disk in
    none_first u w h (length items) hard waiting (subst (λ l. AtEachMoment u w (OnlyIn u (IsNewestFile h (length l)) (Have h (length l) (λ r. StandsRecords (hard r) [])))) same (c.append_all.ensures.any_moment h hard waiting (subst (λ l. AreReady u h l) (sym same) ready) (subst (λ l. KeepsJournals u hard waiting l) (sym same) keeps)))

pub returns-clause-frame : goal.returns-clause-frame
returns-clause-frame g c h ready =
    let view = g.D.Disk.disk in
    let u = view c.args.disk.now in
    let items = c.args.self.now.journals.items in
    let same : c.as_mut_slice.result.now ≡ items = cc (c.as_mut_slice.ensures.value) in
    let parts = c.args.parts.now in
    let w = view c.append_all.new.disk in
    subst (λ l. OthersStay (IsNewestFile h (length l)) u w) same (c.append_all.ensures.frame h (subst (λ l. AreReady u h l) (sym same) ready))

pub returns-clause-marks : goal.returns-clause-marks
returns-clause-marks g c =
    let view = g.D.Disk.disk in
    let u = view c.args.disk.now in
    let items = c.args.self.now.journals.items in
    let same : c.as_mut_slice.result.now ≡ items = cc (c.as_mut_slice.ensures.value) in
    let parts = c.args.parts.now in
    let w = view c.append_all.new.disk in
    let four = c.append_all.new.journals in
    let count : length four ≡ length items = c.append_all.auto.journals ∙ ap length same in
    let new = take c.args.self.now.journals.len (four ++ drop (length four) items) in
    let written : new ≡ four = back items four c.args.self.now.journals.len (omega arith) count in
    let turned = subst (λ l. OnOk c.append_all.result (AllTurned u w (HasTaken parts) (Takes parts) l four)) same c.append_all.ensures.turned in
    ok_gives c.append_all.result (AllTurned u w (HasTaken parts) (Takes parts) items four) (AreMarked (λ r was. was || is_some (part_in parts r)) items new) (λ all r x y was is. (all r x y was (subst (λ l. slice_get l r ≡ Some y) written is)).facts.appended) turned
