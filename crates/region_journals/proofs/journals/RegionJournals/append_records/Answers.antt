use Rattle.std.proofs.Common.{◌≡◌, ◌++◌, ◌∙◌, ℕ, List, ap, sym, map, take, set}
use Rattle.std.specs.Prelude.{slice_get, Some}
use Rattle.std.proofs.lemmas.Option.{slice_get-get_or}
use Rattle.journal_defs.specs.Journal.{JournalRecord}
use Rattle.jnl_record.specs.Values.{record_value}
use Rattle.region_journals.specs.Journals.{AreReady, KeepsJournals}
use Rattle.region_journals.specs.Logging.{HasLogged, in_region}
use Rattle.region_journals.proofs.Hardened.{ok_gives}
use Rattle.region_journals.proofs.Logged.{ready_logged, keeps_logged, first_logged, frame_logged}
use Rattle.region_journals.proofs.journals.RegionJournals.append_records.Goals as goal

pub log_all-requires-clause-ready : goal.log_all-requires-clause-ready
log_all-requires-clause-ready g c =
    let view = g.D.Disk.disk in
    let u = view c.args.disk.now in
    let n = c.args.region in
    let items = c.args.self.now.journals.items in
    let x = c.index_mut.result.now in
    let at : slice_get items n ≡ Some x = slice_get-get_or items n x c.requires.inside ∙ ap Some (sym c.index_mut.ensures.value) in
    (c.requires.ready.1.each n x at).ready

pub log_all-requires-clause-goes_on : goal.log_all-requires-clause-goes_on
log_all-requires-clause-goes_on g c =
    let view = g.D.Disk.disk in
    let u = view c.args.disk.now in
    let n = c.args.region in
    let items = c.args.self.now.journals.items in
    let x = c.index_mut.result.now in
    let at : slice_get items n ≡ Some x = slice_get-get_or items n x c.requires.inside ∙ ap Some (sym c.index_mut.ensures.value) in
    (c.requires.ready.1.each n x at).goes_on

pub returns-clause-ready : goal.returns-clause-ready
returns-clause-ready g c =
    let view = g.D.Disk.disk in
    let u = view c.args.disk.now in
    let w = view c.log_all.new.disk in
    let n = c.args.region in
    let items = c.args.self.now.journals.items in
    let x = c.index_mut.result.now in
    let y = c.log_all.new.self in
    let at : slice_get items n ≡ Some x = slice_get-get_or items n x c.requires.inside ∙ ap Some (sym c.index_mut.ensures.value) in
    let rs = map record_value c.args.records.now in
    ok_gives c.log_all.result (HasLogged u w rs x y) ((h : ℕ) → AreReady u h items → AreReady w h (set items n y)) (λ logged h ready. ready_logged u w h n items x ready at rs y c.log_all.ensures.frame logged) c.log_all.ensures.all

pub returns-clause-goes_on : goal.returns-clause-goes_on
returns-clause-goes_on g c is h ready =
    let view = g.D.Disk.disk in
    let u = view c.args.disk.now in
    let w = view c.log_all.new.disk in
    let n = c.args.region in
    let items = c.args.self.now.journals.items in
    let x = c.index_mut.result.now in
    let y = c.log_all.new.self in
    let at : slice_get items n ≡ Some x = slice_get-get_or items n x c.requires.inside ∙ ap Some (sym c.index_mut.ensures.value) in
    let few = c.log_all.ensures.fewer is in
    ready_logged u w h n items x ready at (take few.0 (map record_value c.args.records.now)) y c.log_all.ensures.frame few.2

pub returns-clause-state : goal.returns-clause-state
returns-clause-state g c =
    let view = g.D.Disk.disk in
    let u = view c.args.disk.now in
    let w = view c.log_all.new.disk in
    let n = c.args.region in
    let items = c.args.self.now.journals.items in
    let x = c.index_mut.result.now in
    let y = c.log_all.new.self in
    let at : slice_get items n ≡ Some x = slice_get-get_or items n x c.requires.inside ∙ ap Some (sym c.index_mut.ensures.value) in
    let rs = map record_value c.args.records.now in
    ok_gives c.log_all.result (HasLogged u w rs x y) ((hard waiting : ℕ → List JournalRecord) → KeepsJournals u hard waiting items → KeepsJournals w hard (λ r. waiting r ++ in_region n rs r) (set items n y))
    (λ logged hard waiting keeps. keeps_logged u w c.requires.ready.0 n items x c.requires.ready.1 at rs y hard waiting c.log_all.ensures.frame logged keeps) c.log_all.ensures.all

pub returns-clause-fewer : goal.returns-clause-fewer
returns-clause-fewer g c is =
    let view = g.D.Disk.disk in
    let u = view c.args.disk.now in
    let w = view c.log_all.new.disk in
    let n = c.args.region in
    let items = c.args.self.now.journals.items in
    let x = c.index_mut.result.now in
    let y = c.log_all.new.self in
    let at : slice_get items n ≡ Some x = slice_get-get_or items n x c.requires.inside ∙ ap Some (sym c.index_mut.ensures.value) in
    let few = c.log_all.ensures.fewer is in
    (few.0, few.1, λ hard waiting keeps. keeps_logged u w c.requires.ready.0 n items x c.requires.ready.1 at (take few.0 (map record_value c.args.records.now)) y hard waiting c.log_all.ensures.frame few.2 keeps)

pub returns-clause-any_moment : goal.returns-clause-any_moment
returns-clause-any_moment g c h hard waiting ready keeps =
    let view = g.D.Disk.disk in
    let u = view c.args.disk.now in
    let w = view c.log_all.new.disk in
    let n = c.args.region in
    let items = c.args.self.now.journals.items in
    let x = c.index_mut.result.now in
    let y = c.log_all.new.self in
    let at : slice_get items n ≡ Some x = slice_get-get_or items n x c.requires.inside ∙ ap Some (sym c.index_mut.ensures.value) in
    first_logged u w h n items x ready at hard waiting (g.met.D.Disk.lawful c.args.disk.now) keeps (c.log_all.ensures.any_moment (hard n) (waiting n) (keeps.has n x at))

pub returns-clause-frame : goal.returns-clause-frame
returns-clause-frame g c h ready =
    let view = g.D.Disk.disk in
    let u = view c.args.disk.now in
    let w = view c.log_all.new.disk in
    let n = c.args.region in
    let items = c.args.self.now.journals.items in
    let x = c.index_mut.result.now in
    let y = c.log_all.new.self in
    let at : slice_get items n ≡ Some x = slice_get-get_or items n x c.requires.inside ∙ ap Some (sym c.index_mut.ensures.value) in
    frame_logged u w h n items x ready at c.log_all.ensures.frame
