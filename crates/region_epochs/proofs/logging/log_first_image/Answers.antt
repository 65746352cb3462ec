use Rattle.std.proofs.Common.{◌≡◌, ◌++◌, ◌∙◌, ℕ, List, ap, subst, arith}
use Rattle.std.proofs.lemmas.Result.{err_from_is_err_and}
use Rattle.disk_defs.proofs.Told.{weaker_told}
use Rattle.journal_defs.specs.Journal.{JournalRecord, Before}
use Rattle.journal_defs.specs.Epochs.{Chosen}
use Rattle.block_laws.specs.Several.{logged_all}
use Rattle.before_image.specs.Images.{placed_images}
use Rattle.region_store.specs.Region.{HoldsRegion}
use Rattle.region_journals.specs.Journals.{KeepsJournals}
use Rattle.region_journals.specs.Logging.{in_region}
use Rattle.region_store.specs.Joined.{region_at}
use Rattle.region_epochs.specs.Kept.{image_records, image_needed}
use Rattle.region_epochs.proofs.Reading.{ready_reads, keeps_reads, begins_reading, then_frame, then_moments}
use Rattle.region_epochs.proofs.Needed.{had_no_memory, nothing_more, in_files}
use Rattle.region_epochs.proofs.logging.log_first_image.Goals as goal

pub returns-in_err-log_image-clause-goes_on : goal.returns-in_err-log_image-clause-goes_on
returns-in_err-log_image-clause-goes_on g c is h ready =
    let view = g.D.Disk.disk in
    ready_reads (view c.args.disk.now) (view c.log_image.new.disk) c.log_image.ensures.reads h c.args.journals.now.journals.items ready

pub returns-in_err-log_image-clause-none : goal.returns-in_err-log_image-clause-none
returns-in_err-log_image-clause-none g c is hard waiting keeps =
    let view = g.D.Disk.disk in
    keeps_reads (view c.args.disk.now) (view c.log_image.new.disk) c.log_image.ensures.reads hard waiting c.args.journals.now.journals.items keeps

pub returns-in_err-log_image-clause-any_moment : goal.returns-in_err-log_image-clause-any_moment
returns-in_err-log_image-clause-any_moment g c h hard waiting ready keeps =
    let view = g.D.Disk.disk in
    begins_reading (view c.args.disk.now) (view c.log_image.new.disk) h c.args.journals.now.journals.items hard waiting (g.met.D.Disk.lawful c.args.disk.now) c.log_image.ensures.reads ready keeps

pub append_records-requires-clause-ready : goal.append_records-requires-clause-ready
append_records-requires-clause-ready g c =
    let view = g.D.Disk.disk in
    let t = c.requires.together in
    (t.0, ready_reads (view c.args.disk.now) (view c.log_image.new.disk) c.log_image.ensures.reads t.0 c.args.journals.now.journals.items t.1.ready)

pub returns-in_err-append_records-clause-goes_on : goal.returns-in_err-append_records-clause-goes_on
returns-in_err-append_records-clause-goes_on g c =
    let p = err_from_is_err_and c.from_residual-in_err-append_records.result c.from_residual-in_err-append_records.ensures.1 in
    let view = g.D.Disk.disk in
    rw (p.1, p.2) (λ is h ready.
    c.in_err-append_records.ensures.goes_on (had_no_memory c.in_err-append_records.field-0.0 is) h
    (ready_reads (view c.args.disk.now) (view c.log_image.new.disk) c.log_image.ensures.reads h c.args.journals.now.journals.items ready))

pub returns-in_err-append_records-clause-none : goal.returns-in_err-append_records-clause-none
returns-in_err-append_records-clause-none g c =
    let p = err_from_is_err_and c.from_residual-in_err-append_records.result c.from_residual-in_err-append_records.ensures.1 in
    let view = g.D.Disk.disk in
    let u = view c.args.disk.now in
    let v = view c.log_image.new.disk in
    let js = c.args.journals.now.journals.items in
    let j = c.args.regions.now in
    let n = c.args.number in
    let b = c.args.block in
    let log = c.log_image.new.log in
    rw (p.1, p.2) (λ is hard waiting keeps.
    let few = c.in_err-append_records.ensures.fewer (had_no_memory c.in_err-append_records.field-0.0 is) in
    nothing_more u (view c.append_records.new.disk) js c.append_records.new.self.journals.items j n b few.0 log c.records.result.now hard waiting
    (let count = c.requires.together.1.count in omega (arith, count, c.requires.inside))
    (weaker_told u.content (λ files. log ≡ c.new-images.result ++ image_needed j files n b) (λ files. log ≡ image_needed j files n b) c.in_ok-log_image.ensures.logged
    (λ files logged. logged ∙ ap (λ (l : List Before). l ++ image_needed j files n b) c.new-images.ensures))
    c.records.ensures.are few.1 keeps (few.2 hard waiting (keeps_reads u v c.log_image.ensures.reads hard waiting js keeps)))

pub returns-in_err-append_records-clause-any_moment : goal.returns-in_err-append_records-clause-any_moment
returns-in_err-append_records-clause-any_moment g c h hard waiting ready keeps =
    let view = g.D.Disk.disk in
    let u = view c.args.disk.now in
    let v = view c.log_image.new.disk in
    let js = c.args.journals.now.journals.items in
    let reads = c.log_image.ensures.reads in
    then_moments u v (view c.append_records.new.disk) h js reads hard waiting (g.met.D.Disk.lawful c.args.disk.now) (g.met.D.Disk.lawful c.log_image.new.disk) ready keeps
    (c.append_records.ensures.any_moment h hard waiting (ready_reads u v reads h js ready) (keeps_reads u v reads hard waiting js keeps))

pub returns-in_err-append_records-clause-frame : goal.returns-in_err-append_records-clause-frame
returns-in_err-append_records-clause-frame g c h ready =
    let view = g.D.Disk.disk in
    let u = view c.args.disk.now in
    let v = view c.log_image.new.disk in
    let js = c.args.journals.now.journals.items in
    let reads = c.log_image.ensures.reads in
    then_frame u v (view c.append_records.new.disk) h js reads (c.append_records.ensures.frame h (ready_reads u v reads h js ready))

pub returns-clause-any_moment : goal.returns-clause-any_moment
returns-clause-any_moment g c h hard waiting ready keeps =
    let view = g.D.Disk.disk in
    let u = view c.args.disk.now in
    let v = view c.log_image.new.disk in
    let js = c.args.journals.now.journals.items in
    let reads = c.log_image.ensures.reads in
    then_moments u v (view c.append_records.new.disk) h js reads hard waiting (g.met.D.Disk.lawful c.args.disk.now) (g.met.D.Disk.lawful c.log_image.new.disk) ready keeps
    (c.append_records.ensures.any_moment h hard waiting (ready_reads u v reads h js ready) (keeps_reads u v reads hard waiting js keeps))

pub returns-clause-frame : goal.returns-clause-frame
returns-clause-frame g c h ready =
    let view = g.D.Disk.disk in
    let u = view c.args.disk.now in
    let v = view c.log_image.new.disk in
    let js = c.args.journals.now.journals.items in
    let reads = c.log_image.ensures.reads in
    then_frame u v (view c.append_records.new.disk) h js reads (c.append_records.ensures.frame h (ready_reads u v reads h js ready))

pub returns-clause-ready : goal.returns-clause-ready
returns-clause-ready g c h ready =
    let view = g.D.Disk.disk in
    c.in_ok-append_records.ensures.ready h (ready_reads (view c.args.disk.now) (view c.log_image.new.disk) c.log_image.ensures.reads h c.args.journals.now.journals.items ready)

pub returns-clause-state : goal.returns-clause-state
returns-clause-state g c =
    let view = g.D.Disk.disk in
    let u = view c.args.disk.now in
    let v = view c.log_image.new.disk in
    let w = view c.append_records.new.disk in
    let js = c.args.journals.now.journals.items in
    let ks = c.append_records.new.self.journals.items in
    let n = c.args.number in
    let j = c.args.regions.now in
    let b = c.args.block in
    weaker_told u.content (λ files. c.log_image.new.log ≡ c.new-images.result ++ image_needed j files n b)
    (λ files. (hard waiting : ℕ → List JournalRecord) → KeepsJournals u hard waiting js → KeepsJournals w hard (λ r. waiting r ++ in_region n (image_records (image_needed j files n b)) r) ks)
    c.in_ok-log_image.ensures.logged
    (λ files is hard waiting keeps. subst (λ (l : List JournalRecord). KeepsJournals w hard (λ r. waiting r ++ in_region n l r) ks)
    (c.records.ensures.are ∙ ap image_records (is ∙ ap (λ (l : List Before). l ++ image_needed j files n b) c.new-images.ensures))
    (c.in_ok-append_records.ensures.state hard waiting (keeps_reads u v c.log_image.ensures.reads hard waiting js keeps)))

pub returns-clause-holds : goal.returns-clause-holds
returns-clause-holds g c =
    let x = region_at c.args.regions.now c.args.number in
    in_files (g.D.Disk.disk c.args.disk.now).content
    (λ files. (e : Chosen) (h : ℕ) → HoldsRegion e (files x.file) x → HoldsRegion (logged_all e (placed_images h (image_needed c.args.regions.now files c.args.number c.args.block))) (files x.file) (region_at c.mark_image.new.self c.args.number))
    (λ files e h holds. c.mark_image.ensures.holds e (files x.file) h holds)
