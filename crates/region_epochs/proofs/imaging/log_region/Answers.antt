use Rattle.std.proofs.Common.{◌≡◌, ◌++◌, ◌∙◌, ℕ, List, ap, subst, map}
use Rattle.disk_defs.proofs.Told.{weaker_told}
use Rattle.journal_defs.specs.Journal.{JournalRecord, Before}
use Rattle.jnl_record.specs.Values.{record_value}
use Rattle.region_store.specs.Region.{changed_images}
use Rattle.region_journals.specs.Journals.{KeepsJournals}
use Rattle.region_journals.specs.Logging.{in_region}
use Rattle.region_store.specs.Joined.{region_at}
use Rattle.region_epochs.specs.Kept.{image_records, images_in}
use Rattle.region_epochs.proofs.Reading.{ready_reads, keeps_reads, begins_reading, then_frame, then_moments}
use Rattle.region_epochs.proofs.imaging.log_region.Goals as goal

pub returns-in_err-log_changed-clause-any_moment : goal.returns-in_err-log_changed-clause-any_moment
returns-in_err-log_changed-clause-any_moment g c h hard waiting ready keeps =
    let view = g.D.Disk.disk in
    begins_reading (view c.args.disk.now) (view c.log_changed.new.disk) h c.args.journals.now.journals.items hard waiting (g.met.D.Disk.lawful c.args.disk.now) c.log_changed.ensures.reads ready keeps

pub append_records-requires-clause-ready : goal.append_records-requires-clause-ready
append_records-requires-clause-ready g c =
    let view = g.D.Disk.disk in
    let ready = c.requires.ready in
    (ready.0, ready_reads (view c.args.disk.now) (view c.log_changed.new.disk) c.log_changed.ensures.reads ready.0 c.args.journals.now.journals.items ready.1)

pub returns-in_err-append_records-clause-any_moment : goal.returns-in_err-append_records-clause-any_moment
returns-in_err-append_records-clause-any_moment g c h hard waiting ready keeps =
    let view = g.D.Disk.disk in
    let u = view c.args.disk.now in
    let v = view c.log_changed.new.disk in
    let js = c.args.journals.now.journals.items in
    let reads = c.log_changed.ensures.reads in
    then_moments u v (view c.append_records.new.disk) h js reads hard waiting (g.met.D.Disk.lawful c.args.disk.now) (g.met.D.Disk.lawful c.log_changed.new.disk) ready keeps
    (c.append_records.ensures.any_moment h hard waiting (ready_reads u v reads h js ready) (keeps_reads u v reads hard waiting js keeps))

pub returns-in_err-append_records-clause-frame : goal.returns-in_err-append_records-clause-frame
returns-in_err-append_records-clause-frame g c h ready =
    let view = g.D.Disk.disk in
    let u = view c.args.disk.now in
    let v = view c.log_changed.new.disk in
    let js = c.args.journals.now.journals.items in
    let reads = c.log_changed.ensures.reads in
    then_frame u v (view c.append_records.new.disk) h js reads (c.append_records.ensures.frame h (ready_reads u v reads h js ready))

pub returns-clause-any_moment : goal.returns-clause-any_moment
returns-clause-any_moment g c h hard waiting ready keeps =
    let view = g.D.Disk.disk in
    let u = view c.args.disk.now in
    let v = view c.log_changed.new.disk in
    let js = c.args.journals.now.journals.items in
    let reads = c.log_changed.ensures.reads in
    then_moments u v (view c.append_records.new.disk) h js reads hard waiting (g.met.D.Disk.lawful c.args.disk.now) (g.met.D.Disk.lawful c.log_changed.new.disk) ready keeps
    (c.append_records.ensures.any_moment h hard waiting (ready_reads u v reads h js ready) (keeps_reads u v reads hard waiting js keeps))

pub returns-clause-frame : goal.returns-clause-frame
returns-clause-frame g c h ready =
    let view = g.D.Disk.disk in
    let u = view c.args.disk.now in
    let v = view c.log_changed.new.disk in
    let js = c.args.journals.now.journals.items in
    let reads = c.log_changed.ensures.reads in
    then_frame u v (view c.append_records.new.disk) h js reads (c.append_records.ensures.frame h (ready_reads u v reads h js ready))

pub returns-clause-ready : goal.returns-clause-ready
returns-clause-ready g c h ready =
    let view = g.D.Disk.disk in
    c.in_ok-append_records.ensures.ready h (ready_reads (view c.args.disk.now) (view c.log_changed.new.disk) c.log_changed.ensures.reads h c.args.journals.now.journals.items ready)

pub returns-clause-state : goal.returns-clause-state
returns-clause-state g c =
    let view = g.D.Disk.disk in
    let u = view c.args.disk.now in
    let v = view c.log_changed.new.disk in
    let w = view c.append_records.new.disk in
    let js = c.args.journals.now.journals.items in
    let ks = c.append_records.new.self.journals.items in
    let n = c.args.number in
    let j = c.args.regions.now in
    let x = region_at j n in
    let rs = map record_value c.records.result.now in
    weaker_told u.content (λ files. c.log_changed.new.log ≡ c.new-images.result ++ changed_images x (files x.file))
    (λ files. (hard waiting : ℕ → List JournalRecord) → KeepsJournals u hard waiting js → KeepsJournals w hard (λ r. waiting r ++ in_region n (images_in j files n) r) ks)
    c.in_ok-log_changed.ensures.logged
    (λ files is hard waiting keeps. subst (λ (l : List JournalRecord). KeepsJournals w hard (λ r. waiting r ++ in_region n l r) ks)
    (c.records.ensures.are ∙ ap image_records (is ∙ ap (λ (l : List Before). l ++ changed_images x (files x.file)) c.new-images.ensures))
    (c.in_ok-append_records.ensures.state hard waiting (keeps_reads u v c.log_changed.ensures.reads hard waiting js keeps)))

pub returns-clause-waits : goal.returns-clause-waits
returns-clause-waits g c hard waiting keeps =
    let view = g.D.Disk.disk in
    let u = view c.args.disk.now in
    let v = view c.log_changed.new.disk in (
      λ r. waiting r ++ in_region c.args.number (map record_value c.records.result.now) r,
      c.in_ok-append_records.ensures.state hard waiting (keeps_reads u v c.log_changed.ensures.reads hard waiting c.args.journals.now.journals.items keeps),
    )
