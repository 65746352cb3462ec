use Rattle.std.proofs.Common.{◌≡◌, ℕ, List, Vec, Global, length, map, ◌∙◌, ap, arith}
use Rattle.std.proofs.lemmas.Result.{err_from_is_err_and}
use Rattle.disk_defs.specs.Disk.{Files, Image}
use Rattle.disk_defs.proofs.Moments.{nothing_new}
use Rattle.disk_defs.proofs.Told.{told_at}
use Rattle.global_dir.specs.Directory.{Mapping}
use Rattle.entry_index.specs.declared.placed.PlacedSign.{PlacedSign}
use Rattle.entry_index.specs.Found.{HaveFound}
use Rattle.journal_defs.specs.Instance.{generation, regions}
use Rattle.journal_defs.specs.Sequence.{Placed}
use Rattle.site_files.specs.declared.error.FilesError.TheVariants.{NotAFile}
use Rattle.site_defs.specs.Outside.{HaveJournals, AreOutside}
use Rattle.site_files.proofs.Places.{instance_place, directory_place, journals_place}
use Rattle.site_files.proofs.Errors.{handed_on, causes_on}
use Rattle.site_files.proofs.RecordsRead.{generation_low, hold_no_instance, hold_no_directory, hold_no_journals, are_held}
use Rattle.site_files.proofs.Counts.{whole_rows}
use Rattle.site_files.proofs.reading.read_records.Goals as goal

pub returns-in_err-log-clause-place : goal.returns-in_err-log-clause-place
returns-in_err-log-clause-place g c =
    let o = (g.D.Disk.disk c.args.disk.now).content in
    let p = err_from_is_err_and c.from_residual.result c.from_residual.ensures.1 in
    rw (p.1, p.2) (λ file offset is.
    instance_place o file offset (c.in_err-log.ensures.place file offset (handed_on c.in_err-log.field-0.0 (NotAFile file offset) is)))

pub returns-in_err-plan-clause-place : goal.returns-in_err-plan-clause-place
returns-in_err-plan-clause-place g c =
    let o = (g.D.Disk.disk c.args.disk.now).content in
    let p = err_from_is_err_and c.from_residual-in_err-plan.result c.from_residual-in_err-plan.ensures.1 in
    rw (p.1, p.2) (λ file offset is.
    let there = handed_on c.in_err-plan.field-0.0 (NotAFile file offset) is in
    directory_place o file offset c.in_ok-log.log.records c.in_ok-log.ensures.reads
    (c.in_err-plan.ensures.outside file offset there)
    (c.in_err-plan.ensures.place file offset there))

pub returns-in_err-found-clause-place : goal.returns-in_err-found-clause-place
returns-in_err-found-clause-place g c =
    let view = g.D.Disk.disk in
    let o = (view c.args.disk.now).content in
    let rs = c.in_ok-log.log.records in
    let n = c.in_ok-plan.plan.regions in
    let n2 = c.in_ok-plan.plan.newest in
    let directory = c.in_ok-plan.ensures.directory in
    let many : n ≡ length (regions rs) = c.in_ok-plan.ensures.regions ∙ ap (λ (d : Mapping). d.regions) directory.2 in
    let newest : n2 ≡ generation rs = c.in_ok-plan.ensures.newest in
    let p = err_from_is_err_and c.from_residual-in_err-found.result c.from_residual-in_err-found.ensures.1 in
    rw (p.1, p.2) (λ file offset is.
    journals_place o file offset rs c.in_ok-log.ensures.reads n n2 many newest
    (told_at o (view c.read_instance.new.disk).content (λ files. AreOutside files n n2 file offset) c.in_ok-log.ensures.content
    (c.in_err-found.ensures.place file offset (handed_on c.in_err-found.field-0.0 (NotAFile file offset) is))))

pub returns-in_err-log-clause-outside : goal.returns-in_err-log-clause-outside
returns-in_err-log-clause-outside g c =
    let p = err_from_is_err_and c.from_residual.result c.from_residual.ensures.1 in
    rw (p.1, p.2) (λ file offset is.
    hold_no_instance (g.D.Disk.disk c.args.disk.now).content (c.in_err-log.ensures.outside file offset (handed_on c.in_err-log.field-0.0 (NotAFile file offset) is)))

pub returns-in_err-log-clause-causes : goal.returns-in_err-log-clause-causes
returns-in_err-log-clause-causes g c =
    let p = err_from_is_err_and c.from_residual.result c.from_residual.ensures.1 in
    rw (p.1, p.2) (causes_on c.in_err-log.field-0.0 c.in_err-log.ensures.causes)

pub returns-in_err-plan-clause-outside : goal.returns-in_err-plan-clause-outside
returns-in_err-plan-clause-outside g c =
    let p = err_from_is_err_and c.from_residual-in_err-plan.result c.from_residual-in_err-plan.ensures.1 in
    rw (p.1, p.2) (λ file offset is.
    hold_no_directory (g.D.Disk.disk c.args.disk.now).content c.in_ok-log.log.records c.in_ok-log.ensures.reads
    (c.in_err-plan.ensures.outside file offset (handed_on c.in_err-plan.field-0.0 (NotAFile file offset) is)))

pub read_journals-requires-clause-last : goal.read_journals-requires-clause-last
read_journals-requires-clause-last g c =
    let newest : c.in_ok-plan.plan.newest ≡ generation c.in_ok-log.log.records = c.in_ok-plan.ensures.newest in
    let low = generation_low c.in_ok-log.log.records c.in_ok-log.ensures.form in
    omega (arith, newest, low)

pub returns-in_err-found-clause-causes : goal.returns-in_err-found-clause-causes
returns-in_err-found-clause-causes g c =
    let p = err_from_is_err_and c.from_residual-in_err-found.result c.from_residual-in_err-found.ensures.1 in
    rw (p.1, p.2) (causes_on c.in_err-found.field-0.0 c.in_err-found.ensures.causes)

pub returns-in_err-found-clause-any_moment : goal.returns-in_err-found-clause-any_moment
returns-in_err-found-clause-any_moment g c =
    let view = g.D.Disk.disk in
    nothing_new (view c.args.disk.now) (view c.read_instance.new.disk) (view c.read_journals.new.disk) (Image (view c.args.disk.now)) (g.met.D.Disk.lawful c.read_instance.new.disk)
    c.in_ok-log.ensures.any_moment c.in_err-found.ensures.any_moment

pub returns-clause-any_moment : goal.returns-clause-any_moment
returns-clause-any_moment g c =
    let view = g.D.Disk.disk in
    nothing_new (view c.args.disk.now) (view c.read_instance.new.disk) (view c.read_journals.new.disk) (Image (view c.args.disk.now)) (g.met.D.Disk.lawful c.read_instance.new.disk)
    c.in_ok-log.ensures.any_moment c.in_ok-found.ensures.any_moment

pub returns-in_err-found-clause-outside : goal.returns-in_err-found-clause-outside
returns-in_err-found-clause-outside g c =
    let view = g.D.Disk.disk in
    let rs = c.in_ok-log.log.records in
    let n = c.in_ok-plan.plan.regions in
    let n2 = c.in_ok-plan.plan.newest in
    let directory = c.in_ok-plan.ensures.directory in
    let many : n ≡ length (regions rs) = c.in_ok-plan.ensures.regions ∙ ap (λ (d : Mapping). d.regions) directory.2 in
    let newest : n2 ≡ generation rs = c.in_ok-plan.ensures.newest in
    let None_there = λ (files : Files). (began : ℕ → ℕ) (journal : ℕ → List Placed) → HaveJournals n n2 began journal files → ⊥ in
    let p = err_from_is_err_and c.from_residual-in_err-found.result c.from_residual-in_err-found.ensures.1 in
    rw (p.1, p.2) (λ file offset is.
    hold_no_journals (view c.args.disk.now).content rs c.in_ok-log.ensures.reads n n2 many newest
    (told_at (view c.args.disk.now).content (view c.read_instance.new.disk).content None_there c.in_ok-log.ensures.content
    (c.in_err-found.ensures.outside file offset (handed_on c.in_err-found.field-0.0 (NotAFile file offset) is))))

pub returns-clause-held : goal.returns-clause-held
returns-clause-held g c =
    let view = g.D.Disk.disk in
    let u = view c.args.disk.now in
    let v = view c.read_instance.new.disk in
    let rs = c.in_ok-log.log.records in
    let n = c.in_ok-plan.plan.regions in
    let g1 = c.in_ok-plan.plan.newest in
    let found = c.in_ok-found.found in
    let signs = map (λ (j : Vec PlacedSign Global). j.items) found.signs.items in
    let directory = c.in_ok-plan.ensures.directory in
    let many : n ≡ length (regions rs) = c.in_ok-plan.ensures.regions ∙ ap (λ (d : Mapping). d.regions) directory.2 in
    let newest : g1 ≡ generation rs = c.in_ok-plan.ensures.newest in
    rw (c.with_found.ensures.log, c.with_found.ensures.signs, c.with_found.ensures.entries, c.with_found.ensures.lowest)
    (are_held u.content rs c.args.lowest found.last_began.items signs found.entries n g1 many newest c.in_ok-log.ensures.reads
    (told_at u.content v.content (λ files. (journal : ℕ → List Placed) × HaveFound files rs c.args.lowest n g1 signs found.last_began.items found.entries journal) c.in_ok-log.ensures.content c.in_ok-found.ensures.found))

pub returns-clause-signs : goal.returns-clause-signs
returns-clause-signs g c =
    let rs = c.in_ok-log.log.records in
    let directory = c.in_ok-plan.ensures.directory in
    let many : c.in_ok-plan.plan.regions ≡ length (regions rs) = c.in_ok-plan.ensures.regions ∙ ap (λ (d : Mapping). d.regions) directory.2 in
    rw (c.with_found.ensures.log, c.with_found.ensures.signs) (c.in_ok-found.ensures.many ∙ many)

pub returns-clause-rows : goal.returns-clause-rows
returns-clause-rows g c =
    let rs = c.in_ok-log.log.records in
    let directory = c.in_ok-plan.ensures.directory in
    let many : c.in_ok-plan.plan.regions ≡ length (regions rs) = c.in_ok-plan.ensures.regions ∙ ap (λ (d : Mapping). d.regions) directory.2 in
    rw (c.with_found.ensures.log, c.with_found.ensures.entries) (whole_rows c.in_ok-found.found.entries c.in_ok-plan.plan.regions (length (regions rs)) many c.in_ok-found.ensures.rows)

pub returns-clause-order : goal.returns-clause-order
returns-clause-order g c = rw c.with_found.ensures.log c.in_ok-log.ensures.order
