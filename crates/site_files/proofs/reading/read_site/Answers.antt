use Rattle.std.proofs.Common.{◌≡◌, ◌+◌, ◌<◌, inr, ℕ, suc, List, Vec, Global, length, map, ◌∙◌, ap, arith}
use Rattle.std.proofs.lemmas.Result.{err_from_is_err_and}
use Rattle.disk_defs.specs.Disk.{Files, Image}
use Rattle.disk_defs.proofs.Moments.{nothing_new}
use Rattle.disk_defs.proofs.Told.{told_at}
use Rattle.entry_index.specs.declared.placed.PlacedSign.{PlacedSign}
use Rattle.entry_index.specs.Found.{HaveFound}
use Rattle.global_dir.specs.Directory.{Mapping}
use Rattle.journal_defs.specs.Instance.{generation, regions}
use Rattle.journal_defs.specs.Sequence.{Placed}
use Rattle.site_files.specs.declared.error.FilesError.TheVariants.{NotAFile, GenLimit}
use Rattle.site_files.specs.Loading.{last_of}
use Rattle.site_files.specs.Reading.{AreAllDurable, AreUnbegunDurable}
use Rattle.site_defs.specs.Outside.{HaveJournals, AreUnbegun, AreOutside, HaveBegun}
use Rattle.site_files.proofs.Places.{instance_place, site_place, directory_place, journals_place, begun_place}
use Rattle.site_files.proofs.Errors.{handed_on, causes_on}
use Rattle.site_files.proofs.WhatIsRead.{no_instance, no_late_instance, limit_read, limit_told, no_directory, no_late_directory, not_late, no_journals, no_next, may_be_opened, was_read}
use Rattle.site_files.proofs.Counts.{whole_rows}
use Rattle.site_files.proofs.reading.read_site.Goals as goal

pub returns-in_err-log-clause-place : goal.returns-in_err-log-clause-place
returns-in_err-log-clause-place g c =
    let o = (g.D.Disk.disk c.args.disk.now).content in
    let p = err_from_is_err_and c.from_residual.result c.from_residual.ensures.1 in
    rw (p.1, p.2) (λ file offset is.
    site_place o file offset (instance_place o file offset (c.in_err-log.ensures.place file offset (handed_on c.in_err-log.field-0.0 (NotAFile file offset) is))))

pub returns-in_err-plan-clause-place : goal.returns-in_err-plan-clause-place
returns-in_err-plan-clause-place g c =
    let o = (g.D.Disk.disk c.args.disk.now).content in
    let p = err_from_is_err_and c.from_residual-in_err-plan.result c.from_residual-in_err-plan.ensures.1 in
    rw (p.1, p.2) (λ file offset is.
    let there = handed_on c.in_err-plan.field-0.0 (NotAFile file offset) is in
    site_place o file offset (directory_place o file offset c.in_ok-log.log.records c.in_ok-log.ensures.reads
    (c.in_err-plan.ensures.outside file offset there)
    (c.in_err-plan.ensures.place file offset there)))

pub returns-in_err-found-clause-place : goal.returns-in_err-found-clause-place
returns-in_err-found-clause-place g c =
    let view = g.D.Disk.disk in
    let o = (view c.args.disk.now).content in
    let rs = c.in_ok-log.log.records in
    let n = c.in_ok-plan.plan.regions in
    let n2 = c.in_ok-plan.plan.newest in
    let directory = c.in_ok-plan.ensures.directory in
    let many : n ≡ length (regions rs) = c.in_ok-plan.ensures.regions ∙ ap (λ (d : Mapping). d.regions) directory.2 in
    let newest : n2 ≡ generation rs = c.in_ok-plan.ensures.newest in
    let p = err_from_is_err_and c.from_residual-in_err-found.result c.from_residual-in_err-found.ensures.1 in
    rw (p.1, p.2) (λ file offset is.
    site_place o file offset (journals_place o file offset rs c.in_ok-log.ensures.reads n n2 many newest
    (told_at o (view c.read_instance.new.disk).content (λ files. AreOutside files n n2 file offset) c.in_ok-log.ensures.content
    (c.in_err-found.ensures.place file offset (handed_on c.in_err-found.field-0.0 (NotAFile file offset) is)))))

pub returns-in_err-see_regions-clause-place : goal.returns-in_err-see_regions-clause-place
returns-in_err-see_regions-clause-place g c =
    let view = g.D.Disk.disk in
    let o = (view c.args.disk.now).content in
    let rs = c.in_ok-log.log.records in
    let n = c.in_ok-plan.plan.regions in
    let n2 = c.in_ok-plan.plan.newest + 1 in
    let directory = c.in_ok-plan.ensures.directory in
    let many : n ≡ length (regions rs) = c.in_ok-plan.ensures.regions ∙ ap (λ (d : Mapping). d.regions) directory.2 in
    let newest : c.in_ok-plan.plan.newest ≡ generation rs = c.in_ok-plan.ensures.newest in
    let drawn : n2 ≡ suc (generation rs) = omega (arith, newest) in
    let p = err_from_is_err_and c.from_residual-in_err-see_regions.result c.from_residual-in_err-see_regions.ensures.1 in
    rw (p.1, p.2) (λ file offset is.
    begun_place o file offset rs c.in_ok-log.ensures.reads n n2 many drawn
    (told_at o (view c.read_journals.new.disk).content (λ files. HaveBegun files n n2 file offset) (c.in_ok-found.ensures.content ∙ c.in_ok-log.ensures.content)
    (c.in_err-see_regions.ensures.place file offset (handed_on c.in_err-see_regions.field-0.0 (NotAFile file offset) is))))

pub returns-in_err-log-clause-outside : goal.returns-in_err-log-clause-outside
returns-in_err-log-clause-outside g c =
    let p = err_from_is_err_and c.from_residual.result c.from_residual.ensures.1 in
    rw (p.1, p.2) (λ file offset is.
    no_instance (g.D.Disk.disk c.args.disk.now).content (c.in_err-log.ensures.outside file offset (handed_on c.in_err-log.field-0.0 (NotAFile file offset) is)))

pub returns-in_err-log-clause-causes : goal.returns-in_err-log-clause-causes
returns-in_err-log-clause-causes g c =
    let p = err_from_is_err_and c.from_residual.result c.from_residual.ensures.1 in
    rw (p.1, p.2) (inr (causes_on c.in_err-log.field-0.0 c.in_err-log.ensures.causes))

pub returns-in_err-plan-clause-outside : goal.returns-in_err-plan-clause-outside
returns-in_err-plan-clause-outside g c =
    let p = err_from_is_err_and c.from_residual-in_err-plan.result c.from_residual-in_err-plan.ensures.1 in
    rw (p.1, p.2) (λ file offset is.
    no_directory (g.D.Disk.disk c.args.disk.now).content c.in_ok-log.log.records c.in_ok-log.ensures.reads
    (c.in_err-plan.ensures.outside file offset (handed_on c.in_err-plan.field-0.0 (NotAFile file offset) is)))

pub returns-in_err-plan-clause-limit : goal.returns-in_err-plan-clause-limit
returns-in_err-plan-clause-limit g c =
    let p = err_from_is_err_and c.from_residual-in_err-plan.result c.from_residual-in_err-plan.ensures.1 in
    rw (p.1, p.2) (λ is.
    limit_read (g.D.Disk.disk c.args.disk.now).content c.in_ok-log.log.records c.in_ok-log.ensures.reads
    (c.in_err-plan.ensures.limit (handed_on c.in_err-plan.field-0.0 GenLimit is)))

pub returns-in_err-plan-clause-limit_told : goal.returns-in_err-plan-clause-limit_told
returns-in_err-plan-clause-limit_told g c =
    let p = err_from_is_err_and c.from_residual-in_err-plan.result c.from_residual-in_err-plan.ensures.1 in
    rw (p.1, p.2) (λ is.
    limit_told (g.D.Disk.disk c.args.disk.now).content c.in_ok-log.log.records c.in_ok-log.ensures.reads
    (c.in_err-plan.ensures.limit (handed_on c.in_err-plan.field-0.0 GenLimit is)))

pub returns-in_err-found-clause-causes : goal.returns-in_err-found-clause-causes
returns-in_err-found-clause-causes g c =
    let p = err_from_is_err_and c.from_residual-in_err-found.result c.from_residual-in_err-found.ensures.1 in
    rw (p.1, p.2) (inr (causes_on c.in_err-found.field-0.0 c.in_err-found.ensures.causes))

pub returns-in_err-see_regions-clause-causes : goal.returns-in_err-see_regions-clause-causes
returns-in_err-see_regions-clause-causes g c =
    let p = err_from_is_err_and c.from_residual-in_err-see_regions.result c.from_residual-in_err-see_regions.ensures.1 in
    rw (p.1, p.2) (inr (causes_on c.in_err-see_regions.field-0.0 c.in_err-see_regions.ensures.causes))

pub returns-in_err-found-clause-any_moment : goal.returns-in_err-found-clause-any_moment
returns-in_err-found-clause-any_moment g c =
    let view = g.D.Disk.disk in
    nothing_new (view c.args.disk.now) (view c.read_instance.new.disk) (view c.read_journals.new.disk) (Image (view c.args.disk.now)) (g.met.D.Disk.lawful c.read_instance.new.disk)
    c.in_ok-log.ensures.any_moment c.in_err-found.ensures.any_moment

pub returns-in_err-see_regions-clause-any_moment : goal.returns-in_err-see_regions-clause-any_moment
returns-in_err-see_regions-clause-any_moment g c =
    let view = g.D.Disk.disk in
    let u = view c.args.disk.now in
    nothing_new u (view c.read_journals.new.disk) (view c.see_regions.new.disk) (Image u) (g.met.D.Disk.lawful c.read_journals.new.disk)
    (nothing_new u (view c.read_instance.new.disk) (view c.read_journals.new.disk) (Image u) (g.met.D.Disk.lawful c.read_instance.new.disk) c.in_ok-log.ensures.any_moment c.in_ok-found.ensures.any_moment)
    c.in_err-see_regions.ensures.any_moment

pub returns-clause-any_moment : goal.returns-clause-any_moment
returns-clause-any_moment g c =
    let view = g.D.Disk.disk in
    let u = view c.args.disk.now in
    nothing_new u (view c.read_journals.new.disk) (view c.see_regions.new.disk) (Image u) (g.met.D.Disk.lawful c.read_journals.new.disk)
    (nothing_new u (view c.read_instance.new.disk) (view c.read_journals.new.disk) (Image u) (g.met.D.Disk.lawful c.read_instance.new.disk) c.in_ok-log.ensures.any_moment c.in_ok-found.ensures.any_moment)
    c.in_ok-see_regions.ensures.any_moment

pub returns-in_err-found-clause-outside : goal.returns-in_err-found-clause-outside
returns-in_err-found-clause-outside g c =
    let view = g.D.Disk.disk in
    let rs = c.in_ok-log.log.records in
    let n = c.in_ok-plan.plan.regions in
    let n2 = c.in_ok-plan.plan.newest in
    let directory = c.in_ok-plan.ensures.directory in
    let many : n ≡ length (regions rs) = c.in_ok-plan.ensures.regions ∙ ap (λ (d : Mapping). d.regions) directory.2 in
    let newest : n2 ≡ generation rs = c.in_ok-plan.ensures.newest in
    let None_there = λ (files : Files). (began : ℕ → ℕ) (journal : ℕ → List Placed) → HaveJournals n n2 began journal files → ⊥ in
    let p = err_from_is_err_and c.from_residual-in_err-found.result c.from_residual-in_err-found.ensures.1 in
    rw (p.1, p.2) (λ file offset is.
    no_journals (view c.args.disk.now).content rs c.in_ok-log.ensures.reads n n2 many newest
    (told_at (view c.args.disk.now).content (view c.read_instance.new.disk).content None_there c.in_ok-log.ensures.content
    (c.in_err-found.ensures.outside file offset (handed_on c.in_err-found.field-0.0 (NotAFile file offset) is))))

pub returns-in_err-see_regions-clause-outside : goal.returns-in_err-see_regions-clause-outside
returns-in_err-see_regions-clause-outside g c =
    let view = g.D.Disk.disk in
    let rs = c.in_ok-log.log.records in
    let n = c.in_ok-plan.plan.regions in
    let n2 = c.in_ok-plan.plan.newest + 1 in
    let directory = c.in_ok-plan.ensures.directory in
    let many : n ≡ length (regions rs) = c.in_ok-plan.ensures.regions ∙ ap (λ (d : Mapping). d.regions) directory.2 in
    let newest : c.in_ok-plan.plan.newest ≡ generation rs = c.in_ok-plan.ensures.newest in
    let drawn : n2 ≡ suc (generation rs) = omega (arith, newest) in
    let Begun = λ (files : Files). AreUnbegun n n2 files → ⊥ in
    let p = err_from_is_err_and c.from_residual-in_err-see_regions.result c.from_residual-in_err-see_regions.ensures.1 in
    rw (p.1, p.2) (λ file offset is.
    no_next (view c.args.disk.now).content rs c.in_ok-log.ensures.reads n n2 many drawn
    (told_at (view c.args.disk.now).content (view c.read_journals.new.disk).content Begun (c.in_ok-found.ensures.content ∙ c.in_ok-log.ensures.content)
    (c.in_err-see_regions.ensures.outside file offset (handed_on c.in_err-see_regions.field-0.0 (NotAFile file offset) is))))

pub returns-clause-directory : goal.returns-clause-directory
returns-clause-directory g c = rw (c.with_found.ensures.log, c.with_found.ensures.directory) c.in_ok-plan.ensures.directory

pub returns-clause-form : goal.returns-clause-form
returns-clause-form g c =
    let rs = c.in_ok-log.log.records in
    let directory = c.in_ok-plan.ensures.directory in
    let fits = c.in_ok-plan.ensures.mapped in
    let newest : c.in_ok-plan.plan.newest ≡ generation rs = c.in_ok-plan.ensures.newest in
    let low : c.in_ok-plan.plan.newest < 65534 = c.in_ok-plan.ensures.low in
    rw (c.with_found.ensures.log, c.with_found.ensures.last_began)
    (may_be_opened rs c.in_ok-plan.plan.directory (last_of c.in_ok-found.found.last_began.items) c.in_ok-plan.plan.newest c.in_ok-log.ensures.order c.in_ok-log.ensures.form directory fits newest low c.in_ok-found.ensures.began)

pub returns-clause-read : goal.returns-clause-read
returns-clause-read g c =
    let view = g.D.Disk.disk in
    let u = view c.args.disk.now in
    let v = view c.read_instance.new.disk in
    let w = view c.read_journals.new.disk in
    let x = view c.see_regions.new.disk in
    let rs = c.in_ok-log.log.records in
    let n = c.in_ok-plan.plan.regions in
    let g1 = c.in_ok-plan.plan.newest in
    let got = c.in_ok-found.ensures in
    let found = c.in_ok-found.found in
    let signs = map (λ (j : Vec PlacedSign Global). j.items) found.signs.items in
    let directory = c.in_ok-plan.ensures.directory in
    let many : n ≡ length (regions rs) = c.in_ok-plan.ensures.regions ∙ ap (λ (d : Mapping). d.regions) directory.2 in
    let newest : g1 ≡ generation rs = c.in_ok-plan.ensures.newest in
    let drawn : g1 + 1 ≡ suc (generation rs) = omega (arith, newest) in
    let first = c.in_ok-log.ensures.content in
    let second = got.content ∙ first in
    rw (c.with_found.ensures.log, c.with_found.ensures.signs, c.with_found.ensures.last_began, c.with_found.ensures.entries, c.with_found.ensures.lowest)
    (was_read u.content v w x rs c.args.lowest found.last_began.items signs found.entries n g1 (g1 + 1) many newest drawn
    (g.met.D.Disk.lawful c.read_journals.new.disk) (g.met.D.Disk.lawful c.see_regions.new.disk) got.any_moment c.in_ok-see_regions.ensures.any_moment
    c.in_ok-log.ensures.reads c.in_ok-log.ensures.durable
    (told_at u.content v.content (λ files. (journal : ℕ → List Placed) × HaveFound files rs c.args.lowest n g1 signs found.last_began.items found.entries journal) first got.found)
    (told_at u.content v.content (AreAllDurable w n g1) first got.durable)
    (told_at u.content w.content (AreUnbegun n (g1 + 1)) second c.in_ok-see_regions.ensures.next)
    (told_at u.content w.content (AreUnbegunDurable x n (g1 + 1)) second c.in_ok-see_regions.ensures.durable))

pub returns-in_err-log-clause-late : goal.returns-in_err-log-clause-late
returns-in_err-log-clause-late g c =
    let p = err_from_is_err_and c.from_residual.result c.from_residual.ensures.1 in
    rw (p.1, p.2) (λ file offset is.
    no_late_instance (g.D.Disk.disk c.args.disk.now).content (c.in_err-log.ensures.outside file offset (handed_on c.in_err-log.field-0.0 (NotAFile file offset) is)))

pub returns-in_err-plan-clause-late : goal.returns-in_err-plan-clause-late
returns-in_err-plan-clause-late g c =
    let p = err_from_is_err_and c.from_residual-in_err-plan.result c.from_residual-in_err-plan.ensures.1 in
    rw (p.1, p.2) (λ file offset is.
    no_late_directory (g.D.Disk.disk c.args.disk.now).content c.in_ok-log.log.records c.in_ok-log.ensures.reads
    (c.in_err-plan.ensures.outside file offset (handed_on c.in_err-plan.field-0.0 (NotAFile file offset) is)))

pub returns-in_err-found-clause-late : goal.returns-in_err-found-clause-late
returns-in_err-found-clause-late g c =
    let newest : c.in_ok-plan.plan.newest ≡ generation c.in_ok-log.log.records = c.in_ok-plan.ensures.newest in
    λ file offset is. not_late (g.D.Disk.disk c.args.disk.now).content c.in_ok-log.log.records c.in_ok-log.ensures.reads c.in_ok-plan.plan.newest newest c.in_ok-plan.ensures.low

pub returns-in_err-see_regions-clause-late : goal.returns-in_err-see_regions-clause-late
returns-in_err-see_regions-clause-late g c =
    let newest : c.in_ok-plan.plan.newest ≡ generation c.in_ok-log.log.records = c.in_ok-plan.ensures.newest in
    λ file offset is. not_late (g.D.Disk.disk c.args.disk.now).content c.in_ok-log.log.records c.in_ok-log.ensures.reads c.in_ok-plan.plan.newest newest c.in_ok-plan.ensures.low

pub returns-clause-counted : goal.returns-clause-counted
returns-clause-counted g c =
    let rs = c.in_ok-log.log.records in
    let directory = c.in_ok-plan.ensures.directory in
    let many : c.in_ok-plan.plan.regions ≡ length (regions rs) = c.in_ok-plan.ensures.regions ∙ ap (λ (d : Mapping). d.regions) directory.2 in
    rw (c.with_found.ensures.log, c.with_found.ensures.last_began) (c.in_ok-found.ensures.many_last ∙ many)

pub returns-clause-signs : goal.returns-clause-signs
returns-clause-signs g c =
    let rs = c.in_ok-log.log.records in
    let directory = c.in_ok-plan.ensures.directory in
    let many : c.in_ok-plan.plan.regions ≡ length (regions rs) = c.in_ok-plan.ensures.regions ∙ ap (λ (d : Mapping). d.regions) directory.2 in
    rw (c.with_found.ensures.log, c.with_found.ensures.signs) (c.in_ok-found.ensures.many ∙ many)

pub returns-clause-rows : goal.returns-clause-rows
returns-clause-rows g c =
    let rs = c.in_ok-log.log.records in
    let directory = c.in_ok-plan.ensures.directory in
    let many : c.in_ok-plan.plan.regions ≡ length (regions rs) = c.in_ok-plan.ensures.regions ∙ ap (λ (d : Mapping). d.regions) directory.2 in
    rw (c.with_found.ensures.log, c.with_found.ensures.entries) (whole_rows c.in_ok-found.found.entries c.in_ok-plan.plan.regions (length (regions rs)) many c.in_ok-found.ensures.rows)

pub returns-clause-low : goal.returns-clause-low
returns-clause-low g c =
    let newest : c.in_ok-plan.plan.newest ≡ generation c.in_ok-log.log.records = c.in_ok-plan.ensures.newest in
    let low = c.in_ok-plan.ensures.low in
    rw c.with_found.ensures.log (omega (arith, newest, low))
