use Rattle.std.proofs.Common.{◌⊎◌, inl, suc, length, refl}
use Rattle.disk_defs.proofs.Told.{weaker_told}
use Rattle.journal_defs.specs.Instance.{generation, regions}
use Rattle.site_defs.specs.Outside.{IsOutsideSite, IsBegunAhead}
use Rattle.site_store.proofs.Founded.{found_moved}
use Rattle.mupip_rollback.proofs.Errors.{site_was, files_was}
use Rattle.mupip_rollback.proofs.Founded as founded
use Rattle.mupip_rollback.proofs.preparing.find.Goals as goal

pub returns-in-Err-clause-place : goal.returns-in-Err-clause-place
returns-in-Err-clause-place g c = λ file offset is.
    weaker_told (g.D.Disk.disk c.args.disk.now).content (λ files. IsOutsideSite files file offset) (λ files. IsOutsideSite files file offset ⊎ IsBegunAhead files file offset)
    (c.in-Err.ensures.place file offset (site_was c.in-Err.error c.in_site.result file offset c.in_site.ensures is)) (λ files out. inl out)

pub returns-in-Ok-see_ahead-clause-found : goal.returns-in-Ok-see_ahead-clause-found
returns-in-Ok-see_ahead-clause-found g c =
    found_moved (g.D.Disk.disk c.args.disk.now) (g.D.Disk.disk c.find_files.new.disk) (g.D.Disk.disk c.see_ahead.new.disk) c.in-Ok.found (g.met.D.Disk.lawful c.see_ahead.new.disk) c.see_ahead.ensures.any_moment c.in-Ok.ensures.found

pub returns-in-Ok-see_ahead-clause-ahead : goal.returns-in-Ok-see_ahead-clause-ahead
returns-in-Ok-see_ahead-clause-ahead g c =
    let rs = c.in-Ok.found.read.log.records in
    founded.ahead (g.D.Disk.disk c.args.disk.now) (g.D.Disk.disk c.find_files.new.disk) c.in-Ok.found c.in-Ok.ensures.has c.in-Ok.ensures.found (g.D.Disk.disk c.see_ahead.new.disk) c.find_files.ensures.content
    (length (regions rs)) (suc (suc (generation rs))) refl refl c.in-Ok-see_ahead.ensures.next c.in-Ok-see_ahead.ensures.durable

pub returns-in-Err-see_ahead-clause-place : goal.returns-in-Err-see_ahead-clause-place
returns-in-Err-see_ahead-clause-place g c = λ file offset is.
    let rs = c.in-Ok.found.read.log.records in
    founded.begun_ahead (g.D.Disk.disk c.args.disk.now) (g.D.Disk.disk c.find_files.new.disk) c.in-Ok.found c.in-Ok.ensures.has c.in-Ok.ensures.found file offset c.find_files.ensures.content
    (length (regions rs)) (suc (suc (generation rs))) refl refl
    (c.in-Err-see_ahead.ensures.place file offset (files_was c.in-Err-see_ahead.error c.in_files.result file offset c.in_files.ensures is))

pub returns-in-Err-see_ahead-clause-outside : goal.returns-in-Err-see_ahead-clause-outside
returns-in-Err-see_ahead-clause-outside g c = λ file offset is.
    let rs = c.in-Ok.found.read.log.records in
    founded.none_begun (g.D.Disk.disk c.args.disk.now) (g.D.Disk.disk c.find_files.new.disk) c.in-Ok.found c.in-Ok.ensures.has c.in-Ok.ensures.found c.find_files.ensures.content
    (length (regions rs)) (suc (suc (generation rs))) refl refl
    (c.in-Err-see_ahead.ensures.outside file offset (files_was c.in-Err-see_ahead.error c.in_files.result file offset c.in_files.ensures is))
