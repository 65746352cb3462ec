use Rattle.std.proofs.Common.{◌≡◌, inr, ◌+◌, ◌∙◌, false, min, refl, sym, subst, arith}
use Rattle.std.proofs.lemmas.Result.{err_from_is_err_and}
use Rattle.disk_defs.proofs.Frames.{reads_more}
use Rattle.disk_defs.proofs.Told.{weaker_told, told_at}
use Rattle.entry_index.specs.declared.index.EntryIndex.{EntryIndex}
use Rattle.journal_defs.specs.Fit.{IsSoundImage}
use Rattle.journal_defs.specs.Instance.{generation}
use Rattle.journal_laws.proofs.Drawing as drawing
use Rattle.site_defs.specs.Contents.{Contents}
use Rattle.site_defs.specs.OutsideBlocks.{IsOutsideRollback, HaveOutsideBlocks}
use Rattle.site_defs.specs.Stands.{IsSite}
use Rattle.site_store.specs.Standing.{IfFound}
use Rattle.site_store.proofs.Founded.{none_there, no_site_there, open_moved}
use Rattle.mupip_rollback.specs.Preparing.{AreFirst}
use Rattle.mupip_rollback.specs.declared.error.RollError.TheVariants as error
use Rattle.mupip_rollback.proofs.Errors.{handed_on, site_was}
use Rattle.mupip_rollback.proofs.Firsts.{first_count}
use Rattle.mupip_rollback.proofs.Prepared.{prepared}
use Rattle.mupip_rollback.proofs.preparing.open_first.Goals as goal

pub returns-in_err-check_images-clause-first : goal.returns-in_err-check_images-clause-first
returns-in_err-check_images-clause-first g c =
    let p = err_from_is_err_and c.from_residual.result c.from_residual.ensures.1 in
    rw (p.1, p.2) (λ region generation is. c.in_err-check_images.ensures.first region generation (handed_on c.in_err-check_images.field-0.0 (error.NoBeforeImage region generation) is))

pub returns-in_err-lost-clause-place : goal.returns-in_err-lost-clause-place
returns-in_err-lost-clause-place g c =
    let p = err_from_is_err_and c.from_residual-in_err-lost.result c.from_residual-in_err-lost.ensures.1 in
    rw (p.1, p.2) (λ file offset is to target_is.
    weaker_told (g.D.Disk.disk c.args.disk.now).content (IfFound c.args.found (λ u seq files. ⊥)) (IfFound c.args.found (λ u seq files. IsOutsideRollback to files file offset))
    (c.in_err-lost.ensures.outside file offset (handed_on c.in_err-lost.field-0.0 (error.NotAFile file offset) is)) (λ files never u seq found. absurd (never u seq found)))

pub returns-in_err-lost-clause-outside : goal.returns-in_err-lost-clause-outside
returns-in_err-lost-clause-outside g c =
    let v = g.D.Disk.disk c.args.disk.now in
    let p = err_from_is_err_and c.from_residual-in_err-lost.result c.from_residual-in_err-lost.ensures.1 in
    rw (p.1, p.2) (λ file offset is was.
    none_there v v c.args.found (λ files. (x : Contents) → IsSite files x → ⊥) was refl (c.in_err-lost.ensures.outside file offset (handed_on c.in_err-lost.field-0.0 (error.NotAFile file offset) is)))

pub keep_first-requires : goal.keep_first-requires
keep_first-requires g c =
    let rs = c.args.found.read.log.records in
    let newest : c.in-Ok.standing.layout.generation ≡ generation rs + 1 = (c.in-Ok.ensures.found_as.layout 0).generation ∙ drawing.generation-cut rs 0 (generation rs + 1) (omega arith) in
    let low = c.requires.has.low in
    record { low = omega (arith, newest, low) }

pub returns-in-Ok-clause-kept : goal.returns-in-Ok-clause-kept
returns-in-Ok-clause-kept g c =
    let f = c.args.found in
    let wide = c.requires.has.each_place in
    let some = c.requires.has.form.some_region in
    first_count c.args.target f.entries c.keep_first.result.kept.entries (subst (λ (i : EntryIndex). AreFirst c.args.target i c.keep_first.result.kept.entries) c.in-Ok.ensures.found_as.entries c.keep_first.ensures.kept.entries)
    (omega (arith, wide, some)) c.requires.has.whole c.requires.target

pub returns-in-Ok-clause-prepared : goal.returns-in-Ok-clause-prepared
returns-in-Ok-clause-prepared g c =
    let v = g.D.Disk.disk c.args.disk.now in
    let m = g.D.Disk.disk c.extract_lost.new.disk in
    let w = g.D.Disk.disk c.stand.new.disk in
    let f = c.args.found in
    let first = c.extract_lost.ensures.reads in
    prepared v w f c.args.target c.in-Ok.standing c.keep_first.result c.in_ok-lost.lost (g.met.D.Disk.lawful c.stand.new.disk) (reads_more v m w (g.met.D.Disk.lawful c.args.disk.now) first c.stand.ensures.reads) c.requires.has c.requires.target c.in-Ok.ensures.found_as
    (open_moved false v m w f c.args.target c.in-Ok.standing.globals first.content c.in-Ok.ensures.opened) c.keep_first.ensures.log c.keep_first.ensures.length c.keep_first.ensures.broken c.keep_first.ensures.lost c.in_ok-lost.ensures.text c.keep_first.ensures.kept

pub returns-in-Ok-clause-reads : goal.returns-in-Ok-clause-reads
returns-in-Ok-clause-reads g c =
    reads_more (g.D.Disk.disk c.args.disk.now) (g.D.Disk.disk c.extract_lost.new.disk) (g.D.Disk.disk c.stand.new.disk) (g.met.D.Disk.lawful c.args.disk.now) c.extract_lost.ensures.reads c.stand.ensures.reads

pub returns-in-Err-clause-place : goal.returns-in-Err-clause-place
returns-in-Err-clause-place g c = λ file offset is to target_is.
    let v = g.D.Disk.disk c.args.disk.now in
    let m = g.D.Disk.disk c.extract_lost.new.disk in
    let f = c.args.found in
    weaker_told v.content (IfFound f (λ u seq files. HaveOutsideBlocks (min to) files file offset)) (IfFound f (λ u seq files. IsOutsideRollback to files file offset))
    (told_at v.content m.content (IfFound f (λ u seq files. HaveOutsideBlocks (min to) files file offset)) c.extract_lost.ensures.reads.content
    (c.in-Err.ensures.place file offset (site_was c.in-Err.error c.in_site.result file offset c.in_site.ensures is) (min to) (sym target_is)))
    (λ files out u seq found. inr (inr (out u seq found)))

pub returns-in-Err-clause-outside : goal.returns-in-Err-clause-outside
returns-in-Err-clause-outside g c = λ file offset is was.
    let v = g.D.Disk.disk c.args.disk.now in
    let m = g.D.Disk.disk c.extract_lost.new.disk in
    no_site_there v v c.args.found c.requires.has was refl file offset (told_at v.content m.content (IfFound c.args.found (λ u seq files. IsSoundImage files u seq → ⊥)) c.extract_lost.ensures.reads.content
    (c.in-Err.ensures.unsound file offset (site_was c.in-Err.error c.in_site.result file offset c.in_site.ensures is)))

pub returns-in-Err-clause-reads : goal.returns-in-Err-clause-reads
returns-in-Err-clause-reads g c =
    reads_more (g.D.Disk.disk c.args.disk.now) (g.D.Disk.disk c.extract_lost.new.disk) (g.D.Disk.disk c.stand.new.disk) (g.met.D.Disk.lawful c.args.disk.now) c.extract_lost.ensures.reads c.stand.ensures.reads
