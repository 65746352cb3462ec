use Rattle.std.proofs.Common.{◌≡◌, ℕ, ◌+◌, ◌++◌, List, sym, ◌∙◌, ap, subst}
use Rattle.global_defs.specs.Entry.{Reign}
use Rattle.global_defs.specs.Extract.{header}
use Rattle.journal_defs.specs.Instance.{site_name}
use Rattle.mupip_recover.specs.Stamps.{AreStarts}
use Rattle.mupip_rollback.proofs.Errors.{site_was}
use Rattle.mupip_rollback.proofs.Lost as lost
use Rattle.mupip_rollback.proofs.preparing.extract_lost.Goals as goal

pub write_behind-requires-clause-starts : goal.write_behind-requires-clause-starts
write_behind-requires-clause-starts g c =
    let f = c.args.found.now in
    subst (AreStarts f.read.log.history) (sym c.deref.ensures.value) (subst (λ (rs : List Reign). AreStarts rs c.in_ok-starts.starts.items) c.as_slice.ensures c.in_ok-starts.ensures)

pub returns-in-Ok-clause-text : goal.returns-in-Ok-clause-text
returns-in-Ok-clause-text g c =
    let f = c.args.found.now in
    let t = c.args.target in
    let name = c.name-name.result.now in
    let name_is : name ≡ site_name f.read.log.records = c.name-name.ensures in
    let first : c.write_header.new.out ≡ header name (t + 1) = c.in_ok-write_header.ensures.ok ∙ ap (λ (x : List ℕ). x ++ header name (t + 1)) c.new-text.ensures in
    lost.is_extract f t c.write_header.new.out (g.D.Disk.disk c.args.disk.now).content name c.write_behind.new.out name_is first c.in-Ok.ensures.text

pub returns-in-Err-clause-outside : goal.returns-in-Err-clause-outside
returns-in-Err-clause-outside g c = λ file offset is. c.in-Err.ensures.outside file offset (site_was c.in-Err.error c.in_site.result file offset c.in_site.ensures is)
