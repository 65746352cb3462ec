use Rattle.std.proofs.Common.{◌≡◌, ℕ, ◌<◌, length, map, sym, ◌∙◌, ap, subst, arith, IfSome}
use Rattle.std.proofs.lemmas.Result.{err_from_is_err_and}
use Rattle.global_defs.specs.declared.limits.TheConstants.{NUMBERS_END}
use Rattle.disk_defs.specs.Disk.{Image}
use Rattle.disk_defs.proofs.Moments.{nothing_new, read_only}
use Rattle.disk_defs.proofs.Told.{told_at}
use Rattle.global_defs.specs.Entry.{Sequence}
use Rattle.journal_defs.specs.Broken.{broken, broken_text}
use Rattle.journal_defs.specs.Instance.{generation, regions, site_name}
use Rattle.journal_defs.specs.Sequence.{Records}
use Rattle.entry_index.specs.declared.index.EntryIndex.{EntryIndex}
use Rattle.entry_index.specs.Found.{AreFound, IsWhole, entry_count}
use Rattle.entry_index.proofs.AmongLaws.{whole_rows}
use Rattle.site_defs.specs.Contents.{Contents}
use Rattle.site_defs.specs.Outside.{IsOutsideSite}
use Rattle.site_defs.specs.Stands.{IsSite}
use Rattle.site_store.specs.Opening.{AreTextsDurable, AreDatabasesDurable}
use Rattle.site_store.proofs.Databases.{texts_still}
use Rattle.site_store.proofs.Errors.{file_was}
use Rattle.site_store.proofs.Refused.{no_site}
use Rattle.site_store.proofs.ReadFiles.{IsRead, never_read, found_of}
use Rattle.site_store.proofs.preparing.find_files.Goals as goal

pub returns-in_err-found-clause-outside : goal.returns-in_err-found-clause-outside
returns-in_err-found-clause-outside g c =
    let p = err_from_is_err_and c.from_residual.result c.from_residual.ensures.1 in
    rw (p.1, p.2) (λ file offset is.
    let there = file_was c.in_err-found.field-0.0 file offset is in
    no_site (g.D.Disk.disk c.args.disk.now).content (c.in_err-found.ensures.outside file offset there) (c.in_err-found.ensures.late file offset there))

-- what the files hold is what was read of them
pub returns-in_err-remembered-clause-place : goal.returns-in_err-remembered-clause-place
returns-in_err-remembered-clause-place g c =
    let view = g.D.Disk.disk in
    let u = view c.args.disk.now in
    let same : (view c.sync_databases.new.disk).content ≡ u.content = c.sync_databases.ensures.content ∙ c.sync_texts.ensures.content ∙ c.read_site.ensures.content in
    let p = err_from_is_err_and c.from_residual-in_err-remembered.result c.from_residual-in_err-remembered.ensures.1 in
    rw (p.1, p.2) (λ file offset is. never_read u.content (view c.sync_databases.new.disk).content (view c.read_site.new.disk) c.in_ok-found.found.read c.in_ok-found.found.entries (λ files. IsOutsideSite files file offset) same c.in_ok-found.ensures.read
    (c.in_err-remembered.ensures.outside file offset (file_was c.in_err-remembered.field-0.0 file offset is)))

pub returns-in_err-remembered-clause-outside : goal.returns-in_err-remembered-clause-outside
returns-in_err-remembered-clause-outside g c =
    let view = g.D.Disk.disk in
    let u = view c.args.disk.now in
    let same : (view c.sync_databases.new.disk).content ≡ u.content = c.sync_databases.ensures.content ∙ c.sync_texts.ensures.content ∙ c.read_site.ensures.content in
    let p = err_from_is_err_and c.from_residual-in_err-remembered.result c.from_residual-in_err-remembered.ensures.1 in
    rw (p.1, p.2) (λ file offset is. never_read u.content (view c.sync_databases.new.disk).content (view c.read_site.new.disk) c.in_ok-found.found.read c.in_ok-found.found.entries (λ files. (c : Contents) → IsSite files c → ⊥) same c.in_ok-found.ensures.read
    (c.in_err-remembered.ensures.outside file offset (file_was c.in_err-remembered.field-0.0 file offset is)))

pub returns-in_err-remembered-clause-any_moment : goal.returns-in_err-remembered-clause-any_moment
returns-in_err-remembered-clause-any_moment g c =
    let view = g.D.Disk.disk in
    let u = view c.args.disk.now in
    nothing_new u (view c.sync_databases.new.disk) (view c.remember_all.new.disk) (Image u) (g.met.D.Disk.lawful c.sync_databases.new.disk)
    (nothing_new u (view c.sync_texts.new.disk) (view c.sync_databases.new.disk) (Image u) (g.met.D.Disk.lawful c.sync_texts.new.disk)
    (nothing_new u (view c.read_site.new.disk) (view c.sync_texts.new.disk) (Image u) (g.met.D.Disk.lawful c.read_site.new.disk) c.read_site.ensures.any_moment c.sync_texts.ensures.any_moment) c.sync_databases.ensures.any_moment)
    (read_only (view c.sync_databases.new.disk) (view c.remember_all.new.disk) c.remember_all.ensures.reads)

pub returns-clause-any_moment : goal.returns-clause-any_moment
returns-clause-any_moment g c =
    let view = g.D.Disk.disk in
    let u = view c.args.disk.now in
    nothing_new u (view c.sync_databases.new.disk) (view c.remember_all.new.disk) (Image u) (g.met.D.Disk.lawful c.sync_databases.new.disk)
    (nothing_new u (view c.sync_texts.new.disk) (view c.sync_databases.new.disk) (Image u) (g.met.D.Disk.lawful c.sync_texts.new.disk)
    (nothing_new u (view c.read_site.new.disk) (view c.sync_texts.new.disk) (Image u) (g.met.D.Disk.lawful c.read_site.new.disk) c.read_site.ensures.any_moment c.sync_texts.ensures.any_moment) c.sync_databases.ensures.any_moment)
    (read_only (view c.sync_databases.new.disk) (view c.remember_all.new.disk) c.remember_all.ensures.reads)

pub returns-clause-has : goal.returns-clause-has
returns-clause-has g c =
    let read = c.in_ok-found.ensures in
    let made = c.in_ok-remembered.ensures in
    let form = read.form in
    let entries = c.in_ok-found.found.entries in
    record {
      form = read.form;
      counted = read.counted;
      low = read.low;
      directory = read.directory.2;
      signs = read.signs;
      each_place = ap (λ (i : EntryIndex). i.regions) made.entries ∙ read.rows.0;
      whole = subst IsWhole (sym made.entries) (whole_rows entries read.rows.1 (let some = form.some_region in let wide = read.rows.0 in omega (arith, wide, some)) read.rows.2);
      few = subst (λ (i : EntryIndex). entry_count i < NUMBERS_END) (sym made.entries) made.few;
    }

pub returns-clause-found : goal.returns-clause-found
returns-clause-found g c =
    let view = g.D.Disk.disk in
    let u = view c.args.disk.now in
    let v0 = view c.read_site.new.disk in
    let v1 = view c.sync_texts.new.disk in
    let v2 = view c.sync_databases.new.disk in
    let w = view c.remember_all.new.disk in
    let lawful1 = g.met.D.Disk.lawful c.sync_texts.new.disk in
    let lawful2 = g.met.D.Disk.lawful c.sync_databases.new.disk in
    let lawful3 = g.met.D.Disk.lawful c.remember_all.new.disk in
    let run3 = read_only v2 w c.remember_all.ensures.reads in
    let same1 : v0.content ≡ u.content = c.read_site.ensures.content in
    let same2 : v1.content ≡ u.content = c.sync_texts.ensures.content ∙ same1 in
    let same3 : v2.content ≡ u.content = c.sync_databases.ensures.content ∙ same2 in
    let read = c.in_ok-found.found.read in
    let rs = read.log.records in
    let dir = c.in_ok-found.ensures.directory in
    let made = c.in_ok-remembered.ensures in
    found_of u v0 v1 v2 w _ same3 lawful1 lawful2 lawful3 c.sync_texts.ensures.any_moment c.sync_databases.ensures.any_moment run3
    (subst (λ (i : EntryIndex). IfSome u.content (IsRead v0 read i)) (sym made.entries) c.in_ok-found.ensures.read)
    (subst (λ (i : EntryIndex). IfSome v2.content (λ files. (x : Records) (seq : Sequence) → AreFound files rs read.lowest (map (λ s. s.items) read.signs.items) i x seq → c.in_ok-remembered.remembered.broken ≡ broken_text (site_name x.instance) (length seq) (broken x (length seq)))) (sym made.entries) made.broken)
    (texts_still u.content v1 v2 (generation rs) lawful2 c.sync_databases.ensures.any_moment
    (told_at u.content v0.content (AreTextsDurable v1 (generation rs)) same1 (subst (λ (k : ℕ). IfSome v0.content (AreTextsDurable v1 k)) (c.generation.ensures) c.in_ok-sync_texts.ensures.durable)))
    (told_at u.content v1.content (AreDatabasesDurable v2 (length (regions rs))) same2
    (subst (λ (k : ℕ). IfSome v1.content (AreDatabasesDurable v2 k)) (c.from.ensures ∙ c.regions.ensures.count ∙ ap (λ d. d.regions) dir.2) c.in_ok-sync_databases.ensures.durable))
