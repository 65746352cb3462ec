use Rattle.std.proofs.Common.{◌≡◌, ◌∙◌, inl, inr, ℕ, length, sym, ap, subst}
use Rattle.std.specs.Prelude.{Option, IfSome}
use Rattle.disk_defs.specs.Disk.{Files, Image, From, OnFile, AtEachMoment, ReadsAfter, IsDurable}
use Rattle.disk_defs.specs.Frames.{Only, OthersStay}
use Rattle.disk_defs.proofs.Told.{told_at}
use Rattle.disk_defs.proofs.Moments.{nothing_new}
use Rattle.disk_defs.proofs.Frames.{others_then}
use Rattle.journal_defs.specs.Journal as journal
use Rattle.journal_defs.specs.Leaves.{Decodes}
use Rattle.block_pool.specs.Pool.{AllStand, ChangesDirty}
use Rattle.gvt_leaf.specs.Stored.{Stored, blocks_in}
use Rattle.region_store.specs.Region.{Standing, AreLogged, IsHeld, IsCutShort, flushed}
use Rattle.region_store.proofs.Marking.{standing}
use Rattle.region_store.proofs.Logs.{clean_asked, on_err}
use Rattle.region_store.proofs.Flushes.{is_flushed, clean_logged, cut_reads, cut_moments, still_holds, flushed_holds, restored}
use Rattle.region_store.proofs.region.Region.flush.Goals as goal

-- the requires of writing
pub write_changed-requires : goal.write_changed-requires
write_changed-requires g c =
    let i = c.self.inside in
    let o = (g.D.Disk.disk c.args.disk.now).content in
    record { clean = clean_asked o (standing i.file i.leaves i.imaged) (subst (λ (x : Standing). IfSome o (IsHeld x)) (sym c.self.view_is) c.requires.held) }

-- ---- the blocks weren't all written

pub returns-in_err-write_changed-clause-err : goal.returns-in_err-write_changed-clause-err
returns-in_err-write_changed-clause-err g c =
    let s = c.args.self.now in
    let i = c.self.inside in
    let is : standing i.file c.write_changed.new.leaves i.imaged ≡ s = ap (λ (x : Stored). standing i.file x i.imaged) c.in_err-write_changed.ensures.err ∙ c.self.view_is in
    on_err _ (inl is)

pub returns-in_err-write_changed-clause-logged : goal.returns-in_err-write_changed-clause-logged
returns-in_err-write_changed-clause-logged g c =
    let s = c.args.self.now in
    let i = c.self.inside in
    let is : standing i.file c.write_changed.new.leaves i.imaged ≡ s = ap (λ (x : Stored). standing i.file x i.imaged) c.in_err-write_changed.ensures.err ∙ c.self.view_is in
    subst AreLogged (sym is) c.requires.logged

pub returns-in_err-write_changed-clause-holds : goal.returns-in_err-write_changed-clause-holds
returns-in_err-write_changed-clause-holds g c e held =
    let s = c.args.self.now in
    let i = c.self.inside in
    let u = g.D.Disk.disk c.args.disk.now in
    let v = g.D.Disk.disk c.write_changed.new.disk in
    let is : standing i.file c.write_changed.new.leaves i.imaged ≡ s = ap (λ (x : Stored). standing i.file x i.imaged) c.in_err-write_changed.ensures.err ∙ c.self.view_is in
    let reads : ReadsAfter (OnFile s.file (ChangesDirty s.pool)) u.content v.content = subst (λ (x : Standing). ReadsAfter (OnFile x.file (ChangesDirty x.pool)) u.content v.content) c.self.view_is c.write_changed.ensures.content in
    still_holds u.content v.content s (standing i.file c.write_changed.new.leaves i.imaged) e is c.requires.logged reads held

pub returns-in_err-write_changed-clause-content : goal.returns-in_err-write_changed-clause-content
returns-in_err-write_changed-clause-content g c =
    let s = c.args.self.now in
    let i = c.self.inside in
    let u = g.D.Disk.disk c.args.disk.now in
    let v = g.D.Disk.disk c.write_changed.new.disk in
    let reads : ReadsAfter (OnFile s.file (ChangesDirty s.pool)) u.content v.content = subst (λ (x : Standing). ReadsAfter (OnFile x.file (ChangesDirty x.pool)) u.content v.content) c.self.view_is c.write_changed.ensures.content in
    cut_reads u.content v.content s c.requires.logged reads

pub returns-in_err-write_changed-clause-any_moment : goal.returns-in_err-write_changed-clause-any_moment
returns-in_err-write_changed-clause-any_moment g c =
    let s = c.args.self.now in
    let i = c.self.inside in
    let u = g.D.Disk.disk c.args.disk.now in
    let v = g.D.Disk.disk c.write_changed.new.disk in
    let run : AtEachMoment u v (From (Image u) (OnFile s.file (ChangesDirty s.pool))) = subst (λ (x : Standing). AtEachMoment u v (From (Image u) (OnFile x.file (ChangesDirty x.pool)))) c.self.view_is c.write_changed.ensures.any_moment in
    cut_moments u v s c.requires.logged run

pub returns-in_err-write_changed-clause-frame : goal.returns-in_err-write_changed-clause-frame
returns-in_err-write_changed-clause-frame g c =
    let s = c.args.self.now in
    let i = c.self.inside in
    let u = g.D.Disk.disk c.args.disk.now in
    let v = g.D.Disk.disk c.write_changed.new.disk in
    subst (λ (x : Standing). OthersStay (Only x.file) u v) c.self.view_is c.write_changed.ensures.frame

-- ---- they were, and not synced

pub returns-in_err-sync_file-clause-err : goal.returns-in_err-sync_file-clause-err
returns-in_err-sync_file-clause-err g c =
    let s = c.args.self.now in
    let i = c.self.inside in
    let is : standing i.file c.write_changed.new.leaves i.imaged ≡ flushed s = ap (λ (x : Stored). standing i.file x i.imaged) c.in_ok-write_changed.ensures.ok ∙ ap flushed c.self.view_is in
    on_err _ (inr is)

pub returns-in_err-sync_file-clause-logged : goal.returns-in_err-sync_file-clause-logged
returns-in_err-sync_file-clause-logged g c =
    let s = c.args.self.now in
    let i = c.self.inside in
    let is : standing i.file c.write_changed.new.leaves i.imaged ≡ flushed s = ap (λ (x : Stored). standing i.file x i.imaged) c.in_ok-write_changed.ensures.ok ∙ ap flushed c.self.view_is in
    subst AreLogged (sym is) (clean_logged (flushed s) (is_flushed s))

pub returns-in_err-sync_file-clause-holds : goal.returns-in_err-sync_file-clause-holds
returns-in_err-sync_file-clause-holds g c e held =
    let s = c.args.self.now in
    let i = c.self.inside in
    let u = g.D.Disk.disk c.args.disk.now in
    let v = g.D.Disk.disk c.write_changed.new.disk in
    let w = g.D.Disk.disk c.sync_file.new.disk in
    let is : standing i.file c.write_changed.new.leaves i.imaged ≡ flushed s = ap (λ (x : Stored). standing i.file x i.imaged) c.in_ok-write_changed.ensures.ok ∙ ap flushed c.self.view_is in
    let reads : ReadsAfter (OnFile s.file (ChangesDirty s.pool)) u.content v.content = subst (λ (x : Standing). ReadsAfter (OnFile x.file (ChangesDirty x.pool)) u.content v.content) c.self.view_is c.write_changed.ensures.content in
    let stand : IfSome v.content (λ files. AllStand s.pool (files s.file)) = subst (λ (x : Standing). IfSome v.content (λ files. AllStand x.pool (files x.file))) c.self.view_is c.in_ok-write_changed.ensures.written in
    flushed_holds u.content v.content w.content s (standing i.file c.write_changed.new.leaves i.imaged) e is c.sync_file.ensures.content c.requires.logged reads stand held

pub returns-in_err-sync_file-clause-content : goal.returns-in_err-sync_file-clause-content
returns-in_err-sync_file-clause-content g c =
    let s = c.args.self.now in
    let i = c.self.inside in
    let u = g.D.Disk.disk c.args.disk.now in
    let v = g.D.Disk.disk c.write_changed.new.disk in
    let w = g.D.Disk.disk c.sync_file.new.disk in
    let reads : ReadsAfter (OnFile s.file (ChangesDirty s.pool)) u.content v.content = subst (λ (x : Standing). ReadsAfter (OnFile x.file (ChangesDirty x.pool)) u.content v.content) c.self.view_is c.write_changed.ensures.content in
    subst (λ (x : Option Files). ReadsAfter (OnFile s.file (IsCutShort s)) u.content x) (sym c.sync_file.ensures.content) (cut_reads u.content v.content s c.requires.logged reads)

pub returns-in_err-sync_file-clause-any_moment : goal.returns-in_err-sync_file-clause-any_moment
returns-in_err-sync_file-clause-any_moment g c =
    let s = c.args.self.now in
    let i = c.self.inside in
    let u = g.D.Disk.disk c.args.disk.now in
    let v = g.D.Disk.disk c.write_changed.new.disk in
    let w = g.D.Disk.disk c.sync_file.new.disk in
    let run : AtEachMoment u v (From (Image u) (OnFile s.file (ChangesDirty s.pool))) = subst (λ (x : Standing). AtEachMoment u v (From (Image u) (OnFile x.file (ChangesDirty x.pool)))) c.self.view_is c.write_changed.ensures.any_moment in
    nothing_new u v w (From (Image u) (OnFile s.file (IsCutShort s))) (g.met.D.Disk.lawful c.write_changed.new.disk) (cut_moments u v s c.requires.logged run) c.sync_file.ensures.any_moment

pub returns-in_err-sync_file-clause-frame : goal.returns-in_err-sync_file-clause-frame
returns-in_err-sync_file-clause-frame g c =
    let s = c.args.self.now in
    let i = c.self.inside in
    let u = g.D.Disk.disk c.args.disk.now in
    let v = g.D.Disk.disk c.write_changed.new.disk in
    let w = g.D.Disk.disk c.sync_file.new.disk in
    let first : OthersStay (Only s.file) u v = subst (λ (x : Standing). OthersStay (Only x.file) u v) c.self.view_is c.write_changed.ensures.frame in
    let second : OthersStay (Only s.file) v w = subst (λ (x : Standing). OthersStay (Only x.file) v w) c.self.view_is c.sync_file.ensures.frame in
    others_then (Only s.file) u v w first second

-- ---- they are on the disk for good

pub returns-clause-ok : goal.returns-clause-ok
returns-clause-ok g c =
    let s = c.args.self.now in
    let i = c.self.inside in
    let is : standing i.file c.write_changed.new.leaves i.imaged ≡ flushed s = ap (λ (x : Stored). standing i.file x i.imaged) c.in_ok-write_changed.ensures.ok ∙ ap flushed c.self.view_is in
    is

pub returns-clause-logged : goal.returns-clause-logged
returns-clause-logged g c =
    let s = c.args.self.now in
    let i = c.self.inside in
    let is : standing i.file c.write_changed.new.leaves i.imaged ≡ flushed s = ap (λ (x : Stored). standing i.file x i.imaged) c.in_ok-write_changed.ensures.ok ∙ ap flushed c.self.view_is in
    subst AreLogged (sym is) (clean_logged (flushed s) (is_flushed s))

pub returns-clause-holds : goal.returns-clause-holds
returns-clause-holds g c e held =
    let s = c.args.self.now in
    let i = c.self.inside in
    let u = g.D.Disk.disk c.args.disk.now in
    let v = g.D.Disk.disk c.write_changed.new.disk in
    let w = g.D.Disk.disk c.sync_file.new.disk in
    let is : standing i.file c.write_changed.new.leaves i.imaged ≡ flushed s = ap (λ (x : Stored). standing i.file x i.imaged) c.in_ok-write_changed.ensures.ok ∙ ap flushed c.self.view_is in
    let reads : ReadsAfter (OnFile s.file (ChangesDirty s.pool)) u.content v.content = subst (λ (x : Standing). ReadsAfter (OnFile x.file (ChangesDirty x.pool)) u.content v.content) c.self.view_is c.write_changed.ensures.content in
    let stand : IfSome v.content (λ files. AllStand s.pool (files s.file)) = subst (λ (x : Standing). IfSome v.content (λ files. AllStand x.pool (files x.file))) c.self.view_is c.in_ok-write_changed.ensures.written in
    flushed_holds u.content v.content w.content s (standing i.file c.write_changed.new.leaves i.imaged) e is c.sync_file.ensures.content c.requires.logged reads stand held

pub returns-clause-content : goal.returns-clause-content
returns-clause-content g c =
    let s = c.args.self.now in
    let i = c.self.inside in
    let u = g.D.Disk.disk c.args.disk.now in
    let v = g.D.Disk.disk c.write_changed.new.disk in
    let w = g.D.Disk.disk c.sync_file.new.disk in
    let reads : ReadsAfter (OnFile s.file (ChangesDirty s.pool)) u.content v.content = subst (λ (x : Standing). ReadsAfter (OnFile x.file (ChangesDirty x.pool)) u.content v.content) c.self.view_is c.write_changed.ensures.content in
    subst (λ (x : Option Files). ReadsAfter (OnFile s.file (IsCutShort s)) u.content x) (sym c.sync_file.ensures.content) (cut_reads u.content v.content s c.requires.logged reads)

pub returns-clause-any_moment : goal.returns-clause-any_moment
returns-clause-any_moment g c =
    let s = c.args.self.now in
    let i = c.self.inside in
    let u = g.D.Disk.disk c.args.disk.now in
    let v = g.D.Disk.disk c.write_changed.new.disk in
    let w = g.D.Disk.disk c.sync_file.new.disk in
    let run : AtEachMoment u v (From (Image u) (OnFile s.file (ChangesDirty s.pool))) = subst (λ (x : Standing). AtEachMoment u v (From (Image u) (OnFile x.file (ChangesDirty x.pool)))) c.self.view_is c.write_changed.ensures.any_moment in
    nothing_new u v w (From (Image u) (OnFile s.file (IsCutShort s))) (g.met.D.Disk.lawful c.write_changed.new.disk) (cut_moments u v s c.requires.logged run) c.sync_file.ensures.any_moment

pub returns-clause-frame : goal.returns-clause-frame
returns-clause-frame g c =
    let s = c.args.self.now in
    let i = c.self.inside in
    let u = g.D.Disk.disk c.args.disk.now in
    let v = g.D.Disk.disk c.write_changed.new.disk in
    let w = g.D.Disk.disk c.sync_file.new.disk in
    let first : OthersStay (Only s.file) u v = subst (λ (x : Standing). OthersStay (Only x.file) u v) c.self.view_is c.write_changed.ensures.frame in
    let second : OthersStay (Only s.file) v w = subst (λ (x : Standing). OthersStay (Only x.file) v w) c.self.view_is c.sync_file.ensures.frame in
    others_then (Only s.file) u v w first second

pub returns-clause-epoch : goal.returns-clause-epoch
returns-clause-epoch g c =
    let s = c.args.self.now in
    let i = c.self.inside in
    let is : standing i.file c.write_changed.new.leaves i.imaged ≡ flushed s = ap (λ (x : Stored). standing i.file x i.imaged) c.in_ok-write_changed.ensures.ok ∙ ap flushed c.self.view_is in
    ap (λ (n : ℕ). journal.Epoch (record { closing = c.args.closing; number = c.args.number; blocks = n })) (c.blocks-2.ensures.count ∙ ap (λ (x : Standing). length x.pool.leaves) is)

pub returns-clause-restores : goal.returns-clause-restores
returns-clause-restores g c =
    let s = c.args.self.now in
    let i = c.self.inside in
    let v = g.D.Disk.disk c.write_changed.new.disk in
    let w = g.D.Disk.disk c.sync_file.new.disk in
    let is : standing i.file c.write_changed.new.leaves i.imaged ≡ flushed s = ap (λ (x : Stored). standing i.file x i.imaged) c.in_ok-write_changed.ensures.ok ∙ ap flushed c.self.view_is in
    let stand : IfSome v.content (λ files. AllStand s.pool (files s.file)) = subst (λ (x : Standing). IfSome v.content (λ files. AllStand x.pool (files x.file))) c.self.view_is c.in_ok-write_changed.ensures.written in
    let decodes : Decodes (blocks_in s.pool.leaves) s.globals = subst (λ (x : Standing). Decodes (blocks_in x.pool.leaves) x.globals) is c.blocks-2.ensures.decodes in
    restored w.content s (told_at w.content v.content (λ files. AllStand s.pool (files s.file)) (sym c.sync_file.ensures.content) stand) decodes

pub returns-clause-durable : goal.returns-clause-durable
returns-clause-durable g c =
    let s = c.args.self.now in
    let i = c.self.inside in
    let v = g.D.Disk.disk c.write_changed.new.disk in
    let w = g.D.Disk.disk c.sync_file.new.disk in
    let durable : IfSome v.content (λ files. IsDurable w s.file (files s.file)) = subst (λ (x : Standing). IfSome v.content (λ files. IsDurable w x.file (files x.file))) c.self.view_is c.in_ok-sync_file.ensures.durable in
    told_at w.content v.content (λ files. IsDurable w s.file (files s.file)) (sym c.sync_file.ensures.content) durable
