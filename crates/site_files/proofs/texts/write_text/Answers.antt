use Rattle.std.proofs.Common.{rules, ◌≡◌, IfSome}
use Rattle.disk_defs.specs.Disk.{OnFile, ReadsAfter, IsDurable, written}
use Rattle.site_files.proofs.Writing.{write_moments, sync_moments, text_here}
use Rattle.site_files.proofs.texts.write_text.Goals as goal

pub returns-then-is_err-2-clause-any_moment : goal.returns-then-is_err-2-clause-any_moment
returns-then-is_err-2-clause-any_moment g c =
    let view = g.D.Disk.disk in
    write_moments c.args.text.now c.args.file (view c.args.disk.now) (view c.room.new.self) (view c.write_at.new.self) c.room.ensures.reads c.write_at.ensures.passes

pub returns-then-is_err-3-clause-any_moment : goal.returns-then-is_err-3-clause-any_moment
returns-then-is_err-3-clause-any_moment g c =
    let view = g.D.Disk.disk in
    sync_moments c.args.text.now c.args.file (view c.args.disk.now) (view c.room.new.self) (view c.write_at.new.self) (view c.sync.new.self) (g.met.D.Disk.lawful c.write_at.new.self) c.room.ensures.reads c.write_at.ensures.passes c.sync.ensures.passes

pub returns-clause-any_moment : goal.returns-clause-any_moment
returns-clause-any_moment g c =
    let view = g.D.Disk.disk in
    sync_moments c.args.text.now c.args.file (view c.args.disk.now) (view c.room.new.self) (view c.write_at.new.self) (view c.sync.new.self) (g.met.D.Disk.lawful c.write_at.new.self) c.room.ensures.reads c.write_at.ensures.passes c.sync.ensures.passes

pub returns-clause-durable : goal.returns-clause-durable
returns-clause-durable g c =
    let view = g.D.Disk.disk in
    let t = view c.room.new.self in
    let x = view c.write_at.new.self in
    let y = view c.sync.new.self in
    let file = c.args.file in
    let text = c.args.text.now in
    let wrote : ReadsAfter (OnFile file (λ old new. new ≡ written old 0 text)) t.content x.content = search rules in
    let kept : IfSome x.content (λ files. IsDurable y file (files file)) = search rules in
    text_here text file y (view c.args.disk.now).content t.content x.content c.room.ensures.reads.content wrote kept
