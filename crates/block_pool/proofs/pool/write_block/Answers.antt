use Rattle.std.proofs.Common.{◌≡◌, ℕ, ◌*◌, length, sym, subst, ◌∙◌}
use Rattle.disk_defs.specs.Disk.{OnFile, ReadsAfter, Torn, Passes, RoomUsed}
use Rattle.block_pool.proofs.pool.write_block.Goals as goal

pub write_at-requires-clause-room : goal.write_at-requires-clause-room
write_at-requires-clause-room g c =
    let size : length c.encode.new.out ≡ 4096 = c.encode.auto.out ∙ c.requires.buffer in
    subst (λ (k : ℕ). (g.D.Disk.disk c.args.disk.now).has_room c.args.file 1 k) (sym size) c.requires.room

pub returns-clause-content : goal.returns-clause-content
returns-clause-content g c =
    let size : length c.encode.new.out ≡ 4096 = c.encode.auto.out ∙ c.requires.buffer in
    subst (λ (k : ℕ). ReadsAfter (OnFile c.args.file (Torn (4096 * c.args.number) k)) (g.D.Disk.disk c.args.disk.now).content (g.D.Disk.disk c.write_at.new.self).content) size c.write_at.ensures.content

pub returns-clause-passes : goal.returns-clause-passes
returns-clause-passes g c =
    let size : length c.encode.new.out ≡ 4096 = c.encode.auto.out ∙ c.requires.buffer in
    subst (λ (k : ℕ). Passes (OnFile c.args.file (Torn (4096 * c.args.number) k)) (g.D.Disk.disk c.args.disk.now) (g.D.Disk.disk c.write_at.new.self)) size c.write_at.ensures.passes

pub returns-clause-room : goal.returns-clause-room
returns-clause-room g c =
    let size : length c.encode.new.out ≡ 4096 = c.encode.auto.out ∙ c.requires.buffer in
    subst (λ (k : ℕ). RoomUsed c.args.file k (g.D.Disk.disk c.args.disk.now) (g.D.Disk.disk c.write_at.new.self)) size c.write_at.ensures.room
