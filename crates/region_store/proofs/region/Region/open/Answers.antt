use Rattle.std.proofs.Common.{refl, map}
use Rattle.std.proofs.lemmas.Result.{err_from_is_err_and}
use Rattle.gvn_key.specs.Terms.{update_value}
use Rattle.region_store.specs.declared.error.RegionError.TheVariants.{NotAFile}
use Rattle.region_store.proofs.Handed.{handed_on}
use Rattle.region_store.proofs.Openings.{open_holds, open_globals, read_outside, chain_outside}
use Rattle.region_store.proofs.region.Region.open.Goals as goal

pub returns-clause-holds : goal.returns-clause-holds
returns-clause-holds g c =
    open_holds (g.D.Disk.disk c.args.disk.now).content c.in_ok-undo.undo c.args.file c.args.blocks c.args.behind.now c.in_ok-undo.ensures c.in_ok-pool.pool
    (record { file = c.args.file; globals = c.in_ok-leaves.leaves.globals; pool = c.in_ok-leaves.leaves.pool; imaged = c.in_ok-imaged.imaged })
    (record { file = c.args.file; globals = c.apply_all.new.self.globals; pool = c.apply_all.new.self.pool; imaged = c.in_ok-imaged.imaged })
    c.in_ok-pool.ensures.laid c.in_ok-leaves.ensures.blocks c.in_ok-leaves.ensures.dirty c.in_ok-imaged.ensures c.apply_all.ensures.clean refl

pub returns-clause-globals : goal.returns-clause-globals
returns-clause-globals g c =
    open_globals (g.D.Disk.disk c.args.disk.now).content c.in_ok-undo.undo c.args.file c.args.blocks c.args.behind.now c.in_ok-undo.ensures c.in_ok-pool.pool c.in_ok-leaves.leaves.globals c.apply_all.new.self.globals
    (map update_value c.args.updates.now) c.in_ok-pool.ensures.laid c.in_ok-leaves.ensures.restores c.in_ok-leaves.ensures.keys c.in_ok-apply_all.ensures.ok

pub returns-in_err-pool-clause-outside : goal.returns-in_err-pool-clause-outside
returns-in_err-pool-clause-outside g c =
    let p = err_from_is_err_and c.from_residual-in_err-pool.result c.from_residual-in_err-pool.ensures.1 in
    rw (p.1, p.2) (λ f offset is.
    read_outside (g.D.Disk.disk c.args.disk.now).content c.in_ok-undo.undo c.args.file c.args.blocks c.args.behind.now c.in_ok-undo.ensures offset (c.in_err-pool.ensures.outside f offset (handed_on c.in_err-pool.field-0.0 (NotAFile f offset) is)))

pub returns-in_err-leaves-clause-outside : goal.returns-in_err-leaves-clause-outside
returns-in_err-leaves-clause-outside g c =
    let p = err_from_is_err_and c.from_residual-in_err-leaves.result c.from_residual-in_err-leaves.ensures.1 in
    rw (p.1, p.2) (λ f offset is.
    chain_outside (g.D.Disk.disk c.args.disk.now).content c.in_ok-undo.undo c.args.file c.args.blocks c.args.behind.now c.in_ok-undo.ensures offset c.in_ok-pool.pool c.in_ok-pool.ensures.laid
    (c.in_err-leaves.ensures.outside f offset (handed_on c.in_err-leaves.field-0.0 (NotAFile f offset) is)))

pub read_blocks-requires : goal.read_blocks-requires
read_blocks-requires g c = let undone = c.in_ok-undo.ensures 0 in undone.blocks
