use Rattle.std.proofs.Common.{◌≡◌, ◌∙◌, length, get_or, refl, sym, ap, arith}
use Rattle.disk_defs.proofs.Told.{told_at}
use Rattle.disk_defs.proofs.Frames.{reads_more}
use Rattle.block_pool.specs.Pool.{numbers_from}
use Rattle.region_store.specs.Region.{Standing, IsHeld}
use Rattle.region_store.proofs.Logs.{logged_first, next_dirty, logged_one, logged_more, logged_all_of, logged_front, reads_none, on_err}
use Rattle.region_store.proofs.region.Region.log_changed.Goals as goal

pub loop-number-init : goal.loop-number-init
loop-number-init g c = record {
  logged = logged_first (g.D.Disk.disk c.args.disk.now).content c.args.self.now c.dirty_numbers-numbers.result.now (g.L.Log.images c.args.log.now)
      (c.dirty_numbers-numbers.ensures.numbers ∙ ap (numbers_from 0) (c.pool.ensures.dirty ∙ ap (λ (x : Standing). x.pool.dirty) c.self.view_is));
  reads = reads_none (g.D.Disk.disk c.args.disk.now);
  faults = omega arith;
}

pub log_image-requires : goal.log_image-requires
log_image-requires g c =
    let view = g.D.Disk.disk in
    record { held = told_at (view c.loop-number.disk).content (view c.args.disk.now).content (IsHeld c.args.self.now) (sym c.loop-number.invariant.reads.content) c.requires.held }

pub returns-in_err-log_image-clause-front : goal.returns-in_err-log_image-clause-front
returns-in_err-log_image-clause-front g c =
    let l = c.loop-number in
    on_err _ (logged_front (g.D.Disk.disk c.args.disk.now).content c.args.self.now c.dirty_numbers-numbers.result.now l.number-index (g.L.Log.images c.args.log.now) (g.L.Log.images l.log) (g.L.Log.images c.log_image.new.log)
    c.in_err-log_image.ensures.none l.invariant.logged)

pub loop-number-preserved : goal.loop-number-preserved
loop-number-preserved g c =
    let view = g.D.Disk.disk in
    let l = c.loop-number in
    let s = c.args.self.now in
    let numbers = c.dirty_numbers-numbers.result.now in
    let x = get_or numbers l.number-index 0 in
    let first = g.L.Log.images c.args.log.now in
    let old = g.L.Log.images l.log in
    let new = g.L.Log.images c.log_image.new.log in
    let dirty = next_dirty (view c.args.disk.now).content s numbers l.number-index x first old c.loop-number-test.true refl l.invariant.logged in
    record {
      logged = logged_more (view c.args.disk.now).content (view l.disk).content s numbers l.number-index x first old new
          c.loop-number-test.true refl l.invariant.reads.content (logged_one (view l.disk).content s x old new dirty c.in_ok-log_image.ensures.logged) l.invariant.logged;
      reads = reads_more (view c.args.disk.now) (view l.disk) (view c.log_image.new.disk) (g.met.D.Disk.lawful c.args.disk.now) l.invariant.reads c.log_image.ensures.reads;
      faults = omega (arith, l.invariant.faults, c.log_image.ensures.faults.later);
    }

pub returns-clause-logged : goal.returns-clause-logged
returns-clause-logged g c =
    let s = c.args.self.now in
    let l = c.loop-number in
    let many : length s.pool.dirty ≡ length s.pool.leaves =
    sym (ap length c.pool.ensures.dirty ∙ ap (λ (x : Standing). length x.pool.dirty) c.self.view_is) ∙ c.dirty_numbers-numbers.ensures.marks
    ∙ (ap length c.pool.ensures.blocks ∙ ap (λ (x : Standing). length x.pool.leaves) c.self.view_is) in
    let end = c.loop-number-test.false in
    logged_all_of (g.D.Disk.disk c.args.disk.now).content s c.dirty_numbers-numbers.result.now l.number-index (g.L.Log.images c.args.log.now) (g.L.Log.images l.log) (omega (arith, end)) many l.invariant.logged
