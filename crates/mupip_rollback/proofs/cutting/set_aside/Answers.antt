use Rattle.std.proofs.Common.{◌≡◌, suc, ◌+◌, arith}
use Rattle.disk_defs.specs.Frames.{Only}
use Rattle.journal_defs.specs.Instance.{generation}
use Rattle.journal_defs.specs.Numbers.{lost_file}
use Rattle.site_files.proofs.Frames.{ready_stays}
use Rattle.mupip_rollback.proofs.Aside as aside
use Rattle.mupip_rollback.proofs.cutting.set_aside.Goals as goal

pub returns-in-Err-clause-any_moment : goal.returns-in-Err-clause-any_moment
returns-in-Err-clause-any_moment g c = aside.cut_moments c.args.log.records c.args.count c.args.broken.now c.args.lost.now (g.D.Disk.disk c.args.disk.now) (g.D.Disk.disk c.cut_off.new.disk) c.cut_off.ensures.any_moment

pub returns-in-Ok-write_lost-clause-ready : goal.returns-in-Ok-write_lost-clause-ready
returns-in-Ok-write_lost-clause-ready g c =
    ready_stays (g.D.Disk.disk c.cut_off.new.disk) (g.D.Disk.disk c.write_lost.new.disk) (Only (lost_file (c.generation-next.result + 1))) c.in-Ok.instance c.write_lost.ensures.frame (λ e. omega (arith, e)) c.in-Ok.ensures.ready

pub returns-in-Ok-write_lost-clause-done : goal.returns-in-Ok-write_lost-clause-done
returns-in-Ok-write_lost-clause-done g c =
    let u = g.D.Disk.disk c.args.disk.now in
    let m = g.D.Disk.disk c.cut_off.new.disk in
    let w = g.D.Disk.disk c.write_lost.new.disk in
    let rs = c.args.log.records in
    let newest : c.generation-next.result ≡ generation rs = c.generation-next.ensures in
    let k_is : c.generation-next.result + 1 ≡ suc (generation rs) = omega (arith, newest) in
    aside.aside_done rs c.args.count c.args.broken.now c.args.lost.now u m w (c.generation-next.result + 1) k_is c.in-Ok.ensures.drawn c.write_lost.ensures.any_moment (g.met.D.Disk.lawful c.write_lost.new.disk)
    c.cut_off.ensures.frame.content c.in-Ok-write_lost.ensures.durable

pub returns-in-Ok-write_lost-clause-any_moment : goal.returns-in-Ok-write_lost-clause-any_moment
returns-in-Ok-write_lost-clause-any_moment g c =
    let rs = c.args.log.records in
    let newest : c.generation-next.result ≡ generation rs = c.generation-next.ensures in
    let k_is : c.generation-next.result + 1 ≡ suc (generation rs) = omega (arith, newest) in
    aside.aside_moments rs c.args.count c.args.broken.now c.args.lost.now (g.D.Disk.disk c.args.disk.now) (g.D.Disk.disk c.cut_off.new.disk) (g.D.Disk.disk c.write_lost.new.disk) (c.generation-next.result + 1) k_is c.in-Ok.ensures.drawn c.write_lost.ensures.any_moment c.cut_off.ensures.any_moment

pub returns-in-Err-write_lost-clause-any_moment : goal.returns-in-Err-write_lost-clause-any_moment
returns-in-Err-write_lost-clause-any_moment g c =
    let rs = c.args.log.records in
    let newest : c.generation-next.result ≡ generation rs = c.generation-next.ensures in
    let k_is : c.generation-next.result + 1 ≡ suc (generation rs) = omega (arith, newest) in
    aside.aside_moments rs c.args.count c.args.broken.now c.args.lost.now (g.D.Disk.disk c.args.disk.now) (g.D.Disk.disk c.cut_off.new.disk) (g.D.Disk.disk c.write_lost.new.disk) (c.generation-next.result + 1) k_is c.in-Ok.ensures.drawn c.write_lost.ensures.any_moment c.cut_off.ensures.any_moment
