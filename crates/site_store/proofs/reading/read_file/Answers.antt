use Rattle.std.proofs.Common.{◌∙◌, arith}
use Rattle.disk_defs.proofs.Frames.{reads_more}
use Rattle.global_defs.specs.Prefix.{IsPrefix}
use Rattle.site_store.proofs.Typed.{one_piece, further, whatever_error}
use Rattle.site_store.proofs.reading.read_file.Goals as goal

pub returns-in_err-read_piece-clause-front : goal.returns-in_err-read_piece-clause-front
returns-in_err-read_piece-clause-front g c =
    whatever_error c.from_residual.result (IsPrefix c.args.out.now c.read_piece.new.out) (c.loop-at.invariant.front.0, c.in_err-read_piece.ensures.kept ∙ c.loop-at.invariant.front.1)

pub loop-at-preserved : goal.loop-at-preserved
loop-at-preserved g c =
    let view = g.D.Disk.disk in
    let l = c.loop-at in
    let inv = l.invariant in
    let reads = c.read_piece.ensures.reads in
    let u = view c.args.disk.now in
    let v = view l.disk in
    let w = view c.read_piece.new.disk in
    record {
      within = omega arith;
      text = one_piece u.content v.content c.args.file l.at c.min-count.result c.args.out.now l.out c.read_piece.new.out inv.reads.content inv.text c.in_ok-read_piece.ensures.bytes;
      front = further c.args.out.now l.out c.read_piece.new.out inv.front c.in_ok-read_piece.ensures.front;
      reads = reads_more u v w (g.met.D.Disk.lawful c.args.disk.now) inv.reads reads;
      faults = (let later = c.read_piece.ensures.faults.later in omega (arith, inv.faults, later));
    }
