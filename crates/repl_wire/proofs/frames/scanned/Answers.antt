use Rattle.std.proofs.Common.{[]}
use Rattle.repl_wire.proofs.Feeding.{framed_within, fresh_open, none_begins, open_within, whole_spelled}
use Rattle.repl_wire.proofs.frames.scanned.Goals as goal

pub run-requires-clause-begun : goal.run-requires-clause-begun
run-requires-clause-begun c = fresh_open c.new.result c.new.ensures

pub returns-in-Bad : goal.returns-in-Bad
returns-in-Bad c = none_begins c.new.result [] (framed_within c.new.result c.new.ensures (fresh_open c.new.result c.new.ensures)) c.args.bytes.now c.in-Bad.ensures

pub returns-in-Open : goal.returns-in-Open
returns-in-Open c = open_within c.new.result [] (framed_within c.new.result c.new.ensures (fresh_open c.new.result c.new.ensures)) c.in-Open.scan c.args.bytes.now c.in-Open.ensures

pub frame_of-requires : goal.frame_of-requires
frame_of-requires c = rw c.split_at.ensures.front (whole_spelled c.new.result [] (framed_within c.new.result c.new.ensures (fresh_open c.new.result c.new.ensures)) c.in-Whole.count c.args.bytes.now c.in-Whole.ensures)
