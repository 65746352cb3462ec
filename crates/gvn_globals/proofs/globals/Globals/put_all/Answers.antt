use Rattle.gvn_globals.specs.Overlaid.{with_all}
use Rattle.gvn_globals.proofs.AllOrNone.{put_held, put_rest, put_same}
use Rattle.gvn_globals.proofs.globals.Globals.put_all.Goals as goal

pub put-requires : goal.put-requires
put-requires c = put_held c.loop-ready.self c.loop-ready.all.items c.pop.new.self.items c.in-Some.ready c.in-Some.ensures.items c.loop-ready.invariant.0

pub loop-ready-preserved : goal.loop-ready-preserved
loop-ready-preserved c = (
  put_rest c.loop-ready.self c.loop-ready.all.items c.pop.new.self.items c.in-Some.ready c.in-Some.ensures.items c.loop-ready.invariant.0 c.put.new.self c.put.ensures,
  put_same c.loop-ready.self c.loop-ready.all.items c.pop.new.self.items c.in-Some.ready c.in-Some.ensures.items c.loop-ready.invariant.0 c.put.new.self (with_all c.args.self.now c.args.all.items) c.put.ensures c.loop-ready.invariant.1,
)
