use Rattle.region_store.specs.Merged.{from_end}
use Rattle.region_store.proofs.Sharing.{left_more, left_none}
use Rattle.region_store.proofs.merging.merged.Goals as goal

pub loop-node-preserved : goal.loop-node-preserved
loop-node-preserved c all p sorted shared =
    let l = c.loop-node in
    let t = c.take_next.new in
    left_more all p l.all.items c.push.new.self.items c.in-Some.node (from_end l.first.items) (from_end l.second.items) (from_end t.first.items) (from_end t.second.items) c.in_ok-push.ensures.items c.in-Some.ensures.taken
    (l.invariant all p sorted shared)

pub returns : goal.returns
returns c all p sorted shared =
    let l = c.loop-node in
    left_none all p l.all.items l.first.items l.second.items c.in_default.ensures.none.0 c.in_default.ensures.none.1 (l.invariant all p sorted shared)
