use Rattle.std.proofs.Common.{◌≡◌, ◌++◌, length, ap, arith, length-append}
use Rattle.std.proofs.lemmas.List.{length-map}
use Rattle.recv_pool.specs.Pools.{arrival_value, put_in, taken, known}
use Rattle.rtrb.specs.Ring as ring
use Rattle.recv_pool.proofs.pool.beside.Goals as goal

pub returns-clause-free : goal.returns-clause-free
returns-clause-free c =
    let out = c.show.new.out in
    let parts = length-append (taken out) (known out) in
    let all : length (taken out ++ known out) ≡ length (put_in c.show.new.into) = ap length c.show.ensures.all in
    let was = ap length c.show.ensures.taken in
    let put = ap length c.show.ensures.put in
    let sent = length-map (ring.sent c.slots_beside.new.self) arrival_value in
    let received = length-map (ring.received c.slots_beside.new.consumer) arrival_value in
    omega (arith, parts, all, was, put, sent, received, c.slots_beside.ensures.all_free, c.slots_beside.ensures.value, c.show.ensures.free, c.show.ensures.same.0.1, c.slots_beside.ensures.looked.0.1)
