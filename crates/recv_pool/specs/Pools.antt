-- What contracts see of a receive pool and of what goes through it.
use Rattle.std.specs.Prelude.{ℕ, List, Option, map, option_map}
use Rattle.global_defs.specs.Entry as defs
use Rattle.gvn_model.specs.declared.reign.Reign.{Reign}
use Rattle.gvn_model.specs.Reigns.{reign_value}
use Rattle.gvn_model.specs.Entries.{transaction_value}
use Rattle.ship_defs.specs.Arrivals.{Arrival}
use Rattle.rtrb.specs.Ring as ring
use Rattle.recv_pool.specs.declared.arrived.Arrived.{Arrived}
use Rattle.recv_pool.specs.declared.pool.PoolIn.{PoolIn}
use Rattle.recv_pool.specs.declared.pool.PoolOut.{PoolOut}

abbrev pub reign_of : Option Reign → Option defs.Reign
reign_of reign = option_map reign_value reign

abbrev pub arrival_value : Arrived → Arrival
arrival_value x = record { at = x.at; number = x.number; transaction = transaction_value x.transaction; reign = reign_of x.reign }

-- all that was put so far, in order
abbrev pub put_in : PoolIn → List Arrival
put_in p = map arrival_value (ring.sent p.ring)

-- how many places this end knows to be free
abbrev pub free : PoolIn → ℕ
free p = ring.known_free p.ring

-- all that was taken so far, in order
abbrev pub taken : PoolOut → List Arrival
taken p = map arrival_value (ring.received p.ring)

-- what this end knows to be next
abbrev pub known : PoolOut → List Arrival
known p = map arrival_value (ring.known_items p.ring)

-- the ends of one pool
abbrev pub IsPool : PoolIn → PoolOut → Type 0
IsPool i o = ring.IsPair i.ring o.ring

-- the same end, later
abbrev pub SameIn : PoolIn → PoolIn → Type 0
SameIn a b = ring.SameProducer a.ring b.ring

abbrev pub SameOut : PoolOut → PoolOut → Type 0
SameOut a b = ring.SameConsumer a.ring b.ring
