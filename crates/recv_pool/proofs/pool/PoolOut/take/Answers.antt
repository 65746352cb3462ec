use Rattle.std.proofs.Common.{map, sym, ap, ◌∙◌}
use Rattle.std.proofs.lemmas.List.{map-append}
use Rattle.rtrb.specs.Ring.{known_items}
use Rattle.recv_pool.specs.Pools.{arrival_value}
use Rattle.recv_pool.proofs.pool.PoolOut.take.Goals as goal

pub returns-in-Ok-clause-known : goal.returns-in-Ok-clause-known
returns-in-Ok-clause-known c =
    let begins = c.in-Ok.ensures.ok.1 in
    (map arrival_value begins.0, ap (map arrival_value) (sym begins.1) ∙ map-append arrival_value (known_items c.args.self.now.ring) begins.0)
