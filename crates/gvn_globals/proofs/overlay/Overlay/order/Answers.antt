use Rattle.std.proofs.Common.{◌≡◌, IfOk, option_map, subst}
use Rattle.global_defs.specs.Key.{sub_of}
use Rattle.gvn_globals.proofs.Sought.{Starts, start_is, none_next, start_under, from_next}
use Rattle.gvn_globals.proofs.overlay.Overlay.order.Goals as goal

pub sub_from-requires : goal.sub_from-requires
sub_from-requires g c = start_under c.args.key.now c.args.last.now c.args.self.now c.in-Some.first
    (subst (Starts c.args.key.now c.args.last.now c.args.self.now) c.in-Some.is
    (start_is c.args.key.now c.args.last.now (g.G.Lookup.seen c.self.inside.on.now) c.self.inside.sets c.self.inside.gone c.args.self.now c.self.view_is
    c.in_ok-own.own c.in_ok-other.other c.earlier.result c.in_ok-own.ensures c.in_ok-other.ensures c.earlier.ensures).starts)

pub returns-in-Some : goal.returns-in-Some
returns-in-Some g c = subst (λ r. IfOk c.sub_from.result (λ found. option_map sub_of found ≡ r))
    (from_next c.args.key.now c.args.last.now c.args.self.now c.in-Some.first
    (subst (Starts c.args.key.now c.args.last.now c.args.self.now) c.in-Some.is
    (start_is c.args.key.now c.args.last.now (g.G.Lookup.seen c.self.inside.on.now) c.self.inside.sets c.self.inside.gone c.args.self.now c.self.view_is
    c.in_ok-own.own c.in_ok-other.other c.earlier.result c.in_ok-own.ensures c.in_ok-other.ensures c.earlier.ensures).starts)) c.sub_from.ensures

pub returns-in-None : goal.returns-in-None
returns-in-None g c = none_next c.args.key.now c.args.last.now c.args.self.now
    (subst (Starts c.args.key.now c.args.last.now c.args.self.now) c.in-None.is
    (start_is c.args.key.now c.args.last.now (g.G.Lookup.seen c.self.inside.on.now) c.self.inside.sets c.self.inside.gone c.args.self.now c.self.view_is
    c.in_ok-own.own c.in_ok-other.other c.earlier.result c.in_ok-own.ensures c.in_ok-other.ensures c.earlier.ensures).starts)
