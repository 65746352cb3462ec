use Rattle.std.proofs.Common.{arith, rules, ◌++◌, ◌<◌, ◌^◌, subst, sym}
use Rattle.wire_defs.specs.Frames.{Reading, BeginsFrame}
use Rattle.repl_wire.specs.Feeds.{Refuses}
use Rattle.repl_wire.proofs.Feeding.{takes_none, none_begins, begins, open_within}
use Rattle.repl_wire.proofs.frames.Frames.feed.Goals as goal

pub returns-in-Bad-clause-err : goal.returns-in-Bad-clause-err
returns-in-Bad-clause-err c =
    let small : c.self.inside.offset < 2 ^ 64 = first_of (search (rules, c.self.ranges), omega (arith, c.self.ranges), omega arith) in
    subst (λ (v : Reading). Refuses v.offset (v.rest ++ c.args.piece.now) c.args.out.now c.args.out.now c.self.inside.offset) c.self.view_is
    (record {
      rest = c.self.inside.rest.items ++ c.args.piece.now;
      takes = takes_none c.self.inside.offset (c.self.inside.rest.items ++ c.args.piece.now) c.args.out.now small;
      none = none_begins c.self.inside.scan c.self.inside.rest.items c.self.invariant c.args.piece.now c.in-Bad.ensures;
    })

pub returns-in_ok-extend_from_slice-in-Open-clause-partial :
    goal.returns-in_ok-extend_from_slice-in-Open-clause-partial
returns-in_ok-extend_from_slice-in-Open-clause-partial c =
    subst BeginsFrame (sym c.in_ok-extend_from_slice-in-Open.ensures.items)
    (begins c.in-Open.scan (c.self.inside.rest.items ++ c.args.piece.now) (open_within c.self.inside.scan c.self.inside.rest.items c.self.invariant c.in-Open.scan c.args.piece.now c.in-Open.ensures))

pub returns-in_ok-next-in-Whole-clause-partial : goal.returns-in_ok-next-in-Whole-clause-partial
returns-in_ok-next-in-Whole-clause-partial c = begins c.drop.inside.scan c.drop.inside.rest.items c.drop.invariant
