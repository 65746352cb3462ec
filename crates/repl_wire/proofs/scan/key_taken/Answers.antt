use Rattle.std.proofs.Common.{arith, ◌++◌, ◌∷◌, []}
use Rattle.repl_wire.specs.Layout.{Sized, BehindKey, Updated}
use Rattle.repl_wire.proofs.Scanned.{key_goes_on, key_ends, key_stops, left_is}
use Rattle.repl_wire.proofs.scan.key_taken.Goals as goal

pub returns-then-not-take : goal.returns-then-not-take
returns-then-not-take c =
    let k = c.requires.0 in
    key_stops c.args.prefix (Sized (BehindKey c.args.set (Updated c.args.items)) c.args.left) c.args.byte k (c.if-not-take.ensures.begins_none k.taken k.len k.is_at)

pub returns-then-left-eq0 : goal.returns-then-left-eq0
returns-then-left-eq0 c =
    let k = c.requires.0 in
    let after = c.if-not-take.ensures.begins k.taken k.len k.is_at in
    key_ends c.args.set c.args.prefix c.take.new.self c.args.left c.args.items c.args.byte k.taken k.len k.is_at after c.key_read.result
    (left_is c.take.new.self (k.taken ++ c.args.byte ∷ []) k.len c.left.result after (c.left.ensures.rest (k.taken ++ c.args.byte ∷ []) k.len after) c.if-left-eq0.true)
    (c.left.ensures.whole (k.taken ++ c.args.byte ∷ []) k.len after c.if-left-eq0.true)
    c.key_read.ensures

pub returns : goal.returns
returns c =
    let k = c.requires.0 in
    let after = c.if-not-take.ensures.begins k.taken k.len k.is_at in
    let rest = c.left.ensures.rest (k.taken ++ c.args.byte ∷ []) k.len after in
    key_goes_on c.args.set c.args.prefix c.take.new.self c.args.left c.args.items c.args.byte k.taken k.len k.is_at after (omega (arith, rest, after.left)) c.requires.1
