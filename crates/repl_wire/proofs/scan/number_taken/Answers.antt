use Rattle.std.proofs.Common.{arith}
use Rattle.repl_wire.specs.Scans.{BehindNumber}
use Rattle.repl_wire.proofs.Scanned.{number_stepped}
use Rattle.repl_wire.proofs.Digits.{not_met}
use Rattle.repl_wire.proofs.scan.number_taken.Goals as goal

pub returns-in-None : goal.returns-in-None
returns-in-None c = λ w h. not_met c.args.front c.args.byte (BehindNumber c.args.field c.args.left c.args.items) w c.requires.0 (omega arith) c.in-None.ensures h

pub returns-in-Some : goal.returns-in-Some
returns-in-Some c = number_stepped c.args.field c.args.front c.in-Some.front c.args.left c.args.items c.args.byte c.number_behind.result c.requires.0 (omega arith) c.in-Some.ensures.0 c.number_behind.ensures
