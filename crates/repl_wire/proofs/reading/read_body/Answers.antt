use Rattle.std.specs.Option.{option_map}
use Rattle.std.proofs.lemmas.Result.{IfOk-weaker}
use Rattle.repl_wire.specs.Values.{frame_value}
use Rattle.repl_wire.proofs.Found.{of_hello, of_bye}
use Rattle.repl_wire.proofs.reading.read_body.Goals as goal

pub returns-in-1 : goal.returns-in-1
returns-in-1 c = IfOk-weaker c.read_hello.result _ _ (λ found h. of_hello c.args.body.now c.args.kind (option_map frame_value found) c.in-1.is h) c.read_hello.ensures

pub returns-in-6 : goal.returns-in-6
returns-in-6 c = of_bye c.args.body.now c.args.kind (option_map frame_value c.read_bye.result) c.in-6.is c.read_bye.ensures
