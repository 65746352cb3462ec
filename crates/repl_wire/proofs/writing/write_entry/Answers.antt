use Rattle.std.proofs.lemmas.Result.{on_err_weaker}
use Rattle.repl_wire.proofs.Feeding.{prefix_more}
use Rattle.repl_wire.proofs.writing.write_entry.Goals as goal

pub returns-clause-err : goal.returns-clause-err
returns-clause-err c = on_err_weaker c.write_updates.result (λ more. prefix_more c.args.out.now c.write_head.new.out c.write_updates.new.out (_, c.in_ok-write_head.ensures.ok) more) c.write_updates.ensures.err
