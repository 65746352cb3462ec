use Rattle.std.proofs.Common.{arith}
use Rattle.gvn_key.specs.Terms.{statement_value}
use Rattle.gvn_model.specs.Jobs.{job_value}
use Rattle.gvn_model.proofs.Places.{map-set-last}
use Rattle.gvn_model.proofs.queue.JobQueue.push_statement.Goals as goal

-- src/queue.rt:72:5
pub returns-clause-ok : goal.returns-clause-ok
returns-clause-ok c = grind (arith, c.push.ensures.ok, c.index_mut.ensures.value, c.self.view_is, map-set-last job_value c.self.inside.items.items c.args.self.now c.len-last.result c.index_mut.result.now (record { statements = c.push.new.self }) (statement_value c.args.statement) c.self.view_is)
