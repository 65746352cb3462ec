use Rattle.std.proofs.Common.{◌≡◌, drop, map}
use Rattle.global_defs.specs.Evaluation.{Goes, going, eval}
use Rattle.gvn_key.specs.Terms.{statement_value}
use Rattle.gvn_eval.proofs.evaluation.by_steps.Given as goal

-- what is left does on what is done what the whole job does
abbrev pub invariant-loop-statement : goal.invariant-loop-statement
invariant-loop-statement g l = going (Goes l.progress) (drop l.statement-index (map statement_value l.statement-items)) ≡ eval l.fn.job.statements (g.G.Lookup.seen l.fn.on)
