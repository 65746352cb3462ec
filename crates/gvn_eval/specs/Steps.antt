-- What a step of a job says of where it leads.
use Rattle.std.specs.Prelude.{◌≡◌}
use Rattle.std.specs.declared.result.Result.{Result}
use Rattle.std.specs.declared.result.Result.TheVariants.{Ok, Err}
use Rattle.global_defs.specs.Evaluation.{Progress, Outcome, Goes, Stops}
use Rattle.gvn_model.specs.Jobs.{cause_value}
use Rattle.gvn_eval.specs.declared.progress.Stop.{Stop}
use Rattle.gvn_eval.specs.declared.progress.Stop.TheVariants.{RolledBack, NoMemory}

-- it goes on from here, or stops, unless memory ran out
abbrev pub Leads : Outcome → Progress → Result (Unit {0}) Stop → Type 0
Leads outcome here (Ok done) = outcome ≡ Goes here
Leads outcome here (Err (RolledBack cause)) = outcome ≡ Stops (cause_value cause)
Leads outcome here (Err NoMemory) = Unit {0}
