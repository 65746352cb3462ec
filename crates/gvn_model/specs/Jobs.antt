-- What jobs, causes and answers of the code stand for.
use Rattle.global_defs.specs.Jobs as defs
use Rattle.global_defs.specs.Evaluation as evaluation
use Rattle.gvn_model.specs.declared.job.Job.{Job}
use Rattle.gvn_model.specs.declared.job.Cause.{Cause}
use Rattle.gvn_model.specs.declared.job.Cause.TheVariants as causes
use Rattle.gvn_model.specs.declared.job.Evaluated.{Evaluated}
use Rattle.gvn_model.specs.declared.job.Evaluated.TheVariants as evaluated

abbrev pub job_value : Job → defs.Job
job_value j = j.statements

abbrev pub cause_value : Cause → defs.Cause
cause_value causes.Check = defs.Check
cause_value causes.NotNum = defs.NotNum
cause_value causes.Full = defs.Full
cause_value causes.SeqLimit = defs.SeqLimit

abbrev pub evaluated_value : Evaluated → evaluation.Evaluated
evaluated_value (evaluated.Done updates answers) = evaluation.Done updates answers
evaluated_value (evaluated.RolledBack cause) = evaluation.RolledBack (cause_value cause)
