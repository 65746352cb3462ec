-- What replies of the code stand for.
use Rattle.std.specs.Prelude.{ℕ, Option, Some, None}
use Rattle.global_defs.specs.Serial as defs
use Rattle.gvn_model.specs.declared.entry.Origin.{Origin}
use Rattle.gvn_model.specs.declared.job.Reply.{Reply}
use Rattle.gvn_model.specs.declared.job.Reply.TheVariants as replies
use Rattle.gvn_model.specs.Jobs.{cause_value}

abbrev pub reply_value : Reply → defs.Reply
reply_value (replies.Seq number answers) = defs.Seq number answers
reply_value (replies.Read answers) = defs.Read answers
reply_value (replies.RolledBack cause) = defs.RolledBack (cause_value cause)

-- the reply to a job of this origin
abbrev pub replied_value : Origin → Reply → defs.Replied
replied_value o reply = record { updater = o.updater; serial = o.serial; reply = reply_value reply }

-- the number of the entry that a reply names, if it names one
abbrev pub named : defs.Reply → Option ℕ
named (defs.Seq number answers) = Some number
named (defs.Read answers) = None
named (defs.RolledBack cause) = None
