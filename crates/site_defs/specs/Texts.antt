-- Lines that a site's calls write.
use Rattle.site_defs.specs.Contents.{Name}
use Rattle.std.specs.Prelude.{ℕ, nat_lt, Bool, false, List, [], ◌∷◌, ◌++◌, filter, codes, Option, Some, None, if◌then◌else◌}
use Rattle.std.specs.Fmt.{decimal}
use Rattle.std.specs.List.{flat_map}
use Rattle.std.specs.FinMap as globals
use Rattle.global_defs.specs.Key.{Key}
use Rattle.global_defs.specs.Entry.{Globals, Sequence, is_under}
use Rattle.global_defs.specs.NodeText.{node_text}
use Rattle.global_defs.specs.Zwr.{zwr}
use Rattle.global_defs.specs.Extract.{extract}
use Rattle.global_defs.specs.Jobs.{Job, Answers, Check, NotNum, Full, SeqLimit}
use Rattle.global_defs.specs.Jobs as jobs
use Rattle.global_defs.specs.Serial.{Reply, Seq, Read, RolledBack, Replied}

-- why a job was rolled back
abbrev pub rollback_text : jobs.Cause → List ℕ
rollback_text Check = codes "CHECK"
rollback_text NotNum = codes "NOTNUM"
rollback_text Full = codes "FULL"
rollback_text SeqLimit = codes "SEQLIMIT"

-- each after a space
abbrev pub answers_text : Answers → List ℕ
answers_text answers = flat_map (λ text. 32 ∷ text) answers

abbrev pub reply_text : Reply → List ℕ
reply_text (Seq n answers) = codes " SEQ " ++ decimal n ++ answers_text answers
reply_text (Read answers) = codes " READ" ++ answers_text answers
reply_text (RolledBack cause) = codes " ROLLEDBACK " ++ rollback_text cause

-- updater.serial and the reply
abbrev pub reply_line : Replied → List ℕ
reply_line r = decimal r.updater ++ 46 ∷ decimal r.serial ++ reply_text r.reply ++ 10 ∷ []

-- the extract from that number on, else from 1
abbrev pub extract_from : Name → Option ℕ → Sequence → List ℕ
extract_from name None seq = extract name seq 1
extract_from name (Some from) seq = extract name seq from

-- a node and its value in ZWR form
abbrev pub node_line : Key × List ℕ → List ℕ
node_line e = node_text e.0 ++ 61 ∷ zwr e.1 ++ 10 ∷ []

-- every node, or that one and those below it, in M collation
abbrev pub shown : Option Key → Globals → List (Key × List ℕ)
shown None g = globals.entries g
shown (Some top) g = filter (λ e. is_under top e.0) (globals.entries g)

-- a line a node
abbrev pub zwrite : Option Key → Globals → List ℕ
zwrite top g = flat_map node_line (shown top g)

-- the reply names an entry past that length
abbrev pub is_past : ℕ → Reply → Bool
is_past hardened (Seq n answers) = nat_lt hardened n
is_past hardened (Read answers) = false
is_past hardened (RolledBack cause) = false

-- the replies before the first one whose entry isn't hardened
abbrev pub printed : ℕ → List Replied → List Replied
printed hardened [] = []
printed hardened (r ∷ rs) = if is_past hardened r.reply then [] else r ∷ printed hardened rs
