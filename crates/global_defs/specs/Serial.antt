-- Serial runs: jobs decided one after another, each appending one entry or none (GT.M: one journal sequence number a transaction).
use Rattle.std.specs.Prelude.{ℕ, ◌+◌, ◌-◌, ◌^◌, nat_lt, List, [], ◌∷◌, ◌++◌, length, fold, drop, Option, Some, None, get_or, slice_get, set, if◌then◌else◌}
use Rattle.global_defs.specs.declared.limits.TheConstants.{NUMBERS_END}
use Rattle.global_defs.specs.Entry.{Update, Stamp, Entry, Sequence, state}
use Rattle.global_defs.specs.Jobs.{Job, Answers, Cause, SeqLimit}
use Rattle.global_defs.specs.Evaluation.{Evaluated, Done, eval}
use Rattle.global_defs.specs.Evaluation as evaluated

-- the greatest length of a sequence
abbrev pub MOST_ENTRIES : ℕ
MOST_ENTRIES = NUMBERS_END - 1

-- the entry of a job of an updater, the job with that serial, under a stamp
abbrev pub entry_of : Stamp → ℕ → ℕ → List Update → Entry
entry_of stamp updater serial updates = record { stamp = stamp; transaction = record { origin = record { updater = updater; serial = serial }; updates = updates } }

pub data Reply : Type 0 where
  -- the number of its entry
  Seq : ℕ → Answers → Reply
  Read : Answers → Reply
  RolledBack : Cause → Reply

-- a pick with its serial and its reply
pub record Replied : Type 0 where
  pub updater : ℕ
  pub serial : ℕ
  pub reply : Reply

-- How far a serial run has come: the jobs that each updater has left and its next serial, updater u at place u - 1.
pub record Turn : Type 0 where
  pub left : List (List Job)
  pub serials : List ℕ
  pub sequence : Sequence
  pub replies : List Replied

abbrev pub first_of : Option (List Job) → Option Job
first_of None = None
first_of (Some []) = None
first_of (Some (job ∷ jobs)) = Some job

abbrev pub next_job : ℕ → List (List Job) → Option Job
next_job u left = first_of (slice_get left (u - 1))

abbrev pub without_next : ℕ → List (List Job) → List (List Job)
without_next u left = set left (u - 1) (drop 1 (get_or left (u - 1) []))

abbrev pub serial_at : List ℕ → ℕ → ℕ
serial_at serials u = get_or serials (u - 1) 1

-- the updater's job is decided with this reply, and the sequence is then this one
abbrev pub replied : Turn → ℕ → Reply → Sequence → Turn
replied t u reply seq = record {
  left = without_next u t.left;
  serials = set t.serials (u - 1) (serial_at t.serials u + 1);
  sequence = seq;
  replies = t.replies ++ record { updater = u; serial = serial_at t.serials u; reply = reply } ∷ [];
}

-- a job with updates takes the next number, if there is one
abbrev pub appended : Stamp → Turn → ℕ → List Update → Answers → Turn
appended stamp t u updates answers = if nat_lt (length t.sequence) MOST_ENTRIES
    then replied t u (Seq (length t.sequence + 1) answers) (t.sequence ++ entry_of stamp u (serial_at t.serials u) updates ∷ [])
    else replied t u (RolledBack SeqLimit) t.sequence

abbrev pub decided : Stamp → Turn → ℕ → Evaluated → Turn
decided stamp t u (evaluated.RolledBack cause) = replied t u (RolledBack cause) t.sequence
decided stamp t u (Done [] answers) = replied t u (Read answers) t.sequence
decided stamp t u (Done (x ∷ xs) answers) = appended stamp t u (x ∷ xs) answers

abbrev pub picked : Stamp → Turn → ℕ → Option Job → Turn
picked stamp t u None = t
picked stamp t u (Some job) = decided stamp t u (eval job (state t.sequence))

-- the picks, a list of updaters, one after another
abbrev pub serial : Stamp → List ℕ → Turn → Turn
serial stamp picks t = fold (λ t u. picked stamp t u (next_job u t.left)) t picks

abbrev pub begun : List ℕ → List (List Job) → Sequence → Turn
begun serials jobs seq = record { left = jobs; serials = serials; sequence = seq; replies = [] }
