-- A primary's answer to frames.
use Rattle.std.specs.Prelude.{◌≡◌, ◌≢◌, ◌⊎◌, ℕ, ◌+◌, ◌-◌, ◌<◌, ◌≤◌, Bool, true, false, IsTrue, List, [], ◌∷◌, length, if◌then◌else◌, Option, Some, None, Result, Ok, Err}
use Rattle.std.specs.List.{AllByRecursion}
use Rattle.global_defs.specs.declared.limits.TheConstants.{MOST_REIGNS}
use Rattle.global_defs.specs.Prefix as prefix
use Rattle.global_defs.specs.Rising.{StartsRise}
use Rattle.wire_defs.specs.Frames.{Frame, Hello, Resume, RollbackFirst, History, Entry, Bye, Reading, IsFrame, BeginsFrame, spelled_frame}
use Rattle.ship_defs.specs.Arrivals.{Arrival}
use Rattle.ship_defs.specs.Greeting.{IsHello, IsAnswer}
use Rattle.ship_defs.specs.Hearing.{Unbegun, Heard as HeardSoFar}
use Rattle.receiver_server.specs.declared.step.Handshake.{Handshake}
use Rattle.receiver_server.specs.declared.step.HearError.{HearError}
use Rattle.receiver_server.specs.declared.step.HearError.TheVariants.{Cut, BadFrame, NoMemory}
use Rattle.receiver_server.specs.declared.step.Step.{Step}
use Rattle.receiver_server.specs.declared.step.Step.TheVariants.{Received, Answered, Heard, Waits, Over, Ended}
use Rattle.receiver_server.specs.Hearings.{behind}
use Rattle.receiver_server.specs.Incomings.{Incoming}
use Rattle.receiver_server.specs.Listenings.{Listening, IsHearing}
use Rattle.session_handshake.specs.declared.connection.GreetError.{GreetError}
use Rattle.session_handshake.specs.declared.connection.GreetError.TheVariants as greets
use Rattle.receiver_server.specs.Answers.{answer_frame}

-- a primary admits a HELLO of that history
abbrev pub TellsHistory : prefix.History → Type 0
TellsHistory h = StartsRise 0 h.reigns × AllByRecursion (λ r. r.start ≤ h.length) h.reigns × (length h.reigns ≤ MOST_REIGNS)

-- the answer to a HELLO
abbrev pub Answers : (theirs : prefix.History) → (hello answer : Frame) → Type 0
Answers theirs (Hello version name history) answer = IsAnswer theirs history answer
Answers theirs (Resume n) answer = ⊥
Answers theirs (RollbackFirst n) answer = ⊥
Answers theirs (History r) answer = ⊥
Answers theirs (Entry n t) answer = ⊥
Answers theirs (Bye n) answer = ⊥

-- so many bytes have come of a frame that isn't whole
pub record Awaits (reading : Reading) (count : ℕ) : Type 0 where
  pub at : reading.offset ≡ 0
  pub begins : BeginsFrame reading.rest
  pub counted : count ≡ length reading.rest

-- A secondary has heard nothing so far, and waits for the answer. Where its bytes are seen, its pool is empty.
pub record AwaitsAnswer (s : Listening) (shown : Bool) (received : List ℕ) (put : List Arrival) (free : ℕ) : Type 0 where
  pub begun : s.heard.last ≡ Unbegun
  pub fresh : s.incoming.fresh ≡ []
  pub rest : s.incoming.bad ≡ false → BeginsFrame s.incoming.reading.rest
  pub hears : IsTrue shown → IsHearing s.heard s received [] []
  pub place : IsTrue shown → (put ≡ []) × (0 < free)

-- it has heard this answer, and nothing else
pub record HasAnswer (begun : HeardSoFar) (s : Listening) (shown : Bool) (received : List ℕ) (put : List Arrival) (free : ℕ) (answer : Handshake) : Type 0 where
  pub heard : s.heard ≡ behind s.purpose begun (answer_frame answer)
  pub fresh : s.incoming.fresh ≡ []
  pub hears : IsTrue shown → IsHearing begun s received [] (answer_frame answer ∷ [])
  pub place : IsTrue shown → (put ≡ []) × (0 < free)

-- all that came is a HELLO that is admitted, and this is the answer to it
pub record IsGreetedBy (theirs : prefix.History) (bytes : List ℕ) (answer : Frame) : Type 0 where
  pub hello : Frame
  pub form : IsFrame hello
  pub is : bytes ≡ spelled_frame hello
  pub admitted : IsHello hello
  pub answers : Answers theirs hello answer

-- how many bytes a frame that isn't whole may have, at most
abbrev pub LIMIT : ℕ
LIMIT = 1048581

-- How many steps are left at most: each moves a byte, or costs patience where the link doesn't tell its bytes.
abbrev pub left_to_ask : (told : Bool) → (pending rest : List ℕ) → (patience : ℕ) → ℕ
left_to_ask told pending rest patience = length pending + (LIMIT - length rest) + (if told then 0 else patience)

-- How a frame is judged that stands at the front of so many bytes: the answer to a HELLO that is all of them, or where they are bad.
abbrev pub Judges : (theirs : prefix.History) → Frame → (count : ℕ) → Result Handshake ℕ → Type 0
Judges theirs f count (Ok answer) = IsHello f × (count ≡ length (spelled_frame f)) × Answers theirs f (answer_frame answer)
Judges theirs f count (Err offset) = ((offset ≡ 0) × (IsHello f → ⊥)) ⊎ (IsHello f × (offset ≡ length (spelled_frame f)) × (count ≢ length (spelled_frame f)))

abbrev pub left_behind : List Frame → (bad : Bool) → (rest : ℕ) → ℕ
left_behind [] true rest = 0
left_behind [] false rest = LIMIT + 1 - rest
left_behind (f ∷ fs) bad rest = 0

-- How many of an answer's steps are left at most, likewise. None is where a frame waits, or no frame begins as the bytes do.
abbrev pub left_of : Incoming → ℕ
left_of i = left_behind i.waiting i.bad (length i.reading.rest)

abbrev pub left_to_hear : (told : Bool) → (pending : List ℕ) → Incoming → (patience : ℕ) → ℕ
left_to_hear told pending i patience = length pending + left_of i + (if told then 0 else patience)

-- what a secondary's step tells of an answer; where it waits though frames have come, the pool has no place for what arrived before one
abbrev pub StepMeans : Result Step HearError → (waiting : Bool) → (offset : ℕ) → Result (Option Handshake) GreetError → Type 0
StepMeans (Ok (Answered answer)) waiting offset result = result ≡ Ok (Some answer)
StepMeans (Ok Ended) waiting offset result = result ≡ Err (greets.BadFrame offset)
StepMeans (Ok Waits) waiting offset result = result ≡ (if waiting then Err (greets.BadFrame offset) else Ok None)
StepMeans (Ok Received) waiting offset result = result ≡ Ok None
StepMeans (Ok Heard) waiting offset result = result ≡ Ok None
StepMeans (Ok Over) waiting offset result = result ≡ Ok None
StepMeans (Err Cut) waiting offset result = result ≡ Err greets.Cut
StepMeans (Err (BadFrame at)) waiting offset result = result ≡ Err (greets.BadFrame at)
StepMeans (Err NoMemory) waiting offset result = result ≡ Err greets.NoMemory

-- what its step tells behind an answer that is the last frame: that nothing came, or that something bad did
abbrev pub EndMeans : Result Step HearError → (offset : ℕ) → Result (Unit {0}) GreetError → Type 0
EndMeans (Ok Over) offset result = result ≡ Ok tt
EndMeans (Ok (Answered answer)) offset result = result ≡ Err (greets.BadFrame offset)
EndMeans (Ok Ended) offset result = result ≡ Err (greets.BadFrame offset)
EndMeans (Ok Waits) offset result = result ≡ Err (greets.BadFrame offset)
EndMeans (Ok Received) offset result = result ≡ Err (greets.BadFrame offset)
EndMeans (Ok Heard) offset result = result ≡ Err (greets.BadFrame offset)
EndMeans (Err Cut) offset result = result ≡ Err greets.Cut
EndMeans (Err (BadFrame at)) offset result = result ≡ Err (greets.BadFrame at)
EndMeans (Err NoMemory) offset result = result ≡ Err greets.NoMemory
