-- What has come over a connection and wasn't heard yet.
use Rattle.std.specs.Prelude.{◌≡◌, ◌⊎◌, ℕ, ◌+◌, ◌^◌, ◌<◌, ◌≤◌, Bool, true, false, List, [], ◌++◌, length, if◌then◌else◌, Result, Ok, Err}
use Rattle.std.specs.List.{AllByRecursion}
use Rattle.wire_defs.specs.Frames.{Frame, Reading, IsFrame, BeginsFrame, stream}
use Rattle.repl_wire.specs.Feeds.{Takes, Refuses}
use Rattle.receiver_server.specs.declared.step.HearError.{HearError}
use Rattle.receiver_server.specs.declared.step.HearError.TheVariants.{Cut, BadFrame, NoMemory}
use Rattle.receiver_server.specs.declared.step.Step.{Step}
use Rattle.receiver_server.specs.declared.step.Step.TheVariants.{Received, Answered, Heard, Waits, Over, Ended}

pub record Incoming : Type 0 where
  pub waiting : List Frame  -- the frames that weren't heard
  pub reading : Reading  -- of the bytes behind them
  pub bad : Bool  -- whether no frame begins as those do
  pub fresh : List ℕ  -- the bytes behind those, which weren't read

abbrev pub nothing_came : Incoming
nothing_came = record { waiting = []; reading = record { offset = 0; rest = [] }; bad = false; fresh = [] }

-- How many bytes weren't heard. Of bytes that begin no frame none is counted.
abbrev pub unheard : Incoming → ℕ
unheard i = length (stream i.waiting) + (if i.bad then 0 else length i.reading.rest) + length i.fresh

-- The bytes received were read: the frames at their front wait, and behind them stands the beginning of a frame, or bytes that begin none.
pub data Reads (a b : Incoming) : Type 0 where
  begins : Takes a.reading.offset (a.reading.rest ++ a.fresh) [] b.waiting b.reading.offset b.reading.rest → BeginsFrame b.reading.rest → b.bad ≡ false → Reads a b
  begins_none : (at : ℕ) → Refuses a.reading.offset (a.reading.rest ++ a.fresh) [] b.waiting at → b.reading ≡ a.reading → b.bad ≡ true → Reads a b

pub record HasRead (a b : Incoming) : Type 0 where
  pub reads : Reads a b
  pub fresh : b.fresh ≡ []

-- with these bytes behind those that weren't read
abbrev pub with_piece : Incoming → List ℕ → Incoming
with_piece i piece = record i { fresh = i.fresh ++ piece }

-- What an answer tells of the bytes that were received: they were read, or wait to be read, or there were none.
abbrev pub Pulls : Result Step HearError → (piece : List ℕ) → (a b : Incoming) → Type 0
Pulls (Ok Received) piece a b = HasRead (with_piece a piece) b × (a.fresh ≡ [] → 0 < length piece)
Pulls (Ok (Answered answer)) piece a b = ⊥
Pulls (Ok Heard) piece a b = ⊥
Pulls (Ok Waits) piece a b = (piece ≡ []) × (b ≡ a) × (a.fresh ≡ [])
Pulls (Ok Over) piece a b = ⊥
Pulls (Ok Ended) piece a b = (piece ≡ []) × (b ≡ a) × (a.fresh ≡ [])
Pulls (Err Cut) piece a b = (piece ≡ []) × (b ≡ a)
Pulls (Err (BadFrame offset)) piece a b = ⊥
Pulls (Err NoMemory) piece a b = b ≡ with_piece a piece

-- how many bytes are left, where none of them is bad
abbrev pub IsLeft : (bad : Bool) → (waiting : List Frame) → (rest : List ℕ) → (fresh left : ℕ) → Type 0
IsLeft true waiting rest fresh left = Unit {0}
IsLeft false waiting rest fresh left = (left ≡ length (stream waiting) + length rest + fresh) × BeginsFrame rest

-- What is kept of its fields. A frame waits only where all bytes received were read.
pub record IsInbox (waiting : List Frame) (rest : List ℕ) (bad : Bool) (fresh : ℕ) (piece : List ℕ) (count : ℕ) : Type 0 where
  pub form : AllByRecursion IsFrame waiting
  pub room : 0 < length piece
  pub most : length piece < 2 ^ 32
  pub inside : fresh ≤ length piece
  pub idle : (fresh ≡ 0) ⊎ (waiting ≡ [])
  pub left : IsLeft bad waiting rest fresh count
