-- What contracts see of a Receiver Server on its connection.
use Rattle.std.specs.Prelude.{◌≡◌, ◌≢◌, ℕ, ◌+◌, ◌-◌, ◌^◌, ◌<◌, min, Bool, true, false, List, [], ◌∷◌, ◌++◌, length, Option, None, Result, Ok, Err}
use Rattle.global_defs.specs.Entry.{Reign, Globals}
use Rattle.wire_defs.specs.Frames.{Frame, Hello, Resume, RollbackFirst, History, Entry, Bye, Reading, IsFrame, AreFrames, BeginsFrame, BeginsNone, spelled_frame, offset_after}
use Rattle.ship_defs.specs.Directions.{Admitted}
use Rattle.ship_defs.specs.Hearing as ship
use Rattle.ship_defs.specs.Hearing.{Purpose, Heard, Fits, HasUnfit, HasPlace, with_updates}
use Rattle.ship_defs.specs.Arrivals.{Arrival, arrivals, arrived, told_reign}
use Rattle.receiver_server.specs.Hearings.{reign_behind, MayCome}
use Rattle.receiver_server.specs.Incomings.{Incoming, nothing_came, unheard}
use Rattle.receiver_server.specs.Answers.{answer_frame}
use Rattle.receiver_server.specs.declared.step.HearError.{HearError}
use Rattle.receiver_server.specs.declared.step.HearError.TheVariants.{Cut, BadFrame, NoMemory}
use Rattle.receiver_server.specs.declared.step.Step.{Step}
use Rattle.receiver_server.specs.declared.step.Step.TheVariants.{Received, Answered, Heard as HeardOne, Waits, Over, Ended}

-- what it has heard, and what has come and isn't heard yet
pub record Listening : Type 0 where
  pub purpose : Purpose
  pub heard : Heard
  pub offset : ℕ  -- where the next frame begins
  pub incoming : Incoming

-- before a connection's first byte
abbrev pub listening : Purpose → Heard → Listening
listening p begun = record { purpose = p; heard = begun; offset = 0; incoming = nothing_came }

-- the reign of a HISTORY, where one is the last of these frames
abbrev pub told_last : Option Reign → List Frame → Option Reign
told_last reign [] = reign
told_last reign (f ∷ fs) = told_last (told_reign f) fs

-- Behind whole frames stand bytes that begin none, or the beginning of one, which is kept, and bytes that weren't read.
abbrev pub HasTail : (bad : Bool) → Reading → (at : ℕ) → (rest fresh : List ℕ) → Type 0
HasTail true reading at rest fresh = BeginsNone (rest ++ fresh)
HasTail false reading at rest fresh = (reading ≡ record { offset = at; rest = rest }) × BeginsFrame rest

-- Of the bytes received these frames were heard, each of which fits, and what arrived with them was put into the pool. Nothing is
-- dropped: other frames wait, and behind those stand bytes that are no whole frame, or weren't read.
pub record IsHearing (begun : Heard) (s : Listening) (received : List ℕ) (put : List Arrival) (frames : List Frame) : Type 0 where
  pub rest : List ℕ
  pub are : AreFrames received (frames ++ s.incoming.waiting) (rest ++ s.incoming.fresh)
  pub admitted : Admitted (Fits s.purpose) begun frames s.heard
  pub put_is : put ≡ arrivals 0 None frames
  pub told : told_last None frames ≡ reign_behind s.heard.last
  pub at : s.offset ≡ offset_after 0 frames
  pub tail : HasTail s.incoming.bad s.incoming.reading (offset_after 0 (frames ++ s.incoming.waiting)) rest s.incoming.fresh

-- all that came was heard
pub record IsQuiet (s : Listening) : Type 0 where
  pub frames : s.incoming.waiting ≡ []
  pub bytes : s.incoming.reading.rest ≡ []
  pub fresh : s.incoming.fresh ≡ []
  pub good : s.incoming.bad ≡ false

-- no whole frame waits, and the bytes that came begin one
pub record IsIdle (s : Listening) : Type 0 where
  pub frames : s.incoming.waiting ≡ []
  pub fresh : s.incoming.fresh ≡ []
  pub good : s.incoming.bad ≡ false

-- no frame that fits stands behind these, which do
abbrev pub IsUnfitBehind : Purpose → Heard → (frames : List Frame) → (bytes : List ℕ) → (ended : Bool) → (offset : ℕ) → Type 0
IsUnfitBehind p begun frames bytes ended offset = (unfit : HasUnfit p begun bytes ended offset) × (unfit.frames ≡ frames)

-- there is room for the nodes of frames, one after another
abbrev pub HavePlaces : Globals → List Frame → Type 0
HavePlaces g [] = Unit {0}
HavePlaces g (f ∷ fs) = HasPlace g f × HavePlaces (with_updates g f) fs

-- a frame that is no answer
abbrev pub IsNoAnswer : Frame → Type 0
IsNoAnswer (Hello version name history) = Unit {0}
IsNoAnswer (Resume n) = ⊥
IsNoAnswer (RollbackFirst n) = ⊥
IsNoAnswer (History r) = Unit {0}
IsNoAnswer (Entry n t) = Unit {0}
IsNoAnswer (Bye n) = Unit {0}

-- What was heard once a step has answered so, behind the frames of before: one more frame or none. Where it fails none was.
abbrev pub Hears : Result Step HearError → (before after : List Frame) → Type 0
Hears (Ok Received) before after = after ≡ before
Hears (Ok (Answered answer)) before after = after ≡ before ++ answer_frame answer ∷ []
Hears (Ok HeardOne) before after = (f : Frame) × IsNoAnswer f × (after ≡ before ++ f ∷ [])
Hears (Ok Waits) before after = after ≡ before
Hears (Ok Over) before after = after ≡ before
Hears (Ok Ended) before after = after ≡ before
Hears (Err e) before after = after ≡ before

-- the first frame that waited was heard
pub record HasHeard (f : Frame) (a b : Listening) : Type 0 where
  pub form : IsFrame f
  pub fits : Fits a.purpose a.heard f b.heard
  pub waiting : a.incoming.waiting ≡ f ∷ b.incoming.waiting
  pub after : b ≡ record a { heard = b.heard; offset = b.offset; incoming = record a.incoming { waiting = b.incoming.waiting } }

-- what arrived with the frame was put into the pool
abbrev pub HasPut : Frame → (a b : Listening) → (before after : List Arrival) → Type 0
HasPut f a b before after = (after ≡ before ++ arrived a.offset (reign_behind a.heard.last) f) × (b.offset ≡ min (a.offset + length (spelled_frame f)) (2 ^ 64 - 1))

-- how a step tells a frame
abbrev pub StepTells : Step → Frame → Type 0
StepTells Received f = ⊥
StepTells (Answered answer) f = f ≡ answer_frame answer
StepTells HeardOne f = IsNoAnswer f
StepTells Waits f = ⊥
StepTells Over f = ⊥
StepTells Ended f = ⊥

-- the first frame that waits doesn't fit
abbrev pub IsUnfit : Listening → Type 0
IsUnfit s = (f : Frame) × (fs : List Frame) × (s.incoming.waiting ≡ f ∷ fs) × (MayCome s.heard f → ⊥)

-- bytes have come, and none was heard
pub record HasGot (a b : Listening) : Type 0 where
  pub frames : a.incoming.waiting ≡ []
  pub good : a.incoming.bad ≡ false
  pub going : a.heard.last ≢ ship.Over
  pub after : b ≡ record a { incoming = b.incoming }

-- How a step's answer tells what it did. Bytes that are received are read at once, but for want of memory.
abbrev pub Does : Result Step HearError → (a b : Listening) → Type 0
Does (Ok Received) a b = HasGot a b × (b.incoming.fresh ≡ []) × (a.incoming.fresh ≡ [] → b.incoming.bad ≡ false → unheard a.incoming < unheard b.incoming)
Does (Ok (Answered answer)) a b = HasHeard (answer_frame answer) a b
Does (Ok HeardOne) a b = (f : Frame) × IsNoAnswer f × HasHeard f a b
Does (Ok Waits) a b = b ≡ a
Does (Ok Over) a b = b ≡ a
Does (Ok Ended) a b = b ≡ a
Does (Err Cut) a b = b ≡ a
Does (Err (BadFrame offset)) a b = b ≡ a
Does (Err NoMemory) a b = b ≡ record a { incoming = record a.incoming { fresh = b.incoming.fresh } }
